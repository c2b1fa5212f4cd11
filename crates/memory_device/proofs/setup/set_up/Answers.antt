-- `memory_device::setup::set_up` meets its contract. Assumes nothing.
use mathlib.Core.Path.{◌≡◌, sym}
use Rattle.std.proofs.Common.{rules}
use Rattle.std.specs.Result.{IsErrAnd, MatchResult}
use Rattle.device_words.specs.Device.{no_device}
use Rattle.map_records.specs.Words.{map_of}
use Rattle.map_check.specs.Check.{Accepted}
use Rattle.memory_device.specs.Record.{record_of}
use Rattle.memory_device.specs.SetUp.{region_size}
use Rattle.memory_device.specs.declared.setup.SetUpFault.TheVariants.{Map}
use Rattle.memory_device.proofs.SetUpLaws.{set_up_done, set_up_values, set_up_fault}
use Rattle.memory_device.proofs.setup.set_up.Goals as goal

pub returns-in_err-map : goal.returns-in_err-map
returns-in_err-map c = let a = c.args in
    let m : MatchResult c.checked_map.result (λ x. ⊥) (λ e. IsErrAnd c.from_residual.result (λ f. (f.fault ≡ Map e) × (record_of f.left ≡ no_device))) = search rules in
    set_up_fault (map_of a.map.now) a.memory_length a.values _ _ m c.checked_map.ensures.reply

pub returns-then-not-setup_ok : goal.returns-then-not-setup_ok
unfolding Accepted
returns-then-not-setup_ok c = let a = c.args in
    let same : (c.in_ok-map.map ≡ a.map.now) × Accepted (map_of a.map.now) a.memory_length = search rules in
    let size : c.managed_size-region_size.result ≡ region_size (map_of a.map.now) = rw same.0 at c.managed_size-region_size.ensures in
    rw (c.refused.ensures.0, c.refused.ensures.1)
    (set_up_values (map_of a.map.now) a.memory_length a.values same.1 (rw (← size) (sym c.if-not-setup_ok.ensures)))

pub returns : goal.returns
unfolding Accepted
returns c = let a = c.args in
    let same : (c.in_ok-map.map ≡ a.map.now) × Accepted (map_of a.map.now) a.memory_length = search rules in
    let size : c.managed_size-region_size.result ≡ region_size (map_of a.map.now) = rw same.0 at c.managed_size-region_size.ensures in
    rw (c.fresh.ensures, size)
    (set_up_done (map_of a.map.now) a.memory_length a.values same.1 (rw (← size) (sym c.if-not-setup_ok.ensures)))
