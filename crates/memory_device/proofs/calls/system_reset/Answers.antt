-- `memory_device::calls::system_reset` meets its contract. Assumes nothing.
use mathlib.Core.Bool.{false}
use mathlib.Core.Path.{◌≡◌, refl, ap, ◌∙◌}
use mathlib.Core.List.{List}
use Prim.Native.Nat.{ℕ}
use borrow.Author.Rules.{rules}
use Rattle.device_words.specs.Words.{device_at, device_words}
use Rattle.device_words.specs.Device.{MemoryDevice, fresh}
use Rattle.memory_device.specs.Host.{system_reset}
use Rattle.memory_device.proofs.CallLaws.{record_27, left_27, left_done, sound_length}
use Rattle.memory_device.proofs.calls.system_reset.Goals as goal

pub returns-in_err-check : goal.returns-in_err-check
unfolding system_reset
returns-in_err-check c = left_27 c.args.device.now c.in_err-check.ensures.judged _ _ (record_27 _ c.from_residual.ensures.0)

pub unwrap-device-requires : goal.unwrap-device-requires
unwrap-device-requires c = let l = sound_length c.args.device.now c.in_ok-check.ensures.judged in search rules

pub returns : goal.returns
unfolding system_reset
returns c =
    let p : c.unwrap-device.result.now ≡ c.args.device.now = search rules in
    left_done c.args.device.now c.in_ok-check.ensures.judged (λ (d : MemoryDevice). false) 14 (λ (d : MemoryDevice). fresh d) _ refl (c.clear_tables.ensures ∙ ap (λ (x : List ℕ). device_words (fresh (device_at x))) p)
