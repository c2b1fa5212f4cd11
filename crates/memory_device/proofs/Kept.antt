-- Every call keeps a valid record valid. Assumes nothing.
use mathlib.Core.Path.{◌≡◌, refl, sym, subst, ◌∙◌}
use mathlib.Core.Bool.{Bool, true, false, cond, ◌&&◌, ◌||◌, not}
use mathlib.Core.List.{List}
use Prim.Native.Nat.{ℕ, ◌/◌, ◌%◌, ◌≤◌, ◌<◌, max}
use native.Mathlib.Omega.{arith}
use native.Mathlib.Decide.{dec_lt}
use lib.Dec.{eqb, ltb}
use borrow.Author.Tests.{le-leb, ltb-false, eqb-true, not-false, eq-eqb}
use Rattle.map_check.proofs.Bools.{never, and_fst, and_snd, or_left, or_right}
use Rattle.device_words.specs.Table.{bit_at}
use Rattle.device_words.specs.Device.{MemoryDevice, is_pinned, with_tables, with_pins, with_pin, no_plugs, no_pins, setup_ok, block_ok, region_ok, addr_ok, sizes_ok, device_ok}
use Rattle.device_words.specs.Request.{request_of, carried_out}
use Rattle.device_words.proofs.TableLaws.{zero_bit}
use Rattle.device_words.proofs.RuleLaws.{device_valid, blocks_mono}
use Rattle.device_words.proofs.Kept.{setup_of, device_ok_lem, inside_run, run_set, run_cleared, change_kept}
use Rattle.memory_device.specs.Record.{HostOutcome}
use Rattle.memory_device.specs.Host.{host_refusal, done, size_fault, with_requested, resized, pin_fault, pin_block, unpin_block, system_reset}
use Rattle.memory_device.specs.Request.{carried_into, carried}
use Rattle.memory_device.specs.SetUp.{fresh_device}
use Rattle.memory_device.specs.declared.setup.DeviceValues.{DeviceValues}

-- the sizes after a new requested size
resized_setup : (d : MemoryDevice) (size : ℕ) → device_ok d ≡ true → size % d.block_size ≡ 0 → size ≤ d.region_size
    → setup_ok d.block_size d.addr d.region_size (max d.usable_size size) size ≡ true
unfolding setup_ok
resized_setup d size h whole fits =
    let v = device_valid d h in
    let b = d.block_size in
    let s = setup_of d h in
    let rest = and_snd (block_ok b) (region_ok b d.region_size && (addr_ok b d.addr d.region_size && sizes_ok b d.region_size d.usable_size d.requested_size)) s in
    rw (
      and_fst (block_ok b) (region_ok b d.region_size && (addr_ok b d.addr d.region_size && sizes_ok b d.region_size d.usable_size d.requested_size)) s,
      and_fst (region_ok b d.region_size) (addr_ok b d.addr d.region_size && sizes_ok b d.region_size d.usable_size d.requested_size) rest,
      and_fst (addr_ok b d.addr d.region_size) (sizes_ok b d.region_size d.usable_size d.requested_size)
          (and_snd (region_ok b d.region_size) (addr_ok b d.addr d.region_size && sizes_ok b d.region_size d.usable_size d.requested_size) rest),
      le-leb size (max d.usable_size size) (omega arith),
      le-leb (max d.usable_size size) d.region_size (omega (arith, v.usable)),
      eq-eqb (max d.usable_size size % b) 0 (larger d.usable_size size b v.whole_usable whole),
      eq-eqb (size % b) 0 whole,
    )
  where
    larger : (a c b : ℕ) → a % b ≡ 0 → c % b ≡ 0 → max a c % b ≡ 0
    larger a c b p q = go (dec_lt a c)
      where
        go : Dec (a < c) → max a c % b ≡ 0
        go (yes h) = let e : max a c ≡ c = omega arith in rw e q
        go (no h) = let e : max a c ≡ a = omega arith in rw e p

-- the host's calls
pub reset_kept : (d : MemoryDevice) → device_ok d ≡ true → device_ok (system_reset d).device ≡ true
unfolding system_reset
reset_kept d h = rw h (device_ok_lem (with_tables d no_plugs no_pins) (setup_of d h) (λ b l e. absurd (never (sym e ∙ zero_bit b))) (λ b l e. absurd (never (sym e ∙ zero_bit b))))

-- of two outcomes
either : (x : Bool) (a b : HostOutcome) → (x ≡ true → device_ok a.device ≡ true) → (x ≡ false → device_ok b.device ≡ true) → device_ok (cond x a b).device ≡ true
either true a b f g = f refl
either false a b f g = g refl

pub pin_kept : (d : MemoryDevice) (b : ℕ) → device_ok d ≡ true → device_ok (pin_block d b).device ≡ true
unfolding pin_block
pin_kept d b h =
    rw h
    (either (pin_fault d b) (host_refusal 15 d) (done (with_pins d (with_pin d.pinned b true))) (λ _. h)
    (λ e.
    let plugged : bit_at d.plugged b ≡ true =
    not-false (bit_at d.plugged b)
    (or_right (not (ltb b (d.region_size / d.block_size))) (not (bit_at d.plugged b))
    (or_left (not (ltb b (d.region_size / d.block_size)) || not (bit_at d.plugged b)) (is_pinned d b) e)) in
    device_ok_lem (with_pins d (with_pin d.pinned b true)) (setup_of d h) (device_valid d h).inside
    (λ c l s. run_set d.pinned b 1 c l s (bit_at d.plugged c ≡ true)
    (λ w. let z = inside_run b 1 c w in subst (λ (x : ℕ). bit_at d.plugged x ≡ true) (let y : b ≡ c = omega arith in y) plugged) ((device_valid d h).held c l))))

pub unpin_kept : (d : MemoryDevice) (b : ℕ) → device_ok d ≡ true → device_ok (unpin_block d b).device ≡ true
unfolding unpin_block
unpin_kept d b h =
    rw h
    (either (not (is_pinned d b)) (host_refusal 15 d) (done (with_pins d (with_pin d.pinned b false))) (λ _. h)
    (λ e. device_ok_lem (with_pins d (with_pin d.pinned b false)) (setup_of d h) (device_valid d h).inside (λ c l s. (device_valid d h).held c l (run_cleared d.pinned b 1 c l s))))

pub resize_kept : (d : MemoryDevice) (size : ℕ) → device_ok d ≡ true → device_ok (resized d size).device ≡ true
unfolding resized
resize_kept d size h =
    rw h
    (either (size_fault d size) (host_refusal 14 d) (done (with_requested d size)) (λ _. h)
    (λ e.
    let v = device_valid d h in
    let b = d.block_size in
    let whole : size % b ≡ 0 = eqb-true (size % b) 0 (not-false (eqb (size % b) 0) (or_left (not (eqb (size % b) 0)) (ltb d.region_size size) e)) in
    let fits : size ≤ d.region_size = ltb-false d.region_size size (or_right (not (eqb (size % b) 0)) (ltb d.region_size size) e) in
    let pos : 0 < b = omega (arith, v.least) in
    device_ok_lem (with_requested d size) (resized_setup d size h whole fits)
    (λ c l s. let z = v.inside c l s in let m = blocks_mono b d.usable_size (max d.usable_size size) pos (omega arith) in omega arith) v.held))

-- a request on a valid record is carried out, and keeps it valid
pub carry_through : (d : MemoryDevice) (s : List ℕ) → device_ok d ≡ true → carried d s ≡ carried_out d (request_of s)
unfolding carried_into
carry_through d s h = rw h

pub carry_kept : (d : MemoryDevice) (s : List ℕ) → device_ok d ≡ true → device_ok (carried d s).device ≡ true
unfolding carried_into
carry_kept d s h = rw h (change_kept d (request_of s) h)

-- a device that was set up is valid
pub set_up_valid : (v : DeviceValues) (region : ℕ) → setup_ok v.block_size v.addr.0 region v.usable_size v.requested_size ≡ true → device_ok (fresh_device v region) ≡ true
set_up_valid v region s = device_ok_lem (fresh_device v region) s (λ b l e. absurd (never (sym e ∙ zero_bit b))) (λ b l e. absurd (never (sym e ∙ zero_bit b)))
