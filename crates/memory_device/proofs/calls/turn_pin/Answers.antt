-- `memory_device::calls::turn_pin` meets its contract. Assumes nothing.
use mathlib.Core.Path.{◌≡◌, refl, sym, ap, ◌∙◌}
use mathlib.Core.List.{List}
use borrow.Author.Rules.{rules}
use Prim.Native.Nat.{ℕ}
use borrow.Author.Tests.{not-true, not-false}
use Rattle.device_words.specs.Device.{MemoryDevice, with_pins, with_pin}
use Rattle.device_words.specs.Words.{device_at}
use Rattle.device_words.specs.Promises.{pin_words}
use Rattle.device_words.proofs.DeviceWords.{pins_length}
use Rattle.memory_device.specs.Host.{turn_fault, turn_pin}
use Rattle.memory_device.proofs.CallLaws.{host_27, left_27, left_fault, left_done, sound, sound_length, host_same, host_turn}
use Rattle.memory_device.proofs.calls.turn_pin.Goals as goal

pub returns-in_err-check : goal.returns-in_err-check
unfolding turn_pin
returns-in_err-check c = left_27 c.args.device.now c.in_err-check.ensures.judged _ _ (host_27 _ c.from_residual.ensures.1)

pub unwrap-device-requires : goal.unwrap-device-requires
unwrap-device-requires c = let l = sound_length c.args.device.now c.in_ok-check.ensures.judged in search rules

pub can_turn-requires : goal.can_turn-requires
can_turn-requires c =
    let p : c.unwrap-device.result.now ≡ c.args.device.now = search rules in
    rw p (sound c.args.device.now c.in_ok-check.ensures.judged)

pub returns-then-not-can_turn : goal.returns-then-not-can_turn
unfolding turn_pin
returns-then-not-can_turn c =
    let a = c.args in
    let w = a.device.now in
    let p : c.unwrap-device.result.now ≡ c.args.device.now = search rules in
    let v = sound w c.in_ok-check.ensures.judged in
    let same = host_turn (device_at w) v (pins_length w (sound_length w c.in_ok-check.ensures.judged)) a.block _ c.block_of_host-b.ensures a.on in
    let turned = ap (λ (x : List ℕ). turn_fault (device_at x) c.block_of_host-b.result.0 a.on) (sym p) in
    rw p
    (left_fault w c.in_ok-check.ensures.judged (λ (d : MemoryDevice). turn_fault d a.block a.on) 15 (λ (d : MemoryDevice). with_pins d (with_pin d.pinned a.block a.on)) (sym same ∙ turned ∙ not-false _ (sym c.if-not-can_turn.ensures.value)))

pub set_pin-requires : goal.set_pin-requires
set_pin-requires c = c.if-not-can_turn.ensures.room refl

pub returns : goal.returns
unfolding turn_pin
returns c =
    let a = c.args in
    let w = a.device.now in
    let p : c.unwrap-device.result.now ≡ c.args.device.now = search rules in
    let v = sound w c.in_ok-check.ensures.judged in
    let b = c.block_of_host-b.ensures in
    let same = host_turn (device_at w) v (pins_length w (sound_length w c.in_ok-check.ensures.judged)) a.block _ b a.on in
    let turned = ap (λ (x : List ℕ). turn_fault (device_at x) c.block_of_host-b.result.0 a.on) (sym p) in
    left_done w c.in_ok-check.ensures.judged (λ (d : MemoryDevice). turn_fault d a.block a.on) 15 (λ (d : MemoryDevice). with_pins d (with_pin d.pinned a.block a.on)) _
    (sym same ∙ turned ∙ not-true _ (sym c.if-not-can_turn.ensures.value))
    (c.set_pin.ensures ∙ ap (λ (x : List ℕ). pin_words x c.block_of_host-b.result.0 a.on) p ∙ ap (λ (x : ℕ). pin_words w x a.on) (host_same a.block _ b (c.if-not-can_turn.ensures.room refl)))
