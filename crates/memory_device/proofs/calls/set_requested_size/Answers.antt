-- `memory_device::calls::set_requested_size` meets its contract. Assumes nothing.
use mathlib.Core.Path.{◌≡◌, sym, ap, ◌∙◌}
use mathlib.Core.List.{List}
use Prim.Native.Nat.{ℕ}
use borrow.Author.Rules.{rules}
use Rattle.device_words.specs.Words.{device_at, device_words}
use Rattle.device_words.specs.Device.{MemoryDevice}
use Rattle.memory_device.specs.Host.{resized, size_fault, with_requested}
use Rattle.memory_device.proofs.CallLaws.{host_27, left_27, left_fault, left_done, sound, sound_length}
use Rattle.memory_device.proofs.calls.set_requested_size.Goals as goal

pub returns-in_err-check : goal.returns-in_err-check
unfolding resized
returns-in_err-check c = left_27 c.args.device.now c.in_err-check.ensures.judged _ _ (host_27 _ c.from_residual.ensures.1)

pub unwrap-device-requires : goal.unwrap-device-requires
unwrap-device-requires c = let l = sound_length c.args.device.now c.in_ok-check.ensures.judged in search rules

pub size_fault-requires : goal.size_fault-requires
size_fault-requires c =
    let p : c.unwrap-device.result.now ≡ c.args.device.now = search rules in
    rw p (sound c.args.device.now c.in_ok-check.ensures.judged)

pub returns-then-size_fault : goal.returns-then-size_fault
unfolding resized
returns-then-size_fault c = let a = c.args in
    let p : c.unwrap-device.result.now ≡ c.args.device.now = search rules in
    rw p (left_fault a.device.now c.in_ok-check.ensures.judged (λ (d : MemoryDevice). size_fault d a.size) 14 (λ (d : MemoryDevice). with_requested d a.size) (ap (λ (x : List ℕ). size_fault (device_at x) a.size) (sym p) ∙ sym c.size_fault.ensures ∙ c.if-size_fault.true))

pub returns : goal.returns
unfolding resized
returns c = let a = c.args in
    let p : c.unwrap-device.result.now ≡ c.args.device.now = search rules in
    left_done a.device.now c.in_ok-check.ensures.judged (λ (d : MemoryDevice). size_fault d a.size) 14 (λ (d : MemoryDevice). with_requested d a.size) _ (ap (λ (x : List ℕ). size_fault (device_at x) a.size) (sym p) ∙ sym c.size_fault.ensures ∙ c.if-size_fault.false)
    (c.set_requested.ensures ∙ ap (λ (x : List ℕ). device_words (with_requested (device_at x) a.size)) p)
