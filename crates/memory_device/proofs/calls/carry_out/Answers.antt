-- `memory_device::calls::carry_out` meets its contract. Assumes nothing.
use mathlib.Core.Path.{◌≡◌}
use native.Mathlib.Omega.{arith}
use borrow.Author.Rules.{rules}
use Rattle.device_words.specs.Words.{device_of}
use Rattle.device_words.proofs.RuleLaws.{device_valid, valid_sizes}
use Rattle.memory_device.proofs.CallLaws.{record_27, sound_device, sound_length, carries_done, carries_27, carries_length}
use Rattle.memory_device.proofs.calls.carry_out.Goals as goal

pub returns-then-response-ne-RESPONSE_BYTES : goal.returns-then-response-ne-RESPONSE_BYTES
returns-then-response-ne-RESPONSE_BYTES c = let a = c.args in carries_length a.device.now a.request a.response.now c.if-response-ne-RESPONSE_BYTES.true

pub returns-in_err-check : goal.returns-in_err-check
returns-in_err-check c = let a = c.args in carries_27 a.device.now a.request a.response.now c.in_err-check.ensures.judged _ (record_27 _ c.from_residual.ensures.0)

pub unwrap-device-requires : goal.unwrap-device-requires
unwrap-device-requires c = let l = sound_length c.args.device.now c.in_ok-check.ensures.judged in search rules

pub respond-requires : goal.respond-requires
respond-requires c =
    let w = c.args.device.now in
    let p : c.unwrap-device.result.now ≡ c.args.device.now = search rules in
    rw p (valid_sizes (device_of w) (device_valid (device_of w) (sound_device w c.in_ok-check.ensures.judged)))

pub returns : goal.returns
returns c = let a = c.args in
    let p : c.unwrap-device.result.now ≡ c.args.device.now = search rules in
    carries_done a.device.now a.request a.response.now c.in_ok-check.ensures.judged (omega arith) _ _ _ c.copy_from_slice.ensures.after (rw p at c.respond.ensures)
