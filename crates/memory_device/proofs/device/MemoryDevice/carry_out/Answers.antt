-- `memory_device::device::MemoryDevice::carry_out` meets its contract. Assumes nothing.
use mathlib.Core.Path.{◌≡◌, ◌∙◌}
use Rattle.std.proofs.Common.{rules, replicate}
use Rattle.std.specs.Result.{IsErrAnd}
use Rattle.map_check.specs.Reply.{accepted, plain}
use Rattle.memory_device.specs.Record.{record_of, record_reply}
use Rattle.memory_device.proofs.CallLaws.{request_27, carried_value, carried_27}
use Rattle.memory_device.proofs.device.MemoryDevice.carry_out.Goals as goal

pub returns-in_err-map_err : goal.returns-in_err-map_err
returns-in_err-map_err c = let d = record_of c.args.self in
    let k : record_reply c.carry_out.result ≡ plain 27 = search rules in
    let m : IsErrAnd c.from_residual.result (λ e. e.left ≡ record { response = replicate 10 0; device = c.args.self }) = search rules in
    request_27 _ _ m ∙ carried_27 d c.args.bytes _ _ c.words_of-words.ensures.1 (rw k at c.carry_out.ensures)

pub returns : goal.returns
returns c = let d = record_of c.args.self in
    let k : record_reply c.carry_out.result ≡ accepted = search rules in
    carried_value d c.args.bytes _ _ c.words_of-words.ensures.1 (rw k at c.carry_out.ensures) c.device_of.ensures
