-- `memory_device::device::MemoryDevice::configuration` meets its contract. Assumes nothing.
use mathlib.Core.Path.{◌≡◌, ◌∙◌}
use Rattle.std.proofs.Common.{rules, replicate}
use Rattle.std.specs.Result.{IsErrAnd}
use Rattle.map_check.specs.Reply.{plain}
use Rattle.memory_device.specs.Record.{record_of, record_reply}
use Rattle.memory_device.proofs.CallLaws.{configuration_27, configured_27}
use Rattle.memory_device.proofs.device.MemoryDevice.configuration.Goals as goal

pub returns-in_err-map_err : goal.returns-in_err-map_err
returns-in_err-map_err c = let d = record_of c.args.self in
    let k : record_reply c.configuration.result ≡ plain 27 = search rules in
    let m : IsErrAnd c.from_residual.result (λ e. e.left ≡ replicate 56 0) = search rules in
    configuration_27 _ _ m ∙ configured_27 d _ _ c.words_of.ensures.1 (rw k at c.configuration.ensures)
