-- `memory_device::device::MemoryDevice::system_reset` meets its contract. Assumes nothing.
use mathlib.Core.Bool.{false}
use mathlib.Core.Path.{refl}
use Rattle.std.proofs.Common.{arith, rules}
use Rattle.device_words.specs.Device.{MemoryDevice, fresh}
use Rattle.device_words.specs.Words.{device_of}
use Rattle.memory_device.specs.Record.{record_of, record_fault_reply, record_reply}
use Rattle.memory_device.specs.Host.{system_reset}
use Rattle.memory_device.specs.Leaves.{LeavesDevice}
use Rattle.memory_device.proofs.CallLaws.{Whole, by_value, fair, whole_fresh}
use Rattle.memory_device.proofs.device.MemoryDevice.system_reset.Goals as goal

pub returns : goal.returns
unfolding system_reset
returns c =
    let d = record_of c.args.self in
    let whole : Whole d = record { plugged = omega arith; pins = omega arith } in
    let call = c.changed.ensures.call in
    let left : LeavesDevice (system_reset (device_of call.shown.now)) call.shown.now (record_reply c.changed.ensures.answer) c.changed.ensures.words = search rules in
    by_value record_fault_reply (λ _. refl) d whole (λ (d : MemoryDevice). system_reset d) (fair d whole false 14 (fresh d) (whole_fresh d))
    _ call.shows _ _ left _ c.changed.ensures.value
