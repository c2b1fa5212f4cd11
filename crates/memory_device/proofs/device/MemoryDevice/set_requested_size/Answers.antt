-- `memory_device::device::MemoryDevice::set_requested_size` meets its contract. Assumes nothing.
use Rattle.std.proofs.Common.{arith, rules}
use Rattle.device_words.specs.Device.{MemoryDevice}
use Rattle.device_words.specs.Words.{device_of}
use Rattle.memory_device.specs.Record.{record_of, host_fault_reply, host_reply}
use Rattle.memory_device.specs.Host.{size_fault, with_requested, resized}
use Rattle.memory_device.specs.Leaves.{LeavesDevice}
use Rattle.memory_device.proofs.CallLaws.{Whole, by_value, fair, whole_requested, host_refuses}
use Rattle.memory_device.proofs.device.MemoryDevice.set_requested_size.Goals as goal

pub returns : goal.returns
unfolding resized
returns c =
    let d = record_of c.args.self in
    let n = c.args.size in
    let whole : Whole d = record { plugged = omega arith; pins = omega arith } in
    let call = c.changed.ensures.call in
    let left : LeavesDevice (resized (device_of call.shown.now) n) call.shown.now (host_reply c.changed.ensures.answer) c.changed.ensures.words = search rules in
    by_value host_fault_reply host_refuses d whole (λ (d : MemoryDevice). resized d n) (fair d whole (size_fault d n) 14 (with_requested d n) (whole_requested d n))
    _ call.shows _ _ left _ c.changed.ensures.value
