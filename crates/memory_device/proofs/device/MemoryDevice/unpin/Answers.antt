-- `memory_device::device::MemoryDevice::unpin` meets its contract. Assumes nothing.
use mathlib.Core.Bool.{false, not}
use Rattle.std.proofs.Common.{arith, rules}
use Rattle.device_words.specs.Device.{MemoryDevice, is_pinned, with_pins, with_pin}
use Rattle.device_words.specs.Words.{device_of}
use Rattle.memory_device.specs.Record.{record_of, host_fault_reply, host_reply}
use Rattle.memory_device.specs.Host.{unpin_block}
use Rattle.memory_device.specs.Leaves.{LeavesDevice}
use Rattle.memory_device.proofs.CallLaws.{Whole, by_value, fair, whole_pinned, host_refuses}
use Rattle.memory_device.proofs.device.MemoryDevice.unpin.Goals as goal

pub returns : goal.returns
unfolding unpin_block
returns c =
    let d = record_of c.args.self in
    let b = c.args.block.0 in
    let whole : Whole d = record { plugged = omega arith; pins = omega arith } in
    let call = c.changed.ensures.call in
    let left : LeavesDevice (unpin_block (device_of call.shown.now) b) call.shown.now (host_reply c.changed.ensures.answer) c.changed.ensures.words = search rules in
    by_value host_fault_reply host_refuses d whole (λ (d : MemoryDevice). unpin_block d b) (fair d whole (not (is_pinned d b)) 15 (with_pins d (with_pin d.pinned b false)) (whole_pinned d b false))
    _ call.shows _ _ left _ c.changed.ensures.value
