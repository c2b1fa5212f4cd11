-- `memory_device::calls::unpin` meets its contract. Assumes nothing.
use Rattle.memory_device.specs.Host.{turn_pin, unpin_block}
use Rattle.memory_device.proofs.calls.unpin.Goals as goal

pub returns : goal.returns
unfolding turn_pin unpin_block
returns c = c.turn_pin.ensures
