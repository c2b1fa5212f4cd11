-- `memory_device::calls::pin` meets its contract. Assumes nothing.
use Rattle.memory_device.specs.Host.{turn_pin, pin_block}
use Rattle.memory_device.proofs.calls.pin.Goals as goal

pub returns : goal.returns
unfolding turn_pin pin_block
returns c = c.turn_pin.ensures
