-- `memory_device::state::set_requested` meets its contract. Assumes nothing.
use Rattle.memory_device.proofs.CallLaws.{requested_stored}
use Rattle.memory_device.proofs.state.set_requested.Goals as goal

pub returns : goal.returns
returns c = requested_stored c.args.device.now _ c.args.size c.told-device c.max.ensures
