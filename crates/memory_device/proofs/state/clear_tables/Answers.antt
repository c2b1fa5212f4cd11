-- `memory_device::state::clear_tables` meets its contract. Assumes nothing.
use mathlib.Core.Path.{refl}
use Rattle.device_words.proofs.DeviceWords.{tables_stored}
use Rattle.memory_device.proofs.state.clear_tables.Goals as goal

pub returns : goal.returns
returns c = tables_stored c.args.device.now _ _ _ _ c.told-device c.clear.ensures c.clear-2.ensures refl
