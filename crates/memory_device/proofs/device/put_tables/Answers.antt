-- `memory_device::device::put_tables` meets its contract. Assumes nothing.
use native.Mathlib.Omega.{arith}
use Rattle.device_words.proofs.DeviceWords.{tables_stored}
use Rattle.memory_device.proofs.device.put_tables.Goals as goal

pub returns : goal.returns
returns c = let s = c in
    tables_stored s.args.words.now _ _ _ _ c.told-words c.copy_from_slice.ensures.after c.copy_from_slice-2.ensures.after (omega arith)
