-- `memory_device::device::words_of` meets its contract. Assumes nothing.
use mathlib.Core.Path.{◌≡◌, ap, ◌∙◌}
use lib.ListN.{length}
use native.Mathlib.Omega.{arith}
use Rattle.device_words.specs.Words.{device_of}
use Rattle.device_words.proofs.DeviceWords.{record_back}
use Rattle.memory_device.specs.Record.{record_of}
use Rattle.memory_device.proofs.device.words_of.Goals as goal

pub returns : goal.returns
returns c = let d = record_of c.args.device in
    let p : length d.plugged ≡ 16 = omega arith in
    let q : length d.pinned ≡ 16 = omega arith in
    let e = c.put_tables.ensures in
    (e, ap device_of e ∙ record_back d p q)
