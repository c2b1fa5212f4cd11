-- `virtqueue::step::step` meets its contract. Assumes nothing.
use Rattle.std.proofs.Common.{◌≡◌, length, arith}
use Rattle.map_records.specs.Words.{view_of}
use Rattle.memory_device.specs.Record.{record_of}
use Rattle.virtqueue.proofs.ValueLaws.{value_stepped}
use Rattle.virtqueue.proofs.step.step.Goals as goal

pub returns : goal.returns
returns c = let d = record_of c.args.device in
    let p : length d.plugged ≡ 16 = omega (arith, c.well_formed) in
    let q : length d.pinned ≡ 16 = omega (arith, c.well_formed) in
    value_stepped (view_of c.args.view.now) c.args.device c.args.queue c.args.mem.now c.words_of-words.result _ _ c.step_in_place-outcome.result c.device_of-device.result c.words_of-words.ensures.0 c.words_of-words.ensures.1 (p, q) c.step_in_place-outcome.ensures c.device_of-device.ensures
