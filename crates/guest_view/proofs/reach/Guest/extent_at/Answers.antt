-- `guest_view::reach::Guest::extent_at` meets its contract. Assumes nothing.
use native.Mathlib.Omega.{arith}
use Rattle.device_words.specs.Device.{plugged_in}
use Rattle.map_records.specs.Words.{view_of}
use Rattle.guest_view.proofs.ReachLaws.{none_reached, reaches_on}
use Rattle.guest_view.proofs.ReadLaws.{words_full, read_low, read_high, read_offset, read_end}
use Rattle.guest_view.proofs.reach.Guest.extent_at.Goals as goal

pub returns-then-count-at : goal.returns-then-count-at
returns-then-count-at c = none_reached (view_of c.args.self.now.view) (plugged_in c.args.self.now.blocks.size c.args.self.now.blocks.plugged.now) c.args.a.0 c.near-at.result c.near-at.ensures.spot (omega (arith, c.if-count-at.true, c.count.ensures.count))

pub range-range-requires : goal.range-range-requires
range-range-requires c = omega (arith, c.if-count-at.false, c.count.ensures.count)

pub offset_in-offset-requires : goal.offset_in-offset-requires
offset_in-offset-requires c = (
  read_low c.near-at.ensures.judged c.near-at.ensures.spot (omega (arith, c.if-count-at.false, c.count.ensures.count)) c.range-range.ensures.range,
  omega (arith, read_offset c.near-at.ensures.judged c.near-at.ensures.spot (omega (arith, c.if-count-at.false, c.count.ensures.count)) c.range-range.ensures.range),
)

pub overflow_sub-range : goal.overflow_sub-range
overflow_sub-range c = read_high c.near-at.ensures.judged c.near-at.ensures.spot (omega (arith, c.if-count-at.false, c.count.ensures.count)) c.range-range.ensures.range

pub how_far-requires : goal.how_far-requires
how_far-requires c = (omega (arith, c.offset_in-offset.ensures, read_end c.near-at.ensures.judged c.near-at.ensures.spot (omega (arith, c.if-count-at.false, c.count.ensures.count)) c.range-range.ensures.range))

pub returns : goal.returns
returns c =
    let near = c.near-at in
    let range = c.range-range in
    let offset = c.offset_in-offset in
    reaches_on (view_of c.args.self.now.view) (plugged_in c.args.self.now.blocks.size c.args.self.now.blocks.plugged.now) c.args.a.0 near.result near.ensures.spot (omega (arith, c.if-count-at.false, c.count.ensures.count)) (words_full c.near-at.ensures.judged) c.near-at.ensures.judged.ordered
    range.result range.ensures.range offset.result.0 offset.ensures c.how_far.result c.how_far.ensures
