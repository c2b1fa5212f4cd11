-- `guest_view::view::View::stretch_at` meets its contract. Assumes nothing.
use native.Mathlib.Omega.{arith}
use Rattle.guest_view.proofs.ReadLaws.{memory_found, read_low, read_high, read_offset, read_room, read_runs}
use Rattle.guest_view.proofs.view.View.stretch_at.Goals as goal

pub range-range-requires : goal.range-range-requires
range-range-requires c = memory_found _ _ _ c.near-at.ensures.spot c.requires.in_memory

pub offset_in-offset-requires : goal.offset_in-offset-requires
offset_in-offset-requires c = (
  read_low c.near-at.ensures.judged c.near-at.ensures.spot (memory_found _ _ _ c.near-at.ensures.spot c.requires.in_memory) c.range-range.ensures.range,
  omega (arith, read_offset c.near-at.ensures.judged c.near-at.ensures.spot (memory_found _ _ _ c.near-at.ensures.spot c.requires.in_memory) c.range-range.ensures.range),
)

pub place_of-place-requires : goal.place_of-place-requires
place_of-place-requires c = omega (arith, c.offset_in-offset.ensures, read_room c.near-at.ensures.judged c.near-at.ensures.spot (memory_found _ _ _ c.near-at.ensures.spot c.requires.in_memory) c.range-range.ensures.range c.requires.in_memory)

pub overflow_sub-result : goal.overflow_sub-result
overflow_sub-result c = read_high c.near-at.ensures.judged c.near-at.ensures.spot (memory_found _ _ _ c.near-at.ensures.spot c.requires.in_memory) c.range-range.ensures.range

pub returns : goal.returns
returns c =
    let z = c.place_of-place.ensures in
    let y = c.offset_in-offset.ensures in
    read_runs c.near-at.ensures.judged c.near-at.ensures.spot (memory_found _ _ _ c.near-at.ensures.spot c.requires.in_memory) c.range-range.ensures.range c.place_of-place.result (omega arith)
