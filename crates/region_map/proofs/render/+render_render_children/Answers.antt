-- `region_map::render::render` and `render_children` meet their contracts, as one cycle of calls: the measure is the region number and the children left. Assumes nothing.
use native.Mathlib.Omega.{arith}
use mathlib.Core.Path.{sym, ap, ◌∙◌}
use Rattle.map_records.specs.declared.map.GuestAddress.{GuestAddress}
use borrow.Author.Tests.{eqb-true, eqb-false}
use Rattle.region_map.specs.Walk.{walk}
use Rattle.region_map.specs.Promises.{answer_in}
use Rattle.region_map.specs.Pieces.{in_span, Behind}
use Rattle.map_records.specs.Words.{map_of}
use Rattle.map_check.proofs.MapWords.{checked_walkable}
use Rattle.region_map.proofs.WalkLaws.{is_child, child_below}
use Rattle.region_map.proofs.RenderLaws.{region_facts, behind_at, nothing_there, some_there, not_reached, through_alias, through_children, the_node, no_node, child_then, child_begun, child_ahead, child_beyond}
use Rattle.region_map.proofs.render.+render_render_children.Goals.{render_children-then-begins-at, render_children-else-begins-at+then-ahead-end, render_children-else-begins-at+else-ahead-end}
use Rattle.region_map.proofs.render.+render_render_children.Goals as goal

pub render-returns-then-at-first : goal.render-returns-then-at-first
render-returns-then-at-first t c =
    let a = c.args in
    let x = c.region_in-region in
    nothing_there (map_of a.map.now) a.n x.result x.ensures.region _ a.at.first.0 a.at.offset.0 a.at.end.0 c.requires.span_fits.kept c.if-at-first.true

pub render-returns-then-horizon-first : goal.render-returns-then-horizon-first
render-returns-then-horizon-first t c =
    let a = c.args in
    not_reached (walk (map_of a.map.now) a.n) _ a.at.first.0 a.at.offset.0 a.at.end.0 c.requires.span_fits.kept (omega (arith, ap (λ (a : GuestAddress). a.0) c.horizon.ensures, c.if-horizon-first.true))

pub render-returns-then-has_kind : goal.render-returns-then-has_kind
render-returns-then-has_kind t c =
    let a = c.args in
    let x = c.region_in-region in
    let l = c.min in
    let h = some_there x.result.size a.at.first.0 a.at.offset.0 a.at.end.0 c.if-at-first.false in
    through_alias (map_of a.map.now) a.n x.result x.ensures.region a.at.first.0 a.at.offset.0 a.at.end.0 l.result l.ensures h.0 h.1
    (checked_walkable _ c.region_in-region.ensures.checked) c.requires.in_map (eqb-true _ _ (sym c.has_kind.ensures ∙ c.if-has_kind.true)) c.render.ensures

pub render-returns-else-has_kind : goal.render-returns-else-has_kind
render-returns-else-has_kind t c =
    let a = c.args in
    let x = c.region_in-region in
    let l = c.min in
    let h = some_there x.result.size a.at.first.0 a.at.offset.0 a.at.end.0 c.if-at-first.false in
    through_children (map_of a.map.now) a.n x.result x.ensures.region a.at.first.0 a.at.offset.0 a.at.end.0 l.result l.ensures h.0 h.1
    (eqb-false _ _ (sym c.has_kind.ensures ∙ c.if-has_kind.false)) c.render_children.ensures

pub render_children-returns-then-not-has_kind :
    goal.render_children-returns-then-not-has_kind
render_children-returns-then-not-has_kind t c =
    let a = c.args in
    let x = c.region_in in
    the_node (map_of a.map.now) a.n a.below a.at.first.0 a.at.offset.0 a.at.end.0 c.in_default.ensures x.result x.ensures.region (eqb-false _ _ (sym c.has_kind.ensures ∙ c.if-not-has_kind.true)) c.fill.ensures

pub render_children-returns-else-not-has_kind :
    goal.render_children-returns-else-not-has_kind
render_children-returns-else-not-has_kind t c =
    let a = c.args in
    let x = c.region_in in
    no_node (map_of a.map.now) a.n a.below a.at.first.0 a.at.offset.0 a.at.end.0 c.in_default.ensures _ x.result x.ensures.region c.requires.span_fits.0.kept (eqb-true _ _ (sym c.has_kind.ensures ∙ c.if-not-has_kind.false))

pub render_children-render-requires : goal.render_children-render-requires
render_children-render-requires t c =
    let a = c.args in
    let m = map_of a.map.now in
    let low = child_below m a.n _ (is_child c.in-Some.ensures) in
    let w = c.requires.span_fits.0 in
    (omega (arith, low, c.decreases), (omega (arith, low, c.requires.in_map.0), record { kept = w.kept; from = w.from; to = w.to; offset = omega (arith, w.offset) }))

pub render_children-render-requires-then-ahead-end :
    goal.render_children-render-requires-then-ahead-end
render_children-render-requires-then-ahead-end t c =
    let a = c.args in
    let m = map_of a.map.now in
    let low = child_below m a.n _ (is_child c.in-Some.ensures) in
    let w = c.requires.span_fits.0 in
    (omega (arith, low, c.decreases), (omega (arith, low, c.requires.in_map.0), record { kept = w.kept; from = omega (arith, w.from); to = w.to; offset = omega arith }))

pub render_children-render_children-requires : goal.render_children-render_children-requires
render_children-render_children-requires t c =
    let a = c.args in
    let m = map_of a.map.now in
    let x = c.region_in-child in
    let next = c.in-Some.ensures in
    let k = is_child next in
    -- after the next child, whichever way: what it answers stands behind the table
    let b : Behind a.table.now (in_span (answer_in m a.n c.in-Some.next) a.at.first.0 a.at.offset.0 a.at.end.0) c.if-begins-at.table = elim c.if-begins-at.branch [
      | render_children-then-begins-at w ↦ behind_at w.table-is (child_begun m a.n _ x.result x.ensures.region a.at.first.0 a.at.offset.0 a.at.end.0 k w.if-begins-at.true w.render.ensures)
      | render_children-else-begins-at+then-ahead-end w ↦ behind_at w.table-is (child_ahead m a.n _ x.result x.ensures.region a.at.first.0 a.at.offset.0 a.at.end.0 k w.if-begins-at.false w.render-then-ahead-end.ensures)
      | render_children-else-begins-at+else-ahead-end w ↦ behind_at w.table-is (child_beyond m a.n _ x.result x.ensures.region a.at.first.0 a.at.offset.0 a.at.end.0 k _ c.requires.span_fits.0.kept w.if-begins-at.false w.if-ahead-end.false)
    ] in
    let w = c.requires.span_fits in
    (omega (arith, c.decreases, next.within), ((c.requires.in_map.0, omega (arith, next.within, c.requires.in_map.1)), (record { kept = b.kept; from = omega (arith, b.start, w.0.from); to = w.0.to; offset = w.0.offset }, w.1, w.2)))

pub render_children-returns : goal.render_children-returns
render_children-returns t c =
    let a = c.args in
    let m = map_of a.map.now in
    let x = c.region_in-child in
    let k = is_child c.in-Some.ensures in
    let b : Behind a.table.now (in_span (answer_in m a.n c.in-Some.next) a.at.first.0 a.at.offset.0 a.at.end.0) c.if-begins-at.table = elim c.if-begins-at.branch [
      | render_children-then-begins-at w ↦ behind_at w.table-is (child_begun m a.n _ x.result x.ensures.region a.at.first.0 a.at.offset.0 a.at.end.0 k w.if-begins-at.true w.render.ensures)
      | render_children-else-begins-at+then-ahead-end w ↦ behind_at w.table-is (child_ahead m a.n _ x.result x.ensures.region a.at.first.0 a.at.offset.0 a.at.end.0 k w.if-begins-at.false w.render-then-ahead-end.ensures)
      | render_children-else-begins-at+else-ahead-end w ↦ behind_at w.table-is (child_beyond m a.n _ x.result x.ensures.region a.at.first.0 a.at.offset.0 a.at.end.0 k _ c.requires.span_fits.0.kept w.if-begins-at.false w.if-ahead-end.false)
    ] in
    child_then m a.n a.below a.at.first.0 a.at.offset.0 a.at.end.0 _ c.in-Some.ensures b c.render_children.ensures

pub render-overflow_add-offset : goal.render-overflow_add-offset
render-overflow_add-offset t c =
    let f = region_facts (map_of c.args.map.now) c.args.n _ c.region_in-region.ensures.region (checked_walkable _ c.region_in-region.ensures.checked) c.requires.in_map in
    omega (arith, f.1, c.requires.span_fits.offset)

pub render-render-requires : goal.render-render-requires
render-render-requires t c =
    let f = region_facts (map_of c.args.map.now) c.args.n _ c.region_in-region.ensures.region (checked_walkable _ c.region_in-region.ensures.checked) c.requires.in_map in
    let lower = f.2 (eqb-true _ _ (sym c.has_kind.ensures ∙ c.if-has_kind.true)) in
    let w = c.requires.span_fits in
    let h = some_there c.region_in-region.result.size c.args.at.first.0 c.args.at.offset.0 c.args.at.end.0 c.if-at-first.false in
    (omega (arith, lower, c.decreases), (omega (arith, lower, c.requires.in_map), record { kept = w.kept; from = w.from; to = omega (arith, w.to, c.min.ensures, h.0); offset = omega (arith, w.offset, f.0, f.1, h.1) }))

pub render-render_children-requires : goal.render-render_children-requires
render-render_children-requires t c =
    let f = region_facts (map_of c.args.map.now) c.args.n _ c.region_in-region.ensures.region (checked_walkable _ c.region_in-region.ensures.checked) c.requires.in_map in
    let w = c.requires.span_fits in
    let h = some_there c.region_in-region.result.size c.args.at.first.0 c.args.at.offset.0 c.args.at.end.0 c.if-at-first.false in
    (omega (arith, c.decreases), ((c.requires.in_map, omega arith), (record { kept = w.kept; from = w.from; to = omega (arith, w.to, c.min.ensures, h.0); offset = w.offset }, omega (arith, c.min.ensures), omega (arith, f.0, h.1))))

pub render_children-fill-requires : goal.render_children-fill-requires
render_children-fill-requires t c = (c.requires.span_fits.0, omega (arith, c.requires.in_map.0, (checked_walkable _ c.region_in.ensures.checked).count))

pub render_children-region_in-child-requires : goal.render_children-region_in-child-requires
render_children-region_in-child-requires t c =
    let k = child_below (map_of c.args.map.now) c.args.n _ (is_child c.in-Some.ensures) in
    omega (arith, k, c.requires.in_map.0)
