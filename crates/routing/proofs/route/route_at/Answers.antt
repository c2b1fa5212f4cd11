-- `routing::route::route_at` meets its contract. Assumes nothing.
use native.Mathlib.Omega.{arith}
use mathlib.Core.Path.{sym, ap, ap₂, ◌∙◌}
use mathlib.Core.Bool.{◌||◌, not}
use Prim.Native.Nat.{◌<◌}
use borrow.Author.Tests.{eqb-true, eqb-false}
use Rattle.map_records.specs.View.{entries}
use Rattle.device_words.specs.Device.{plugged_in}
use Rattle.map_records.specs.Words.{view_of}
use Rattle.guest_view.specs.Guest.{leaf_at}
use Rattle.guest_view.proofs.ReadLaws.{read_low, read_offset, read_place}
use Rattle.routing.proofs.RouteLaws.{width_bounds, routed_width, routed_nowhere, whole_unplugged, whole_memory, whole_port, whole_none}
use Rattle.routing.proofs.ViewWords.{read_broken, read_whole}
use Rattle.routing.proofs.route.route_at.Goals as goal
use Rattle.routing.proofs.route.route_at.Goals.{then-has_kind+else-not-blocks_plugged, else-has_kind}

pub returns-then-not-width_ok : goal.returns-then-not-width_ok
returns-then-not-width_ok c =
    let a = c.args in
    sym (routed_width (leaf_at (entries (view_of a.guest.now.view))) (plugged_in a.guest.now.blocks.size a.guest.now.blocks.plugged.now) a.a.0 a.w (sym c.width_ok.ensures ∙ c.if-not-width_ok.true))

pub returns-then-count-at : goal.returns-then-count-at
returns-then-count-at c =
    let a = c.args in
    sym (routed_nowhere (leaf_at (entries (view_of a.guest.now.view))) (plugged_in a.guest.now.blocks.size a.guest.now.blocks.plugged.now) a.a.0 a.w (sym c.width_ok.ensures ∙ c.if-not-width_ok.false)
    (c.requires.spot.missed (omega (arith, c.if-count-at.true, c.count.ensures.count))))

pub is_whole-requires : goal.is_whole-requires
is_whole-requires c =
    let w = width_bounds c.args.w (sym c.width_ok.ensures ∙ c.if-not-width_ok.false) in
    record { spot = c.requires.spot; at_bound = (omega (arith, c.if-count-at.false, c.count.ensures.count), w.0, w.1) }

pub returns-then-not-is_whole : goal.returns-then-not-is_whole
returns-then-not-is_whole c =
    read_broken c.count.ensures.judged c.requires.spot (omega (arith, c.if-count-at.false, c.count.ensures.count)) (plugged_in c.args.guest.now.blocks.size c.args.guest.now.blocks.plugged.now) c.args.w (sym c.width_ok.ensures ∙ c.if-not-width_ok.false) c.is_whole.result c.is_whole.ensures (ap not c.if-not-is_whole.true)

pub offset_in-offset-requires : goal.offset_in-offset-requires
offset_in-offset-requires c =
    let h : c.args.at < (view_of c.args.guest.now.view).count = omega (arith, c.if-count-at.false, c.count.ensures.count) in
    (read_low c.count.ensures.judged c.requires.spot h c.range-range.ensures.range, omega (arith, read_offset c.count.ensures.judged c.requires.spot h c.range-range.ensures.range))

pub blocks_plugged-requires : goal.blocks_plugged-requires
blocks_plugged-requires c =
    let h : c.args.at < (view_of c.args.guest.now.view).count = omega (arith, c.if-count-at.false, c.count.ensures.count) in
    let w = width_bounds c.args.w (sym c.width_ok.ensures ∙ c.if-not-width_ok.false) in
    record { le_block = c.requires.le_block; w_nonzero = (w.0, w.1, omega (arith, c.offset_in-offset.ensures, read_offset c.count.ensures.judged c.requires.spot h c.range-range.ensures.range)) }

pub returns-then-not-blocks_plugged : goal.returns-then-not-blocks_plugged
returns-then-not-blocks_plugged c =
    whole_unplugged (plugged_in c.args.guest.now.blocks.size c.args.guest.now.blocks.plugged.now) c.range-range.result c.offset_in-offset.result.0 c.args.w (eqb-true _ _ (sym c.has_kind.ensures ∙ c.if-has_kind.true)) (sym c.blocks_plugged.ensures ∙ c.if-not-blocks_plugged.true) ∙ read_whole c.count.ensures.judged c.requires.spot (omega (arith, c.if-count-at.false, c.count.ensures.count)) (plugged_in c.args.guest.now.blocks.size c.args.guest.now.blocks.plugged.now) c.args.w (sym c.width_ok.ensures ∙ c.if-not-width_ok.false)
    c.is_whole.result c.is_whole.ensures (ap not c.if-not-is_whole.false) c.range-range.ensures.range c.offset_in-offset.ensures

pub place_of-place-requires : goal.place_of-place-requires
place_of-place-requires c =
    let h : c.args.at < (view_of c.args.guest.now.view).count = omega (arith, c.if-count-at.false, c.count.ensures.count) in
    omega (arith, c.offset_in-offset.ensures, read_place c.count.ensures.judged c.requires.spot h c.range-range.ensures.range (sym (ap₂ ◌||◌ c.has_kind-2.ensures c.has_kind-3.ensures) ∙ c.if-has_kind-2.true))

pub returns-then-has_kind-2 : goal.returns-then-has_kind-2
returns-then-has_kind-2 c =
    whole_memory (plugged_in c.args.guest.now.blocks.size c.args.guest.now.blocks.plugged.now) c.range-range.result c.offset_in-offset.result.0 c.args.w (sym (ap₂ ◌||◌ c.has_kind-2.ensures c.has_kind-3.ensures) ∙ c.if-has_kind-2.true)
    (elim c.if-has_kind.branch [ then-has_kind+else-not-blocks_plugged w ↦ λ e. sym w.blocks_plugged.ensures ∙ w.if-not-blocks_plugged.false | else-has_kind w ↦ λ e. absurd (eqb-false _ _ (sym c.has_kind.ensures ∙ w.if-has_kind.false) e) ]) c.place_of-place.result c.place_of-place.ensures ∙ read_whole c.count.ensures.judged c.requires.spot (omega (arith, c.if-count-at.false, c.count.ensures.count)) (plugged_in c.args.guest.now.blocks.size c.args.guest.now.blocks.plugged.now) c.args.w (sym c.width_ok.ensures ∙ c.if-not-width_ok.false)
    c.is_whole.result c.is_whole.ensures (ap not c.if-not-is_whole.false) c.range-range.ensures.range c.offset_in-offset.ensures

pub returns-then-has_kind-3 : goal.returns-then-has_kind-3
returns-then-has_kind-3 c =
    whole_port (plugged_in c.args.guest.now.blocks.size c.args.guest.now.blocks.plugged.now) c.range-range.result c.offset_in-offset.result.0 c.args.w (eqb-true _ _ (sym c.has_kind-4.ensures ∙ c.if-has_kind-3.true)) ∙ read_whole c.count.ensures.judged c.requires.spot (omega (arith, c.if-count-at.false, c.count.ensures.count)) (plugged_in c.args.guest.now.blocks.size c.args.guest.now.blocks.plugged.now) c.args.w (sym c.width_ok.ensures ∙ c.if-not-width_ok.false)
    c.is_whole.result c.is_whole.ensures (ap not c.if-not-is_whole.false) c.range-range.ensures.range c.offset_in-offset.ensures

pub returns : goal.returns
returns c =
    whole_none (plugged_in c.args.guest.now.blocks.size c.args.guest.now.blocks.plugged.now) c.range-range.result c.offset_in-offset.result.0 c.args.w (sym (ap₂ ◌||◌ c.has_kind-2.ensures c.has_kind-3.ensures) ∙ c.if-has_kind-2.false) (eqb-false _ _ (sym c.has_kind-4.ensures ∙ c.if-has_kind-3.false)) ∙ read_whole c.count.ensures.judged c.requires.spot (omega (arith, c.if-count-at.false, c.count.ensures.count)) (plugged_in c.args.guest.now.blocks.size c.args.guest.now.blocks.plugged.now) c.args.w (sym c.width_ok.ensures ∙ c.if-not-width_ok.false)
    c.is_whole.result c.is_whole.ensures (ap not c.if-not-is_whole.false) c.range-range.ensures.range c.offset_in-offset.ensures
