-- `region_map::flat::emit` meets its contract. Assumes nothing.
use mathlib.Core.Path.{refl, ap}
use native.Mathlib.Omega.{arith}
use Rattle.std.specs.Prelude.{is_err}
use Rattle.std.proofs.lemmas.Result.{err_from_is_err_and}
use Rattle.map_records.specs.Words.{map_of, view_of}
use Rattle.region_map.specs.Walk.{walk_root}
use Rattle.region_map.specs.Flatten.{backing_of}
use Rattle.region_map.proofs.FillLaws.{items_long}
use Rattle.region_map.proofs.RenderLaws.{none_emitted, all_emitted}
use Rattle.region_map.proofs.EmitLaws.{item_region, stop_some, two, item_grew, item_emitted}
use Rattle.region_map.proofs.ViewLaws.{still_full, kept}
use Rattle.region_map.proofs.ViewWords.{filled_words}
use Rattle.region_map.proofs.flat.emit.Goals as goal

pub loop-piece-init : goal.loop-piece-init
loop-piece-init c =
    (c.requires.room, none_emitted (backing_of (map_of c.args.map.now)) (walk_root (map_of c.args.map.now)) _ c.requires.pieces _ c.requires.list, λ b. b)

pub backing_of-backing-requires : goal.backing_of-backing-requires
backing_of-backing-requires c =
    let m = map_of c.args.map.now in
    item_region (backing_of m) (walk_root m) c.args.table.now c.requires.pieces _ c.pieces-piece-items.ensures c.loop-piece.piece-index c.loop-piece-test.true

pub last_before-requires : goal.last_before-requires
last_before-requires c =
    let m = map_of c.args.map.now in
    stop_some (backing_of m) (walk_root m) c.args.table.now c.requires.pieces _ c.pieces-piece-items.ensures c.loop-piece.piece-index c.loop-piece-test.true _ (rw c.horizon.ensures at c.nearer-stop.ensures)

pub push_range-requires : goal.push_range-requires
push_range-requires c =
    let l = c.loop-piece in
    (l.invariant.0, filled_words l.view l.invariant.0 (backing_of (map_of c.args.map.now)) (walk_root (map_of c.args.map.now)) l.invariant.1.at l.invariant.1.list)

pub returns-in_err-push_range : goal.returns-in_err-push_range
returns-in_err-push_range c =
    let m = map_of c.args.map.now in
    let l = c.loop-piece in
    let xs = c.pieces-piece-items in
    let nearer = rw c.horizon.ensures at c.nearer-stop.ensures in
    let grew = item_grew (backing_of m) (walk_root m) c.args.table.now c.requires.pieces _ xs.ensures l.piece-index c.loop-piece-test.true _ nearer c.requires.whole _ l.invariant.1 c.last_before.result c.last_before.ensures _ c.backing_of-backing.ensures _ c.in_err-push_range.ensures.grew in
    let e = err_from_is_err_and c.from_residual.result c.from_residual.ensures.1 in
    rw e.1 (record { grew = still_full _ _ _ _ _ (two (backing_of m) (walk_root m) c.args.table.now c.requires.pieces _ xs.ensures l.piece-index c.loop-piece-test.true _ nearer) refl grew; blank = λ b. c.push_range.ensures.blank (l.invariant.2 b); words = c.push_range.ensures.words })

pub loop-piece-preserved : goal.loop-piece-preserved
loop-piece-preserved c =
    let m = map_of c.args.map.now in
    let l = c.loop-piece in
    let xs = c.pieces-piece-items in
    let nearer = rw c.horizon.ensures at c.nearer-stop.ensures in
    let grew = item_grew (backing_of m) (walk_root m) c.args.table.now c.requires.pieces _ xs.ensures l.piece-index c.loop-piece-test.true _ nearer c.requires.whole _ l.invariant.1 c.last_before.result c.last_before.ensures _ c.backing_of-backing.ensures _ c.push_range.ensures.grew in (
      record { words = c.push_range.ensures.words; few = grew.room },
      item_emitted (backing_of m) (walk_root m) c.args.table.now c.requires.pieces _ xs.ensures l.piece-index c.loop-piece-test.true _ nearer c.requires.whole _ l.invariant.1 _ (grew.list (ap is_err c.in_ok-push_range.was)),
      λ b. c.push_range.ensures.blank (l.invariant.2 b),
    )

pub returns : goal.returns
returns c =
    let m = map_of c.args.map.now in
    let l = c.loop-piece in
    record {
      grew = kept (view_of l.view) l.invariant.0.few _ (all_emitted (backing_of m) (walk_root m) c.args.table.now c.requires.pieces c.requires.whole l.piece-index _ (omega (arith, c.loop-piece-test.false, items_long c.args.table.now c.requires.pieces _ c.pieces-piece-items.ensures)) l.invariant.1);
      blank = l.invariant.2;
      words = l.invariant.0.words;
    }
