-- `region_map::flat::sweep` meets its contract. Assumes nothing.
use mathlib.Core.Path.{◌≡◌, refl, sym, ap, ◌∙◌}
use Rattle.std.proofs.lemmas.Result.{err_from_is_err_and}
use Prim.Native.Nat.{ℕ, ◌-◌, ◌<◌}
use native.Mathlib.Omega.{arith}
use Rattle.map_records.specs.Map.{region}
use Rattle.map_records.specs.Words.{map_of, view_of}
use Rattle.map_records.specs.declared.map.Region.{Region}
use Rattle.region_map.specs.Walk.{walk_root}
use Rattle.region_map.specs.FlatList.{flat}
use Rattle.region_map.specs.Flatten.{backing_of, root_size, flat_list}
use Rattle.map_check.proofs.MapWords.{checked_some, checked_walkable}
use Rattle.region_map.proofs.RenderLaws.{whole_from}
use Rattle.region_map.proofs.ViewLaws.{start, still_full, kept}
use Rattle.region_map.proofs.flat.sweep.Goals as goal

pub loop-at-init : goal.loop-at-init
loop-at-init c =
    let m = map_of c.args.map.now in
    let h = start (backing_of m) (walk_root m) (view_of c.args.view.now) c.requires in
    (omega arith, record { words = c.told-view; few = h.0 }, h.1, λ b. b)

pub emit-requires : goal.emit-requires
emit-requires c =
    let m = map_of c.args.map.now in
    let l = c.loop-at in
    let b = c.begin.ensures in
    let r = c.render.ensures in
    let root : c.count-root.result - 1 ≡ m.count - 1 = omega (arith, c.count-root.ensures.count) in
    record {
      room = l.invariant.1;
      pieces = r.kept;
      list = l.invariant.2 ∙ ap (flat (backing_of m) (walk_root m)) (sym (r.start ∙ b.first));
      whole = whole_from m _ root _ _ _ _ _ b.none b.first b.horizon c.root_offset-offset.ensures r;
    }

pub returns-in_err-emit : goal.returns-in_err-emit
unfolding flat_list
returns-in_err-emit c =
    let m = map_of c.args.map.now in
    let e = c.in_err-emit.ensures in
    let root : c.count-root.result - 1 ≡ m.count - 1 = omega (arith, c.count-root.ensures.count) in
    let end : c.root_end-end.result.0 ≡ root_size m = c.root_end-end.ensures ∙ ap (λ (r : Region). r.size) c.region_in-region.ensures.region ∙ ap (λ (n : ℕ). (region m n).size) root in
    let r = err_from_is_err_and c.from_residual.result c.from_residual.ensures.1 in
    rw r.1 (record {
      grew = still_full _ _ _ _ _ (omega (arith, c.render.ensures.within, c.begin.ensures.horizon, end)) refl e.grew;
      blank = λ b. e.blank (c.loop-at.invariant.3 b);
      words = e.words;
    })

pub returns : goal.returns
unfolding flat_list
returns c =
    let m = map_of c.args.map.now in
    let l = c.loop-at in
    let root : c.count-root.result - 1 ≡ m.count - 1 = omega (arith, c.count-root.ensures.count) in
    let end : c.root_end-end.result.0 ≡ root_size m = c.root_end-end.ensures ∙ ap (λ (r : Region). r.size) c.region_in-region.ensures.region ∙ ap (λ (n : ℕ). (region m n).size) root in
    let e : l.at.0 ≡ root_size m = omega (arith, l.invariant.0, c.loop-at-test.false, end) in
    record {
      grew = kept (view_of l.view) l.invariant.1.few _ (l.invariant.2 ∙ ap (flat (backing_of m) (walk_root m)) e);
      blank = l.invariant.3;
      words = l.invariant.1.words;
    }

pub overflow_sub-root : goal.overflow_sub-root
overflow_sub-root c = omega (arith, checked_some _ c.count-root.ensures.checked, c.count-root.ensures.count)

pub region_in-region-requires : goal.region_in-region-requires
region_in-region-requires c = omega (arith, checked_some _ c.count-root.ensures.checked, c.count-root.ensures.count)

pub begin-requires : goal.begin-requires
begin-requires c =
    let some = checked_some _ c.count-root.ensures.checked in
    let root : c.count-root.result - 1 < (map_of c.args.map.now).count = omega (arith, some, c.count-root.ensures.count) in
    (c.loop-at-test.true, omega (arith, c.root_end-end.ensures, ap (λ (r : Region). r.size) c.region_in-region.ensures.region, (checked_walkable _ c.count-root.ensures.checked).sizes _ root))

pub render-requires-clause-in_map : goal.render-requires-clause-in_map
render-requires-clause-in_map c = omega (arith, checked_some _ c.count-root.ensures.checked, c.count-root.ensures.count)
