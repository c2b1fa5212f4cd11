-- `region_map::flat::push_range` meets its contract. Assumes nothing.
use mathlib.Core.Path.{◌≡◌, sym, subst, ap, ◌∙◌}
use mathlib.Core.Bool.{false}
use mathlib.Core.List.{List}
use Rattle.std.specs.Prelude.{Ok}
use Prim.Native.Nat.{ℕ, ◌+◌, ◌-◌, ◌≤◌, ◌<◌}
use native.Mathlib.Omega.{arith}
use lib.ListN.{set}
use Rattle.map_records.specs.View.{range_of, entries}
use Rattle.map_records.specs.Words.{view_of}
use Rattle.map_records.specs.declared.view.FlatRange.{FlatRange}
use Rattle.region_map.specs.FlatList.{joins, push}
use Rattle.region_map.specs.Promises.{Grows}
use Rattle.region_map.proofs.ViewWords.{grew_words, added_words, refused_words}
use Rattle.region_map.proofs.flat.push_range.Goals.{then-n-gt0+else-goes_on, else-n-gt0}
use Rattle.region_map.proofs.flat.push_range.Goals as goal

pub range_at-x-requires : goal.range_at-x-requires
range_at-x-requires c = omega (arith, c.if-n-gt0.true, c.count_of-n.ensures, c.requires.0.few)

pub goes_on-requires : goal.goes_on-requires
goes_on-requires c =
    let n = c.count_of-n.ensures in
    let k = c.count_of-n.result - 1 in
    subst (λ (x : FlatRange). x.first.0 ≤ x.last.0) (sym c.range_at-x.ensures)
    (c.requires.1 k (omega (arith, n, c.if-n-gt0.true)))

pub put_range-requires : goal.put_range-requires
put_range-requires c = omega (arith, c.if-n-gt0.true, c.count_of-n.ensures, c.requires.0.few)

pub returns-then-goes_on : goal.returns-then-goes_on
returns-then-goes_on c =
    let n = c.count_of-n in
    subst (λ (x : List ℕ). Grows (push (entries (view_of c.args.view.now)) c.args.r) c.args.view.now (Ok tt) x) (sym c.put_range.ensures)
    (grew_words c.args.view.now c.args.r c.requires.0 (n.result - 1) (omega (arith, n.ensures, c.if-n-gt0.true)) (omega (arith, n.ensures)) c.range_at-x.result c.range_at-x.ensures (sym c.goes_on.ensures ∙ c.if-goes_on.true))

pub returns-then-n-eq-RANGES : goal.returns-then-n-eq-RANGES
returns-then-n-eq-RANGES c =
    let n = c.count_of-n.ensures in
    let v = view_of c.args.view.now in
    let k : c.count_of-n.result - 1 ≡ v.count - 1 = omega (arith, n) in
    let behind : 0 < v.count → joins (range_of v (v.count - 1)) c.args.r ≡ false = elim c.if-n-gt0.branch [
      | then-n-gt0+else-goes_on w ↦ λ p. subst (λ (x : FlatRange). joins x c.args.r ≡ false) (w.range_at-x.ensures ∙ ap (range_of v) k) (sym w.goes_on.ensures ∙ w.if-goes_on.false)
      | else-n-gt0 w ↦ λ p. absurd (omega (arith, w.if-n-gt0.false, n))
    ] in
    refused_words c.args.view.now c.args.r c.requires.0 behind _ (sym c.count_of-n.ensures ∙ c.if-n-eq-RANGES.true)

pub put_range-requires-2 : goal.put_range-requires-2
put_range-requires-2 c = omega (arith, c.if-n-eq-RANGES.false, c.count_of-n.ensures, c.requires.0.few)

pub returns : goal.returns
returns c =
    let n = c.count_of-n.ensures in
    let v = view_of c.args.view.now in
    let k : c.count_of-n.result - 1 ≡ v.count - 1 = omega (arith, n) in
    let behind : 0 < v.count → joins (range_of v (v.count - 1)) c.args.r ≡ false = elim c.if-n-gt0.branch [
      | then-n-gt0+else-goes_on w ↦ λ p. subst (λ (x : FlatRange). joins x c.args.r ≡ false) (w.range_at-x.ensures ∙ ap (range_of v) k) (sym w.goes_on.ensures ∙ w.if-goes_on.false)
      | else-n-gt0 w ↦ λ p. absurd (omega (arith, w.if-n-gt0.false, n))
    ] in
    subst (λ (x : List ℕ). Grows (push (entries v) c.args.r) c.args.view.now (Ok tt) x)
    (sym (c.put_count.ensures ∙ ap (λ (x : List ℕ). set x 0 (c.count_of-n.result + 1)) c.put_range-2.ensures))
    (added_words c.args.view.now c.args.r c.requires.0 behind c.count_of-n.result n (omega (arith, c.if-n-eq-RANGES.false, n, c.requires.0.few)))
