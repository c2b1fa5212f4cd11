-- `guest_view::rules::words_ok` meets its contract. Assumes nothing.
use native.Mathlib.Omega.{arith}
use mathlib.Core.Path.{◌≡◌, refl, sym, ap, ◌∙◌, subst}
use mathlib.Core.Bool.{Bool, true}
use mathlib.Core.List.{List}
use Prim.Native.Nat.{ℕ, ◌+◌, ◌<◌}
use lib.ListN.{length, length-set}
use Rattle.map_records.specs.declared.view.FlatRange.{FlatRange}
use Rattle.device_words.specs.Table.{all_below}
use Rattle.device_words.proofs.TableLaws.{all_of}
use Rattle.map_records.specs.Words.{view_of}
use Rattle.guest_view.specs.View.{range_ok, entry_ok}
use Rattle.guest_view.specs.Promises.{Owners}
use Rattle.guest_view.proofs.RuleLaws.{range_facts, owners_none, owners_known, owners_new, all_next, view_many, view_not, view_of_lem, entry_no_range, entry_no_pairs, entry_of, entries_ascend, entries_order}
use Rattle.guest_view.proofs.rules.words_ok.Goals as goal
use Rattle.guest_view.proofs.rules.words_ok.Goals.{then-first-eq0, else-first-eq0}

-- what the test of a range that was read says of the view's own
tested : (memory region : ℕ) (x : FlatRange) {r : FlatRange} {b : Bool} → r ≡ x → b ≡ range_ok memory region r → b ≡ range_ok memory region x
tested memory region x same e = e ∙ ap (range_ok memory region) same

known_region : (memory region : ℕ) (x : FlatRange) {r : FlatRange} {b : Bool} → r ≡ x → b ≡ range_ok memory region r → b ≡ true → r.region < 32
known_region memory region x same e passed =
    let f = range_facts memory region x (sym (tested memory region x same e) ∙ passed) in
    omega (arith, f.known, ap (λ (r : FlatRange). r.region) same)

pub returns-then-count-gt-RANGES : goal.returns-then-count-gt-RANGES
returns-then-count-gt-RANGES c = sym (view_many (view_of c.args.view.now) c.args.memory c.args.region (omega (arith, c.if-count-gt-RANGES.true, c.count_of-count.ensures)))

pub loop-k-init : goal.loop-k-init
loop-k-init c =
    let a = c.args in
    let v = view_of a.view.now in
    (omega arith, c.if-count-gt-RANGES.false, all_of (entry_ok v a.memory a.region) 0 (λ b h. absurd (omega arith)), owners_none v, refl)

pub range_at-range-requires : goal.range_at-range-requires
range_at-range-requires c = omega (arith, c.loop-k-test.true, c.loop-k.invariant.1)

pub returns-then-not-range_ok : goal.returns-then-not-range_ok
returns-then-not-range_ok c =
    let a = c.args in
    let v = view_of a.view.now in
    let k = c.loop-k.k in
    sym (view_not v a.memory a.region k (omega (arith, c.loop-k-test.true, c.count_of-count.ensures))
    (entry_no_range v a.memory a.region k (sym (tested _ _ _ c.range_at-range.ensures c.range_ok.ensures) ∙ c.if-not-range_ok.true)))

pub offset_bounds-owner-n : goal.offset_bounds-owner-n
offset_bounds-owner-n c = omega (arith, (known_region _ _ _ c.range_at-range.ensures c.range_ok.ensures c.if-not-range_ok.false))

pub bounds-owner-n : goal.bounds-owner-n
bounds-owner-n c = (known_region _ _ _ c.range_at-range.ensures c.range_ok.ensures c.if-not-range_ok.false)

pub pairs_ok-requires : goal.pairs_ok-requires
pairs_ok-requires c =
    let a = c.args in
    let v = view_of a.view.now in
    let l = c.loop-k in record { k_lt_most_ranges = (omega (arith, c.loop-k-test.true, l.invariant.1), c.range_at-range.ensures); owner = (l.invariant.3.each c.range_at-range.result.region (known_region _ _ _ c.range_at-range.ensures c.range_ok.ensures c.if-not-range_ok.false), record { apart = entries_ascend v a.memory a.region l.k l.invariant.2; order = entries_order v a.memory a.region l.k l.invariant.2 }) }

pub returns-then-not-pairs_ok : goal.returns-then-not-pairs_ok
returns-then-not-pairs_ok c =
    let a = c.args in
    let v = view_of a.view.now in
    let k = c.loop-k.k in
    sym (view_not v a.memory a.region k (omega (arith, c.loop-k-test.true, c.count_of-count.ensures))
    (entry_no_pairs v a.memory a.region k (sym c.pairs_ok.ensures ∙ c.if-not-pairs_ok.true)))

pub overflow_add-owner : goal.overflow_add-owner
overflow_add-owner c = omega (arith, c.loop-k-test.true, c.loop-k.invariant.1)

pub offset_bounds-owner-n-then-first-eq0 : goal.offset_bounds-owner-n-then-first-eq0
offset_bounds-owner-n-then-first-eq0 c = omega (arith, (known_region _ _ _ c.range_at-range.ensures c.range_ok.ensures c.if-not-range_ok.false))

pub bounds-owner-n-then-first-eq0 : goal.bounds-owner-n-then-first-eq0
bounds-owner-n-then-first-eq0 c = (known_region _ _ _ c.range_at-range.ensures c.range_ok.ensures c.if-not-range_ok.false)

pub loop-k-preserved : goal.loop-k-preserved
loop-k-preserved c =
    let a = c.args in
    let v = view_of a.view.now in
    let l = c.loop-k in
    let k = l.k in
    let p = sym c.pairs_ok.ensures ∙ c.if-not-pairs_ok.false in
    let same = sym (ap (λ (r : FlatRange). r.region) c.range_at-range.ensures) in
    let n = c.range_at-range.result.region in
    let owners : Owners v (k + 1) c.if-first-eq0.owner × (length c.if-first-eq0.owner ≡ 32) =
    elim c.if-first-eq0.branch [
      | then-first-eq0 w ↦ subst (λ (t : List ℕ). Owners v (k + 1) t × (length t ≡ 32)) (sym w.owner-is)
          (owners_new v k l.owner l.invariant.3 n same p l.invariant.4 (known_region _ _ _ c.range_at-range.ensures c.range_ok.ensures c.if-not-range_ok.false), length-set l.owner n (k + 1) ∙ l.invariant.4)
      | else-first-eq0 w ↦ subst (λ (t : List ℕ). Owners v (k + 1) t × (length t ≡ 32)) (sym w.owner-is)
          (owners_known v k l.owner l.invariant.3 n same p (omega arith), l.invariant.4)
    ] in (
      omega (arith, c.loop-k-test.true),
      l.invariant.1,
      all_next (entry_ok v a.memory a.region) k l.invariant.2 (entry_of v a.memory a.region k (sym (tested _ _ _ c.range_at-range.ensures c.range_ok.ensures) ∙ c.if-not-range_ok.false) p),
      owners.0,
      owners.1,
    )

pub returns : goal.returns
returns c =
    let a = c.args in
    let v = view_of a.view.now in
    let l = c.loop-k in
    let e : l.k ≡ v.count = omega (arith, l.invariant.0, c.loop-k-test.false, c.count_of-count.ensures) in
    sym (view_of_lem v a.memory a.region (omega (arith, l.invariant.1, c.count_of-count.ensures)) (subst (λ (x : ℕ). all_below (entry_ok v a.memory a.region) x ≡ true) e l.invariant.2))
