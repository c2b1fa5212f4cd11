-- `region_map::children::next_child` meets its contract. The loop's invariant: `best` is 0 or one more than a child's rank below `below`, and no node that
-- was looked at has a higher one below it. The measure is what is left of the nodes below n. Assumes nothing.
use mathlib.Core.Path.{◌≡◌, refl, subst, sym, ap, ◌∙◌}
use mathlib.Core.Bool.{Bool, true, false}
use mathlib.Core.Logic.{◌⊎◌, inl, inr, ⊎_elim}
use Prim.Native.Nat.{ℕ, zero, suc, ◌+◌, ◌-◌, ◌%◌, ◌≤◌, ◌<◌}
use native.Mathlib.Omega.{arith}
use Rattle.map_records.specs.declared.map.Region.{Region}
use Rattle.map_records.specs.declared.map.RegionMap.{RegionMap}
use Rattle.map_records.specs.Map.{region}
use Rattle.map_check.specs.Clash.{priority_of}
use Rattle.std.specs.Prelude.{Option, Some, None, SomeIff}
use Rattle.region_map.specs.Promises.{past}
use Rattle.region_map.specs.Walk.{rank, ranked}
use Rattle.map_records.specs.Words.{map_of}
use Rattle.map_check.proofs.MapWords.{checked_walkable}
use Rattle.region_map.proofs.WalkLaws.{looked, is_ranked, child_below}
use Rattle.region_map.proofs.children.next_child.Invariants.{Looked}
use Rattle.region_map.proofs.children.next_child.Goals.{then-region_in-n+then-r-below+then-best-r, then-region_in-n+else-r-below, else-region_in-n}
use Rattle.region_map.proofs.children.next_child.Goals as goal

kept : (m : RegionMap) (n below best best' c : ℕ) → Looked m n below best c → c < n → best' ≡ best → ((region m c).parent ≡ n + 1 → (rank priority_of m c < best) ⊎ (below ≤ rank priority_of m c)) → Looked m n below best' (c + 1)
kept m n below best best' c l h e new = rw e (omega arith, l.1, l.2, looked m n best below c l.3 new)

found : (m : RegionMap) (n below best best' c : ℕ) → Looked m n below best c → c < n → c < 32 → best' ≡ rank priority_of m c + 1 → (region m c).parent ≡ n + 1 → rank priority_of m c < below → best ≤ rank priority_of m c → Looked m n below best' (c + 1)
found m n below best best' c l h w e p lt le = (
  omega arith,
  omega arith,
  λ k q. let s : rank priority_of m c ≡ k = omega arith in subst (λ (j : ℕ). ranked priority_of m n j ≡ true) s (is_ranked m n c h w p),
  looked m n best' below c (λ k a b d. l.3 k (omega arith) b d) (λ _. inl (omega arith)),
)

-- one less, where there is one
past_is : (best : ℕ) (r : Option ℕ) → SomeIff r (1 ≤ best) (best - 1) → past r ≡ best
past_is zero None h = refl
past_is (suc best) None h = absurd (h (omega arith))
past_is best (Some k) h = omega arith

only : (x : Bool) → (x ≡ true → x ≡ false) → x ≡ false
only true f = f refl
only false f = refl

pub loop-c-init : goal.loop-c-init
loop-c-init c = (omega arith, omega arith, λ k e. absurd (omega arith), λ k a b d. absurd (omega arith))

pub overflow_add-n : goal.overflow_add-n
overflow_add-n c =
    omega (arith, c.requires.0, (checked_walkable _ c.region_in.ensures.checked).count)

pub overflow_add-best : goal.overflow_add-best
overflow_add-best c =
    omega (arith, c.if-r-below.true, c.requires.1)

pub overflow_step-c : goal.overflow_step-c
overflow_step-c c = omega (arith, c.loop-c-test.true, c.ranges.n.fits)

pub loop-c-smaller : goal.loop-c-smaller
loop-c-smaller c = omega (arith, c.loop-c-test.true)

pub loop-c-preserved : goal.loop-c-preserved
loop-c-preserved c =
    let a = c.args in
    let m = map_of a.map.now in
    let l = c.loop-c in
    let lt = c.loop-c-test.true in
    let parent = ap (λ (r : Region). r.parent) c.region_in.ensures.region in
    let go_on : (c.if-region_in-n.best ≡ l.best) → ((region m l.c).parent ≡ a.n + 1 → (rank priority_of m l.c < l.best) ⊎ (a.below ≤ rank priority_of m l.c)) → Looked m a.n a.below c.if-region_in-n.best (l.c + 1)
    = kept m a.n a.below l.best c.if-region_in-n.best l.c l.invariant lt in
    elim c.if-region_in-n.branch [
      | then-region_in-n+then-r-below+then-best-r w ↦ found m a.n a.below l.best c.if-region_in-n.best l.c l.invariant lt (omega (arith, lt, c.requires.0, (checked_walkable _ c.region_in.ensures.checked).count)) (omega arith) (sym parent ∙ w.if-region_in-n.true) (omega arith) (omega arith)
      | then-region_in-n+else-r-below w ↦ go_on w.best-is (λ _. ⊎_elim (λ p. inl (omega arith)) (λ q. inr (omega arith)) w.else-r-below.either)
      | else-region_in-n w ↦ go_on w.best-is (λ p. absurd (w.if-region_in-n.false (parent ∙ p)))
    ]

pub returns : goal.returns
returns c =
    let l = c.loop-c in
    let a = c.args in
    let m = map_of a.map.now in
    let e = past_is l.best c.checked_sub.result c.checked_sub.ensures in
    record {
      within = omega (arith, e, l.invariant.1);
      found = λ k q. l.invariant.2 k (omega (arith, e, ap past q));
      above = λ k x y. only (ranked priority_of m a.n k)
          (λ t. l.invariant.3 k (omega (arith, e, x)) y (let h : k % 32 < a.n = child_below m _ k t in omega (arith, h, c.loop-c-test.false)));
    }
