-- Laws of a search in a view that ascends: what an address answers, from the range that holds it or from its lying between two. Assumes nothing.
use mathlib.Core.Logic.{⊎_elim}
use mathlib.Core.Path.{◌≡◌, ap, ◌∙◌}
use mathlib.Core.Bool.{Bool, false}
use Prim.Native.Nat.{ℕ, ◌≤◌, ◌<◌}
use native.Mathlib.Nat.{eq-or-lt_of_le}
use native.Mathlib.Omega.{arith}
use lib.ListN.{length, get_or}
use lib.Seq.{get_or-take, length-take-le}
use Rattle.region_map.specs.FlatList.{inside}
use Rattle.map_records.specs.View.{entries, no_range}
use Rattle.map_records.specs.View.{range_of}
use Rattle.map_records.specs.declared.view.FlatRange.{FlatRange}
use Rattle.map_records.specs.declared.view.FlatView.{FlatView}
use Rattle.region_map.proofs.RangeTests.{inside_before, inside_beyond}
use Rattle.region_map.proofs.ListLaws.{given_by, none_given}
use Rattle.map_records.proofs.Order.{side}
use Rattle.guest_view.specs.Guest.{nowhere, leaf_in, leaf_at}
use Rattle.guest_view.specs.Promises.{Ordered, Spot}

module _ (v : FlatView) (full : v.count ≤ length v.ranges) where
  is_range : (k : ℕ) → k < v.count → get_or (entries v) k no_range ≡ range_of v k
  is_range k h = get_or-take v.count v.ranges k no_range h

  is_inside : (k a : ℕ) (b : Bool) → k < v.count → inside (range_of v k) a ≡ b → inside (get_or (entries v) k no_range) a ≡ b
  is_inside k a b h e = ap (λ (r : FlatRange). inside r a) (is_range k h) ∙ e

  pub none_holds : (a : ℕ) → ((j : ℕ) → j < v.count → inside (range_of v j) a ≡ false) → leaf_at (entries v) a ≡ nowhere
  none_holds a p = none_given nowhere leaf_in (entries v) a (λ j h. let q : j < v.count = omega (arith, length-take-le v.count v.ranges full) in is_inside j a false q (p j q))

  -- an address that no range holds
  pub spot_none : (a : ℕ) → ((j : ℕ) → j < v.count → inside (range_of v j) a ≡ false) → Spot v a v.count
  spot_none a p =
      record { bound = omega arith; low = λ h. absurd (omega arith); high = λ h. absurd (omega arith); found = λ h. absurd (omega arith); missed = λ _. none_holds a p }

module _ (v : FlatView) (full : v.count ≤ length v.ranges) (o : Ordered v) where
  -- an address in range k is answered there
  pub at_range : (k a : ℕ) → k < v.count → (range_of v k).first.0 ≤ a → a ≤ (range_of v k).last.0 → leaf_at (entries v) a ≡ leaf_in (range_of v k) a
  at_range k a h p q =
      let e = is_range v full in
      given_by nowhere leaf_in (entries v) k a (omega (arith, length-take-le v.count v.ranges full)) (rw (e k h) p) (rw (e k h) q)
      (λ j i. rw (e j (omega arith)) (omega (arith, o.apart j k i h)))
      ∙ ap (λ (r : FlatRange). leaf_in r a) (e k h)

  pub spot_at : (k a : ℕ) → k < v.count → (range_of v k).first.0 ≤ a → a ≤ (range_of v k).last.0 → Spot v a k
  spot_at k a h p q = record { bound = omega arith; low = λ _. p; high = λ _. q; found = λ _. at_range k a h p q; missed = λ m. absurd (omega arith) }

  -- what a search by halving knows: the last addresses and the first ones ascend
  pub last_up : (j k : ℕ) → j ≤ k → k < v.count → (range_of v j).last.0 ≤ (range_of v k).last.0
  last_up j k p h =
      ⊎_elim (λ e. omega (arith, ap (λ (x : ℕ). (range_of v x).last.0) e)) (λ lt. omega (arith, o.apart j k lt h, o.order k h)) (eq-or-lt_of_le p)

  first_up : (j k : ℕ) → j ≤ k → k < v.count → (range_of v j).first.0 ≤ (range_of v k).first.0
  first_up j k p h =
      ⊎_elim (λ e. omega (arith, ap (λ (x : ℕ). (range_of v x).first.0) e)) (λ lt. omega (arith, o.apart j k lt h, o.order j (omega arith))) (eq-or-lt_of_le p)

  -- past all ranges, and between two
  pub spot_past : (a : ℕ) → ((j : ℕ) → j < v.count → (range_of v j).last.0 < a) → Spot v a v.count
  spot_past a p = spot_none v full a (λ j h. inside_beyond (range_of v j) a (p j h))

  pub spot_between : (k a : ℕ) → ((j : ℕ) → j < k → (range_of v j).last.0 < a) → a < (range_of v k).first.0 → Spot v a v.count
  spot_between k a p q =
      spot_none v full a (λ j h. ⊎_elim (λ lt. inside_beyond (range_of v j) a (p j lt)) (λ ge. inside_before (range_of v j) a (omega (arith, first_up k j ge h))) (side j k))
