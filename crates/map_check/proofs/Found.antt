-- What the two searches find, and the check as its parts. Assumes nothing.
use mathlib.Core.Path.{◌≡◌, refl, sym, ap, ◌∙◌}
use borrow.Author.Tests.{ne_eqb, le-ltb, eqb-false, ltb-false}
use lib.Dec.{eqb, ltb}
use mathlib.Core.Bool.{Bool, true, false, cond, ◌&&◌}
use native.Mathlib.Omega.{arith}
use Rattle.std.proofs.Common.{Option, Some, None, ◌≤◌, ◌<◌}
use Rattle.std.specs.Option.{MatchOption}
use Rattle.map_check.specs.Reply.{Reply, accepted, nodes, place, plain, ◌then◌, passes, number_of, first, lowest, pairs_of, first_pair}
use Rattle.map_check.specs.Promises.{Tests, TestsPairs, pairs, LowestIs, FirstIs, on_regions, on_pairs}
use Rattle.map_check.specs.Check.{fault_reply, count_fault, judged_by, judged}
use Rattle.map_check.specs.declared.check.MapFault.{MapFault}
use Rattle.map_check.proofs.Answers.{fault_form}
use Rattle.map_check.proofs.Bools.{or_left, or_right}
use Rattle.map_check.specs.Clash.{priority_of, memory_clash, managed_clash, port_clash, sibling_clash}
use Prim.Native.Nat.{ℕ, zero, suc}
use Rattle.map_records.specs.Map.{region}
use Rattle.map_records.specs.declared.map.Region.{Region}
use Rattle.map_records.specs.declared.map.RegionMap.{RegionMap}
use Rattle.map_check.proofs.First.{then_four, refused_stays, lowest_none, lowest_at, pair_none, pair_at}

-- the first number of a range that was answered true, by a rule that the answers go by
pub lowest_is : (rule : ℕ → Bool) (n : ℕ) (r : Option ℕ) {answers : ℕ → Bool → Type 0}
    → MatchOption r ((k : ℕ) → 0 ≤ k → k < n → answers k false) (λ i. (0 ≤ i) × (i < n) × answers i true × ((k : ℕ) → 0 ≤ k → k < i → answers k false))
    → Tests n rule answers → LowestIs rule n r
lowest_is rule n None h tests = λ k. lowest_none rule k n (λ i p. sym (tests i false p (h i (omega arith) p)))
lowest_is rule n (Some i) h tests =
    λ k. lowest_at rule k n i h.1 (λ j p. sym (tests j false (omega arith) (h.3 j (omega arith) p))) (sym (tests i true h.1 h.2))

-- the first pair that was answered true, and none, of a map that was read
module _ (m : RegionMap) (rule : Region → Region → Bool) {answers : Region → Region → Bool → Type 0} (tests : TestsPairs rule answers)
    (n : ℕ) (read : n ≡ m.count) where
  pub pair_found : (i j : ℕ) (x y : Region) → x ≡ region m i → y ≡ region m j → i < j → j < n
      → ((a : ℕ) → a < i → (b : ℕ) → b < n → a < b → answers (region m a) (region m b) false) → ((b : ℕ) → b < j → i < b → answers x (region m b) false)
      → answers x y true → FirstIs (pairs m rule) m.count (Some (i, j))
  pair_found i j x y e f p q above before here =
      λ k. pair_at (pairs m rule) k m.count i j p (omega arith) (λ a r b s t. sym (tests _ _ false (above a r b (omega arith) t)))
      (λ b r s. rw (← e) (sym (tests _ _ false (before b r s))))
      (rw (← e, ← f) (sym (tests _ _ true here)))

  pub pair_passed : ((i : ℕ) → i < n → (j : ℕ) → j < n → i < j → answers (region m i) (region m j) false) → FirstIs (pairs m rule) m.count None
  pair_passed none = λ k. pair_none (pairs m rule) k m.count (λ i p j q r. sym (tests _ _ false (none i (omega arith) j (omega arith) r)))

-- an answer with another number than x
Other : ℕ → Reply → Type 0
Other x r = number_of r ≡ x → ⊥

-- of a rule, and of rules one after another
module _ (x : ℕ) (some : x ≡ 0 → ⊥) where
  nothing_other : Other x accepted
  unfolding Other
  nothing_other e = some (sym e)

  then_other : (a b : Reply) → Other x a → Other x b → Other x (a then b)
  then_other accepted b p q = q
  then_other (nodes k i j) b p q = p
  then_other (place k i) b p q = p
  then_other (plain k) b p q = p

  first_other : (f : ℕ → Reply) → ((i : ℕ) → Other x (f i)) → (n : ℕ) → Other x (first f n)
  unfolding first
  first_other f h zero = nothing_other
  first_other f h (suc n) = then_other (first f n) (f n) (first_other f h n) (h n)

  module _ (k : ℕ) (other : k ≡ x → ⊥) where
    tested_other : (b : Bool) (i j : ℕ) → Other x (cond b (nodes k i j) accepted)
    unfolding Other
    tested_other true i j = other
    tested_other false i j = nothing_other

    lowest_other : (f : ℕ → Bool) (n : ℕ) → Other x (lowest k f n)
    unfolding lowest
    lowest_other f n = first_other (λ i. cond (f i) (nodes k i i) accepted) (λ i. tested_other (f i) i i) n

    pair_other : (f : ℕ → ℕ → Bool) (n : ℕ) → Other x (first_pair k f n)
    unfolding first_pair pairs_of
    pair_other f n = first_other (pairs_of k f n) (λ i. first_other (λ j. cond (ltb i j && f i j) (nodes k i j) accepted) (λ j. tested_other (ltb i j && f i j) i j) n) n

module _ (m : RegionMap) (memory : ℕ) where
  pub judged_count : count_fault m.count ≡ true → nodes 3 0 0 ≡ judged m memory
  unfolding judged_by
  judged_count wrong = rw wrong

  -- of a count that a map can have
  module _ (some : m.count ≡ 0 → ⊥) (few : m.count ≤ 32) where
    judged_parts : judged m memory ≡ (on_regions m memory then on_pairs m)
    unfolding judged_by on_regions on_pairs
    judged_parts =
        rw (ne_eqb m.count 0 some, le-ltb 32 m.count few)
        (then_four (on_regions m memory) (first_pair 8 (λ i j. memory_clash (region m i) (region m j)) m.count)
        (first_pair 9 (λ i j. managed_clash (region m i) (region m j)) m.count)
        (first_pair 10 (λ i j. port_clash (region m i) (region m j)) m.count)
        (first_pair 11 (λ i j. sibling_clash priority_of m i j) m.count))

    pub judged_refused : (f : MapFault) → fault_reply f ≡ on_regions m memory → fault_reply f ≡ judged m memory
    judged_refused f e =
        sym
        (judged_parts ∙ ap (λ (r : Reply). r then on_pairs m) (sym e)
        ∙ refused_stays (fault_reply f) (on_pairs m) (fault_form (λ r. passes r ≡ false) (λ k i j. refl) f))

    pub judged_passed : accepted ≡ on_regions m memory → on_pairs m ≡ judged m memory
    judged_passed e = sym (judged_parts ∙ ap (λ (r : Reply). r then on_pairs m) (sym e))

    pub judged_accepted : accepted ≡ on_regions m memory → accepted ≡ on_pairs m → accepted ≡ judged m memory
    judged_accepted e f = f ∙ judged_passed e

  rules_other : Other 3 (on_regions m memory then on_pairs m)
  unfolding on_regions on_pairs
  rules_other =
      then_other 3 some _ _
      (then_other 3 some _ _ (then_other 3 some _ _ (then_other 3 some _ _ (one 4 (omega arith) _) (one 6 (omega arith) _)) (one 7 (omega arith) _)) (one 8 (omega arith) _))
      (then_other 3 some _ _ (then_other 3 some _ _ (then_other 3 some _ _ (two 8 (omega arith) _) (two 9 (omega arith) _)) (two 10 (omega arith) _)) (two 11 (omega arith) _))
    where
      some : ◌≡◌ {A = ℕ} 3 0 → ⊥
      some e = omega (arith, e)

      one : (k : ℕ) → 3 < k → (f : ℕ → Bool) → Other 3 (lowest k f m.count)
      one k h f = lowest_other 3 some k (λ e. omega (arith, h, e)) f m.count

      two : (k : ℕ) → 3 < k → (f : ℕ → ℕ → Bool) → Other 3 (first_pair k f m.count)
      two k h f = pair_other 3 some k (λ e. omega (arith, h, e)) f m.count

  -- 3 is the answer only where the count is at fault
  pub judged_count_only : number_of (judged m memory) ≡ 3 → count_fault m.count ≡ true
  unfolding Other
  judged_count_only e = go (count_fault m.count) refl
    where
      go : (b : Bool) → count_fault m.count ≡ b → b ≡ true
      go true p = refl
      go false p =
          let parts = judged_parts (eqb-false m.count 0 (or_left (eqb m.count 0) (ltb 32 m.count) p)) (ltb-false 32 m.count (or_right (eqb m.count 0) (ltb 32 m.count) p)) in
          absurd (rules_other (sym (ap number_of parts) ∙ e))
