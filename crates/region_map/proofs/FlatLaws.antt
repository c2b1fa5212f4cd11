-- The list of the first n addresses gives what the walk answers, is a list of longest runs, and grows by one entry for a stretch that answers as one run. Assumes nothing.
use mathlib.Core.Path.{◌≡◌, refl, ◌∙◌}
use mathlib.Core.Bool.{cond}
use mathlib.Core.List.{List, [], ◌∷◌}
use Prim.Native.Nat.{ℕ, zero, suc, ◌+◌, ◌-◌, ◌≤◌, ◌<◌}
use native.Mathlib.Nat.{add-zero, add-suc, not-suc-le-zero}
use native.Mathlib.Decide.{ℕ_discrete, dec_lt}
use native.Mathlib.Omega.{arith}
use lib.ListN.{length}
use Rattle.std.specs.Prelude.{Option, Some, None}
use Rattle.map_records.specs.declared.map.Found.{Found}
use Rattle.region_map.specs.declared.flat.Backing.{Backing}
use Rattle.map_records.specs.declared.view.FlatRange.{FlatRange}
use Rattle.region_map.specs.FlatList.{range_for, joins, push_after, push, extend, flat, inside, list_gives, range_answer, lookup}
use Rattle.region_map.specs.Promises.{shift}
use Rattle.region_map.specs.FlatList.{ValuedEntry, Longest}
use Rattle.region_map.proofs.RangeTests.{Is, on, off, is, inside_on, inside_before, inside_beyond}
use Rattle.region_map.proofs.PushLaws.{Under, push_push, lookup_push, longest_push, under_more, under_push}

module _ (backing : ℕ → Backing) where
  sound_at : (n m k o : ℕ) → n ≤ m → ValuedEntry backing (range_for backing n m k o)
  sound_at n m k o h = record { order = h; kind = refl; base = refl }

  longest_extend : (l : List FlatRange) (n : ℕ) (b : Option Found) → Longest backing l → Under l n → Longest backing (extend backing l n n b)
  unfolding extend
  longest_extend l n None c u = c
  longest_extend l n (Some x) c u = longest_push backing (range_for backing n n x.region x.offset.0) (sound_at n n x.region x.offset.0 (omega arith)) l c u

  under_extend : (l : List FlatRange) (n : ℕ) (b : Option Found) → Under l n → Under (extend backing l n n b) (suc n)
  unfolding extend
  under_extend l n None u = under_more l n (suc n) (omega arith) u
  under_extend l n (Some x) u = under_push l (range_for backing n n x.region x.offset.0) (suc n) (under_more l n (suc n) (omega arith) u) (omega arith)

  extend_here : (l : List FlatRange) (n : ℕ) (b : Option Found) → Longest backing l → Under l n → lookup l n ≡ None → lookup (extend backing l n n b) n ≡ b
  unfolding extend
  extend_here l n None c u h = h
  extend_here l n (Some x) c u h =
      let r = range_for backing n n x.region x.offset.0 in
      let e : x.offset.0 + (n - n) ≡ x.offset.0 = omega arith in
      lookup_push backing r (sound_at n n x.region x.offset.0 (omega arith)) l n c u
      ∙ rw (inside_on r n (omega arith) (omega arith), e)

  extend_other : (l : List FlatRange) (n : ℕ) (b : Option Found) (a : ℕ) → Longest backing l → Under l n → (a ≡ n → ⊥)
      → lookup (extend backing l n n b) a ≡ lookup l a
  unfolding extend
  extend_other l n None a c u h = refl
  extend_other l n (Some x) a c u h = lookup_push backing r (sound_at n n x.region x.offset.0 (omega arith)) l a c u ∙ go (dec_lt a n)
    where
      r : FlatRange
      r = range_for backing n n x.region x.offset.0

      go : Dec (a < n) → cond (inside r a) (range_answer r a) (lookup l a) ≡ lookup l a
      go (yes q) = rw (inside_before r a q)
      go (no q) = rw (inside_beyond r a (omega arith))

module _ (backing : ℕ → Backing) (f : ℕ → Option Found) where
  pub flat_under : (n : ℕ) → Under (flat backing f n) n
  unfolding flat
  flat_under zero = tt
  flat_under (suc n) = under_extend backing (flat backing f n) n (f n) (flat_under n)

  -- it is a list of longest runs
  pub flat_longest : (n : ℕ) → Longest backing (flat backing f n)
  unfolding flat
  flat_longest zero = tt
  flat_longest (suc n) = longest_extend backing (flat backing f n) n (f n) (flat_longest n) (flat_under n)

  -- it gives f's answers below n, and nothing beyond
  pub flat_beyond : (n a : ℕ) → n ≤ a → lookup (flat backing f n) a ≡ None
  unfolding flat list_gives
  flat_beyond zero a h = refl
  flat_beyond (suc n) a h =
      extend_other backing (flat backing f n) n (f n) a (flat_longest n) (flat_under n) (λ e. omega arith)
      ∙ flat_beyond n a (omega arith)

  pub flat_gives : (n a : ℕ) → a < n → lookup (flat backing f n) a ≡ f a
  unfolding flat
  flat_gives zero a h = absurd (not-suc-le-zero h)
  flat_gives (suc n) a h = go (ℕ_discrete a n) (flat_gives n a)
    where
      go : Dec (a ≡ n) → (a < n → lookup (flat backing f n) a ≡ f a) → lookup (extend backing (flat backing f n) n n (f n)) a ≡ f a
      go (yes q) ih = rw q (extend_here backing (flat backing f n) n (f n) (flat_longest n) (flat_under n) (flat_beyond n n (omega arith)))
      go (no q) ih = extend_other backing (flat backing f n) n (f n) a (flat_longest n) (flat_under n) q ∙ ih (omega arith)

-- d + 1 addresses from `at` that answer as one run are one entry put behind the list
extend_more : (backing : ℕ → Backing) (l : List FlatRange) (at d : ℕ) (b : Option Found)
    → extend backing (extend backing l at (at + d) b) (suc (at + d)) (suc (at + d)) (shift (suc d) b) ≡ extend backing l at (suc (at + d)) b
unfolding extend
extend_more backing l at d None = refl
extend_more backing l at d (Some x) =
    push_push l (range_for backing at (at + d) x.region x.offset.0) (range_for backing (suc (at + d)) (suc (at + d)) x.region (x.offset.0 + suc d))
    (record { next = omega arith; region = refl; offset = omega arith })

module _ (backing : ℕ → Backing) (f : ℕ → Option Found) (at : ℕ) where
  stretch : (d : ℕ) → ((i : ℕ) → i ≤ d → f (at + i) ≡ shift i (f at)) → flat backing f (suc (at + d)) ≡ extend backing (flat backing f at) at (at + d) (f at)
  unfolding flat
  stretch zero h = rw (add-zero at)
  stretch (suc d) h =
      let e : f (suc (at + d)) ≡ shift (suc d) (f at) = rw add-suc at (h (suc d) (omega arith)) in
      rw (add-suc at d, stretch d (λ i k. h i (omega arith)), e) (extend_more backing (flat backing f at) at d (f at))

  pub sweep_step : (span : ℕ) → 0 < span → ((i : ℕ) → i < span → f (at + i) ≡ shift i (f at))
      → flat backing f (at + span) ≡ extend backing (flat backing f at) at (at + span - 1) (f at)
  sweep_step zero p h = absurd (not-suc-le-zero p)
  sweep_step (suc d) p h =
      let e : at + suc d - 1 ≡ at + d = omega arith in
      rw (e, add-suc at d) (stretch d (λ i k. h i (omega arith)))

-- the list never gets shorter
after_grows : (x : FlatRange) (xs : List FlatRange) (r : FlatRange) → length (x ∷ xs) ≤ length (push_after x xs r)
unfolding push_after
after_grows x [] r = go (is (joins x r))
  where
    go : Is (joins x r) → length (x ∷ []) ≤ length (push_after x [] r)
    go (on h) = rw h (omega arith)
    go (off h) = rw h (omega arith)
after_grows x (y ∷ ys) r = let h = after_grows y ys r in omega arith

push_grows : (l : List FlatRange) (r : FlatRange) → length l ≤ length (push l r)
unfolding push
push_grows [] r = omega arith
push_grows (x ∷ xs) r = after_grows x xs r

extend_grows : (backing : ℕ → Backing) (l : List FlatRange) (n m : ℕ) (b : Option Found) → length l ≤ length (extend backing l n m b)
unfolding extend
extend_grows backing l n m None = omega arith
extend_grows backing l n m (Some x) = push_grows l (range_for backing n m x.region x.offset.0)

flat_more : (backing : ℕ → Backing) (f : ℕ → Option Found) (n d : ℕ) → length (flat backing f n) ≤ length (flat backing f (n + d))
unfolding flat
flat_more backing f n zero = rw (add-zero n) (omega arith)
flat_more backing f n (suc d) =
    let h = flat_more backing f n d in
    let k = extend_grows backing (flat backing f (n + d)) (n + d) (n + d) (f (n + d)) in
    rw (add-suc n d) (omega arith)

pub flat_grows : (backing : ℕ → Backing) (f : ℕ → Option Found) (n m : ℕ) → n ≤ m → length (flat backing f n) ≤ length (flat backing f m)
flat_grows backing f n m h = let e : n + (m - n) ≡ m = omega arith in rw e at (flat_more backing f n (m - n))
