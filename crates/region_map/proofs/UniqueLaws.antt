-- Two lists of longest runs that give the same answers are equal. Assumes nothing.
use mathlib.Core.Path.{◌≡◌, refl, sym, ap, ◌∙◌}
use mathlib.Core.List.{List, [], ◌∷◌}
use Prim.Native.Nat.{ℕ, zero, suc, ◌+◌, ◌-◌, ◌≤◌, ◌<◌}
use native.Mathlib.Decide.{dec_lt, dec_le}
use native.Mathlib.Omega.{arith}
use Rattle.std.specs.Prelude.{Option, Some, None}
use Rattle.map_records.specs.declared.map.Found.{Found}
use Rattle.region_map.specs.declared.flat.Backing.{Backing}
use lib.ListN.{length, get_or}
use Rattle.map_records.specs.View.{no_range}
use Rattle.map_records.specs.declared.view.FlatRange.{FlatRange}
use Rattle.region_map.specs.Walk.{found}
use Rattle.region_map.specs.FlatList.{list_gives, range_answer, lookup, ValuedEntry, LongestFrom, Longest}
use Rattle.map_check.proofs.Bools.{never}
use Rattle.region_map.proofs.RangeTests.{on_joins, inside_before}
use Rattle.region_map.proofs.ListLaws.{here, later}

offset_in_lem : Option Found → ℕ
offset_in_lem None = 0
offset_in_lem (Some x) = x.offset.0

region_of : Option Found → ℕ
region_of None = 0
region_of (Some x) = x.region

apart : {k o : ℕ} → found k o ≡ None → ⊥
apart h = let z : ◌≡◌ {A = ℕ} 0 1 = cc in omega arith

pub sound : {backing : ℕ → Backing} (x : FlatRange) (xs : List FlatRange) → LongestFrom backing x xs → ValuedEntry backing x
sound x [] c = c
sound x (y ∷ ys) c = c.0

module _ (backing : ℕ → Backing) where
  -- the k-th entry
  pub entry_at : (l : List FlatRange) (k : ℕ) → Longest backing l → k < length l → ValuedEntry backing (get_or l k no_range)
  entry_at [] k c h = absurd (omega arith)
  entry_at (x ∷ xs) zero c h = sound x xs c
  entry_at (x ∷ []) (suc k) c h = absurd (omega arith)
  entry_at (x ∷ (y ∷ ys)) (suc k) c h = entry_at (y ∷ ys) k c.2 (omega arith)

  -- below the first entry a list gives nothing
  pub low : (x : FlatRange) (xs : List FlatRange) (a : ℕ) → LongestFrom backing x xs → a < x.first.0 → lookup (x ∷ xs) a ≡ None
  unfolding list_gives
  low x [] a c h = rw (inside_before x a h)
  low x (y ∷ ys) a c h = rw (inside_before x a h) (low y ys a c.2 (omega (arith, c.0.order, c.1.above)))

  -- up to the end of the entry before it a tail gives nothing
  tail_low : (x : FlatRange) (xs : List FlatRange) (a : ℕ) → LongestFrom backing x xs → a ≤ x.last.0 → lookup xs a ≡ None
  unfolding list_gives
  tail_low x [] a c h = refl
  tail_low x (y ∷ ys) a c h = low y ys a c.2 (omega (arith, c.1.above))

  -- right after an entry its list does not give the same node at the next offset
  ends : (x : FlatRange) (xs : List FlatRange) → LongestFrom backing x xs
      → lookup xs (x.last.0 + 1) ≡ range_answer x (x.last.0 + 1) → ⊥
  unfolding list_gives offset_in_lem region_of
  ends x [] c h = apart (sym h)
  ends x (y ∷ ys) c h = go (dec_lt (x.last.0 + 1) y.first.0)
    where
      s : ValuedEntry backing y
      s = sound y ys c.2

      go : Dec (x.last.0 + 1 < y.first.0) → ⊥
      go (yes q) = apart (sym h ∙ low y ys (x.last.0 + 1) c.2 q)
      go (no q) =
          let n : y.first.0 ≡ x.last.0 + 1 = omega (arith, c.1.above) in
          let e : range_answer y (x.last.0 + 1) ≡ range_answer x (x.last.0 + 1) =
          sym (here None range_answer y ys (x.last.0 + 1) (omega arith) (omega (arith, s.order))) ∙ h in
          let k : y.region ≡ x.region = ap region_of e in
          let o : y.offset.0 + (x.last.0 + 1 - y.first.0) ≡ x.offset.0 + (x.last.0 + 1 - x.first.0) = ap offset_in_lem e in
          never (sym (on_joins x y (record { next = n; region = k; offset = omega (arith, c.0.order) })) ∙ c.1.split)

  module _ (x : FlatRange) (xs : List FlatRange) (y : FlatRange) (ys : List FlatRange) (c : LongestFrom backing x xs) (d : LongestFrom backing y ys) where
    first_le : ((a : ℕ) → lookup (x ∷ xs) a ≡ lookup (y ∷ ys) a) → x.first.0 ≤ y.first.0
    first_le h = go (dec_le x.first.0 y.first.0)
      where
        go : Dec (x.first.0 ≤ y.first.0) → x.first.0 ≤ y.first.0
        go (yes q) = q
        go (no q) =
            absurd (apart (sym (here None range_answer y ys y.first.0 (omega arith) (sound y ys d).order) ∙ sym (h y.first.0) ∙ low x xs y.first.0 c (omega arith)))

    last_le : ((a : ℕ) → lookup (x ∷ xs) a ≡ lookup (y ∷ ys) a) → x.first.0 ≡ y.first.0 → x.region ≡ y.region → x.offset.0 ≡ y.offset.0 → y.last.0 ≤ x.last.0
    last_le h p n o = go (dec_le y.last.0 x.last.0)
      where
        go : Dec (y.last.0 ≤ x.last.0) → y.last.0 ≤ x.last.0
        go (yes q) = q
        go (no q) =
            let a = x.last.0 + 1 in
            let e : lookup xs (x.last.0 + 1) ≡ range_answer y (x.last.0 + 1) =
            sym (later None range_answer x xs (x.last.0 + 1) (omega arith)) ∙ h (x.last.0 + 1)
            ∙ here None range_answer y ys (x.last.0 + 1) (omega (arith, (sound x xs c).order)) (omega arith) in
            absurd (ends x xs c (rw (p, n, o) e))

  run_eq : (x y : FlatRange) → ValuedEntry backing x → ValuedEntry backing y → x.first.0 ≡ y.first.0 → x.last.0 ≡ y.last.0 → x.region ≡ y.region → x.offset.0 ≡ y.offset.0 → x ≡ y
  run_eq x y s t p q n o =
      let k : x.kind ≡ y.kind = s.kind ∙ ap (λ m. (backing m).kind) n ∙ sym t.kind in
      let b : x.base ≡ y.base = s.base ∙ ap (λ m. (backing m).base) n ∙ sym t.base in
      λ i. record { first = record { 0 = p i }; last = record { 0 = q i }; region = n i; offset = record { 0 = o i }; kind = k i; base = b i }

  heads_eq : (x : FlatRange) (xs : List FlatRange) (y : FlatRange) (ys : List FlatRange) → LongestFrom backing x xs → LongestFrom backing y ys
      → ((a : ℕ) → lookup (x ∷ xs) a ≡ lookup (y ∷ ys) a) → x ≡ y
  unfolding offset_in_lem region_of
  heads_eq x xs y ys c d h =
      let sx = sound x xs c in
      let sy = sound y ys d in
      let p₁ = first_le x xs y ys c d h in
      let p₂ = first_le y ys x xs d c (λ a. sym (h a)) in
      let p : x.first.0 ≡ y.first.0 = omega arith in
      let e : range_answer x x.first.0 ≡ range_answer y x.first.0 =
      sym (here None range_answer x xs x.first.0 (omega arith) sx.order) ∙ h x.first.0 ∙ here None range_answer y ys x.first.0 (omega arith) (omega (arith, sy.order)) in
      let n : x.region ≡ y.region = ap region_of e in
      let o' : x.offset.0 + (x.first.0 - x.first.0) ≡ y.offset.0 + (x.first.0 - y.first.0) = ap offset_in_lem e in
      let o : x.offset.0 ≡ y.offset.0 = omega arith in
      let q₁ = last_le x xs y ys c d h p n o in
      let q₂ = last_le y ys x xs d c (λ a. sym (h a)) (sym p) (sym n) (sym o) in
      run_eq x y sx sy p (omega arith) n o

  chain_tail : (x : FlatRange) (xs : List FlatRange) → LongestFrom backing x xs → Longest backing xs
  chain_tail x [] c = tt
  chain_tail x (y ∷ ys) c = c.2

  tails : (x : FlatRange) (xs : List FlatRange) (y : FlatRange) (ys : List FlatRange) → LongestFrom backing x xs → LongestFrom backing y ys → x ≡ y
      → ((a : ℕ) → lookup (x ∷ xs) a ≡ lookup (y ∷ ys) a) → (a : ℕ) → lookup xs a ≡ lookup ys a
  tails x xs y ys c d e h a = go (dec_le a x.last.0)
    where
      l : x.last.0 ≡ y.last.0
      l = ap (λ (r : FlatRange). r.last.0) e

      go : Dec (a ≤ x.last.0) → lookup xs a ≡ lookup ys a
      go (yes q) = tail_low x xs a c q ∙ sym (tail_low y ys a d (omega (arith, l)))
      go (no q) = sym (later None range_answer x xs a (omega arith)) ∙ h a ∙ later None range_answer y ys a (omega (arith, l))

  -- two lists of longest runs that give the same answers are equal
  pub unique : (l m : List FlatRange) → Longest backing l → Longest backing m → ((a : ℕ) → lookup l a ≡ lookup m a) → l ≡ m
  unfolding list_gives
  unique [] [] c d h = refl
  unique [] (y ∷ ys) c d h =
      absurd (apart (sym (here None range_answer y ys y.first.0 (omega arith) (sound y ys d).order) ∙ sym (h y.first.0)))
  unique (x ∷ xs) [] c d h =
      absurd (apart (sym (here None range_answer x xs x.first.0 (omega arith) (sound x xs c).order) ∙ h x.first.0))
  unique (x ∷ xs) (y ∷ ys) c d h =
      let e = heads_eq x xs y ys c d h in
      let t = unique xs ys (chain_tail x xs c) (chain_tail y ys d) (tails x xs y ys c d e h) in
      λ i. e i ∷ t i
