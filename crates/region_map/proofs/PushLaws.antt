-- An entry put behind a list: a second one that joins it, what is looked up, and what stays true of the list. Assumes nothing.
use mathlib.Core.Path.{◌≡◌, refl, sym, ap, ◌∙◌}
use mathlib.Core.Bool.{Bool, true, false, cond}
use mathlib.Core.List.{List, [], ◌∷◌}
use Prim.Native.Nat.{ℕ, ◌≤◌, ◌<◌}
use native.Mathlib.Omega.{arith}
use Rattle.region_map.specs.declared.flat.Backing.{Backing}
use Rattle.map_records.specs.declared.view.FlatRange.{FlatRange}
use Rattle.std.specs.Prelude.{None}
use Rattle.region_map.specs.Walk.{found}
use Rattle.region_map.specs.FlatList.{joins, grown, push_after, push, inside, list_gives, range_answer, lookup}
use Rattle.region_map.specs.FlatList.{ValuedEntry, Follows, LongestFrom, Longest}
use Rattle.region_map.proofs.RangeTests.{Is, on, off, is, Joined, joins_on, on_joins, Place, within, before, beyond, place, inside_on, inside_before, inside_beyond}

-- the two cases of a list of one entry
pub after_on : (x r : FlatRange) → joins x r ≡ true → push_after x [] r ≡ grown x r ∷ []
unfolding push_after
after_on x r h = rw h

pub after_off : (x r : FlatRange) → joins x r ≡ false → push_after x [] r ≡ x ∷ r ∷ []
unfolding push_after
after_off x r h = rw h

-- behind an entry and a list that is not empty, it is put behind the list
after_after : (x y : FlatRange) (ys : List FlatRange) (r s : FlatRange) → push_after x (push_after y ys r) s ≡ x ∷ push (push_after y ys r) s
unfolding push_after push
after_after x y [] r s = go (is (joins y r))
  where
    go : Is (joins y r) → push_after x (push_after y [] r) s ≡ x ∷ push (push_after y [] r) s
    go (on h) = rw h
    go (off h) = rw h
after_after x y (z ∷ zs) r s = refl

grown_joined : (x r s : FlatRange) → Joined x r → Joined r s → Joined (grown x r) s
grown_joined x r s j k = record { next = k.next; region = cc (j.region, k.region); offset = omega (arith, j.offset, k.offset) }

after_push : (x : FlatRange) (xs : List FlatRange) (r s : FlatRange) → Joined r s → push (push_after x xs r) s ≡ push_after x xs (grown r s)
unfolding push_after push joins
after_push x [] r s k = go (is (joins x r))
  where
    go : Is (joins x r) → push (push_after x [] r) s ≡ push_after x [] (grown r s)
    go (on h) = rw (h, on_joins (grown x r) s (grown_joined x r s (joins_on x r h) k))
    go (off h) = rw (h, on_joins r s k)
after_push x (y ∷ ys) r s k = after_after x y ys r s ∙ ap {B = List FlatRange} (λ l. x ∷ l) (after_push y ys r s k)

-- two entries that join, put behind a list one after the other, are one put behind it
pub push_push : (l : List FlatRange) (r s : FlatRange) → Joined r s → push (push l r) s ≡ push l (grown r s)
unfolding push
push_push [] r s k = after_on r s (on_joins r s k)
push_push (x ∷ xs) r s k = after_push x xs r s k

-- every entry ends below n
abbrev pub Under : List FlatRange → ℕ → Type 0
Under [] n = Unit {0}
Under (x ∷ xs) n = (x.last.0 < n) × Under xs n

leaf_eq : {k k' o o' : ℕ} → k ≡ k' → o ≡ o' → found k o ≡ found k' o'
leaf_eq p q = λ i. found (p i) (q i)

-- two tests that do not both hold may be asked in either order
swap : {A : Type 0} (p q : Bool) (u v w : A) → (p ≡ true → q ≡ true → ⊥) → cond p u (cond q v w) ≡ cond q v (cond p u w)
swap true true u v w h = absurd (h refl refl)
swap true false u v w h = refl
swap false true u v w h = refl
swap false false u v w h = refl

-- an address is not in two entries of which one ends below the other
disjoint : (x r : FlatRange) (a : ℕ) → x.last.0 < r.first.0 → inside x a ≡ true → inside r a ≡ true → ⊥
disjoint x r a h p q = go (inside x a) (inside r a) (place x a) (place r a) p q
  where
    go : (s t : Bool) → Place x a s → Place r a t → s ≡ true → t ≡ true → ⊥
    go true true (within _ k) (within m _) p q = omega arith
    go true false v w p q = let z : ◌≡◌ {A = Bool} true false = sym q in let y : ◌≡◌ {A = ℕ} 0 1 = cc in omega arith
    go false t v w p q = let z : ◌≡◌ {A = Bool} true false = sym p in let y : ◌≡◌ {A = ℕ} 0 1 = cc in omega arith

lookup_grown : (x r : FlatRange) (a : ℕ) → Joined x r → x.first.0 ≤ x.last.0 → r.first.0 ≤ r.last.0
    → lookup (grown x r ∷ []) a ≡ cond (inside r a) (range_answer r a) (lookup (x ∷ []) a)
unfolding list_gives
lookup_grown x r a j hx hr = go (inside r a) (inside x a) (place r a) (place x a)
  where
    g : FlatRange
    g = grown x r

    go : (q p : Bool) → Place r a q → Place x a p
        → cond (inside (grown x r) a) (range_answer (grown x r) a) None ≡ cond q (range_answer r a) (cond p (range_answer x a) None)
    go true p (within h k) v =
        rw (inside_on (grown x r) a (omega (arith, j.next)) k)
        (leaf_eq (sym j.region) (omega (arith, j.next, j.offset)))
    go false true v (within h k) = rw (inside_on (grown x r) a h (omega (arith, j.next)))
    go false false (before h) (before k) = rw (inside_before (grown x r) a k)
    go false false (beyond h) (before k) = rw (inside_before (grown x r) a k)
    go false false (before h) (beyond k) = absurd (omega (arith, j.next))
    go false false (beyond h) (beyond k) = rw (inside_beyond (grown x r) a h)

module _ (backing : ℕ → Backing) (r : FlatRange) (sr : ValuedEntry backing r) where
  lookup_after : (x : FlatRange) (xs : List FlatRange) (a : ℕ) → LongestFrom backing x xs → Under (x ∷ xs) r.first.0
      → lookup (push_after x xs r) a ≡ cond (inside r a) (range_answer r a) (lookup (x ∷ xs) a)
  unfolding list_gives push_after
  lookup_after x [] a sx u = go (is (joins x r))
    where
      go : Is (joins x r) → lookup (push_after x [] r) a ≡ cond (inside r a) (range_answer r a) (lookup (x ∷ []) a)
      go (on h) = rw h (lookup_grown x r a (joins_on x r h) sx.order sr.order)
      go (off h) = rw h (swap (inside x a) (inside r a) (range_answer x a) (range_answer r a) None (disjoint x r a u.0))
  lookup_after x (y ∷ ys) a c u =
      ap (λ w. cond (inside x a) (range_answer x a) w) (lookup_after y ys a c.2 u.1)
      ∙ swap (inside x a) (inside r a) (range_answer x a) (range_answer r a) (lookup (y ∷ ys) a) (disjoint x r a u.0)

  pub lookup_push : (l : List FlatRange) (a : ℕ) → Longest backing l → Under l r.first.0
      → lookup (push l r) a ≡ cond (inside r a) (range_answer r a) (lookup l a)
  unfolding list_gives push
  lookup_push [] a c u = refl
  lookup_push (x ∷ xs) a c u = lookup_after x xs a c u

-- the first entry starts as y does
abbrev Heads : FlatRange → List FlatRange → Type 0
Heads y [] = ⊥
Heads y (z ∷ zs) = (z.first ≡ y.first) × (z.region ≡ y.region) × (z.offset ≡ y.offset)

after_heads : (y : FlatRange) (ys : List FlatRange) (r : FlatRange) → Heads y (push_after y ys r)
unfolding push_after
after_heads y [] r = go (is (joins y r))
  where
    go : Is (joins y r) → Heads y (push_after y [] r)
    go (on h) = rw h (refl, refl, refl)
    go (off h) = rw h (refl, refl, refl)
after_heads y (z ∷ zs) r = (refl, refl, refl)

chained : (backing : ℕ → Backing) (x y : FlatRange) (l : List FlatRange) → ValuedEntry backing x → Follows x y → Heads y l → Longest backing l → Longest backing (x ∷ l)
unfolding joins
chained backing x y [] s p h c = absurd h
chained backing x y (z ∷ zs) s p h c = (s, apart, c)
  where
    apart : Follows x z
    apart = record {
      above = rw h.0 p.above;
      split = rw (h.0, h.1, h.2) p.split;
    }

module _ (backing : ℕ → Backing) (r : FlatRange) (sr : ValuedEntry backing r) where
  longest_after : (x : FlatRange) (xs : List FlatRange) → LongestFrom backing x xs → Under (x ∷ xs) r.first.0 → Longest backing (push_after x xs r)
  unfolding push_after
  longest_after x [] sx u = go (is (joins x r))
    where
      go : Is (joins x r) → Longest backing (push_after x [] r)
      go (on h) =
          let j = joins_on x r h in
          rw h (record { order = omega (arith, sx.order, sr.order, u.0); kind = sx.kind; base = sx.base })
      go (off h) =
          rw h (sx, record { above = u.0; split = h }, sr)
  longest_after x (y ∷ ys) c u = chained backing x y (push_after y ys r) c.0 c.1 (after_heads y ys r) (longest_after y ys c.2 u.1)

  pub longest_push : (l : List FlatRange) → Longest backing l → Under l r.first.0 → Longest backing (push l r)
  unfolding push
  longest_push [] c u = sr
  longest_push (x ∷ xs) c u = longest_after x xs c u

pub under_more : (l : List FlatRange) (n m : ℕ) → n ≤ m → Under l n → Under l m
under_more [] n m h u = tt
under_more (x ∷ xs) n m h u = (omega (arith, u.0), under_more xs n m h u.1)

under_after : (x : FlatRange) (xs : List FlatRange) (r : FlatRange) (n : ℕ) → Under (x ∷ xs) n → r.last.0 < n → Under (push_after x xs r) n
unfolding push_after
under_after x [] r n u h = go (is (joins x r))
  where
    go : Is (joins x r) → Under (push_after x [] r) n
    go (on e) = rw e (h, tt)
    go (off e) = rw e (u.0, (h, tt))
under_after x (y ∷ ys) r n u h = (u.0, under_after y ys r n u.1 h)

pub under_push : (l : List FlatRange) (r : FlatRange) (n : ℕ) → Under l n → r.last.0 < n → Under (push l r) n
unfolding push
under_push [] r n u h = (h, tt)
under_push (x ∷ xs) r n u h = under_after x xs r n u h
