-- Laws of what a list of ranges gives an address (`list_gives`), whatever it gives: with the region's values or without. Assumes nothing.
use mathlib.Core.Path.{◌≡◌, refl, ◌∙◌}
use mathlib.Core.Bool.{Bool, true, false, cond}
use mathlib.Core.List.{List, [], ◌∷◌}
use Prim.Native.Nat.{ℕ, zero, suc, ◌≤◌, ◌<◌}
use native.Mathlib.Omega.{arith}
use lib.ListN.{length, get_or}
use Rattle.map_records.specs.View.{no_range}
use Rattle.map_records.specs.declared.view.FlatRange.{FlatRange}
use Rattle.region_map.specs.FlatList.{inside, list_gives}
use Rattle.region_map.proofs.RangeTests.{Place, within, place, inside_on, inside_beyond}

-- a range that holds an address, and what the list gives it
pub record Held {A : Type 0} (none : A) (gives : FlatRange → ℕ → A) (l : List FlatRange) (a : ℕ) : Type 0 where
  pub at : ℕ
  pub below : at < length l
  pub low : (get_or l at no_range).first.0 ≤ a
  pub high : a ≤ (get_or l at no_range).last.0
  pub given : list_gives none gives l a ≡ gives (get_or l at no_range) a

module _ {A : Type 0} (none : A) (gives : FlatRange → ℕ → A) where
  -- the first range holds the address, or ends before it
  pub here : (x : FlatRange) (xs : List FlatRange) (a : ℕ) → x.first.0 ≤ a → a ≤ x.last.0 → list_gives none gives (x ∷ xs) a ≡ gives x a
  unfolding list_gives
  here x xs a h k = rw (inside_on x a h k)

  pub later : (x : FlatRange) (xs : List FlatRange) (a : ℕ) → x.last.0 < a → list_gives none gives (x ∷ xs) a ≡ list_gives none gives xs a
  unfolding list_gives
  later x xs a h = rw (inside_beyond x a h)

  -- the range that holds an address gives it, where those before it end before the address
  pub given_by : (l : List FlatRange) (k a : ℕ) → k < length l → (get_or l k no_range).first.0 ≤ a → a ≤ (get_or l k no_range).last.0
      → ((j : ℕ) → j < k → (get_or l j no_range).last.0 < a) → list_gives none gives l a ≡ gives (get_or l k no_range) a
  given_by [] k a h p q past = absurd (omega arith)
  given_by (x ∷ xs) zero a h p q past = here x xs a p q
  given_by (x ∷ xs) (suc k) a h p q past = later x xs a (past zero (omega arith)) ∙ given_by xs k a (omega arith) p q (λ j i. past (suc j) (omega arith))

  -- an address that no range holds
  pub none_given : (l : List FlatRange) (a : ℕ) → ((j : ℕ) → j < length l → inside (get_or l j no_range) a ≡ false) → list_gives none gives l a ≡ none
  unfolding list_gives
  none_given [] a p = refl
  none_given (x ∷ xs) a p = rw (p zero (omega arith)) (none_given xs a (λ j h. p (suc j) (omega arith)))

  -- an address that is given something has a range that holds it
  pub held : (l : List FlatRange) (a : ℕ) → (list_gives none gives l a ≡ none → ⊥) → Held none gives l a
  unfolding list_gives
  held [] a some = absurd (some refl)
  held (x ∷ xs) a some = go (inside x a) (place x a) refl (held xs a)
    where
      go : (b : Bool) → Place x a b → inside x a ≡ b → ((list_gives none gives xs a ≡ none → ⊥) → Held none gives xs a) → Held none gives (x ∷ xs) a
      go true (within p q) e f = record { at = 0; below = omega arith; low = p; high = q; given = rw e }
      go false w e f =
          let on : cond (inside x a) (gives x a) (list_gives none gives xs a) ≡ list_gives none gives xs a = rw e in
          let r = f (λ q. some (on ∙ q)) in
          record { at = suc r.at; below = omega (arith, r.below); low = r.low; high = r.high; given = on ∙ r.given }

-- what is read off what a list gives is what the list gives when it is read off each range
pub read_off : {A B : Type 0} (none : A) (gives : FlatRange → ℕ → A) (read : A → B) (other : FlatRange → ℕ → B) (l : List FlatRange) (a : ℕ)
    → ((k : ℕ) → k < length l → other (get_or l k no_range) a ≡ read (gives (get_or l k no_range) a))
    → list_gives (read none) other l a ≡ read (list_gives none gives l a)
unfolding list_gives
read_off none gives read other [] a each = refl
read_off none gives read other (x ∷ xs) a each = go (inside x a) (read_off none gives read other xs a (λ k h. each (suc k) (omega arith)))
  where
    go : (b : Bool) → list_gives (read none) other xs a ≡ read (list_gives none gives xs a)
        → cond b (other x a) (list_gives (read none) other xs a) ≡ read (cond b (gives x a) (list_gives none gives xs a))
    go true e = each zero (omega arith)
    go false e = e
