-- The tests of `specs/FlatList.antt` as facts. Assumes nothing.
use mathlib.Core.Path.{◌≡◌, refl, sym, ◌∙◌}
use mathlib.Core.Bool.{Bool, true, false, ◌&&◌}
use Prim.Native.Nat.{ℕ, ◌+◌, ◌-◌, ◌≤◌, ◌<◌}
use native.Mathlib.Omega.{arith}
use lib.Dec.{leb, eqb}
use borrow.Author.Tests.{leb-true, leb-false, eqb-true, eqb-false, eq-eqb, le-leb, lt-leb}
use Rattle.map_check.proofs.Bools.{and_fst, and_snd, and_off}
use Rattle.map_records.specs.declared.view.FlatRange.{FlatRange}
use Rattle.region_map.specs.FlatList.{joins, inside}

-- a Bool with its value
pub data Is (b : Bool) : Type 0 where
  on : b ≡ true → Is b
  off : b ≡ false → Is b

pub is : (b : Bool) → Is b
is true = on refl
is false = off refl

-- two ranges that join
pub record Joined (x r : FlatRange) : Type 0 where
  pub next : r.first.0 ≡ x.last.0 + 1
  pub region : r.region ≡ x.region
  pub offset : x.offset.0 + r.first.0 ≡ r.offset.0 + x.first.0

pub joins_on : (x r : FlatRange) → joins x r ≡ true → Joined x r
unfolding joins
joins_on x r h =
    let p = eqb r.first.0 (x.last.0 + 1) in
    let q = eqb r.region x.region in
    let s = eqb (x.offset.0 + r.first.0) (r.offset.0 + x.first.0) in
    let qs : q && s ≡ true = and_snd p (q && s) h in
    record {
      next = eqb-true _ _ (and_fst p (q && s) h);
      region = eqb-true _ _ (and_fst q s qs);
      offset = eqb-true _ _ (and_snd q s qs);
    }

pub on_joins : (x r : FlatRange) → Joined x r → joins x r ≡ true
unfolding joins
on_joins x r j =
    rw (
      eq-eqb r.first.0 (x.last.0 + 1) j.next,
      eq-eqb r.region x.region j.region,
      eq-eqb (x.offset.0 + r.first.0) (r.offset.0 + x.first.0) j.offset,
    )

pub off_joins : (x r : FlatRange) → (Joined x r → ⊥) → joins x r ≡ false
off_joins x r h = go (is (joins x r))
  where
    go : Is (joins x r) → joins x r ≡ false
    go (on e) = absurd (h (joins_on x r e))
    go (off e) = e

-- an address against an entry
pub data Place (x : FlatRange) (a : ℕ) : Bool → Type 0 where
  within : x.first.0 ≤ a → a ≤ x.last.0 → Place x a true
  before : a < x.first.0 → Place x a false
  beyond : x.last.0 < a → Place x a false

pub place : (x : FlatRange) (a : ℕ) → Place x a (inside x a)
unfolding inside
place x a = go (leb x.first.0 a) (leb a x.last.0) refl refl
  where
    go : (p q : Bool) → leb x.first.0 a ≡ p → leb a x.last.0 ≡ q → Place x a (p && q)
    go true true h k = within (leb-true _ _ h) (leb-true _ _ k)
    go true false h k = beyond (leb-false _ _ k)
    go false q h k = before (leb-false _ _ h)

pub inside_on : (x : FlatRange) (a : ℕ) → x.first.0 ≤ a → a ≤ x.last.0 → inside x a ≡ true
unfolding inside
inside_on x a h k = rw (le-leb x.first.0 a h, le-leb a x.last.0 k)

pub inside_before : (x : FlatRange) (a : ℕ) → a < x.first.0 → inside x a ≡ false
unfolding inside
inside_before x a h = rw (lt-leb x.first.0 a h)

pub inside_beyond : (x : FlatRange) (a : ℕ) → x.last.0 < a → inside x a ≡ false
unfolding inside
inside_beyond x a h = rw (lt-leb a x.last.0 h) (and_off (leb x.first.0 a))

-- the last test of the code, once the others have held
pub joins_last : (x r : FlatRange) → x.first.0 ≤ x.last.0 → r.first.0 - x.last.0 ≡ 1 → r.region ≡ x.region → x.offset.0 ≤ r.offset.0
    → eqb (r.offset.0 - x.offset.0) (r.first.0 - x.first.0) ≡ joins x r
joins_last x r m p k o = go (is (eqb (r.offset.0 - x.offset.0) (r.first.0 - x.first.0)))
  where
    go : Is (eqb (r.offset.0 - x.offset.0) (r.first.0 - x.first.0)) → eqb (r.offset.0 - x.offset.0) (r.first.0 - x.first.0) ≡ joins x r
    go (on e) =
        let q : r.offset.0 - x.offset.0 ≡ r.first.0 - x.first.0 = eqb-true _ _ e in
        e ∙ sym (on_joins x r (record { next = omega arith; region = k; offset = omega arith }))
    go (off e) = e ∙ sym (off_joins x r (λ j. eqb-false (r.offset.0 - x.offset.0) (r.first.0 - x.first.0) e (omega (arith, j.offset))))
