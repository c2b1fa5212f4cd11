-- Laws of tests: those that say the same, of two ranges without a sum, and of parts of a test. Assumes nothing.
use mathlib.Core.Path.{◌≡◌, refl, sym, ap₂, ◌∙◌}
use mathlib.Core.Bool.{Bool, true, false, ◌&&◌, ◌||◌, not}
use Prim.Native.Nat.{ℕ, ◌+◌, ◌-◌, ◌≤◌, ◌<◌, max}
use native.Mathlib.Omega.{arith}
use lib.Dec.{eqb, leb, ltb}
use borrow.Author.Tests.{ltb-true, ltb-false, leb-true, leb-false, eqb-true, not-false, lt-ltb, le-ltb, ne_eqb}
use Rattle.map_check.specs.Clash.{share}

-- two orders that follow from each other have equal tests
pub ltb_same : (a b c d : ℕ) → (a < b → c < d) → (c < d → a < b) → ltb a b ≡ ltb c d
ltb_same a b c d f g = go (ltb a b) (ltb c d) refl refl
  where
    go : (t u : Bool) → ltb a b ≡ t → ltb c d ≡ u → t ≡ u
    go true true p q = refl
    go true false p q = absurd (omega (arith, f (ltb-true a b p), ltb-false c d q))
    go false true p q = absurd (omega (arith, g (ltb-true c d q), ltb-false a b p))
    go false false p q = refl

pub not_leb : (a b : ℕ) → not (leb a b) ≡ ltb b a
not_leb a b = go (leb a b) refl
  where
    go : (t : Bool) → leb a b ≡ t → not t ≡ ltb b a
    go true p = sym (le-ltb b a (leb-true a b p))
    go false p = sym (lt-ltb b a (leb-false a b p))

pub share_below_lem : (a s b t : ℕ) → a < b → (ltb (b - a) s && ltb 0 t) ≡ share a s b t
share_below_lem a s b t h =
    ap₂ ◌&&◌ (ltb_same (b - a) s (max a b) (a + s) (λ p. omega arith) (λ p. omega arith))
    (ltb_same 0 t (max a b) (b + t) (λ p. omega arith) (λ p. omega arith))

pub share_above : (a s b t : ℕ) → b ≤ a → (ltb 0 s && ltb (a - b) t) ≡ share a s b t
share_above a s b t h =
    ap₂ ◌&&◌ (ltb_same 0 s (max a b) (a + s) (λ p. omega arith) (λ p. omega arith))
    (ltb_same (a - b) t (max a b) (b + t) (λ p. omega arith) (λ p. omega arith))

-- two numbers lie below e exactly when the larger one does
pub both_below : (e a b : ℕ) → (ltb a e && ltb b e) ≡ ltb (max a b) e
both_below e a b = go (ltb a e) (ltb b e) refl refl
  where
    go : (x y : Bool) → ltb a e ≡ x → ltb b e ≡ y → (x && y) ≡ ltb (max a b) e
    go true true p q = let l = ltb-true a e p in let h = ltb-true b e q in sym (lt-ltb (max a b) e (omega arith))
    go true false p q = let h = ltb-false b e q in sym (le-ltb (max a b) e (omega arith))
    go false y p q = let l = ltb-false a e p in sym (le-ltb (max a b) e (omega arith))

-- of tests that are false
pub or_left : (a b : Bool) → (a || b) ≡ false → a ≡ false
or_left true b e = e
or_left false b e = refl

pub or_right : (a b : Bool) → (a || b) ≡ false → b ≡ false
or_right true b e = absurd (let z : ◌≡◌ {A = ℕ} 0 1 = cc in omega arith)
or_right false b e = e

pub none_of_3 : (a b c : Bool) → (a || b || c) ≡ false → (a ≡ false) × (b ≡ false) × (c ≡ false)
none_of_3 a b c e = (or_left a b (or_left (a || b) c e), or_right a b (or_left (a || b) c e), or_right (a || b) c e)

pub none_of_4 : (a b c d : Bool) → (a || b || c || d) ≡ false → (a ≡ false) × (b ≡ false) × (c ≡ false) × (d ≡ false)
none_of_4 a b c d e =
    let h = none_of_3 a b c (or_left (a || b || c) d e) in
    (h.0, h.1, h.2, or_right (a || b || c) d e)

pub and_right : (a b : Bool) → (a && b) ≡ false → a ≡ true → b ≡ false
and_right true b e t = e
and_right false b e t = absurd (let z : ◌≡◌ {A = ℕ} 0 1 = cc in omega arith)

pub and_left : (a b : Bool) → (a && b) ≡ false → b ≡ true → a ≡ false
and_left true b e t = sym t ∙ e
and_left false b e t = refl

pub and_no : (a b : Bool) → (a ≡ true → b ≡ true → ⊥) → (a && b) ≡ false
and_no true true h = absurd (h refl refl)
and_no true false h = refl
and_no false b h = refl

pub and_true : (a b : Bool) → a ≡ true → b ≡ true → (a && b) ≡ true
and_true a b p q = rw (p, q)

pub never : true ≡ false → ⊥
never e = let z : ◌≡◌ {A = ℕ} 0 1 = cc in omega arith

pub not_eqb : (a b : ℕ) → (a ≡ b → ⊥) → not (eqb a b) ≡ true
not_eqb a b h = rw (ne_eqb a b h)

pub is_eqb : (a b : ℕ) → not (eqb a b) ≡ false → a ≡ b
is_eqb a b e = eqb-true a b (not-false (eqb a b) e)

-- of a conjunction that is true
pub and_fst : (a b : Bool) → (a && b) ≡ true → a ≡ true
and_fst true b e = refl
and_fst false b e = e

pub and_snd : (a b : Bool) → (a && b) ≡ true → b ≡ true
and_snd true b e = e
and_snd false b e = absurd (never (sym e))

-- of one whose second part is false
pub and_off : (a : Bool) → (a && false) ≡ false
and_off true = refl
and_off false = refl
