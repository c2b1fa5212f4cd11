-- Tests of every number of a range, or of every element of a list, as facts. Assumes nothing.
use mathlib.Core.Path.{◌≡◌, refl, sym, ap, ◌∙◌}
use mathlib.Core.Bool.{Bool, true, false}
use mathlib.Core.Logic.{⊎_elim}
use mathlib.Core.List.{List, [], ◌∷◌}
use Prim.Native.Nat.{ℕ, zero, suc, ◌+◌, ◌≤◌, ◌<◌}
use native.Mathlib.Omega.{arith}
use lib.ListN.{length, get_or}
use Rattle.std.specs.List.{list_all, range_with_len}
use Rattle.map_records.proofs.Order.{side}
use Rattle.map_check.proofs.Bools.{and_fst, and_snd}

-- two tests that say the same are equal
pub same_test : (x y : Bool) → (x ≡ true → y ≡ true) → (y ≡ true → x ≡ true) → x ≡ y
same_test true y f g = sym (f refl)
same_test false true f g = g refl
same_test false false f g = refl

pub range_true : (p : ℕ → Bool) (a m : ℕ) → list_all p (range_with_len a m) ≡ true → (i : ℕ) → a ≤ i → i < a + m → p i ≡ true
range_true p a zero e i h l = absurd (omega arith)
range_true p a (suc m) e i h l =
    ⊎_elim
    (λ (q : i < a + 1). let z : i ≡ a = omega arith in ap p z ∙ and_fst (p a) (list_all p (range_with_len (a + 1) m)) e)
    (λ q. range_true p (a + 1) m (and_snd (p a) (list_all p (range_with_len (a + 1) m)) e) i q (omega arith))
    (side i (a + 1))

pub range_of : (p : ℕ → Bool) (a m : ℕ) → ((i : ℕ) → a ≤ i → i < a + m → p i ≡ true) → list_all p (range_with_len a m) ≡ true
range_of p a zero h = refl
range_of p a (suc m) h = rw (h a (omega arith) (omega arith)) (range_of p (a + 1) m (λ i x y. h i (omega arith) (omega arith)))

pub list_true : {A : Type 0} (p : A → Bool) (xs : List A) (d : A) → list_all p xs ≡ true → (i : ℕ) → i < length xs → p (get_or xs i d) ≡ true
list_true p [] d e i h = absurd (omega arith)
list_true p (x ∷ xs) d e zero h = and_fst (p x) (list_all p xs) e
list_true p (x ∷ xs) d e (suc i) h = list_true p xs d (and_snd (p x) (list_all p xs) e) i (omega arith)

pub list_of : {A : Type 0} (p : A → Bool) (xs : List A) (d : A) → ((i : ℕ) → i < length xs → p (get_or xs i d) ≡ true) → list_all p xs ≡ true
list_of p [] d h = refl
list_of p (x ∷ xs) d h = rw (h 0 (omega arith)) (list_of p xs d (λ i l. h (suc i) (omega arith)))
