-- Laws of stores into a list of words: one behind another, over the whole of it, and what is read elsewhere. Assumes nothing.
use mathlib.Core.Path.{◌≡◌, refl, sym, ap, ◌∙◌}
use mathlib.Core.List.{List, [], ◌∷◌, ◌++◌, append-nil}
use Prim.Native.Nat.{ℕ, zero, suc, ◌+◌}
use native.Mathlib.Nat.{add-zero, add-suc, suc-add}
use native.Mathlib.Numerals.{add-one}
use native.Mathlib.Omega.{arith}
use Prim.Native.Nat.{◌≤◌, ◌<◌}
use lib.ListN.{length, set, drop, get_or, drop_of_length-le, length-set}
use lib.Seq.{sets, sets-eq, drop-cons, get_or-set_same, get_or-set_other}

-- ---- stores at a place and at the places behind it, as code names them
abbrev pub puts : List ℕ → ℕ → ℕ → List ℕ → List ℕ
puts l at j [] = l
puts l at j (a ∷ vs) = puts (set l (at + j) a) at (suc j) vs

puts_sets : (l : List ℕ) (at j : ℕ) (vs : List ℕ) → puts l at j vs ≡ sets l (at + j) vs
puts_sets l at j [] = refl
puts_sets l at j (a ∷ vs) = puts_sets (set l (at + j) a) at (suc j) vs ∙ ap (λ (k : ℕ). sets (set l (at + j) a) k vs) (add-suc at j)

pub stored : (l : List ℕ) (at a : ℕ) (vs : List ℕ) → puts (set l at a) at 1 vs ≡ sets l at (a ∷ vs)
stored l at a vs = puts_sets (set l at a) at 1 vs ∙ ap (λ (k : ℕ). sets (set l at a) k vs) (add-one at)

-- ---- runs of stores: one behind another, and one over the whole
pub sets_append : (l : List ℕ) (i : ℕ) (xs ys : List ℕ) → sets l i (xs ++ ys) ≡ sets (sets l i xs) (i + length xs) ys
sets_append l i [] ys = ap (λ (k : ℕ). sets l k ys) (sym (add-zero i))
sets_append l i (a ∷ xs) ys =
    sets_append (set l i a) (suc i) xs ys
    ∙ ap (λ (k : ℕ). sets (sets (set l i a) (suc i) xs) k ys) (suc-add i (length xs) ∙ sym (add-suc i (length xs)))

pub over : (vs w : List ℕ) → length w ≡ length vs → sets w 0 vs ≡ vs
over vs w e =
    sets-eq vs w 0 (omega (arith, e)) ∙ ap (λ (r : List ℕ). vs ++ r) (drop_of_length-le w {i = 0 + length vs} (omega (arith, e))) ∙ append-nil vs

-- ---- what is read of a list into which a run was stored: below it, above it, and of the run
pub sets_below : (l : List ℕ) (i : ℕ) (vs : List ℕ) (j : ℕ) → j < i → get_or (sets l i vs) j 0 ≡ get_or l j 0
sets_below l i [] j h = refl
sets_below l i (a ∷ vs) j h = sets_below (set l i a) (suc i) vs j (omega arith) ∙ get_or-set_other l i j a 0 (λ e. omega arith)

pub sets_above : (l : List ℕ) (i : ℕ) (vs : List ℕ) (j : ℕ) → i + length vs ≤ j → get_or (sets l i vs) j 0 ≡ get_or l j 0
sets_above l i [] j h = refl
sets_above l i (a ∷ vs) j h = sets_above (set l i a) (suc i) vs j (omega arith) ∙ get_or-set_other l i j a 0 (λ e. omega arith)

pub sets_within : (l : List ℕ) (i : ℕ) (vs : List ℕ) (j : ℕ) → j < length vs → i + length vs ≤ length l → get_or (sets l i vs) (i + j) 0 ≡ get_or vs j 0
sets_within l i [] j h room = absurd (omega arith)
sets_within l i (a ∷ vs) zero h room =
    sets_below (set l i a) (suc i) vs (i + 0) (omega arith)
    ∙ ap (λ (k : ℕ). get_or (set l i a) k 0) (add-zero i) ∙ get_or-set_same l i a 0 (omega arith)
sets_within l i (a ∷ vs) (suc j) h room =
    let e : i + suc j ≡ suc i + j = omega arith in
    ap (λ (k : ℕ). get_or (sets (set l i a) (suc i) vs) k 0) e ∙ sets_within (set l i a) (suc i) vs j (omega arith) (omega (arith, length-set l i a))

-- ---- a list written over another from the front, element by element: what is left to write
pub store_turn : (w l : List ℕ) (i : ℕ) → i < length l → sets w i (drop i l) ≡ l → sets (set w i (get_or l i 0)) (i + 1) (drop (i + 1) l) ≡ l
store_turn w l i h e = rw (add-one i) (sym (ap (sets w i) (drop-cons l i 0 h)) ∙ e)

pub store_end : (w l : List ℕ) (i : ℕ) → length l ≤ i → sets w i (drop i l) ≡ l → w ≡ l
store_end w l i h e = sym (ap (sets w i) (drop_of_length-le l {i = i} h)) ∙ e
