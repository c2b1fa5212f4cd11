-- The table's laws of runs of blocks, over any start and length: a run and then the one that follows, a run turned and turned back, and how many blocks are set.
-- Assumes nothing.
use mathlib.Core.Path.{◌≡◌, refl, ap, ◌∙◌, sym}
use mathlib.Core.Bool.{Bool, true, false, cond, not, ◌||◌}
use mathlib.Core.Logic.{⊎_elim}
use mathlib.Core.List.{List}
use Prim.Native.Nat.{ℕ, zero, suc, ◌+◌, ◌-◌, ◌≤◌, ◌<◌}
use native.Mathlib.Nat.{add-zero, zero-add, add_assoc}
use native.Mathlib.Omega.{arith}
use Rattle.map_records.proofs.Order.{side}
use Rattle.device_words.specs.Table.{IsTable, bit_at, within, turned, held_in, set_in}
use Rattle.device_words.proofs.TableLaws.{table_bit, table_ext, table_same}
use Rattle.device_words.proofs.WordLaws.{within_in, within_before, within_after, held_of, stays}
use Rattle.device_words.proofs.CountOnes.{set_held}

-- ---- the blocks of a run, then those of the next, are the blocks of both

pub within_both : (from n m b : ℕ) → within from (n + m) b ≡ (within from n b || within (from + n) m b)
within_both from n m b =
    ⊎_elim
    (λ (lt : b < from). simp (within_before from (n + m) b lt, within_before from n b lt, within_before (from + n) m b (omega arith)))
    (λ (ge : from ≤ b). ⊎_elim
    (λ (lt : b < from + n). simp (within_in from (n + m) b ge (omega arith), within_in from n b ge lt))
    (λ (le : from + n ≤ b). ⊎_elim
    (λ (lt : b < from + n + m). simp (within_in from (n + m) b ge (omega arith), within_in (from + n) m b le lt, within_after from n b le))
    (λ (past : from + n + m ≤ b). simp (within_after from (n + m) b (omega arith), within_after from n b le, within_after (from + n) m b past))
    (side b (from + n + m)))
    (side b (from + n)))
    (side b from)

pub turned_both : (t : List ℕ) (from n m : ℕ) (on : Bool) → turned (turned t from n on) (from + n) m on ≡ turned t from (n + m) on
turned_both t from n m on =
    table_same (λ b. cond (within (from + n) m b) on (bit_at (turned t from n on) b)) (λ b. cond (within from (n + m) b) on (bit_at t b))
    (λ b l. ap (λ (x : Bool). cond (within (from + n) m b) on x) (table_bit (λ c. cond (within from n c) on (bit_at t c)) b l)
    ∙ either (bit_at t b) (within from n b) (within (from + n) m b) ∙ ap (λ (x : Bool). cond x on (bit_at t b)) (sym (within_both from n m b)))
  where
    either : (z x y : Bool) → cond y on (cond x on z) ≡ cond (x || y) on z
    either z true true = refl
    either z true false = refl
    either z false true = refl
    either z false false = refl

-- ---- turned, and turned back: a run of which no block is set is set and cleared again, and the other way

pub turned_back : (t : List ℕ) (from n : ℕ) (on : Bool) → IsTable t → held_in t from n ≡ cond (not on) n 0 → turned (turned t from n on) from n (not on) ≡ t
turned_back t from n on h e =
    sym (table_ext t (λ b. cond (within from n b) (not on) (bit_at (turned t from n on) b)) h
    (λ b l. stays t from n (not on) b e ∙ over (bit_at t b) (within from n b)
    ∙ ap (λ (x : Bool). cond (within from n b) (not on) x) (sym (table_bit (λ c. cond (within from n c) on (bit_at t c)) b l))))
  where
    over : (z x : Bool) → cond x (not on) z ≡ cond x (not on) (cond x on z)
    over z true = refl
    over z false = refl

-- ---- how many

pub held_both : (t : List ℕ) (from n m : ℕ) → held_in t from (n + m) ≡ held_in t from n + held_in t (from + n) m
unfolding held_in
held_both t from n zero = ap (held_in t from) (add-zero n) ∙ sym (add-zero (held_in t from n))
held_both t from n (suc m) =
    let e : n + suc m ≡ suc (n + m) = omega arith in
    ap (held_in t from) e
    ∙ omega (arith, held_both t from n m, ap {B = ℕ} (λ (x : ℕ). cond (bit_at t x) 1 0) (sym (add_assoc from n m)))

-- of two tables with the same blocks in a run
held_same : (t u : List ℕ) (from n : ℕ) → ((i : ℕ) → i < n → bit_at t (from + i) ≡ bit_at u (from + i)) → held_in t from n ≡ held_in u from n
unfolding held_in
held_same t u from zero h = refl
held_same t u from (suc n) h = rw (held_same t u from n (λ i l. h i (omega arith)), h n (omega arith))

-- of the run that was turned; of one that shares no block with it; of the whole table
module _ (t : List ℕ) (from n : ℕ) (on : Bool) where
  pub held_turned : from + n ≤ 1024 → held_in (turned t from n on) from n ≡ cond on n 0
  held_turned h =
      held_of (turned t from n on) from n on
      (λ b l. table_bit (λ c. cond (within from n c) on (bit_at t c)) (from + b) (omega arith)
      ∙ ap (λ (x : Bool). cond x on (bit_at t (from + b))) (within_in from n (from + b) (omega arith) (omega arith)))

  pub held_apart : (at k : ℕ) → at + k ≤ 1024 → ((b : ℕ) → at ≤ b → b < at + k → within from n b ≡ false) → held_in (turned t from n on) at k ≡ held_in t at k
  held_apart at k h apart =
      held_same (turned t from n on) t at k
      (λ i l. table_bit (λ c. cond (within from n c) on (bit_at t c)) (at + i) (omega arith)
      ∙ ap (λ (x : Bool). cond x on (bit_at t (at + i))) (apart (at + i) (omega arith) (omega arith)))

  -- what was set in the run is given up for what is set in it now
  pub set_turned : from + n ≤ 1024 → set_in (turned t from n on) 16 + held_in t from n ≡ set_in t 16 + cond on n 0
  set_turned h =
      let rest = 1024 - (from + n) in
      omega (
        arith,
        parts t rest (omega arith),
        parts (turned t from n on) rest (omega arith),
        held_apart 0 from (omega arith) (λ b p q. within_before from n b (omega arith)),
        held_turned h,
        held_apart (from + n) rest (omega arith) (λ b p q. within_after from n b p),
      )
    where
      -- the blocks ahead of the run, in it and behind it
      parts : (u : List ℕ) (rest : ℕ) → from + (n + rest) ≡ 1024 → set_in u 16 ≡ held_in u 0 from + (held_in u from n + held_in u (from + n) rest)
      parts u rest e =
          set_held u 16 ∙ ap (held_in u 0) (sym e) ∙ held_both u 0 from (n + rest)
          ∙ ap (λ (x : ℕ). held_in u 0 from + x) (ap (λ (x : ℕ). held_in u x (n + rest)) (zero-add from) ∙ held_both u from n rest)
