-- Laws of a run of blocks by its words: the bits of a run in a word, a word with these bits set or not, and the loops over a run's words. Assumes nothing.
use mathlib.Core.Path.{◌≡◌, refl, ap, ◌∙◌, sym, subst}
use mathlib.Core.Bool.{Bool, true, false, cond, not, ◌&&◌, ◌||◌, or-true, or-false}
use mathlib.Core.Logic.{⊎_elim}
use mathlib.Core.List.{List}
use Prim.Native.Nat.{ℕ, suc, zero, ◌+◌, ◌-◌, ◌*◌, ◌/◌, ◌%◌, ◌^◌, ◌≤◌, ◌<◌}
use native.Mathlib.Nat.{mod-lt, one-mul, pow-suc, add-zero, eq-or-lt_of_le}
use native.Mathlib.Omega.{arith}
use lib.Dec.{leb, ltb, eqb, lit<}
use lib.Pow.{shl_exact}
use lib.Bits.{bit_or, bit_xor, or_shr, or_mod, or_lt, xor_shr, xor_mod, xor_lt}
use lib.ListN.{get_or, set, replicate, length-set}
use lib.Seq.{get_or-set_same, get_or-set_other}
use borrow.Author.Tests.{lt-ltb, le-ltb, le-leb, lt-leb, eq-eqb, ne_eqb, eqb-true}
use Rattle.std.specs.List.{list_all, range_with_len}
use Rattle.device_words.proofs.ListTests.{same_test, range_true, range_of}
use Rattle.map_check.proofs.Bools.{or_left, or_right}
use Rattle.std.proofs.lemmas.Nat.Bits.{ones_shr}
use Rattle.std.specs.Prelude.{min}
use Rattle.device_words.specs.Table.{IsTable, bit_of, bit_at, word_of, table_of, within, held_in, any_below}
use Rattle.device_words.proofs.TableLaws.{word_bits, word_lt, word_ext, word_low, word_bit, block, table_ext, held_le, held_all, held_none, zero_word, no_bit, zero_bit}
use Rattle.map_records.proofs.Order.{side, eq_or_not}

word_is : (w : ℕ) (f : ℕ → Bool) → w < 2 ^ 64 → ((k : ℕ) → k < 64 → bit_of w k ≡ f k) → w ≡ word_of f 64
word_is w f h e = word_bits w h ∙ word_ext (bit_of w) f 64 e

-- ---- the bits of a word below bit b

word_ones : (f : ℕ → Bool) (n : ℕ) → ((k : ℕ) → k < n → f k ≡ true) → word_of f n + 1 ≡ 2 ^ n
unfolding word_of
word_ones f zero h = refl
word_ones f (suc n) h =
    ap (λ (b : Bool). word_of f n + cond b (2 ^ n) 0 + 1) (h n (omega arith))
    ∙ omega (arith, pow-suc 2 n, word_ones f n (λ k p. h k (omega arith)))

pub shl_one : (k : ℕ) → k < 64 → 1 * 2 ^ k % 18446744073709551616 ≡ 2 ^ k
shl_one k h = shl_exact 1 k 64 (lit< tt) (omega arith) ∙ one-mul (2 ^ k)

module _ (b : ℕ) where
  below_ones : (n : ℕ) → n ≤ b → word_of (λ k. ltb k b) n + 1 ≡ 2 ^ n
  below_ones n h = word_ones (λ k. ltb k b) n (λ k p. lt-ltb k b (omega arith))

  pub below_all : 64 ≤ b → 18446744073709551615 ≡ word_of (λ k. ltb k b) 64
  below_all h = omega (arith, below_ones 64 h)

  pub below_some : b ≤ 64 → 2 ^ b - 1 ≡ word_of (λ k. ltb k b) 64
  below_some h = omega (arith, below_ones b (omega arith), word_low (λ k. ltb k b) b 64 h (λ j p q. le-ltb j b p))

  -- all bits moved down leave these
  pub below_shr : (m : ℕ) → m ≡ min b 64 → 18446744073709551615 / 2 ^ (64 - m) ≡ word_of (λ k. ltb k b) 64
  below_shr m e =
      ⊎_elim
      (λ (lt : b < 64). let z : 64 - (64 - m) ≡ b = omega arith in
      ones_shr 64 (64 - m) (omega arith) ∙ ap (λ (x : ℕ). 2 ^ x - 1) z ∙ below_some (omega arith))
      (λ (ge : 64 ≤ b). let z : 64 - (64 - m) ≡ 64 = omega arith in
      ones_shr 64 (64 - m) (omega arith) ∙ ap (λ (x : ℕ). 2 ^ x - 1) z ∙ below_all ge)
      (side b 64)

-- ---- a word with the bits of a run set or not

or_digit : (x y : ℕ) → x < 2 → y < 2 → eqb (bit_or x y) 1 ≡ (eqb x 1 || eqb y 1)
or_digit zero zero p q = refl
or_digit zero (suc zero) p q = refl
or_digit (suc zero) zero p q = refl
or_digit (suc zero) (suc zero) p q = refl
or_digit zero (suc (suc y)) p q = absurd (omega arith)
or_digit (suc zero) (suc (suc y)) p q = absurd (omega arith)
or_digit (suc (suc x)) y p q = absurd (omega arith)

xor_digit : (x y : ℕ) → x < 2 → y < 2 → eqb (bit_xor x y) 1 ≡ cond (eqb y 1) (not (eqb x 1)) (eqb x 1)
xor_digit zero zero p q = refl
xor_digit zero (suc zero) p q = refl
xor_digit (suc zero) zero p q = refl
xor_digit (suc zero) (suc zero) p q = refl
xor_digit zero (suc (suc y)) p q = absurd (omega arith)
xor_digit (suc zero) (suc (suc y)) p q = absurd (omega arith)
xor_digit (suc (suc x)) y p q = absurd (omega arith)

or_bit : (a b k : ℕ) → bit_of (bit_or a b) k ≡ (bit_of a k || bit_of b k)
or_bit a b k =
    ap (λ (x : ℕ). eqb x 1) (ap (λ (x : ℕ). x % 2) (or_shr a b k) ∙ or_mod (a / 2 ^ k) (b / 2 ^ k) 1)
    ∙ or_digit (a / 2 ^ k % 2) (b / 2 ^ k % 2) (mod-lt (a / 2 ^ k) (lit< tt)) (mod-lt (b / 2 ^ k) (lit< tt))

xor_bit : (a b k : ℕ) → bit_of (bit_xor a b) k ≡ cond (bit_of b k) (not (bit_of a k)) (bit_of a k)
xor_bit a b k =
    ap (λ (x : ℕ). eqb x 1) (ap (λ (x : ℕ). x % 2) (xor_shr a b k) ∙ xor_mod (a / 2 ^ k) (b / 2 ^ k) 1)
    ∙ xor_digit (a / 2 ^ k % 2) (b / 2 ^ k % 2) (mod-lt (a / 2 ^ k) (lit< tt)) (mod-lt (b / 2 ^ k) (lit< tt))

pub within_in : (from n b : ℕ) → from ≤ b → b < from + n → within from n b ≡ true
within_in from n b p q = simp (le-leb from b p, lt-ltb b (from + n) q)

pub within_before : (from n b : ℕ) → b < from → within from n b ≡ false
within_before from n b p = simp (lt-leb from b p)

pub within_after : (from n b : ℕ) → from + n ≤ b → within from n b ≡ false
within_after from n b p = simp (le-leb from b (omega arith), le-ltb b (from + n) p)

-- below the run's end, but not below its start
from_upto : (low end k : ℕ) → low ≤ end → cond (ltb k low) (not (ltb k end)) (ltb k end) ≡ (leb low k && ltb k end)
from_upto low end k h =
    ⊎_elim
    (λ lt. simp (lt-ltb k low lt, lt-ltb k end (omega arith), lt-leb low k lt))
    (λ ge. simp (le-ltb k low ge, le-leb low k ge))
    (side k low)

set_bit : (x y : Bool) → (x || y) ≡ cond y true x
set_bit true true = refl
set_bit true false = refl
set_bit false true = refl
set_bit false false = refl

unset_bit : (x y : Bool) → cond y (not (x || y)) (x || y) ≡ cond y false x
unset_bit true true = refl
unset_bit true false = refl
unset_bit false true = refl
unset_bit false false = refl

module _ (low end to before w : ℕ) (p : to ≡ word_of (λ k. ltb k end) 64) (q : before ≡ word_of (λ k. ltb k low) 64) (order : low ≤ end) (h : w < 2 ^ 64) where
  run_bit : (k : ℕ) → k < 64 → bit_of (bit_xor to before) k ≡ (leb low k && ltb k end)
  run_bit k r =
      let a : bit_of to k ≡ ltb k end = ap (λ (x : ℕ). bit_of x k) p ∙ word_bit (λ j. ltb j end) 64 k r in
      let b : bit_of before k ≡ ltb k low = ap (λ (x : ℕ). bit_of x k) q ∙ word_bit (λ j. ltb j low) 64 k r in
      xor_bit to before k ∙ ap (λ (x : Bool). cond (bit_of before k) (not x) x) a
      ∙ ap (λ (x : Bool). cond x (not (ltb k end)) (ltb k end)) b ∙ from_upto low end k order

  run_lt : bit_xor to before < 2 ^ 64
  run_lt =
      xor_lt 64 to before (subst (λ (x : ℕ). x < 2 ^ 64) (sym p) (word_lt (λ k. ltb k end) 64))
      (subst (λ (x : ℕ). x < 2 ^ 64) (sym q) (word_lt (λ k. ltb k low) 64))

  set_lt : bit_or w (bit_xor to before) < 2 ^ 64
  set_lt = or_lt 64 w (bit_xor to before) h run_lt

  pub run_set : bit_or w (bit_xor to before) ≡ word_of (λ k. cond (leb low k && ltb k end) true (bit_of w k)) 64
  run_set =
      word_is (bit_or w (bit_xor to before)) (λ k. cond (leb low k && ltb k end) true (bit_of w k)) set_lt
      (λ k r. or_bit w (bit_xor to before) k ∙ set_bit (bit_of w k) (bit_of (bit_xor to before) k) ∙ ap (λ (x : Bool). cond x true (bit_of w k)) (run_bit k r))

  pub run_unset : bit_xor (bit_or w (bit_xor to before)) (bit_xor to before) ≡ word_of (λ k. cond (leb low k && ltb k end) false (bit_of w k)) 64
  run_unset =
      let run = bit_xor to before in
      word_is (bit_xor (bit_or w run) run) (λ k. cond (leb low k && ltb k end) false (bit_of w k)) (xor_lt 64 (bit_or w run) run set_lt run_lt)
      (λ k r. xor_bit (bit_or w run) run k ∙ ap (λ (x : Bool). cond (bit_of run k) (not x) x) (or_bit w run k)
      ∙ unset_bit (bit_of w k) (bit_of run k) ∙ ap (λ (x : Bool). cond x false (bit_of w k)) (run_bit k r))

-- ---- a word whose bits are all as a run's are to be, turned

one_bit : (k : ℕ) → k < 64 → bit_of 18446744073709551615 k ≡ true
one_bit k h =
    ap (λ (w : ℕ). bit_of w k) (below_all 64 (lit< tt)) ∙ word_bit (λ j. ltb j 64) 64 k h ∙ lt-ltb k 64 h

pub full_word : (w : ℕ) (on : Bool) (f : ℕ → Bool) → w ≡ cond on 18446744073709551615 0 → word_of (λ k. cond (f k) on (bit_of w k)) 64 ≡ w
full_word w on f e = sym (word_is w (λ k. cond (f k) on (bit_of w k)) (fits on e) (λ k h. same k (f k) (bit_is on e k h)))
  where
    fits : (x : Bool) → w ≡ cond x 18446744073709551615 0 → w < 2 ^ 64
    fits true p = omega arith
    fits false p = omega arith

    bit_is : (x : Bool) → w ≡ cond x 18446744073709551615 0 → (k : ℕ) → k < 64 → bit_of w k ≡ x
    bit_is true p k h = ap (λ (v : ℕ). bit_of v k) p ∙ one_bit k h
    bit_is false p k h = ap (λ (v : ℕ). bit_of v k) p ∙ no_bit k

    same : (k : ℕ) (x : Bool) → bit_of w k ≡ on → bit_of w k ≡ cond x on (bit_of w k)
    same k true p = p
    same k false p = refl

-- ---- every block of a run set, or none

pub held_of : (t : List ℕ) (from n : ℕ) (on : Bool) → ((b : ℕ) → b < n → bit_at t (from + b) ≡ on) → held_in t from n ≡ cond on n 0
unfolding held_in
held_of t from zero true h = refl
held_of t from zero false h = refl
held_of t from (suc n) on h = go on (h n (omega arith)) (held_of t from n on (λ b p. h b (omega arith)))
  where
    go : (x : Bool) → bit_at t (from + n) ≡ x → held_in t from n ≡ cond x n 0 → held_in t from n + cond (bit_at t (from + n)) 1 0 ≡ cond x (suc n) 0
    go true e p = rw e (omega arith)
    go false e p = rw e (omega arith)

held_is : (t : List ℕ) (from n : ℕ) (on : Bool) → held_in t from n ≡ cond on n 0 → (b : ℕ) → b < n → bit_at t (from + b) ≡ on
held_is t from n true e b h = held_all t from n e b h
held_is t from n false e b h = held_none t from n e b h

-- one of a run is set; one of it is not
pub any_held : (t : List ℕ) (from n : ℕ) → ltb 0 (held_in t from n) ≡ not (eqb (held_in t from n) 0)
any_held t from n =
    ⊎_elim
    (λ (e : held_in t from n ≡ 0). le-ltb 0 (held_in t from n) (omega arith) ∙ sym (ap not (eq-eqb (held_in t from n) 0 e)))
    (λ ne. lt-ltb 0 (held_in t from n) (omega arith) ∙ sym (ap not (ne_eqb (held_in t from n) 0 ne)))
    (eq_or_not (held_in t from n) 0)

pub any_free : (t : List ℕ) (from n : ℕ) → ltb (held_in t from n) n ≡ not (eqb (held_in t from n) n)
any_free t from n =
    ⊎_elim
    (λ (e : held_in t from n ≡ n). le-ltb (held_in t from n) n (omega arith) ∙ sym (ap not (eq-eqb (held_in t from n) n e)))
    (λ ne. lt-ltb (held_in t from n) n (omega (arith, held_le t from n)) ∙ sym (ap not (ne_eqb (held_in t from n) n ne)))
    (eq_or_not (held_in t from n) n)

-- a run's blocks in word i turned to `on`
module _ (t : List ℕ) (from n : ℕ) (on : Bool) where
  abbrev pub turned_word : ℕ → ℕ
  turned_word i = word_of (λ k. cond (within from n (i * 64 + k)) on (bit_of (get_or t i 0) k)) 64

  pub stays : (b : ℕ) → held_in t from n ≡ cond on n 0 → bit_at t b ≡ cond (within from n b) on (bit_at t b)
  stays b e =
      ⊎_elim
      (λ lt. sym (ap (λ (x : Bool). cond x on (bit_at t b)) (within_before from n b lt)))
      (λ ge. ⊎_elim
      (λ lt. let at : from + (b - from) ≡ b = omega arith in
      ap (bit_at t) (sym at) ∙ held_is t from n on e (b - from) (omega arith) ∙ sym (ap (λ (x : Bool). cond x on (bit_at t b)) (within_in from n b ge lt)))
      (λ le. sym (ap (λ (x : Bool). cond x on (bit_at t b)) (within_after from n b le)))
      (side b (from + n)))
      (side b from)

  -- then no word changes
  stays_word : (i : ℕ) → get_or t i 0 < 2 ^ 64 → held_in t from n ≡ cond on n 0 → turned_word i ≡ get_or t i 0
  stays_word i h p =
      sym (word_is (get_or t i 0) (λ k. cond (within from n (i * 64 + k)) on (bit_of (get_or t i 0) k)) h
      (λ k r. sym (block t i k r) ∙ stays (i * 64 + k) p ∙ ap (λ (x : Bool). cond (within from n (i * 64 + k)) on x) (block t i k r)))

  -- the run's blocks in a word that does not change
  word_on : (i b : ℕ) → turned_word i ≡ get_or t i 0 → from ≤ b → b < from + n → b / 64 ≡ i → bit_at t b ≡ on
  word_on i b same p q here =
      let k = b % 64 in
      let h : k < 64 = omega arith in
      let at : i * 64 + k ≡ b = omega arith in
      ap (bit_at t) (sym at) ∙ block t i k h ∙ ap (λ (x : ℕ). bit_of x k) (sym same)
      ∙ word_bit (λ j. cond (within from n (i * 64 + j)) on (bit_of (get_or t i 0) j)) 64 k h
      ∙ ap (λ (x : Bool). cond x on (bit_of (get_or t i 0) k)) (ap (within from n) at ∙ within_in from n b p q)

  -- no word of a run changes just where its blocks are all on, or all off
  pub run_words : (start end : ℕ) → start ≡ from / 64 → end ≡ (from + n + 63) / 64 → IsTable t → from + n ≤ 1024
      → list_all (λ i. eqb (turned_word i) (get_or t i 0)) (range_with_len start (end - start)) ≡ eqb (held_in t from n) (cond on n 0)
  run_words start end first last w room =
      let p : ℕ → Bool = λ i. eqb (turned_word i) (get_or t i 0) in
      let m = end - start in
      same_test (list_all p (range_with_len start m)) (eqb (held_in t from n) (cond on n 0))
      (λ e. eq-eqb (held_in t from n) (cond on n 0) (held_of t from n on (λ b l. let i = (from + b) / 64 in
      word_on i (from + b) (eqb-true (turned_word i) (get_or t i 0) (range_true p start m e i (omega arith) (omega arith))) (omega arith) (omega arith) refl)))
      (λ e. range_of p start m (λ i x y. eq-eqb (turned_word i) (get_or t i 0)
      (stays_word i (w.words i (omega arith)) (eqb-true (held_in t from n) (cond on n 0) e))))

-- ---- the blocks of a run turned to `on`, in the words below word i

pub record Turned (t u : List ℕ) (from n : ℕ) (on : Bool) (i : ℕ) : Type 0 where
  pub table : IsTable u
  pub done : (b : ℕ) → b < i * 64 → bit_at u b ≡ cond (within from n b) on (bit_at t b)
  pub rest : (b : ℕ) → i * 64 ≤ b → bit_at u b ≡ bit_at t b

pub turned_none : (t : List ℕ) (from n : ℕ) (on : Bool) → IsTable t → Turned t t from n on (from / 64)
turned_none t from n on w = record {
  table = w;
  done = λ b p. sym (ap (λ (x : Bool). cond x on (bit_at t b)) (within_before from n b (omega arith)));
  rest = λ b p. refl;
}

module _ (t u : List ℕ) (from n : ℕ) (on : Bool) (i w : ℕ) (h : i < 16) (e : w ≡ word_of (λ k. cond (within from n (i * 64 + k)) on (bit_of (get_or u i 0) k)) 64) (f : Turned t u from n on i) where
  same_word : get_or (set u i w) i 0 ≡ w
  same_word = get_or-set_same u i w 0 (omega (arith, f.table.size))

  other_word : (b : ℕ) → (b / 64 ≡ i → ⊥) → bit_at (set u i w) b ≡ bit_at u b
  other_word b ne = ap (λ (x : ℕ). bit_of x (b % 64)) (get_or-set_other u i (b / 64) w 0 ne)

  word_fits : (j : ℕ) → j < 16 → get_or (set u i w) j 0 < 2 ^ 64
  word_fits j p =
      ⊎_elim
      (λ (s : j ≡ i). subst (λ (x : ℕ). x < 2 ^ 64) (sym (ap (λ (x : ℕ). get_or (set u i w) x 0) s ∙ same_word ∙ e))
      (word_lt (λ k. cond (within from n (i * 64 + k)) on (bit_of (get_or u i 0) k)) 64))
      (λ ne. subst (λ (x : ℕ). x < 2 ^ 64) (sym (get_or-set_other u i j w 0 ne)) (f.table.words j p))
      (eq_or_not j i)

  word_done : (k : ℕ) → k < 64 → bit_at (set u i w) (i * 64 + k) ≡ cond (within from n (i * 64 + k)) on (bit_at t (i * 64 + k))
  word_done k p =
      block (set u i w) i k p ∙ ap (λ (x : ℕ). bit_of x k) (same_word ∙ e)
      ∙ word_bit (λ j. cond (within from n (i * 64 + j)) on (bit_of (get_or u i 0) j)) 64 k p
      ∙ ap (λ (x : Bool). cond (within from n (i * 64 + k)) on x) (sym (block u i k p) ∙ f.rest (i * 64 + k) (omega arith))

  pub turned_next : Turned t (set u i w) from n on (i + 1)
  turned_next = record {
    table = record { size = length-set u i w ∙ f.table.size; words = word_fits };
    done = λ b p. ⊎_elim
        (λ lt. other_word b (λ q. omega arith) ∙ f.done b lt)
        (λ ge. let at : i * 64 + (b - i * 64) ≡ b = omega arith in
        subst (λ (x : ℕ). bit_at (set u i w) x ≡ cond (within from n x) on (bit_at t x)) at (word_done (b - i * 64) (omega arith)))
        (side b (i * 64));
    rest = λ b p. other_word b (λ q. omega arith) ∙ f.rest b (omega arith);
  }

pub turned_end : (t u : List ℕ) (from n : ℕ) (on : Bool) (i : ℕ) → from + n ≤ i * 64 → Turned t u from n on i → u ≡ table_of (λ b. cond (within from n b) on (bit_at t b))
turned_end t u from n on i h f =
    table_ext u (λ b. cond (within from n b) on (bit_at t b)) f.table
    (λ b p. ⊎_elim (λ lt. f.done b lt)
    (λ ge. f.rest b ge ∙ sym (ap (λ (x : Bool). cond x on (bit_at t b)) (within_after from n b (omega arith))))
    (side b (i * 64)))

-- ---- one block of a run set

pub held_any : (t : List ℕ) (from n : ℕ) → not (eqb (held_in t from n) 0) ≡ any_below (λ i. bit_at t (from + i)) n
unfolding held_in any_below
held_any t from zero = refl
held_any t from (suc n) = go (bit_at t (from + n)) (held_any t from n)
  where
    go : (x : Bool) → not (eqb (held_in t from n) 0) ≡ any_below (λ i. bit_at t (from + i)) n
        → not (eqb (held_in t from n + cond x 1 0) 0) ≡ (any_below (λ i. bit_at t (from + i)) n || x)
    go true e = ap not (ne_eqb (held_in t from n + 1) 0 (λ (z : held_in t from n + 1 ≡ 0). omega arith)) ∙ sym (or-true (any_below (λ i. bit_at t (from + i)) n))
    go false e = ap (λ (h : ℕ). not (eqb h 0)) (add-zero (held_in t from n)) ∙ e ∙ sym (or-false (any_below (λ i. bit_at t (from + i)) n))

pub none_of : (f : ℕ → Bool) (n : ℕ) → any_below f n ≡ false → (b : ℕ) → b < n → f b ≡ false
unfolding any_below
none_of f zero e b h = absurd (omega arith)
none_of f (suc n) e b h =
    ⊎_elim (λ (s : b ≡ n). ap f s ∙ or_right (any_below f n) (f n) e) (λ s. none_of f n (or_left (any_below f n) (f n) e) b s)
    (eq-or-lt_of_le {n = b} {m = n} (omega arith))

pub any_none : (f : ℕ → Bool) (n : ℕ) → ((b : ℕ) → b < n → f b ≡ false) → any_below f n ≡ false
unfolding any_below
any_none f zero h = refl
any_none f (suc n) h = rw (any_none f n (λ b p. h b (omega arith)), h n (omega arith))

-- a run of one
pub any_one : (f : ℕ → Bool) (b : ℕ) → any_below (λ i. f (b + i)) 1 ≡ f b
unfolding any_below
any_one f b = ap f (add-zero b)

-- ---- every block turned off

pub cleared : (t : List ℕ) → table_of (λ b. cond (within 0 1024 b) false (bit_at t b)) ≡ replicate 16 0
cleared t =
    sym (table_ext (replicate 16 0) (λ b. cond (within 0 1024 b) false (bit_at t b)) (record { size = refl; words = λ i h. rw (zero_word 16 i) (lit< tt) })
    (λ b h. zero_bit b ∙ sym (ap (λ (x : Bool). cond x false (bit_at t b)) (within_in 0 1024 b (omega arith) (omega arith)))))
