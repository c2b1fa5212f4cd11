-- Laws of words by their bits and of tables by their blocks. Assumes nothing.
use mathlib.Core.Path.{◌≡◌, refl, ap, ◌∙◌, sym, subst}
use Rattle.map_records.proofs.Order.{side}
use mathlib.Core.Bool.{Bool, true, false, cond, not, ◌&&◌, ◌||◌, or-true}
use mathlib.Core.Logic.{⊎_elim}
use mathlib.Core.List.{List, [], ◌∷◌}
use Prim.Native.Nat.{ℕ, suc, zero, ◌+◌, ◌-◌, ◌*◌, ◌/◌, ◌%◌, ◌^◌, ◌≤◌, ◌<◌}
use native.Mathlib.Nat.{div-one, eq-or-lt_of_le, zero-div, mod-eq_of_lt, mod-lt, mod-one, one-mul, zero-mul, pow-suc, add-mul-mod_self_right, div-eq_of_lt, add-zero, zero-add}
use Rattle.std.specs.List.{sum_by, list_all, zip}
use Rattle.std.proofs.lemmas.List.Sums.{sum_by-cons}
use Rattle.std.proofs.lemmas.Slice.Zip.{get_or-zip, length-zip}
use Rattle.device_words.proofs.ListTests.{same_test, list_true, list_of}
use lib.Seq.{get_or-drop}
use native.Mathlib.Omega.{arith}
use lib.Dec.{ltb, eqb, lit<}
use lib.Pow.{pow-add, shr-shr, mod-pow-add, field, high}
use lib.Bits.{bit_and, and_shr, and_mod, and_lt}
use lib.ListN.{length, get_or, replicate, drop, length-drop, get_or-eq_default}
use lib.Seq.{ext_get_or}
use borrow.Author.Tests.{lt-ltb, le-ltb, eqb-true, eq-eqb}
use Rattle.map_check.proofs.Bools.{never}
use Rattle.device_words.specs.Table.{IsTable, bit_of, bit_at, word_of, words_of, table_of, held_in, bits_in, set_in, all_below}
use Rattle.device_words.specs.Promises.{only_below, part_of}

-- ---- a word and its bits

digit : (x p : ℕ) → x < 2 → cond (eqb x 1) p 0 ≡ x * p
digit zero p h = sym (zero-mul p)
digit (suc zero) p h = sym (one-mul p)
digit (suc (suc x)) p h = absurd (omega arith)

one_more : (k : ℕ) → suc k ≡ 1 + k
one_more k = omega arith

-- the k low bits of a word
mod_word : (w k : ℕ) → w % 2 ^ k ≡ word_of (bit_of w) k
unfolding word_of
mod_word w zero = mod-one w
mod_word w (suc k) =
    ap (λ (x : ℕ). w % 2 ^ x) (one_more k) ∙ mod-pow-add w 1 k
    ∙ omega (arith, mod_word w k, digit (w / 2 ^ k % 2) (2 ^ k) (mod-lt (w / 2 ^ k) (lit< tt)))

-- a word is that of its bits
pub word_bits : (w : ℕ) → w < 2 ^ 64 → w ≡ word_of (bit_of w) 64
word_bits w h = sym (mod-eq_of_lt h) ∙ mod_word w 64

pub word_lt : (f : ℕ → Bool) (k : ℕ) → word_of f k < 2 ^ k
unfolding word_of
word_lt f zero = lit< tt
word_lt f (suc k) = go (f k) (word_lt f k)
  where
    go : (b : Bool) → word_of f k < 2 ^ k → word_of f k + cond b (2 ^ k) 0 < 2 ^ suc k
    go true h = omega (arith, pow-suc 2 k)
    go false h = omega (arith, pow-suc 2 k)

pub word_ext : (f g : ℕ → Bool) (n : ℕ) → ((k : ℕ) → k < n → f k ≡ g k) → word_of f n ≡ word_of g n
unfolding word_of
word_ext f g zero h = refl
word_ext f g (suc n) h = rw (word_ext f g n (λ k p. h k (omega arith)), h n (omega arith))

-- the m low bits of a word of n bits
word_mod : (f : ℕ → Bool) (n m : ℕ) → m ≤ n → word_of f n % 2 ^ m ≡ word_of f m
unfolding word_of
word_mod f zero zero h = refl
word_mod f zero (suc m) h = absurd (omega arith)
word_mod f (suc n) m h =
    ⊎_elim
    (λ (e : m ≡ suc n). ap (λ (x : ℕ). word_of f (suc n) % 2 ^ x) e ∙ mod-eq_of_lt (word_lt f (suc n)) ∙ ap (word_of f) (sym e))
    (λ p. go p (f n) (word_mod f n m (omega arith)))
    (eq-or-lt_of_le {n = m} {m = suc n} h)
  where
    go : m < suc n → (b : Bool) → word_of f n % 2 ^ m ≡ word_of f m → (word_of f n + cond b (2 ^ n) 0) % 2 ^ m ≡ word_of f m
    go p true below =
        let e : n ≡ (n - m) + m = omega arith in
        ap (λ (x : ℕ). (word_of f n + x) % 2 ^ m) (ap (λ (x : ℕ). 2 ^ x) e ∙ pow-add 2 (n - m) m)
        ∙ add-mul-mod_self_right (word_of f n) (2 ^ (n - m)) (2 ^ m) ∙ below
    go p false below = ap (λ (x : ℕ). x % 2 ^ m) (add-zero (word_of f n)) ∙ below

-- bit k of the word of f
pub word_bit : (f : ℕ → Bool) (n k : ℕ) → k < n → bit_of (word_of f n) k ≡ f k
unfolding word_of
word_bit f n k h =
    ap (λ (x : ℕ). eqb x 1) (sym (field (word_of f n) 1 k))
    ∙ ap (λ (x : ℕ). eqb (word_of f n % 2 ^ x / 2 ^ k) 1) (sym (one_more k))
    ∙ ap (λ (x : ℕ). eqb (x / 2 ^ k) 1) (word_mod f n (suc k) (omega arith)) ∙ go (f k)
  where
    go : (b : Bool) → eqb ((word_of f k + cond b (2 ^ k) 0) / 2 ^ k) 1 ≡ b
    go true =
        let e : word_of f k + 2 ^ k ≡ 1 * 2 ^ k + word_of f k = omega arith in
        ap (λ (x : ℕ). eqb (x / 2 ^ k) 1) e ∙ ap (λ (x : ℕ). eqb x 1) (high 1 k (word_lt f k))
    go false = ap (λ (x : ℕ). eqb (x / 2 ^ k) 1) (add-zero (word_of f k)) ∙ ap (λ (x : ℕ). eqb x 1) (div-eq_of_lt (word_lt f k))

-- ---- a table and its blocks

words_length : (f : ℕ → Bool) (i n : ℕ) → length (words_of f i n) ≡ n
unfolding words_of
words_length f i zero = refl
words_length f i (suc n) = ap suc (words_length f (suc i) n)

words_at : (f : ℕ → Bool) (i n j : ℕ) → j < n → get_or (words_of f i n) j 0 ≡ word_of (λ k. f ((i + j) * 64 + k)) 64
unfolding words_of
words_at f i zero j h = absurd (omega arith)
words_at f i (suc n) zero h = let e : i ≡ i + 0 = omega arith in ap (λ (x : ℕ). word_of (λ k. f (x * 64 + k)) 64) e
words_at f i (suc n) (suc j) h = let e : suc i + j ≡ i + suc j = omega arith in
    words_at f (suc i) n j (omega arith) ∙ ap (λ (x : ℕ). word_of (λ k. f (x * 64 + k)) 64) e

pub table_length_lem : (f : ℕ → Bool) → length (table_of f) ≡ 16
unfolding table_of
table_length_lem f = words_length f 0 16

pub table_word : (f : ℕ → Bool) (i : ℕ) → i < 16 → get_or (table_of f) i 0 ≡ word_of (λ k. f (i * 64 + k)) 64
unfolding table_of
table_word f i h = words_at f 0 16 i h ∙ ap (λ (x : ℕ). word_of (λ k. f (x * 64 + k)) 64) (zero-add i)

pub table_bit : (f : ℕ → Bool) (b : ℕ) → b < 1024 → bit_at (table_of f) b ≡ f b
table_bit f b h =
    let e : b / 64 * 64 + b % 64 ≡ b = omega arith in
    ap (λ (w : ℕ). bit_of w (b % 64)) (table_word f (b / 64) (omega arith))
    ∙ word_bit (λ k. f (b / 64 * 64 + k)) 64 (b % 64) (omega arith) ∙ ap f e

-- block k of word i
pub block : (t : List ℕ) (i k : ℕ) → k < 64 → bit_at t (i * 64 + k) ≡ bit_of (get_or t i 0) k
block t i k h =
    let p : (i * 64 + k) / 64 ≡ i = omega arith in
    let q : (i * 64 + k) % 64 ≡ k = omega arith in
    ap (λ (x : ℕ). bit_of (get_or t x 0) ((i * 64 + k) % 64)) p ∙ ap (bit_of (get_or t i 0)) q

pub table_ext : (t : List ℕ) (f : ℕ → Bool) → IsTable t → ((b : ℕ) → b < 1024 → bit_at t b ≡ f b) → t ≡ table_of f
table_ext t f w bits =
    ext_get_or 0 t (table_of f) (w.size ∙ sym (table_length_lem f))
    (λ i p. let h : i < 16 = omega arith in
    word_bits (get_or t i 0) (w.words i h)
    ∙ word_ext (bit_of (get_or t i 0)) (λ k. f (i * 64 + k)) 64 (λ k q. sym (block t i k q) ∙ bits (i * 64 + k) (omega arith))
    ∙ sym (table_word f i h))

-- two tables with the same blocks are equal
pub table_same : (f g : ℕ → Bool) → ((b : ℕ) → b < 1024 → f b ≡ g b) → table_of f ≡ table_of g
table_same f g h =
    table_ext (table_of f) g
    (record { size = table_length_lem f; words = λ i l. subst (λ (x : ℕ). x < 2 ^ 64) (sym (table_word f i l)) (word_lt (λ k. f (i * 64 + k)) 64) })
    (λ b l. table_bit f b l ∙ h b l)

-- ---- a test of every block

pub all_true : (f : ℕ → Bool) (n : ℕ) → all_below f n ≡ true → (b : ℕ) → b < n → f b ≡ true
unfolding all_below
all_true f zero e b h = absurd (omega arith)
all_true f (suc n) e b h =
    ⊎_elim (λ q. ap f q ∙ right (all_below f n) (f n) e) (λ q. all_true f n (left (all_below f n) (f n) e) b q)
    (eq-or-lt_of_le {n = b} {m = n} (omega arith))
  where
    left : (x y : Bool) → (x && y) ≡ true → x ≡ true
    left true y e = refl
    left false y e = e

    right : (x y : Bool) → (x && y) ≡ true → y ≡ true
    right true y e = e
    right false y e = absurd (never (sym e))

pub all_of : (f : ℕ → Bool) (n : ℕ) → ((b : ℕ) → b < n → f b ≡ true) → all_below f n ≡ true
unfolding all_below
all_of f zero h = refl
all_of f (suc n) h = rw (all_of f n (λ b p. h b (omega arith)), h n (omega arith))

-- what does not hold is false
refuted : (b : Bool) → (b ≡ true → ⊥) → b ≡ false
refuted true h = absurd (h refl)
refuted false h = refl

pub all_not : (f : ℕ → Bool) (n b : ℕ) → b < n → f b ≡ false → all_below f n ≡ false
all_not f n b h e = refuted (all_below f n) (λ p. never (sym (all_true f n p b h) ∙ e))

-- ---- counts

one_up : {m n : ℕ} (b : Bool) → m ≤ n → m + cond b 1 0 ≤ suc n
one_up true h = omega arith
one_up false h = omega arith

pub held_le : (t : List ℕ) (from n : ℕ) → held_in t from n ≤ n
unfolding held_in
held_le t from zero = omega arith
held_le t from (suc n) = one_up (bit_at t (from + n)) (held_le t from n)

pub held_all : (t : List ℕ) (from n : ℕ) → held_in t from n ≡ n → (b : ℕ) → b < n → bit_at t (from + b) ≡ true
unfolding held_in
held_all t from zero e b h = absurd (omega arith)
held_all t from (suc n) e b h = go (bit_at t (from + n)) refl e (λ q. held_all t from n q b)
  where
    go : (x : Bool) → bit_at t (from + n) ≡ x → held_in t from n + cond x 1 0 ≡ suc n → (held_in t from n ≡ n → b < n → bit_at t (from + b) ≡ true) → bit_at t (from + b) ≡ true
    go true q p below = ⊎_elim (λ (s : b ≡ n). ap (λ (x : ℕ). bit_at t (from + x)) s ∙ q) (λ s. below (omega arith) s)
        (eq-or-lt_of_le {n = b} {m = n} (omega arith))
    go false q p below = absurd (omega (arith, held_le t from n))

pub held_none : (t : List ℕ) (from n : ℕ) → held_in t from n ≡ 0 → (b : ℕ) → b < n → bit_at t (from + b) ≡ false
unfolding held_in
held_none t from zero e b h = absurd (omega arith)
held_none t from (suc n) e b h = go (bit_at t (from + n)) refl e (λ q. held_none t from n q b)
  where
    go : (x : Bool) → bit_at t (from + n) ≡ x → held_in t from n + cond x 1 0 ≡ 0 → (held_in t from n ≡ 0 → b < n → bit_at t (from + b) ≡ false) → bit_at t (from + b) ≡ false
    go true q p below = absurd (omega arith)
    go false q p below = ⊎_elim (λ (s : b ≡ n). ap (λ (x : ℕ). bit_at t (from + x)) s ∙ q) (λ s. below (omega arith) s)
        (eq-or-lt_of_le {n = b} {m = n} (omega arith))

-- ---- the empty table

pub zero_word : (n i : ℕ) → get_or {A = ℕ} (replicate n 0) i 0 ≡ 0
zero_word zero i = refl
zero_word (suc n) zero = refl
zero_word (suc n) (suc i) = zero_word n i

pub no_bit : (k : ℕ) → bit_of 0 k ≡ false
no_bit k = ap (λ (x : ℕ). eqb (x % 2) 1) (zero-div (2 ^ k))

pub zero_bit : (b : ℕ) → bit_at (replicate 16 0) b ≡ false
zero_bit b = ap (λ (w : ℕ). bit_of w (b % 64)) (zero_word 16 (b / 64)) ∙ no_bit (b % 64)

pub no_bits : (n : ℕ) → bits_in 0 n ≡ 0
unfolding bits_in
no_bits zero = refl
no_bits (suc n) = rw (no_bits n, no_bit n)

-- ---- every set block below n, and every set block set in another table

-- no bit from k on is set where the word is below 2 ^ k, and the other way
pub high_none : (w k : ℕ) → w / 2 ^ k ≡ 0 → (j : ℕ) → k ≤ j → bit_of w j ≡ false
high_none w k h j p =
    let e : j ≡ k + (j - k) = omega arith in
    ap (λ (x : ℕ). bit_of w x) e
    ∙ ap (λ (x : ℕ). eqb (x % 2) 1) (sym (shr-shr w k (j - k)) ∙ ap (λ (x : ℕ). x / 2 ^ (j - k)) h ∙ zero-div (2 ^ (j - k)))

pub word_low : (f : ℕ → Bool) (k n : ℕ) → k ≤ n → ((j : ℕ) → k ≤ j → j < n → f j ≡ false) → word_of f n ≡ word_of f k
unfolding word_of
word_low f k zero p h = let e : 0 ≡ k = omega arith in ap (word_of f) e
word_low f k (suc n) p h =
    ⊎_elim
    (λ (e : k ≡ suc n). ap (word_of f) (sym e))
    (λ q. ap (λ (b : Bool). word_of f n + cond b (2 ^ n) 0) (h n (omega arith) (omega arith)) ∙ add-zero (word_of f n)
    ∙ word_low f k n (omega arith) (λ j a b. h j a (omega arith)))
    (eq-or-lt_of_le {n = k} {m = suc n} p)

pub none_high : (w k : ℕ) → w < 2 ^ 64 → k ≤ 64 → ((j : ℕ) → k ≤ j → j < 64 → bit_of w j ≡ false) → w / 2 ^ k ≡ 0
none_high w k h p g =
    div-eq_of_lt (subst (λ (x : ℕ). x < 2 ^ k) (sym (word_bits w h ∙ word_low (bit_of w) k 64 p g)) (word_lt (bit_of w) k))

abbrev below : List ℕ → ℕ → ℕ → Bool
below t n b = not (bit_at t b) || ltb b n

-- a block below n is below n, or not set
pub low_set : (t : List ℕ) (n b : ℕ) → b < n → below t n b ≡ true
low_set t n b p = ap (λ (x : Bool). not (bit_at t b) || x) (lt-ltb b n p) ∙ or-true (not (bit_at t b))

module _ (t : List ℕ) (n i : ℕ) where
  high_unset : (k : ℕ) → k < 64 → bit_of (get_or t i 0) k ≡ false → below t n (i * 64 + k) ≡ true
  high_unset k p e = ap (λ (x : Bool). not x || ltb (i * 64 + k) n) (block t i k p ∙ e)

  -- no block of word i from n on is set, where none of its bits from j on is
  pub word_low_all : (j : ℕ) → ((k : ℕ) → n ≤ i * 64 + k → j ≤ k) → get_or t i 0 / 2 ^ j ≡ 0 → (k : ℕ) → k < 64 → below t n (i * 64 + k) ≡ true
  word_low_all j g e k p =
      ⊎_elim (λ lt. low_set t n (i * 64 + k) lt) (λ ge. high_unset k p (high_none (get_or t i 0) j e k (g k ge))) (side (i * 64 + k) n)

  -- and the other way: where no block from n on is set, none of its bits from j on is
  pub word_high : (j : ℕ) → j ≤ 64 → ((k : ℕ) → j ≤ k → n ≤ i * 64 + k) → i < 16 → get_or t i 0 < 2 ^ 64 → only_below t n ≡ true → get_or t i 0 / 2 ^ j ≡ 0
  word_high j le g h fits all =
      none_high (get_or t i 0) j fits le (λ k p q. sym (block t i k q)
      ∙ unset (bit_at t (i * 64 + k)) (ltb (i * 64 + k) n) (all_true (below t n) 1024 all (i * 64 + k) (omega arith)) (le-ltb (i * 64 + k) n (g k p)))
    where
      unset : (a b : Bool) → (not a || b) ≡ true → b ≡ false → a ≡ false
      unset true b e q = absurd (never (sym e ∙ q))
      unset false b e q = refl

-- every block, by its word and its bit
by_word : (P : ℕ → Bool) → ((i k : ℕ) → i < 16 → k < 64 → P (i * 64 + k) ≡ true) → all_below P 1024 ≡ true
by_word P h = all_of P 1024 (λ b l. let e : b / 64 * 64 + b % 64 ≡ b = omega arith in ap P (sym e) ∙ h (b / 64) (b % 64) (omega arith) (omega arith))

module _ (t : List ℕ) (n : ℕ) where
  pub all_words_below : 16 ≤ n / 64 → only_below t n ≡ true
  all_words_below h = all_of (below t n) 1024 (λ b l. low_set t n b (omega arith))

  -- where word n / 64 is `first` and the words after it are `rest`
  module _ (w : IsTable t) (first : ℕ) (rest : List ℕ) (parts : drop (n / 64) t ≡ first ∷ rest) where
    first_word : first ≡ get_or t (n / 64) 0
    first_word = ap (λ (s : List ℕ). get_or s 0 0) (sym parts) ∙ get_or-drop (n / 64) t 0 0 ∙ ap (λ (i : ℕ). get_or t i 0) (add-zero (n / 64))

    rest_word : (i : ℕ) → get_or rest i 0 ≡ get_or t (n / 64 + suc i) 0
    rest_word i = ap (λ (s : List ℕ). get_or s (suc i) 0) (sym parts) ∙ get_or-drop (n / 64) t (suc i) 0

    rest_length : n / 64 + suc (length rest) ≡ 16
    rest_length = omega (arith, ap length parts, length-drop (n / 64) t, w.size)

    pub first_over : (first / 2 ^ (n % 64) ≡ 0 → ⊥) → only_below t n ≡ false
    first_over ne =
        refuted (only_below t n) (λ all. ne (ap (λ (x : ℕ). x / 2 ^ (n % 64)) first_word
        ∙ word_high t n (n / 64) (n % 64) (omega arith) (λ k p. omega arith) (omega (arith, rest_length)) (w.words (n / 64) (omega (arith, rest_length))) all))

    pub rest_below : first / 2 ^ (n % 64) ≡ 0 → list_all (λ x. eqb x 0) rest ≡ only_below t n
    rest_below low =
        same_test (list_all (λ x. eqb x 0) rest) (only_below t n)
        (λ e. by_word (below t n) (λ i k h l. ⊎_elim
        (λ (before : i < n / 64). low_set t n (i * 64 + k) (omega arith))
        (λ after. ⊎_elim
        (λ (here : i < n / 64 + 1). let z : i ≡ n / 64 = omega arith in
        word_low_all t n i (n % 64) (λ k p. omega arith) (ap (λ (j : ℕ). get_or t j 0 / 2 ^ (n % 64)) z ∙ ap (λ (x : ℕ). x / 2 ^ (n % 64)) (sym first_word) ∙ low) k l)
        (λ later. let z : n / 64 + suc (i - n / 64 - 1) ≡ i = omega arith in
        word_low_all t n i 0 (λ k p. omega arith)
        (ap (λ (x : ℕ). x / 1) (ap (λ (j : ℕ). get_or t j 0) (sym z) ∙ sym (rest_word (i - n / 64 - 1))
        ∙ eqb-true (get_or rest (i - n / 64 - 1) 0) 0 (list_true (λ x. eqb x 0) rest 0 e (i - n / 64 - 1) (omega (arith, rest_length))))) k l)
        (side i (n / 64 + 1)))
        (side i (n / 64))))
        (λ all. list_of (λ x. eqb x 0) rest 0 (λ i l. eq-eqb (get_or rest i 0) 0 (rest_word i
        ∙ sym (div-one (get_or t (n / 64 + suc i) 0))
        ∙ word_high t n (n / 64 + suc i) 0 (omega arith) (λ k p. omega arith) (omega (arith, rest_length)) (w.words (n / 64 + suc i) (omega (arith, rest_length))) all)))

and_digit : (x y : ℕ) → x < 2 → y < 2 → eqb (bit_and x y) 1 ≡ (eqb x 1 && eqb y 1)
and_digit zero zero p q = refl
and_digit zero (suc zero) p q = refl
and_digit (suc zero) zero p q = refl
and_digit (suc zero) (suc zero) p q = refl
and_digit zero (suc (suc y)) p q = absurd (omega arith)
and_digit (suc zero) (suc (suc y)) p q = absurd (omega arith)
and_digit (suc (suc x)) y p q = absurd (omega arith)

pub and_bit : (a b k : ℕ) → bit_of (bit_and a b) k ≡ (bit_of a k && bit_of b k)
and_bit a b k =
    ap (λ (x : ℕ). eqb x 1) (ap (λ (x : ℕ). x % 2) (and_shr a b k) ∙ and_mod (a / 2 ^ k) (b / 2 ^ k) 1)
    ∙ and_digit (a / 2 ^ k % 2) (b / 2 ^ k % 2) (mod-lt (a / 2 ^ k) (lit< tt)) (mod-lt (b / 2 ^ k) (lit< tt))

abbrev inside : List ℕ → List ℕ → ℕ → Bool
inside t u b = not (bit_at t b) || bit_at u b

implied : (a b : Bool) → (a && b) ≡ a → (not a || b) ≡ true
implied true b e = e
implied false b e = refl

implies : (a b : Bool) → (not a || b) ≡ true → (a && b) ≡ a
implies true b e = e
implies false b e = refl

module _ (t u : List ℕ) (i : ℕ) where
  both : (k : ℕ) → k < 64 → inside t u (i * 64 + k) ≡ (not (bit_of (get_or t i 0) k) || bit_of (get_or u i 0) k)
  both k p = ap (λ (x : Bool). not x || bit_at u (i * 64 + k)) (block t i k p) ∙ ap (λ (x : Bool). not (bit_of (get_or t i 0) k) || x) (block u i k p)

  pub word_part_all : bit_and (get_or t i 0) (get_or u i 0) ≡ get_or t i 0 → (k : ℕ) → k < 64 → inside t u (i * 64 + k) ≡ true
  word_part_all e k p =
      both k p ∙ implied (bit_of (get_or t i 0) k) (bit_of (get_or u i 0) k) (sym (and_bit (get_or t i 0) (get_or u i 0) k) ∙ ap (λ (w : ℕ). bit_of w k) e)

  pub word_part : i < 16 → get_or t i 0 < 2 ^ 64 → get_or u i 0 < 2 ^ 64 → part_of t u ≡ true → bit_and (get_or t i 0) (get_or u i 0) ≡ get_or t i 0
  word_part h p q all =
      word_bits (bit_and (get_or t i 0) (get_or u i 0)) (and_lt 64 (get_or t i 0) (get_or u i 0) p q)
      ∙ word_ext (bit_of (bit_and (get_or t i 0) (get_or u i 0))) (bit_of (get_or t i 0)) 64
      (λ k r. and_bit (get_or t i 0) (get_or u i 0) k
      ∙ implies (bit_of (get_or t i 0) k) (bit_of (get_or u i 0) k) (sym (both k r) ∙ all_true (inside t u) 1024 all (i * 64 + k) (omega arith)))
      ∙ sym (word_bits (get_or t i 0) p)

-- so word by word
pub words_part : (t u : List ℕ) → IsTable t → IsTable u → list_all (λ p. eqb (bit_and p.0 p.1) p.0) (zip t u) ≡ part_of t u
words_part t u w v =
    let test : ℕ × ℕ → Bool = λ p. eqb (bit_and p.0 p.1) p.0 in
    let at : (i : ℕ) → i < 16 → get_or (zip t u) i (0, 0) ≡ (get_or t i 0, get_or u i 0) = λ i h. get_or-zip t u i (0, 0) (omega (arith, w.size)) (omega (arith, v.size)) in
    let long : length (zip t u) ≡ 16 = length-zip t u ∙ omega (arith, w.size, v.size) in
    same_test (list_all test (zip t u)) (part_of t u)
    (λ e. by_word (inside t u) (λ i k h l. word_part_all t u i
    (eqb-true (bit_and (get_or t i 0) (get_or u i 0)) (get_or t i 0) (ap test (sym (at i h)) ∙ list_true test (zip t u) (0, 0) e i (omega (arith, long)))) k l))
    (λ all. list_of test (zip t u) (0, 0) (λ i l. ap test (at i (omega (arith, long)))
    ∙ eq-eqb (bit_and (get_or t i 0) (get_or u i 0)) (get_or t i 0) (word_part t u i (omega (arith, long)) (w.words i (omega (arith, long))) (v.words i (omega (arith, long))) all)))

-- ---- the bits of all words, one after the other

set_first : (x : ℕ) (t : List ℕ) (n : ℕ) → set_in (x ∷ t) (suc n) ≡ bits_in x 64 + set_in t n
unfolding set_in
set_first x t zero = omega arith
set_first x t (suc n) = ap (λ (k : ℕ). k + bits_in (get_or t n 0) 64) (set_first x t n) ∙ omega arith

pub set_sum : (t : List ℕ) → set_in t (length t) ≡ sum_by (λ w. bits_in w 64) t
unfolding set_in
set_sum [] = refl
set_sum (x ∷ t) = set_first x t (length t) ∙ ap (λ (n : ℕ). bits_in x 64 + n) (set_sum t) ∙ sym (sum_by-cons (λ w. bits_in w 64) x t)

bits_most : (w n : ℕ) → bits_in w n ≤ n
unfolding bits_in
bits_most w zero = omega arith
bits_most w (suc n) = one_up (bit_of w n) (bits_most w n)

pub sum_bound : (t : List ℕ) → sum_by (λ w. bits_in w 64) t ≤ 64 * length t
sum_bound [] = omega arith
sum_bound (x ∷ t) = omega (arith, bits_most x 64, sum_bound t, sum_by-cons (λ w. bits_in w 64) x t)

-- no block from 1,024 on is set
pub past_bit : (t : List ℕ) (b : ℕ) → length t ≡ 16 → 1024 ≤ b → bit_at t b ≡ false
past_bit t b w h = rw (get_or-eq_default t 0 {n = b / 64} (omega arith), zero-div (2 ^ (b % 64)))
