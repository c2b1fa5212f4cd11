-- Req 04: the language's own count of ones is the number of bits that are set, and the ones of a table's words are its blocks.
-- Assumes nothing. `ones` is what `u64::count_ones` gives; `bit_of w k` says that bit k of w is set.
use mathlib.Core.Path.{◌≡◌, refl, ap, ap₂, ◌∙◌, sym}
use mathlib.Core.Bool.{cond}
use mathlib.Core.List.{List}
use Prim.Native.Nat.{ℕ, suc, zero, ◌+◌, ◌*◌, ◌/◌, ◌%◌, ◌^◌, ◌≤◌, ◌<◌}
use native.Mathlib.Nat.{add-mul, div-add-mod', pow-suc, add_comm, add_assoc, add-zero, zero-add, mod-eq_of_lt, mod-lt, mod-one, le_refl}
use native.Mathlib.Omega.{arith}
use lib.Dec.{eqb, lit<}
use lib.Pow.{pow_pos, mod-pow-add}
use lib.Count.{ones, ones_cat}
use lib.ListN.{get_or}
use Rattle.std.proofs.lemmas.Nat.{zero_from_ones}
use Rattle.device_words.specs.Table.{bit_of, bit_at, bits_in, held_in, set_in}
use Rattle.device_words.proofs.TableLaws.{block}

-- ---- a word

ones_digit : (x : ℕ) → x < 2 → ones x ≡ cond (eqb x 1) 1 0
unfolding ones
ones_digit zero h = refl
ones_digit (suc zero) h = refl
ones_digit (suc (suc x)) h = absurd (omega arith)

-- of any number: the ones of its n lowest bits, of which the highest stands above the others
ones_low : (w n : ℕ) → ones (w % 2 ^ n) ≡ bits_in w n
unfolding bits_in
ones_low w zero = ap ones (mod-one w) ∙ ones_digit 0 (lit< tt)
ones_low w (suc n) =
    let e : suc n ≡ 1 + n = omega arith in
    ap (λ (x : ℕ). ones (w % 2 ^ x)) e ∙ ap ones (mod-pow-add w 1 n)
    ∙ ones_cat n (w / 2 ^ n % 2) (w % 2 ^ n) (mod-lt w (pow_pos n))
    ∙ ap₂ ◌+◌ (ones_digit (w / 2 ^ n % 2) (mod-lt (w / 2 ^ n) (lit< tt))) (ones_low w n)
    ∙ add_comm (cond (bit_of w n) 1 0) (bits_in w n)

-- The count of ones of a word of n bits is the number of its bits that are set.
pub ones_bits : (n w : ℕ) → w < 2 ^ n → ones w ≡ bits_in w n
ones_bits n w h = ap ones (sym (mod-eq_of_lt h)) ∙ ones_low w n

-- a power of two has one, and a word that has one is a power of two
pub ones_pow : (k : ℕ) → ones (2 ^ k) ≡ 1
ones_pow k =
    let e : 2 ^ k ≡ 1 * 2 ^ k + 0 = omega arith in
    ap ones e ∙ ones_cat k 1 0 (pow_pos k) ∙ ap₂ ◌+◌ (ones_digit 1 (lit< tt)) (ones_digit 0 (lit< tt))

pub pow_of_ones : (n w : ℕ) → w < 2 ^ n → ones w ≡ 1 → (k : ℕ) × (k < n) × (w ≡ 2 ^ k)
pow_of_ones zero w h e = let z : w ≡ 0 = omega arith in absurd (let no : ◌≡◌ {A = ℕ} 0 1 = sym (ones_digit 0 (lit< tt)) ∙ ap ones (sym z) ∙ e in omega arith)
pow_of_ones (suc n) w h e = go (λ l. pow_of_ones n w l e) (w / 2 ^ n) refl (w % 2 ^ n) refl (mod-lt w (pow_pos n))
  where
    go : (w < 2 ^ n → (k : ℕ) × (k < n) × (w ≡ 2 ^ k)) → (q : ℕ) → w / 2 ^ n ≡ q → (r : ℕ) → w % 2 ^ n ≡ r → r < 2 ^ n → (k : ℕ) × (k < suc n) × (w ≡ 2 ^ k)
    go below zero d r m l =
        let same : w ≡ r = sym (div-add-mod' w (2 ^ n)) ∙ omega (arith, ap (λ (x : ℕ). x * 2 ^ n) d) in
        let found = below (omega arith) in
        (found.0, omega arith, found.2)
    go below (suc zero) d r m l =
        let same : w ≡ 1 * 2 ^ n + r = sym (div-add-mod' w (2 ^ n)) ∙ omega (arith, ap (λ (x : ℕ). x * 2 ^ n) d) in
        let rest : ones r ≡ 0 = omega (arith, e, ap ones same, ones_cat n 1 r l, ones_digit 1 (lit< tt)) in
        (n, omega arith, omega (arith, zero_from_ones r rest))
    go below (suc (suc q)) d r m l = absurd (omega (arith, pow-suc 2 n, div-add-mod' w (2 ^ n), ap (λ (x : ℕ). x * 2 ^ n) d, add-mul 2 q (2 ^ n)))

-- ---- a table

-- the blocks of the first n words, and the first k of word n
held_word : (t : List ℕ) (n k : ℕ) → k ≤ 64 → held_in t 0 (n * 64 + k) ≡ held_in t 0 (n * 64) + bits_in (get_or t n 0) k
unfolding held_in bits_in
held_word t n zero h = ap (held_in t 0) (add-zero (n * 64)) ∙ sym (add-zero (held_in t 0 (n * 64)))
held_word t n (suc k) h =
    let e : n * 64 + suc k ≡ suc (n * 64 + k) = omega arith in
    ap (held_in t 0) e
    ∙ ap₂ (λ (x : ℕ) b. x + cond b 1 0) (held_word t n k (omega arith)) (ap (bit_at t) (zero-add (n * 64 + k)) ∙ block t n k (omega arith))
    ∙ add_assoc (held_in t 0 (n * 64)) (bits_in (get_or t n 0) k) (cond (bit_of (get_or t n 0) k) 1 0)

-- The ones of a table's first n words are as many as the blocks among its first n * 64 that are set: each block is one bit of one word.
pub set_held : (t : List ℕ) (n : ℕ) → set_in t n ≡ held_in t 0 (n * 64)
unfolding set_in held_in
set_held t zero = refl
set_held t (suc n) =
    let e : n * 64 + 64 ≡ suc n * 64 = omega arith in
    ap (λ (x : ℕ). x + bits_in (get_or t n 0) 64) (set_held t n) ∙ sym (held_word t n 64 (le_refl 64)) ∙ ap (held_in t 0) e
