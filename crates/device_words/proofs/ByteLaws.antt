-- Laws of numbers as little-endian bytes: their length, readings that agree, that reading gives back what was written, and the turns of the loops over them.
-- Assumes nothing.
use mathlib.Core.Path.{◌≡◌, refl, sym, ap, ◌∙◌}
use mathlib.Core.List.{List, ◌∷◌, ◌++◌}
use Prim.Native.Nat.{ℕ, zero, suc, ◌+◌, ◌-◌, ◌*◌, ◌/◌, ◌%◌, ◌^◌, ◌≤◌, ◌<◌}
use native.Mathlib.Omega.{arith}
use native.Mathlib.Nat.{add-zero, zero-add, mul_assoc, pow-suc, pow-le-pow_right, mod-eq_of_lt, mod-one, one-le-pow}
use lib.Arith.{mod-mul}
use lib.Dec.{lit<}
use lib.ListN.{length, get_or, take, drop, replicate, length-take, length-drop}
use mir.Syntax.{w64}
use borrow.Rule.Slice.PartMut.{put_mid}
use Rattle.std.specs.Int.{to_le_bytes, from_le_bytes, bytes_low_first, byte_worth, sum_through}
use Rattle.std.proofs.Math.Nat.{div-div-eq-div-mul}
use Rattle.std.proofs.lemmas.Slice.{put_mid-paste}
use Rattle.std.proofs.lemmas.List.Edits.{sets-eq}
use lib.Seq.{sets, take_all, get_or-take, get_or-drop}
use Rattle.device_words.proofs.TableLaws.{zero_word}
use Rattle.std.proofs.lemmas.List.{get_or_append_left, get_or-append_right}
use Rattle.map_records.proofs.StoreLaws.{over}
use Rattle.device_words.specs.Bytes.{le, number_by, le_number, configuration_bytes}
use Rattle.device_words.specs.Request.{request_of, bytes_of}
use Rattle.device_words.specs.declared.request.Request.{Request}

pub le_length : (k n : ℕ) → length (le k n) ≡ k
unfolding le
le_length zero n = refl
le_length (suc k) n = ap suc (le_length k (n / 256))

-- two readings whose bytes agree give one number
pub numbers_agree : (f g : ℕ → ℕ) (a b k : ℕ) → ((i : ℕ) → i < k → f (a + i) ≡ g (b + i)) → number_by f a k ≡ number_by g b k
unfolding number_by
numbers_agree f g a b zero h = refl
numbers_agree f g a b (suc k) h =
    let first : f a ≡ g b = ap f (sym (add-zero a)) ∙ h 0 (omega arith) ∙ ap g (add-zero b) in
    let rest : number_by f (suc a) k ≡ number_by g (suc b) k =
    numbers_agree f g (suc a) (suc b) k (λ i l. let x : suc a + i ≡ a + suc i = omega arith in let y : b + suc i ≡ suc b + i = omega arith in ap f x ∙ h (suc i) (omega arith) ∙ ap g y) in
    omega (arith, first, rest)

-- reading gives back the k low bytes of what was written; all of it, where it has no more
pub number_low : (k n : ℕ) → le_number (le k n) 0 k ≡ n % 256 ^ k
unfolding number_by le
number_low zero n = sym (mod-one n)
number_low (suc k) n =
    let tail : le_number (n % 256 ∷ le k (n / 256)) 1 k ≡ le_number (le k (n / 256)) 0 k =
    numbers_agree (λ i. get_or (n % 256 ∷ le k (n / 256)) i 0) (λ i. get_or (le k (n / 256)) i 0) 1 0 k (λ i l. let x : 1 + i ≡ suc i = omega arith in let y : 0 + i ≡ i = omega arith in rw (x, y)) in
    let low : n % 256 ^ suc k ≡ n / 256 % 256 ^ k * 256 + n % 256 = ap (λ (x : ℕ). n % x) (pow-suc 256 k) ∙ mod-mul n {m = 256 ^ k} {c = 256} (one-le-pow k 256 (lit< tt)) (lit< tt) in
    omega (arith, tail, number_low k (n / 256), low)

pub number_le : (k n : ℕ) → n < 256 ^ k → le_number (le k n) 0 k ≡ n
number_le k n h = number_low k n ∙ mod-eq_of_lt h

-- so of a request's 24 bytes: each field reads back, cut to its bytes; whole, where it has no more
pub request_low : (r : Request) → request_of (bytes_of r) ≡ record { kind = r.kind % 65536; addr = record { 0 = r.addr.0 % 2 ^ 64 }; blocks = r.blocks % 65536 }
unfolding bytes_of number_by le
request_low r = rw (number_low 2 r.kind, number_low 8 r.addr.0, number_low 2 r.blocks)

-- the state of a loop that reads k bytes from the last to the first, with i of them left
pub record Reading (byte : ℕ → ℕ) (at k value i : ℕ) : Type 0 where
  pub most : i ≤ k
  pub sum : value ≡ number_by byte (at + i) (k - i)
  pub small : value < 256 ^ (k - i)

module _ (byte : ℕ → ℕ) where
  none : (at i : ℕ) → i ≡ 0 → number_by byte at i ≡ 0
  unfolding number_by
  none at i e = rw e

  one_more : (at k : ℕ) → number_by byte at (suc k) ≡ byte at + 256 * number_by byte (suc at) k
  unfolding number_by
  one_more at k = refl

  pub reading_starts : (at k : ℕ) → Reading byte at k 0 k
  reading_starts at k =
      record { most = omega arith; sum = sym (none (at + k) (k - k) (omega arith)); small = let e : k - k ≡ 0 = omega arith in rw e (omega arith) }

  module _ (at k value i : ℕ) (r : Reading byte at k value i) where
    pub reading_ends : i ≤ 0 → (value ≡ number_by byte at k) × (value < 256 ^ k)
    reading_ends z =
        let p : at + i ≡ at = omega arith in
        let q : k - i ≡ k = omega arith in
        (rw (p, q) at r.sum, rw q at r.small)

    module _ (left : 0 < i) where
      pub reading_fits : k ≤ 8 → value < 2 ^ 56
      reading_fits h = omega (arith, r.small, pow-le-pow_right {n = 256} (omega arith) {i = k - i} {j = 7} (omega (arith, r.most)))

      pub reading_turn : (b : ℕ) → b ≡ byte (at + (i - 1)) → b < 256 → Reading byte at k (value * 256 + b) (i - 1)
      reading_turn b e w =
          let p : k - (i - 1) ≡ suc (k - i) = omega (arith, r.most) in
          let q : suc (at + (i - 1)) ≡ at + i = omega arith in
          record {
            most = omega (arith, r.most);
            sum = rw p (omega (arith, one_more (at + (i - 1)) (k - i), ap (λ (x : ℕ). number_by byte x (k - i)) q, r.sum));
            small = rw p (omega (arith, pow-suc 256 (k - i), r.small));
          }

-- a number's eight bytes as the language writes them, and the store of as many bytes from a place on
pub le_bytes : (n : ℕ) → to_le_bytes w64 n ≡ le 8 n
unfolding le
le_bytes n = ap (λ (t : List ℕ). n % 256 ∷ t) (from_byte 0 7)
  where
    from_byte : (i k : ℕ) → bytes_low_first (suc i) k n ≡ le k (n / 256 ^ suc i)
    from_byte i zero = refl
    from_byte i (suc k) =
        let up : n / 256 ^ suc (suc i) ≡ n / 256 ^ suc i / 256 = sym (div-div-eq-div-mul n (256 ^ suc i) 256 ∙ ap (λ (x : ℕ). n / x) (sym (pow-suc 256 (suc i)))) in
        ap (λ (t : List ℕ). n / 256 ^ suc i % 256 ∷ t) (from_byte (suc i) k ∙ ap (le k) up)

pub part_sets : (a : ℕ) {e : ℕ} (xs : List ℕ) {ys zs : List ℕ} → ys ≡ zs → e ≡ a + length zs → a + length zs ≤ length xs → put_mid a (e - a) xs ys ≡ sets xs a zs
part_sets a {e} xs {ys} {zs} same end room =
    put_mid-paste a (e - a) xs ys zs (length zs) same (omega arith) refl
    ∙ ap (λ (t : List ℕ). take a xs ++ t ++ drop (a + length zs) xs) (take_all (length zs) zs (omega arith)) ∙ sym (sets-eq zs xs a room)

-- a number's digits: the last one apart, its bound, and that of bytes followed by zeros
module _ (f : ℕ → ℕ) where
  number_last : (at k : ℕ) → number_by f at (suc k) ≡ number_by f at k + f (at + k) * 256 ^ k
  unfolding number_by
  number_last at zero = let e : at + 0 ≡ at = omega arith in rw e (omega arith)
  number_last at (suc k) =
      let e : suc at + k ≡ at + suc k = omega arith in
      let down : number_by f (suc at) (suc k) ≡ number_by f (suc at) k + f (at + suc k) * 256 ^ k = rw e at (number_last (suc at) k) in
      let digit : f (at + suc k) * 256 ^ suc k ≡ f (at + suc k) * 256 ^ k * 256 = ap (λ (x : ℕ). f (at + suc k) * x) (pow-suc 256 k) ∙ sym (mul_assoc (f (at + suc k)) (256 ^ k) 256) in
      omega (arith, down, digit)

  pub number_small : ((i : ℕ) → f i < 256) → (at k : ℕ) → number_by f at k < 256 ^ k
  unfolding number_by
  number_small h at zero = lit< tt
  number_small h at (suc k) = omega (arith, number_small h (suc at) k, h at, pow-suc 256 k)

  number_padded : (k j : ℕ) → ((i : ℕ) → k ≤ i → f i ≡ 0) → number_by f 0 (j + k) ≡ number_by f 0 k
  number_padded k zero z = ap (number_by f 0) (omega arith)
  number_padded k (suc j) z =
      ap (number_by f 0) (omega arith) ∙ number_last 0 (j + k) ∙ omega (arith, ap (λ (x : ℕ). x * 256 ^ (j + k)) (z (0 + (j + k)) (omega arith))) ∙ number_padded k j z

-- as the language reads eight bytes
pub from_le : (bytes : List ℕ) → from_le_bytes w64 bytes ≡ le_number bytes 0 8
unfolding number_by
from_le bytes = through 7
  where
    through : (k : ℕ) → sum_through (λ i. byte_worth i (get_or bytes i 0)) k ≡ le_number bytes 0 (suc k)
    through zero = omega arith
    through (suc k) =
        ap (λ (x : ℕ). x + get_or bytes (suc k) 0 * 256 ^ suc k) (through k)
        ∙ ap (λ (x : ℕ). le_number bytes 0 (suc k) + get_or bytes x 0 * 256 ^ suc k) (sym (zero-add (suc k))) ∙ sym (number_last (λ i. get_or bytes i 0) 0 (suc k))

-- eight bytes that begin with the k from a place on, and go on with zeros
read_padded : (all bytes : List ℕ) (at k : ℕ) → k ≤ 8 → ((i : ℕ) → i < k → get_or all i 0 ≡ get_or bytes (at + i) 0) → ((i : ℕ) → k ≤ i → get_or all i 0 ≡ 0)
    → from_le_bytes w64 all ≡ le_number bytes at k
read_padded all bytes at k most same zeros =
    let pad : 8 ≡ 8 - k + k = omega arith in
    from_le all ∙ ap (le_number all 0) pad ∙ number_padded (λ i. get_or all i 0) k (8 - k) zeros
    ∙ numbers_agree (λ i. get_or all i 0) (λ i. get_or bytes i 0) 0 at k (λ i l. let z : 0 + i ≡ i = omega arith in rw z (same i l))

pub read_le : (bytes : List ℕ) (at k n : ℕ) {part : List ℕ} → part ≡ take (at + k - at) (drop at bytes) → k ≤ 8 → at + k ≤ length bytes → ((i : ℕ) → get_or bytes i 0 < 256)
    → n ≡ from_le_bytes w64 (part ++ drop k (replicate 8 0)) → (n ≡ le_number bytes at k) × (n < 256 ^ k)
read_le bytes at k n {part} same most room small e =
    let long : length part ≡ k = ap length same ∙ omega (arith, length-take (at + k - at) (drop at bytes), length-drop at bytes) in
    let value : n ≡ le_number bytes at k =
    e ∙ read_padded (part ++ drop k (replicate 8 0)) bytes at k most
    (λ i l. get_or_append_left part (drop k (replicate 8 0)) 0 i (omega arith) ∙ ap (λ (t : List ℕ). get_or t i 0) same
    ∙ get_or-take (at + k - at) (drop at bytes) i 0 (omega arith) ∙ get_or-drop at bytes i 0)
    (λ i h. get_or-append_right part (drop k (replicate 8 0)) k i 0 long h ∙ get_or-drop k (replicate 8 0) (i - k) 0 ∙ zero_word 8 (k + (i - k))) in
    (value, omega (arith, value, number_small (λ i. get_or bytes i 0) small at k))

pub configuration_put : (s : List ℕ) (block addr region usable plugged requested : ℕ) → length s ≡ 56
    → sets (sets (sets (sets (sets (sets (sets s 0 (le 8 block)) 8 (le 8 0)) 16 (le 8 addr)) 24 (le 8 region)) 32 (le 8 usable)) 40 (le 8 plugged)) 48 (le 8 requested)
    ≡ configuration_bytes block addr region usable plugged requested
unfolding configuration_bytes le
configuration_put s block addr region usable plugged requested e = over (configuration_bytes block addr region usable plugged requested) s e
