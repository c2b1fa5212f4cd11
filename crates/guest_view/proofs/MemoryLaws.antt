-- Laws of the guest's bytes: the bounds of one, and the turns of the loops that fill a slice and write bytes. Assumes nothing.
use mathlib.Core.Path.{◌≡◌, refl, sym, ap, ◌∙◌}
use mathlib.Core.List.{List, ◌++◌, append-nil, map}
use Prim.Native.Nat.{ℕ, zero, suc, ◌+◌, ◌-◌, ◌^◌, ◌≤◌, ◌<◌}
use native.Mathlib.Nat.{add-zero}
use native.Mathlib.Numerals.{add-one}
use native.Mathlib.Omega.{arith}
use lib.ListN.{length, get_or, set, take, drop, drop_of_length-le, length-take, replicate, length-map, length-set}
use lib.Seq.{sets, sets-eq, drop-cons}
use Rattle.map_records.specs.declared.view.FlatView.{FlatView}
use Rattle.device_words.specs.Bytes.{number_by}
use Rattle.device_words.proofs.ByteLaws.{numbers_agree}
use Rattle.guest_view.specs.Guest.{addresses, written}
use Rattle.guest_view.specs.Promises.{Ordered, Backed, InMemory, place_in}
use Rattle.guest_view.proofs.GuestLaws.{memory_low, memory_part, place_below}

-- byte i of a stretch that lies in the memory
module _ (v : FlatView) (a n i : ℕ) (m : InMemory v a n) (h : i < n) where
  pub byte_low : Ordered v → a + i < 2 ^ 48
  byte_low o = memory_low v (a + i) (m.each i h) o

  pub byte_in : InMemory v (a + i) 1
  byte_in = memory_part v a n i 1 m (omega arith)

  pub byte_place : (memory p : ℕ) → Backed v memory → p ≡ place_in v (a + i) → p < memory
  byte_place memory p b e = omega (arith, e, place_below v (a + i) (m.each i h) memory b)

-- ---- the state of a loop that fills a slice with what the addresses from a on give, i of them done
pub length_addresses : (a n : ℕ) → length (addresses a n) ≡ n
unfolding addresses
length_addresses a zero = refl
length_addresses a (suc n) = ap suc (length_addresses (suc a) n)

pub record Filling {T : Type 0} (f : ℕ → T) (a : ℕ) (start out : List T) (i : ℕ) : Type 0 where
  pub size : length out ≡ length start
  pub rest : sets out i (map f (addresses (a + i) (length start - i))) ≡ map f (addresses a (length start))

over : {T : Type 0} (l w : List T) → length w ≡ length l → sets w 0 l ≡ l
over {T} l w e = sets-eq l w 0 (omega (arith, e)) ∙ ap (λ (r : List T). l ++ r) (drop_of_length-le w {i = 0 + length l} (omega (arith, e))) ∙ append-nil l

pub fill_starts : {T : Type 0} (f : ℕ → T) (a : ℕ) (start : List T) → Filling f a start start 0
fill_starts f a start =
    record {
      size = refl;
      rest =
          let p : length start - 0 ≡ length start = omega arith in
          rw (p, add-zero a) (over (map f (addresses a (length start))) start (sym (simp length-map (length_addresses a (length start)))));
    }

module _ {T : Type 0} (f : ℕ → T) (a : ℕ) (start out : List T) (i : ℕ) (filling : Filling f a start out i) where
  pub fill_turn : i < length out → (x : T) → x ≡ f (a + i) → Filling f a start (set out i x) (i + 1)
  unfolding addresses
  fill_turn h x e =
      let p : length start - i ≡ suc (length start - suc i) = omega (arith, filling.size) in
      let q : i + 1 ≡ suc i = omega arith in
      let r : a + suc i ≡ suc (a + i) = omega arith in
      record { size = simp length-set filling.size; rest = rw (q, r) (ap (λ (y : T). sets (set out i y) (suc i) (map f (addresses (suc (a + i)) (length start - suc i)))) e ∙ rw p at filling.rest) }

  pub fill_ends : length out ≤ i → out ≡ map f (addresses a (length start))
  unfolding addresses
  fill_ends h = let p : length start - i ≡ 0 = omega (arith, filling.size) in rw p at filling.rest

pub fill_none : {T : Type 0} (f : ℕ → T) (a : ℕ) (out : List T) → length out ≡ 0 → out ≡ map f (addresses a (length out))
fill_none f a out h = fill_ends f a out out 0 (fill_starts f a out) (omega arith)

-- the number of bytes that were made by their addresses
get_made : (f : ℕ → ℕ) (a n i : ℕ) → i < n → get_or (map f (addresses a n)) i 0 ≡ f (a + i)
unfolding addresses
get_made f a zero i h = absurd (omega arith)
get_made f a (suc n) zero h = ap f (sym (add-zero a))
get_made f a (suc n) (suc i) h = get_made f (suc a) n i (omega arith) ∙ ap f (omega arith)

pub number_made : (f : ℕ → ℕ) (a n k : ℕ) (out : List ℕ) → out ≡ map f (addresses a n) → n ≡ k → number_by (λ x. get_or out x 0) 0 k ≡ number_by f a k
number_made f a n k out e l = numbers_agree (λ x. get_or out x 0) f 0 a k (λ i h. let z : 0 + i ≡ i = omega arith in rw (z, e) (get_made f a n i (omega arith)))

pub eight_part : (n : ℕ) → n ≤ 8 → length {A = ℕ} (take n (replicate 8 0)) ≡ n
eight_part n h = omega (arith, length-take {A = ℕ} n (replicate 8 0))

-- a turn of a loop that writes bytes at places, and its end
pub write_turn : (m : List ℕ) (i : ℕ) (ps bs : List ℕ) → i < length ps → i < length bs
    → written (set m (get_or ps i 0) (get_or bs i 0)) (drop (i + 1) ps) (drop (i + 1) bs) ≡ written m (drop i ps) (drop i bs)
unfolding written
write_turn m i ps bs p q = rw (add-one, drop-cons ps i 0, drop-cons bs i 0)

pub write_ends : (m : List ℕ) (i : ℕ) (ps bs : List ℕ) → length ps ≤ i → written m (drop i ps) bs ≡ m
unfolding written
write_ends m i ps bs h = ap (λ (x : List ℕ). written m x bs) (drop_of_length-le ps h)
