-- Laws of chains: the first bytes of elements, what an element adds, and the chain that is left at each descriptor. Assumes nothing.
use Rattle.std.proofs.Common.{◌≡◌, ℕ, zero, suc, ◌+◌, ◌-◌, ◌*◌, ◌<◌, ◌≤◌, min, Bool, true, false, cond, List, [], ◌∷◌, ◌++◌, map, length, get_or, take, drop, sym, refl, ap, ◌∙◌, subst, ap₂, append_assoc, append-nil, add-zero, arith, length-append, length-drop, length-take, length-take-le, drop-drop, take_at, le-ltb, lt-ltb}
use mathlib.Core.List.{map-append}
use lib.ListN.{length-map}
use lib.Seq.{sets, sets-eq, length-sets}
use Rattle.guest_view.specs.Guest.{byte_at, addresses, number_at}
use Rattle.device_words.specs.Bytes.{number_by}
use Rattle.guest_view.proofs.MemoryLaws.{length_addresses}
use Rattle.virtqueue.specs.Chain.{Chain, Entry, out, here, whole, ended, element, Following, onward, astray, next_below, has_next, is_writable, misplaced, visit, follow, end_of, readable, writable, total, first_bytes, descriptor_at}
use Rattle.virtqueue.specs.Step.{request_bytes, response_places}
use Rattle.virtqueue.specs.Promises.{added, stop_at, Whole}
use Rattle.virtqueue.specs.declared.chain.Descriptor.{Descriptor}
use Rattle.virtqueue.specs.declared.chain.Gathered.{Gathered}

-- the front of a list into which ys was stored after its first n
pub take_sets : (xs ys : List ℕ) (n m : ℕ) → length ys ≡ m → n + m ≤ length xs → take (n + m) (sets xs n ys) ≡ take n xs ++ ys
take_sets xs ys n m e h =
    let l : n + length ys ≤ length xs = omega arith in
    let k : length (take n xs ++ ys) ≡ n + m = length-append (take n xs) ys ∙ omega (arith, length-take-le n xs (omega arith)) in
    ap (λ (l : List ℕ). take (n + m) l) (sets-eq ys xs n l) ∙ take_at (take n xs ++ ys) (drop (n + length ys) xs) (n + m) k

-- An element's bytes stored, up to k in all: what is stored and what is still to come are as they were.
pub more : (f : ℕ → ℕ) (k n : ℕ) (xs : List ℕ) (d : Descriptor) (ds : List Descriptor) → length xs ≡ k → n ≤ k
    → take (n + min (k - n) d.length) (sets xs n (map f (addresses d.addr.0 (min (k - n) d.length))))
    ++ map f (first_bytes (k - (n + min (k - n) d.length)) ds)
    ≡ take n xs ++ map f (first_bytes (k - n) (d ∷ ds))
unfolding first_bytes
more f k n xs d ds e h =
    let m : ℕ = min (k - n) d.length in
    let here : List ℕ = addresses d.addr.0 m in
    let l : length (map f here) ≡ m = length-map here f ∙ length_addresses d.addr.0 m in
    let q : k - (n + m) ≡ k - n - d.length = omega arith in
    ap (λ (z : List ℕ). z ++ map f (first_bytes (k - (n + m)) ds)) (take_sets xs (map f here) n m l (omega arith))
    ∙ append_assoc (take n xs) (map f here) (map f (first_bytes (k - (n + m)) ds))
    ∙ ap (λ (z : ℕ). take n xs ++ (map f here ++ map f (first_bytes z ds))) q
    ∙ ap (λ (z : List ℕ). take n xs ++ z) (sym (map-append f here (first_bytes (k - n - d.length) ds)))

-- how many first bytes there are
pub length_first : (k : ℕ) (ds : List Descriptor) → length (first_bytes k ds) ≡ min k (total ds)
unfolding first_bytes total
length_first k [] = omega arith
length_first k (d ∷ ds) =
    length-append (addresses d.addr.0 (min k d.length)) (first_bytes (k - d.length) ds)
    ∙ omega (arith, length_addresses d.addr.0 (min k d.length), length_first (k - d.length) ds)

-- what an element adds, by its kind
module _ (place : ℕ → ℕ) (memory : List ℕ) (s : Gathered) (d : Descriptor) where
  pub added_written : is_writable d ≡ true → (n : ℕ) → n ≡ min (10 - s.writable) d.length
      → record { request = s.request; readable = s.readable; places = sets s.places s.writable (map place (addresses d.addr.0 n)); writable = s.writable + n; late = true } ≡ added place memory s d
  unfolding added
  added_written w n e = rw (w, e)

  pub added_read : is_writable d ≡ false → (n : ℕ) → n ≡ min (24 - s.readable) d.length
      → record { request = sets s.request s.readable (map (byte_at place memory) (addresses d.addr.0 n)); readable = s.readable + n; places = s.places; writable = s.writable; late = false } ≡ added place memory s d
  unfolding added
  added_read w n e = rw (w, e)

  pub added_late : (added place memory s d).late ≡ is_writable d
  unfolding added
  added_late = go (is_writable d) refl
    where
      go : (b : Bool) → is_writable d ≡ b → (added place memory s d).late ≡ is_writable d
      go true w = rw w
      go false w = rw w

-- bytes or places stored into a part of a buffer
pub part_sets : (xs ys : List ℕ) (n k : ℕ) → length ys ≡ k → n + k ≤ length xs → take n xs ++ (ys ++ drop k (drop n xs)) ≡ sets xs n ys
part_sets xs ys n k e h =
    let f : n + k ≡ n + length ys = omega arith in
    ap (λ (z : List ℕ). take n xs ++ (ys ++ z)) (drop-drop k n xs ∙ ap (λ (z : ℕ). drop z xs) f)
    ∙ sym (append_assoc (take n xs) ys (drop (n + length ys) xs)) ∙ sym (sets-eq ys xs n (omega arith))

pub stretch_stored : (f : ℕ → ℕ) (xs ys : List ℕ) (a w k n : ℕ) → k ≡ n → w + n ≤ length xs → ys ≡ map f (addresses a (length (take k (drop w xs))))
    → take w xs ++ (ys ++ drop k (drop w xs)) ≡ sets xs w (map f (addresses a n))
stretch_stored f xs ys a w k n e h p =
    let l : length (take k (drop w xs)) ≡ n = omega (arith, length-take k (drop w xs), length-drop w xs) in
    let q : ys ≡ map f (addresses a n) = p ∙ ap (λ (z : ℕ). map f (addresses a z)) l in
    let r : length ys ≡ k = ap length q ∙ length-map (addresses a n) f ∙ length_addresses a n ∙ sym e in
    part_sets xs ys w k r (omega arith) ∙ ap (λ (z : List ℕ). sets xs w z) q

-- What is gathered of a chain c₀ where c is left of it.
pub record Going (place : ℕ → ℕ) (memory : List ℕ) (c₀ c : Chain) (s : Gathered) : Type 0 where
  pub few_read : s.readable ≤ 24
  pub few_written : s.writable ≤ 10
  pub all_read : length s.request ≡ 24
  pub all_written : length s.places ≡ 10
  pub end : end_of c ≡ end_of c₀
  pub request : take s.readable s.request ++ map (byte_at place memory) (first_bytes (24 - s.readable) (readable c)) ≡ request_bytes place memory c₀
  pub places : take s.writable s.places ++ map place (first_bytes (10 - s.writable) (writable c)) ≡ response_places place c₀

module _ (place : ℕ → ℕ) (memory : List ℕ) (c₀ : Chain) where
  pub going_start : (request places : List ℕ) → length request ≡ 24 → length places ≡ 10
      → Going place memory c₀ c₀ (record { request = request; readable = 0; places = places; writable = 0; late = false })
  unfolding request_bytes response_places
  going_start request places p q =
      record { few_read = omega arith; few_written = omega arith; all_read = p; all_written = q; end = refl; request = refl; places = refl }

  pub going_added : (c : Chain) (d : Descriptor) (s : Gathered) → Going place memory c₀ (element d c) s → Going place memory c₀ c (added place memory s d)
  unfolding end_of readable writable
  going_added c d s g = go (is_writable d) refl
    where
      go : (b : Bool) → is_writable d ≡ b → Going place memory c₀ c (added place memory s d)
      go true w =
          let k : ℕ = min (10 - s.writable) d.length in
          subst (λ (r : Gathered). Going place memory c₀ c r) (added_written place memory s d w k refl)
          (record {
            few_read = g.few_read;
            few_written = omega (arith, g.few_written);
            all_read = g.all_read;
            all_written = length-sets s.places s.writable (map place (addresses d.addr.0 k)) ∙ g.all_written;
            end = g.end;
            request = rw w at g.request;
            places = more place 10 s.writable s.places d (writable c) g.all_written g.few_written ∙ (rw w at g.places);
          })
      go false w =
          let k : ℕ = min (24 - s.readable) d.length in
          subst (λ (r : Gathered). Going place memory c₀ c r) (added_read place memory s d w k refl)
          (record {
            few_read = omega (arith, g.few_read);
            few_written = g.few_written;
            all_read = length-sets s.request s.readable (map (byte_at place memory) (addresses d.addr.0 k)) ∙ g.all_read;
            all_written = g.all_written;
            end = g.end;
            request = more (byte_at place memory) 24 s.readable s.request d (readable c) g.all_read g.few_read ∙ (rw w at g.request);
            places = rw w at g.places;
          })

  -- the last element was gathered
  pub going_whole : (s : Gathered) → Going place memory c₀ whole s → Whole place memory c₀ s
  unfolding end_of readable writable first_bytes
  going_whole s g =
      record {
        end = sym g.end;
        all_read = g.all_read;
        all_written = g.all_written;
        few_read = g.few_read;
        few_written = g.few_written;
        request = sym (append-nil (take s.readable s.request)) ∙ g.request;
        places = sym (append-nil (take s.writable s.places)) ∙ g.places;
      }

  -- one element more of the chain that was left
  pub going_next : (c rest : Chain) (d : Descriptor) (s r : Gathered) → Going place memory c₀ c s → c ≡ element d rest → r ≡ added place memory s d → Going place memory c₀ rest r
  going_next c rest d s r g e q =
      subst (λ (t : Gathered). Going place memory c₀ rest t) (sym q) (going_added rest d s (subst (λ (t : Chain). Going place memory c₀ t s) e g))

-- the chain left at a descriptor
pub end_ended : (k : ℕ) → end_of (ended k) ≡ k
unfolding end_of
end_ended k = refl

pub next_below_lem : (size i : ℕ) (d : Descriptor) → d.next < size → next_below size d i ≡ onward d.next
next_below_lem size i d h = rw (lt-ltb d.next size h)

pub next_astray : (size i : ℕ) (d : Descriptor) → size ≤ d.next → next_below size d i ≡ astray
next_astray size i d h = rw (le-ltb d.next size h)

module _ (F : ℕ → Entry) (R : Descriptor → Bool) (N : Descriptor → ℕ → Following) (i : ℕ) (late : Bool) where
  pub follow_none : (left : ℕ) → left ≡ 0 → end_of (follow F R N left i late) ≡ 20
  unfolding follow end_of
  follow_none left e = rw e

  pub follow_out : (left : ℕ) → 0 < left → F i ≡ out → end_of (follow F R N left i late) ≡ 17
  unfolding follow end_of visit
  follow_out zero p e = absurd (omega arith)
  follow_out (suc left) p e = rw e

  module _ (d : Descriptor) (e : F i ≡ here d) where
    pub follow_stopped : (left k : ℕ) → 0 < left → k ≡ stop_at R late d → (k ≡ 0 → ⊥) → end_of (follow F R N left i late) ≡ k
    unfolding follow end_of visit
    follow_stopped zero k p s n = absurd (omega arith)
    follow_stopped (suc left) k p s n = go (misplaced late d) refl (R d) refl
      where
        go : (x : Bool) → misplaced late d ≡ x → (y : Bool) → R d ≡ y → end_of (follow F R N (suc left) i late) ≡ k
        go true m y r = let q : stop_at R late d ≡ 20 = rw m in rw (e, m) (sym (s ∙ q))
        go false m true r = let q : stop_at R late d ≡ 0 = rw (m, r) in absurd (n (s ∙ q))
        go false m false r = let q : stop_at R late d ≡ 21 = rw (m, r) in rw (e, m, r) (sym (s ∙ q))

    module _ (a : stop_at R late d ≡ 0) where
      accepted : (misplaced late d ≡ false) × (R d ≡ true)
      accepted = go (misplaced late d) (R d) a
        where
          go : (x y : Bool) → ◌≡◌ {A = ℕ} (cond x 20 (cond y 0 21)) 0 → (x ≡ false) × (y ≡ true)
          go true y h = absurd (omega arith)
          go false true h = (refl, refl)
          go false false h = absurd (omega arith)

      pub follow_last : (left : ℕ) → 0 < left → has_next d ≡ false → follow F R N left i late ≡ element d whole
      unfolding follow visit
      follow_last zero p n = absurd (omega arith)
      follow_last (suc left) p n = rw (e, accepted.0, accepted.1, n)

      pub follow_astray : (left : ℕ) → 0 < left → has_next d ≡ true → N d i ≡ astray → follow F R N left i late ≡ element d (ended 20)
      unfolding follow visit
      follow_astray zero p n h = absurd (omega arith)
      follow_astray (suc left) p n h = rw (e, accepted.0, accepted.1, n, h)

      pub follow_next : (left j : ℕ) → 0 < left → has_next d ≡ true → N d i ≡ onward j → follow F R N left i late ≡ element d (follow F R N (left - 1) j (is_writable d))
      unfolding follow visit
      follow_next zero j p n h = absurd (omega arith)
      follow_next (suc left) j p n h =
          let q : left ≡ suc left - 1 = omega arith in
          rw (e, accepted.0, accepted.1, n, h, ← q)

-- a descriptor in sixteen bytes that were laid side by side
pub byte_laid : (f : ℕ → ℕ) (a n o : ℕ) → o < n → get_or (map f (addresses a n)) o 0 ≡ f (a + o)
unfolding addresses
byte_laid f a zero o h = absurd (omega arith)
byte_laid f a (suc n) zero h = ap f (sym (add-zero a))
byte_laid f a (suc n) (suc o) h = let e : suc a + o ≡ a + suc o = omega arith in byte_laid f (suc a) n o (omega arith) ∙ ap f e

pub number_laid : (place : ℕ → ℕ) (memory : List ℕ) (a n o k : ℕ) → o + k ≤ n
    → number_at (λ x. x) (map (byte_at place memory) (addresses a n)) o k ≡ number_at place memory (a + o) k
unfolding number_by
number_laid place memory a n o zero h = refl
number_laid place memory a n o (suc k) h =
    let e : a + suc o ≡ suc (a + o) = omega arith in
    ap₂ (λ (b r : ℕ). b + 256 * r) (byte_laid (byte_at place memory) a n o (omega arith))
    (number_laid place memory a n (suc o) k (omega arith) ∙ ap (λ (x : ℕ). number_at place memory x k) e)

pub descriptor_laid : (place : ℕ → ℕ) (memory : List ℕ) (a : ℕ) → descriptor_at (λ x. x) (map (byte_at place memory) (addresses a 16)) 0 ≡ descriptor_at place memory a
unfolding descriptor_at
descriptor_laid place memory a =
    let first = number_laid place memory a 16 0 8 (omega arith) ∙ ap (λ (x : ℕ). number_at place memory x 8) (add-zero a) in
    let second = number_laid place memory a 16 8 4 (omega arith) in
    let third = number_laid place memory a 16 12 2 (omega arith) in
    let fourth = number_laid place memory a 16 14 2 (omega arith) in
    λ i. record { addr = record { 0 = first i }; length = second i; flags = third i; next = fourth i }

-- numbers as the language reads their bytes
module _ (f : ℕ → ℕ) (a : ℕ) where
  pub two_read : f a + f (suc a) * 256 ≡ number_by f a 2
  unfolding number_by
  two_read = omega arith

  pub four_read : f a + f (suc a) * 256 + f (suc (suc a)) * 65536 + f (suc (suc (suc a))) * 16777216 ≡ number_by f a 4
  unfolding number_by
  four_read = omega arith
