-- Records that lie as groups of k words, one behind another: how many, one read, one stored, and the words of all. Stated once over any group. Assumes nothing.
use mathlib.Core.Path.{◌≡◌, refl, sym, ap, subst, ◌∙◌}
use mathlib.Core.List.{List, [], ◌∷◌, ◌++◌, append_assoc}
use Prim.Native.Nat.{ℕ, zero, suc, ◌+◌, ◌*◌, ◌≤◌, ◌<◌}
use native.Mathlib.Nat.{mul-zero, mul-suc, zero-add}
use native.Mathlib.Omega.{arith}
use lib.ListN.{length, set, get_or, take, drop, replicate, length-append, length-drop, take-append-drop}
use lib.Seq.{sets, drop-drop, ext_get_or, get_or-take, get_or-drop, length-take-le, take_at, drop_at}
use Rattle.map_records.specs.Words.{each_at, each_words}
use Rattle.map_records.proofs.StoreLaws.{sets_below, sets_above, sets_within}

-- `read w at` is the record of the k words of w from `at` on, and `put x` the words of a record
pub record Grouped {A : Type 0} (read : List ℕ → ℕ → A) (put : A → List ℕ) (k : ℕ) : Type 0 where
  pub size : (x : A) → length (put x) ≡ k
  pub each : (w : List ℕ) (at j : ℕ) → j < k → get_or (put (read w at)) j 0 ≡ get_or w (at + j) 0
  pub back : (w : List ℕ) (at : ℕ) (x : A) → ((j : ℕ) → j < k → get_or w (at + j) 0 ≡ get_or (put x) j 0) → read w at ≡ x

module _ {A : Type 0} {read : List ℕ → ℕ → A} {put : A → List ℕ} {k : ℕ} (s : Grouped read put k) where
  pub groups_length : (w : List ℕ) (at n : ℕ) → length (each_at read k w at n) ≡ n
  unfolding each_at
  groups_length w at zero = refl
  groups_length w at (suc n) = ap suc (groups_length w (at + k) n)

  pub group_at : (w : List ℕ) (at n i : ℕ) (d : A) → i < n → get_or (each_at read k w at n) i d ≡ read w (at + k * i)
  unfolding each_at
  group_at w at zero i d h = absurd (omega arith)
  group_at w at (suc n) zero d h = let e : at ≡ at + k * 0 = omega (arith, mul-zero k) in ap (read w) e
  group_at w at (suc n) (suc i) d h =
      let e : at + k + k * i ≡ at + k * suc i = omega (arith, mul-suc k i) in
      group_at w (at + k) n i d (omega arith) ∙ ap (read w) e

  pub puts_length : (l : List A) → length (each_words put l) ≡ k * length l
  unfolding each_words
  puts_length [] = sym (mul-zero k)
  puts_length (x ∷ xs) = length-append (put x) (each_words put xs) ∙ omega (arith, s.size x, puts_length xs, mul-suc k (length xs))

  same : (w v : List ℕ) (at : ℕ) → ((j : ℕ) → j < k → get_or w (at + j) 0 ≡ get_or v (at + j) 0) → read w at ≡ read v at
  same w v at h = s.back w at (read v at) (λ j l. h j l ∙ sym (s.each v at j l))

  -- ---- one record stored: read there, and those that lie apart from it
  read_stored : (w : List ℕ) (at : ℕ) (x : A) → at + k ≤ length w → read (sets w at (put x)) at ≡ x
  read_stored w at x h = s.back (sets w at (put x)) at x (λ j b. sets_within w at (put x) j (omega (arith, s.size x)) (omega (arith, s.size x)))

  read_before : (w : List ℕ) (at b : ℕ) (x : A) → b + k ≤ at → read (sets w at (put x)) b ≡ read w b
  read_before w at b x h = same (sets w at (put x)) w b (λ j q. sets_below w at (put x) (b + j) (omega arith))

  read_behind : (w : List ℕ) (at b : ℕ) (x : A) → at + k ≤ b → read (sets w at (put x)) b ≡ read w b
  read_behind w at b x h = same (sets w at (put x)) w b (λ j q. sets_above w at (put x) (b + j) (omega (arith, s.size x)))

  reads_behind : (w : List ℕ) (at b n : ℕ) (x : A) → at + k ≤ b → each_at read k (sets w at (put x)) b n ≡ each_at read k w b n
  unfolding each_at
  reads_behind w at b zero x h = refl
  reads_behind w at b (suc n) x h = λ j. read_behind w at b x h j ∷ reads_behind w at (b + k) n x (omega arith) j

  pub stored_group : (w : List ℕ) (at n i : ℕ) (x : A) → i < n → at + k * n ≤ length w → each_at read k (sets w (at + k * i) (put x)) at n ≡ set (each_at read k w at n) i x
  unfolding each_at
  stored_group w at zero i x h room = absurd (omega arith)
  stored_group w at (suc n) zero x h room =
      let e : at + k * 0 ≡ at = omega (arith, mul-zero k) in
      subst (λ (p : ℕ). each_at read k (sets w p (put x)) at (suc n) ≡ set (each_at read k w at (suc n)) 0 x) (sym e) (λ j. read_stored w at x (omega (arith, mul-suc k n)) j ∷ reads_behind w at (at + k) n x (omega arith) j)
  stored_group w at (suc n) (suc i) x h room =
      let e : at + k * suc i ≡ at + k + k * i = omega (arith, mul-suc k i) in
      subst (λ (p : ℕ). each_at read k (sets w p (put x)) at (suc n) ≡ set (each_at read k w at (suc n)) (suc i) x) (sym e) (λ j. read_before w (at + k + k * i) at x (omega arith) j ∷ stored_group w (at + k) n i x (omega arith) (omega (arith, mul-suc k n)) j)

  -- ---- words that are the same from a place on give the same records there, and blank ones blank records
  pub reads_same : (w v : List ℕ) (at n : ℕ) → ((j : ℕ) → at ≤ j → get_or w j 0 ≡ get_or v j 0) → each_at read k w at n ≡ each_at read k v at n
  unfolding each_at
  reads_same w v at zero h = refl
  reads_same w v at (suc n) h = λ j. same w v at (λ i _. h (at + i) (omega arith)) j ∷ reads_same w v (at + k) n (λ i q. h i (omega arith)) j

  pub reads_blank : (w : List ℕ) (at n : ℕ) (x : A) → ((j : ℕ) → j < k → get_or (put x) j 0 ≡ 0) → ((j : ℕ) → get_or w j 0 ≡ 0) → each_at read k w at n ≡ replicate n x
  unfolding each_at
  reads_blank w at zero x h b = refl
  reads_blank w at (suc n) x h b = λ j. s.back w at x (λ i q. b (at + i) ∙ sym (h i q)) j ∷ reads_blank w (at + k) n x h b j

  -- ---- the words of what is read
  words : (w : List ℕ) (at : ℕ) → at + k ≤ length w → put (read w at) ≡ take k (drop at w)
  words w at h =
      let long : length (take k (drop at w)) ≡ k = length-take-le k (drop at w) (omega (arith, length-drop at w)) in
      ext_get_or 0 (put (read w at)) (take k (drop at w)) (s.size (read w at) ∙ sym long)
      (λ j l. s.each w at j (omega (arith, s.size (read w at))) ∙ sym (get_or-take k (drop at w) j 0 (omega (arith, s.size (read w at))) ∙ get_or-drop at w j 0))

  pub words_back : (w : List ℕ) (at n : ℕ) → at + k * n ≤ length w → drop at w ≡ each_words put (each_at read k w at n) ++ drop (at + k * n) w
  unfolding each_at each_words
  words_back w at zero h = let e : at + k * 0 ≡ at = omega (arith, mul-zero k) in rw e
  words_back w at (suc n) h =
      let e : at + k * suc n ≡ at + k + k * n = omega (arith, mul-suc k n) in
      let room : at + k ≤ length w = omega (arith, mul-suc k n) in
      sym (take-append-drop k (drop at w))
      ∙ (λ j. sym (words w at room) j ++ drop-drop k at w j)
      ∙ ap (λ (l : List ℕ). put (read w at) ++ l) (words_back w (at + k) n (omega (arith, mul-suc k n)))
      ∙ sym (append_assoc (put (read w at)) (each_words put (each_at read k w (at + k) n)) (drop (at + k + k * n) w))
      ∙ rw e

  -- ---- words fix the records that they stand for
  put_injective : (x y : A) → put x ≡ put y → x ≡ y
  put_injective x y e = sym (back x) ∙ ap (λ (w : List ℕ). read w 0) e ∙ back y
    where
      back : (z : A) → read (put z) 0 ≡ z
      back z = s.back (put z) 0 z (λ j h. ap (λ (i : ℕ). get_or (put z) i 0) (zero-add j))

  puts_injective : 0 < k → (xs ys : List A) → each_words put xs ≡ each_words put ys → xs ≡ ys
  unfolding each_words
  puts_injective some [] [] e = refl
  puts_injective some [] (y ∷ ys) e = absurd (omega (arith, ap length e, length-append (put y) (each_words put ys), s.size y))
  puts_injective some (x ∷ xs) [] e = absurd (omega (arith, ap length (sym e), length-append (put x) (each_words put xs), s.size x))
  puts_injective some (x ∷ xs) (y ∷ ys) e =
      let front = sym (take_at (put x) (each_words put xs) k (s.size x)) ∙ ap (take k) e ∙ take_at (put y) (each_words put ys) k (s.size y) in
      let rest = sym (drop_at (put x) (each_words put xs) k (s.size x)) ∙ ap (drop k) e ∙ drop_at (put y) (each_words put ys) k (s.size y) in
      (λ i. put_injective x y front i ∷ puts_injective some xs ys rest i)

  -- a word in front of them, a count for instance, is fixed too
  pub counted_injective : 0 < k → (c d : ℕ) (xs ys : List A) → (c ∷ each_words put xs) ≡ (d ∷ each_words put ys) → (c ≡ d) × (xs ≡ ys)
  counted_injective some c d xs ys e = (ap (λ (l : List ℕ). get_or l 0 0) e, puts_injective some xs ys (ap (drop 1) e))
