-- Laws of the first refusal of several. Assumes nothing.
use mathlib.Core.Path.{◌≡◌, refl, sym, ap, ◌∙◌}
use mathlib.Core.Bool.{Bool, true, false, cond, ◌&&◌}
use mathlib.Core.Logic.{⊎_elim}
use Prim.Native.Nat.{ℕ, zero, suc, ◌<◌}
use native.Mathlib.Omega.{arith}
use native.Mathlib.Nat.{eq-or-lt_of_le}
use lib.Dec.{ltb}
use borrow.Author.Tests.{ltb-true, lt-ltb}
use Rattle.map_check.proofs.Bools.{never}
use Rattle.map_check.specs.Reply.{Reply, accepted, nodes, place, plain, ◌then◌, passes, first, lowest, pairs_of, first_pair}

-- a sequence that refuses refuses in one of its parts, and one that passes passes in both
pub then_left : (a b : Reply) → (a then b) ≡ accepted → a ≡ accepted
then_left accepted b e = refl
then_left (nodes k i j) b e = e
then_left (place k p) b e = e
then_left (plain k) b e = e

pub then_right : (a b : Reply) → (a then b) ≡ accepted → b ≡ accepted
then_right accepted b e = e
then_right (nodes k i j) b e = absurd (let z : ◌≡◌ {A = ℕ} 0 1 = cc in omega arith)
then_right (place k p) b e = absurd (let z : ◌≡◌ {A = ℕ} 0 1 = cc in omega arith)
then_right (plain k) b e = absurd (let z : ◌≡◌ {A = ℕ} 0 1 = cc in omega arith)

pub then_both : (a b : Reply) → a ≡ accepted → b ≡ accepted → (a then b) ≡ accepted
then_both a b p q = rw (p, q)

pub refused_stays : (a b : Reply) → passes a ≡ false → (a then b) ≡ a
refused_stays accepted b e = absurd (never e)
refused_stays (nodes k i j) b e = refl
refused_stays (place k p) b e = refl
refused_stays (plain k) b e = refl

pub then_four : (r a b c d : Reply) → (r then a then b then c then d) ≡ (r then (a then b then c then d))
then_four accepted a b c d = refl
then_four (nodes k i j) a b c d = refl
then_four (place k p) a b c d = refl
then_four (plain k) a b c d = refl

module _ (f : ℕ → Reply) where
  pub first_none : (n : ℕ) → ((i : ℕ) → i < n → f i ≡ accepted) → first f n ≡ accepted
  unfolding first
  first_none zero h = refl
  first_none (suc n) h = rw (first_none n (λ i p. h i (omega arith)), h n (omega arith))

  pub first_all : (n : ℕ) → first f n ≡ accepted → (i : ℕ) → i < n → f i ≡ accepted
  unfolding first
  first_all zero e i p = absurd (omega arith)
  first_all (suc n) e i p =
      let here : f n ≡ accepted = then_right (first f n) (f n) e in
      let below : i < n → f i ≡ accepted = first_all n (then_left (first f n) (f n) e) i in
      ⊎_elim (λ q. ap f q ∙ here) (λ q. below q) (eq-or-lt_of_le {n = i} {m = n} (omega arith))

  -- the first that refuses is at i: it refuses, and none before it does
  pub first_at : (n i : ℕ) (x : Reply) → i < n → first f i ≡ accepted → f i ≡ x → ((b : Reply) → (x then b) ≡ x) → first f n ≡ x
  unfolding first
  first_at zero i x p e r s = absurd (omega arith)
  first_at (suc n) i x p e r s =
      ⊎_elim (λ (q : i ≡ n). ap (λ (k : ℕ). first f k then f n) (sym q) ∙ ap (λ (y : Reply). y then f n) e ∙ ap f (sym q) ∙ r)
      (λ q. ap (λ (y : Reply). y then f n) (first_at n i x q e r s) ∙ s (f n))
      (eq-or-lt_of_le {n = i} {m = n} (omega arith))

-- of two that answer alike below n
pub first_same : (f g : ℕ → Reply) (n : ℕ) → ((i : ℕ) → i < n → f i ≡ g i) → first f n ≡ first g n
unfolding first
first_same f g zero h = refl
first_same f g (suc n) h = rw (first_same f g n (λ i p. h i (omega arith)), h n (omega arith))

pub lowest_same : (k : ℕ) (f g : ℕ → Bool) (n : ℕ) → ((i : ℕ) → i < n → f i ≡ g i) → lowest k f n ≡ lowest k g n
unfolding lowest
lowest_same k f g n h = first_same _ _ n (λ i p. ap (λ (b : Bool). cond b (nodes k i i) accepted) (h i p))

pub pair_same : (k : ℕ) (f g : ℕ → ℕ → Bool) (n : ℕ) → ((i j : ℕ) → i < n → j < n → f i j ≡ g i j) → first_pair k f n ≡ first_pair k g n
unfolding first_pair pairs_of
pair_same k f g n h = first_same _ _ n (λ i p. first_same _ _ n (λ j q. ap (λ (b : Bool). cond (ltb i j && b) (nodes k i j) accepted) (h i j p q)))

-- of a chosen refusal
pub chosen : (b : Bool) (x : Reply) → b ≡ false → cond b x accepted ≡ accepted
chosen b x e = rw e

pub taken : (b : Bool) (x : Reply) → b ≡ true → cond b x accepted ≡ x
taken b x e = rw e

pub refused : (k i j : ℕ) → nodes k i j ≡ accepted → ⊥
refused k i j e = let z : ◌≡◌ {A = ℕ} 0 1 = cc in omega arith

pub unchosen : (b : Bool) (x : Reply) → (x ≡ accepted → ⊥) → cond b x accepted ≡ accepted → b ≡ false
unchosen true x h e = absurd (h e)
unchosen false x h e = refl

module _ (f : ℕ → Bool) (k : ℕ) where
  pub lowest_none : (n : ℕ) → ((i : ℕ) → i < n → f i ≡ false) → lowest k f n ≡ accepted
  unfolding lowest
  lowest_none n h = first_none (λ i. cond (f i) (nodes k i i) accepted) n (λ i p. chosen (f i) (nodes k i i) (h i p))

  pub lowest_at : (n i : ℕ) → i < n → ((j : ℕ) → j < i → f j ≡ false) → f i ≡ true → lowest k f n ≡ nodes k i i
  unfolding lowest
  lowest_at n i p h e =
      first_at (λ i. cond (f i) (nodes k i i) accepted) n i (nodes k i i) p
      (first_none (λ i. cond (f i) (nodes k i i) accepted) i (λ j q. chosen (f j) (nodes k j j) (h j q)))
      (taken (f i) (nodes k i i) e) (λ b. refl)

  pub lowest_all : (n : ℕ) → lowest k f n ≡ accepted → (i : ℕ) → i < n → f i ≡ false
  unfolding lowest
  lowest_all n e i p = unchosen (f i) (nodes k i i) (refused k i i) (first_all (λ i. cond (f i) (nodes k i i) accepted) n e i p)

module _ (f : ℕ → ℕ → Bool) (k n : ℕ) where
  abbrev cell : ℕ → ℕ → Reply
  cell i j = cond (ltb i j && f i j) (nodes k i j) accepted

  -- no pair of i with a node below j clashes
  row_none : (i j : ℕ) → ((l : ℕ) → l < j → i < l → f i l ≡ false) → (l : ℕ) → l < j → cell i l ≡ accepted
  row_none i j h l p = go (ltb i l) refl
    where
      go : (b : Bool) → ltb i l ≡ b → cond (b && f i l) (nodes k i l) accepted ≡ accepted
      go true e = chosen (f i l) (nodes k i l) (h l p (ltb-true i l e))
      go false e = refl

  pub pair_none : ((i : ℕ) → i < n → (j : ℕ) → j < n → i < j → f i j ≡ false) → first_pair k f n ≡ accepted
  unfolding first_pair pairs_of
  pair_none h = first_none (pairs_of k f n) n (λ i p. first_none (cell i) n (row_none i n (h i p)))

  pub pair_at : (i j : ℕ) → i < j → j < n → ((a : ℕ) → a < i → (b : ℕ) → b < n → a < b → f a b ≡ false) → ((b : ℕ) → b < j → i < b → f i b ≡ false)
      → f i j ≡ true → first_pair k f n ≡ nodes k i j
  unfolding first_pair pairs_of
  pair_at i j p q h g e =
      first_at (pairs_of k f n) n i (nodes k i j) (omega arith)
      (first_none (pairs_of k f n) i (λ a r. first_none (cell a) n (row_none a n (h a r))))
      (first_at (cell i) n j (nodes k i j) q (first_none (cell i) j (row_none i j g)) (rw (lt-ltb i j p, e)) (λ b. refl))
      (λ b. refl)

  pub pair_all : first_pair k f n ≡ accepted → (i j : ℕ) → i < j → j < n → f i j ≡ false
  unfolding first_pair pairs_of
  pair_all e i j p q =
      unchosen (f i j) (nodes k i j) (refused k i j) (rw (lt-ltb i j p) at (first_all (cell i) n (first_all (pairs_of k f n) n e i (omega arith)) j q))
