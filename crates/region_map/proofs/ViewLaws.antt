-- The first entries of an array as the list: the last one grown in its place, and one written behind them. Assumes nothing.
use mathlib.Core.Path.{◌≡◌, refl, sym, ap, ◌∙◌}
use mathlib.Core.Bool.{Bool, true, false}
use mathlib.Core.List.{List, [], ◌∷◌, ◌++◌}
use Prim.Native.Nat.{ℕ, zero, suc, ◌+◌, ◌-◌, ◌≤◌, ◌<◌}
use native.Mathlib.Nat.{not-suc-le-zero}
use native.Mathlib.Numerals.{add-one}
use native.Mathlib.Omega.{arith}
use lib.ListN.{length, take, drop, replicate, set, get_or, length-set, length-take, length-append, take-append-drop}
use lib.Seq.{drop-set-lt, drop-drop, take-suc, take-suc-set, length-take-le}
use borrow.Author.Tests.{lt-ltb, le-ltb, ltb-true}
use Rattle.map_records.specs.declared.map.GuestAddress.{GuestAddress}
use Rattle.map_records.specs.declared.map.RegionOffset.{RegionOffset}
use Rattle.std.specs.Prelude.{Option}
use Rattle.map_records.specs.declared.map.Found.{Found}
use Rattle.region_map.specs.declared.flat.Backing.{Backing}
use Rattle.map_records.specs.declared.view.FlatRange.{FlatRange}
use Rattle.map_records.specs.declared.view.FlatView.{FlatView}
use Rattle.region_map.specs.Promises.{Pushed, shift, Blank, Grew}
use Rattle.region_map.specs.Walk.{found}
use Rattle.region_map.specs.FlatList.{joins, grown, push_after, push, extend, flat}
use Rattle.region_map.specs.Flatten.{view_holding}
use Rattle.map_records.specs.View.{entries, no_range}
use Rattle.region_map.proofs.PushLaws.{after_on, after_off}
use Rattle.region_map.proofs.FlatLaws.{flat_grows, sweep_step}

after_snoc : (x : FlatRange) (xs : List FlatRange) (y r : FlatRange) → push_after x (xs ++ (y ∷ [])) r ≡ x ∷ push (xs ++ (y ∷ [])) r
unfolding push_after push
after_snoc x [] y r = refl
after_snoc x (z ∷ zs) y r = refl

push_on : (xs : List FlatRange) (y r : FlatRange) → joins y r ≡ true → push (xs ++ (y ∷ [])) r ≡ xs ++ (grown y r ∷ [])
unfolding push
push_on [] y r h = after_on y r h
push_on (x ∷ xs) y r h = after_snoc x xs y r ∙ ap {B = List FlatRange} (λ l. x ∷ l) (push_on xs y r h)

push_off : (xs : List FlatRange) (y r : FlatRange) → joins y r ≡ false → push (xs ++ (y ∷ [])) r ≡ (xs ++ (y ∷ [])) ++ (r ∷ [])
unfolding push
push_off [] y r h = after_off y r h
push_off (x ∷ xs) y r h = after_snoc x xs y r ∙ ap {B = List FlatRange} (λ l. x ∷ l) (push_off xs y r h)

module _ (l : List FlatRange) (r : FlatRange) where
  take_grown : (n : ℕ) → 0 < n → n ≤ length l → joins (get_or l (n - 1) no_range) r ≡ true
      → take n (set l (n - 1) (grown (get_or l (n - 1) no_range) r)) ≡ push (take n l) r
  take_grown zero p h j = absurd (not-suc-le-zero p)
  take_grown (suc k) p h j =
      let e : suc k - 1 ≡ k = omega arith in
      let j' : joins (get_or l k no_range) r ≡ true = rw e at j in
      rw (e) (take-suc-set l k (grown (get_or l k no_range) r) h ∙ sym (rw (take-suc l k no_range h) (push_on (take k l) (get_or l k no_range) r j')))

  -- with no last entry that it joins, it is put behind
  push_behind : (n : ℕ) → n ≤ length l → (0 < n → joins (get_or l (n - 1) no_range) r ≡ false) → push (take n l) r ≡ take n l ++ (r ∷ [])
  unfolding push
  push_behind zero h j = refl
  push_behind (suc k) h j =
      let e : suc k - 1 ≡ k = omega arith in
      let j' : joins (get_or l k no_range) r ≡ false = rw e at (j (omega arith)) in
      rw (take-suc l k no_range h) (push_off (take k l) (get_or l k no_range) r j')

  take_added : (n : ℕ) → n < length l → (0 < n → joins (get_or l (n - 1) no_range) r ≡ false)
      → take (n + 1) (set l n r) ≡ push (take n l) r
  take_added n h j = rw add-one (take-suc-set l n r h ∙ sym (push_behind n (omega arith) j))

module _ (v : FlatView) (r : FlatRange) (whole : length v.ranges ≡ 256) (some : v.count ≤ 256) where
  pub grew : 0 < v.count → joins (get_or v.ranges (v.count - 1) no_range) r ≡ true
      → Grew (push (entries v) r)
      (record { full = false; view = record { count = v.count; ranges = set v.ranges (v.count - 1) (grown (get_or v.ranges (v.count - 1) no_range) r) } })
  grew p j =
      let n = v.count in
      let a = set v.ranges (v.count - 1) (grown (get_or v.ranges (v.count - 1) no_range) r) in
      let e : take v.count (set v.ranges (v.count - 1) (grown (get_or v.ranges (v.count - 1) no_range) r)) ≡ push (take v.count v.ranges) r =
      take_grown v.ranges r v.count p (omega arith) j in
      let s : length (push (take v.count v.ranges) r) ≡ v.count =
      ap length (sym e) ∙ length-take-le v.count _ (simp length-set (omega arith)) in
      record { full = sym (le-ltb 256 (length (push (take v.count v.ranges) r)) (omega arith)); room = some; list = λ _. e }

  module _ (j : 0 < v.count → joins (get_or v.ranges (v.count - 1) no_range) r ≡ false) where
    long : length (push (entries v) r) ≡ v.count + 1
    long = ap length (push_behind v.ranges r v.count (omega arith) j) ∙ length-append (take v.count v.ranges) (r ∷ [])
        ∙ ap (λ (k : ℕ). k + 1) (length-take-le v.count v.ranges (omega arith))

    pub added : v.count < 256
        → Grew (push (entries v) r) (record { full = false; view = record { count = v.count + 1; ranges = set v.ranges v.count r } })
    added h = record {
      full = sym (le-ltb 256 (length (push (entries v) r)) (omega (arith, long)));
      room = omega arith;
      list = λ _. take_added v.ranges r v.count (omega arith) j;
    }

    pub refused : v.count ≡ 256 → Grew (push (entries v) r) (record { full = true; view = v })
    refused h = record {
      full = sym (lt-ltb 256 (length (push (entries v) r)) (omega (arith, long)));
      room = some;
      list = λ e. let z : ◌≡◌ {A = Bool} true false = e in let y : ◌≡◌ {A = ℕ} 0 1 = cc in absurd (omega arith);
    }

-- a view that fits is not full
pub kept : (v : FlatView) → v.count ≤ 256 → (l : List FlatRange) → entries v ≡ l → Grew l (record { full = false; view = v })
kept v h l e = record {
  full = sym (le-ltb 256 (length l) (omega (arith, ap length e, length-take v.count v.ranges)));
  room = h;
  list = λ _. e;
}

-- a stretch that is a run
pub step_leaf : (backing : ℕ → Backing) (l : List FlatRange) (n m : GuestAddress) (k : ℕ) (o : RegionOffset) (t : Backing) (p : Pushed) → t ≡ backing k
    → Grew (push l (record { first = n; last = m; region = k; offset = o; kind = t.kind; base = t.base })) p
    → Grew (extend backing l n.0 m.0 (found k o.0)) p
unfolding extend
step_leaf backing l n m k o t p q g = rw (← q) g

-- a list that is full stays full
pub still_full : (backing : ℕ → Backing) (f : ℕ → Option Found) (n m : ℕ) (p : Pushed) → n ≤ m → p.full ≡ true → Grew (flat backing f n) p → Grew (flat backing f m) p
still_full backing f n m p h e g =
    let a : 256 < length (flat backing f n) = ltb-true 256 _ (sym g.full ∙ e) in
    record {
      full = e ∙ sym (lt-ltb 256 (length (flat backing f m)) (omega (arith, flat_grows backing f n m h)));
      room = g.room;
      list = λ z. let y : ◌≡◌ {A = ℕ} 0 1 = cc in absurd (omega arith);
    }

-- a stretch of s addresses that answers as one run, put behind the list of those below it: a piece, or what lies free before it
pub turned : (backing : ℕ → Backing) (f : ℕ → Option Found) (at s : ℕ) (l : List FlatRange) (b : Option Found) (p : Pushed)
    → l ≡ flat backing f at → b ≡ f at → 0 < s → ((i : ℕ) → i < s → f (at + i) ≡ shift i (f at))
    → Grew (extend backing l at (at + (s - 1)) b) p → Grew (flat backing f (at + s)) p
turned backing f at s l b p e q h run g =
    let m : at + s - 1 ≡ at + (s - 1) = omega arith in
    rw (sweep_step backing f at s h run, m, ← e, ← q) g

-- the rest of the array stays blank
pub blank_grown : (v : FlatView) (x : FlatRange) → 0 < v.count → Blank v → Blank (record { count = v.count; ranges = set v.ranges (v.count - 1) x })
blank_grown v x h b = drop-set-lt v.count v.ranges (v.count - 1) x (omega arith) ∙ b

pub drop_one : {A : Type 0} (n m : ℕ) (l : List A) (a : A) → drop n l ≡ replicate m a → drop (suc n) l ≡ replicate (m - 1) a
drop_one n m l a e = sym (ap (λ (k : ℕ). drop k l) (add-one n)) ∙ sym (drop-drop 1 n l) ∙ ap (drop 1) e ∙ go m
  where
    go : (m : ℕ) → drop 1 (replicate m a) ≡ replicate (m - 1) a
    go zero = refl
    go (suc m) = let z : suc m - 1 ≡ m = omega arith in rw z

pub blank_added : (v : FlatView) (x : FlatRange) → Blank v → Blank (record { count = v.count + 1; ranges = set v.ranges v.count x })
blank_added v x b =
    let z : 256 - suc v.count ≡ 256 - v.count - 1 = omega arith in
    rw (add-one v.count) (drop-set-lt (suc v.count) v.ranges v.count x (omega arith) ∙ rw z (drop_one v.count (256 - v.count) v.ranges no_range b))

-- the empty list
pub start : (backing : ℕ → Backing) (f : ℕ → Option Found) (v : FlatView) → v ≡ view_holding [] → (v.count ≤ 256) × (entries v ≡ flat backing f 0) × Blank v
unfolding view_holding flat
start backing f v e = rw e (omega arith, refl, refl)

-- a view that is blank behind its entries is the view of its list
pub whole_view : (v : FlatView) (l : List FlatRange) → v.count ≤ length v.ranges → entries v ≡ l → Blank v → v ≡ view_holding l
unfolding view_holding
whole_view v l h e b =
    let n : v.count ≡ length l = sym (length-take-le v.count v.ranges h) ∙ ap length e in
    let m : v.ranges ≡ l ++ replicate (256 - length l) no_range =
    sym (take-append-drop v.count v.ranges) ∙ ap {B = List FlatRange} (λ x. x ++ drop v.count v.ranges) e
    ∙ ap {B = List FlatRange} (λ x. l ++ x) (b ∙ ap {B = List FlatRange} (λ k. replicate (256 - k) no_range) n) in
    λ i. record { count = n i; ranges = m i }
