-- Laws of the walk's definitions. Assumes nothing.
use mathlib.Core.Path.{◌≡◌, refl, sym, ap, ◌∙◌}
use mathlib.Core.Bool.{Bool, true, false, cond}
use Prim.Native.Nat.{ℕ, zero, suc, ◌+◌, ◌-◌, ◌%◌, ◌≤◌, ◌<◌}
use mathlib.Core.Logic.{◌⊎◌, ⊎_elim}
use native.Mathlib.Nat.{add-zero, add-suc}
use native.Mathlib.Omega.{arith}
use borrow.Author.Tests.{eq-eqb, ne_eqb, le-leb, lt-leb, eqb-true, eqb-false, ltb-true, ltb-false, lt-ltb}
use lib.Dec.{eqb, ltb}
use Rattle.map_records.specs.declared.map.Region.{Region}
use Rattle.map_records.specs.declared.map.RegionMap.{RegionMap}
use Rattle.std.specs.Prelude.{Option, Some, None}
use Rattle.map_records.specs.declared.map.Found.{Found}
use Rattle.map_check.proofs.Bools.{and_fst, and_snd, and_no}
use Rattle.map_records.specs.Map.{mmio, region}
use Rattle.map_check.specs.Clash.{default_of, priority_of}
use Rattle.region_map.specs.Walk.{found, rank, child, ranked, or_else, holds, asked, own, rank_answer, tried, walk_at, walk_below, walk, walk_by}
use Rattle.map_check.specs.Promises.{Walkable}
use Rattle.region_map.specs.Promises.{NextChild, tried_in, answer_in}

-- Tests.

cond_le : (b : Bool) (x y z : ℕ) → x ≤ z → y ≤ z → cond b x y ≤ z
cond_le true x y z h k = h
cond_le false x y z h k = k

-- Ranks.

pub priority_le : (r : Region) → r.priority ≤ 255 → priority_of r ≤ 255
priority_le r h = cond_le (eqb r.priority 0) (default_of r.kind) r.priority 255 (cond_le (eqb r.kind mmio) 127 128 255 (omega arith) (omega arith)) h

pub rank_mod : (m : RegionMap) (c : ℕ) → c < 32 → rank priority_of m c % 32 ≡ c
unfolding rank
rank_mod m c h = omega arith

pub is_ranked : (m : RegionMap) (n c : ℕ) → c < n → c < 32 → (region m c).parent ≡ n + 1 → ranked priority_of m n (rank priority_of m c) ≡ true
unfolding ranked child
is_ranked m n c l h p = simp (rank_mod m c h, lt-ltb _ _ l, eq-eqb _ _ p, eq-eqb (rank priority_of m c) _ refl)

child_parent : (m : RegionMap) (n c : ℕ) → child m n c ≡ true → (region m c).parent ≡ n + 1
unfolding child
child_parent m n c e = eqb-true _ _ (and_snd (ltb c n) _ e)

child_lt : (m : RegionMap) (n c : ℕ) → child m n c ≡ true → c < n
unfolding child
child_lt m n c e = ltb-true _ _ (and_fst (ltb c n) _ e)

pub not_ranked : (m : RegionMap) (n k : ℕ) → ((region m (k % 32)).parent ≡ n + 1 → rank priority_of m (k % 32) ≡ k → ⊥) → ranked priority_of m n k ≡ false
unfolding ranked
not_ranked m n k h = and_no _ _ (λ p q. h (child_parent m n (k % 32) p) (eqb-true _ _ q))

pub child_below : (m : RegionMap) (n k : ℕ) → ranked priority_of m n k ≡ true → k % 32 < n
unfolding ranked
child_below m n k e = child_lt m n (k % 32) (and_fst _ _ e)

-- one node more is looked at: no rank from b up to `below` is a child's that is c
pub looked : (m : RegionMap) (n b below c : ℕ) → ((k : ℕ) → b ≤ k → k < below → k % 32 < c → ranked priority_of m n k ≡ false) → ((region m c).parent ≡ n + 1 → (rank priority_of m c < b) ⊎ (below ≤ rank priority_of m c)) → (k : ℕ) → b ≤ k → k < below → k % 32 < c + 1 → ranked priority_of m n k ≡ false
looked m n b below c old new k l h i = go (eqb (k % 32) c) refl
  where
    here : k % 32 ≡ c → ranked priority_of m n k ≡ false
    here e = not_ranked m n k (λ p q.
        ⊎_elim (λ u. let r : rank priority_of m c ≡ k = ap (rank priority_of m) (sym e) ∙ q in omega arith) (λ u. let r : rank priority_of m c ≡ k = ap (rank priority_of m) (sym e) ∙ q in omega arith)
        (new (ap (λ (j : ℕ). (region m j).parent) (sym e) ∙ p)))

    go : (t : Bool) → eqb (k % 32) c ≡ t → ranked priority_of m n k ≡ false
    go true e = here (eqb-true _ _ e)
    go false e = old k l h (let ne : k % 32 ≡ c → ⊥ = eqb-false _ _ e in omega arith)

-- The nodes below k.

pub walk_below_lem : (m : RegionMap) (k c a : ℕ) → c < k → walk_below priority_of m k c a ≡ walk m c a
unfolding walk_below walk_by
walk_below_lem m zero c a h = absurd (omega arith)
walk_below_lem m (suc k) c a h = go (eqb c k) refl (walk_below_lem m k c a)
  where
    go : (b : Bool) → eqb c k ≡ b → (c < k → walk_below priority_of m k c a ≡ walk m c a) → cond b (walk_at priority_of m (walk_below priority_of m k) c a) (walk_below priority_of m k c a) ≡ walk m c a
    go true e ih = rw (eqb-true c k e)
    go false e ih = ih (let ne : c ≡ k → ⊥ = eqb-false c k e in omega arith)

-- Children that are passed over.

none_ranked : (m : RegionMap) (u : ℕ → ℕ → Option Found) (n r a : ℕ) → ranked priority_of m n r ≡ false → rank_answer priority_of m u n r a ≡ None
unfolding rank_answer
none_ranked m u n r a e = rw e

skip : (m : RegionMap) (u : ℕ → ℕ → Option Found) (n r a j : ℕ) → ((k : ℕ) → r ≤ k → k < r + j → ranked priority_of m n k ≡ false) → tried priority_of m u n (r + j) a ≡ tried priority_of m u n r a
unfolding tried
skip m u n r a zero h = rw add-zero
skip m u n r a (suc j) h =
    rw (add-suc, none_ranked m u n (r + j) a (h (r + j) (omega arith) (omega arith)))
    (skip m u n r a j (λ k l g. h k l (omega arith)))

tried_skip : (m : RegionMap) (u : ℕ → ℕ → Option Found) (n b r : ℕ) → r ≤ b → ((k : ℕ) → r ≤ k → k < b → ranked priority_of m n k ≡ false) → (a : ℕ) → tried priority_of m u n b a ≡ tried priority_of m u n r a
tried_skip m u n b r l h a =
    let e : r + (b - r) ≡ b = omega arith in
    rw e at (skip m u n r a (b - r) (λ k g w. h k g (omega arith)))

-- A child.

pub past : (m : RegionMap) (n x : ℕ) → (region m n).size ≤ x → walk m n x ≡ None
unfolding walk_by walk_at
past m n x l = rw (le-leb _ _ l)

pub child_at : (m : RegionMap) (n k : ℕ) → ranked priority_of m n k ≡ true → (x : ℕ) → (region m (k % 32)).offset ≤ x → answer_in m n k x ≡ walk m (k % 32) (x - (region m (k % 32)).offset)
unfolding rank_answer asked holds
child_at m n k e x h = rw (e, le-leb _ _ h) (go (ltb x ((region m (k % 32)).offset + (region m (k % 32)).size)) refl)
  where
    go : (b : Bool) → ltb x ((region m (k % 32)).offset + (region m (k % 32)).size) ≡ b → cond b (walk_below priority_of m n (k % 32) (x - (region m (k % 32)).offset)) None ≡ walk m (k % 32) (x - (region m (k % 32)).offset)
    go true t = walk_below_lem m n (k % 32) _ (child_below m n k e)
    go false t = sym (past m (k % 32) _ (omega (arith, ltb-false x ((region m (k % 32)).offset + (region m (k % 32)).size) t)))

pub child_before : (m : RegionMap) (n k : ℕ) → ranked priority_of m n k ≡ true → (x : ℕ) → x < (region m (k % 32)).offset → answer_in m n k x ≡ None
unfolding rank_answer asked holds
child_before m n k e x h = rw (e, lt-leb _ _ h)

-- A node itself.

pub own_is : (m : RegionMap) (n : ℕ) → ((region m n).kind ≡ 0 → ⊥) → (x : ℕ) → own m n x ≡ found n x
unfolding own
own_is m n e x = rw (ne_eqb _ _ e)

pub own_none : (m : RegionMap) (n : ℕ) → (region m n).kind ≡ 0 → (x : ℕ) → own m n x ≡ None
unfolding own
own_none m n e x = rw (eq-eqb _ _ e)

-- A node's walk.

pub walk_alias : (m : RegionMap) → Walkable m → (n : ℕ) → n < m.count → (region m n).kind ≡ 3 → (x : ℕ) → x < (region m n).size → walk m n x ≡ walk m (region m n).target (x + (region m n).alias_offset)
unfolding walk_by walk_at
walk_alias m s n i e x h = rw (lt-leb _ _ h, eq-eqb _ _ e) (walk_below_lem m n _ _ (s.targets n i e))

pub walk_inside : (m : RegionMap) (n : ℕ) → ((region m n).kind ≡ 3 → ⊥) → (x : ℕ) → x < (region m n).size → walk m n x ≡ tried_in m n 8192 x
unfolding walk_by walk_at
walk_inside m n e x h = rw (lt-leb _ _ h, ne_eqb _ _ e)

-- From what the search for the next child finds.

pub is_child : {m : RegionMap} {n b k : ℕ} → NextChild m n b (Some k) → ranked priority_of m n k ≡ true
is_child {k = k} h = h.found k refl

pub tried_none : (m : RegionMap) (u : ℕ → ℕ → Option Found) (n b : ℕ) → NextChild m n b None → (x : ℕ) → tried priority_of m u n b x ≡ own m n x
unfolding tried
tried_none m u n b h x = tried_skip m u n b 0 h.within h.above x

pub tried_next : (m : RegionMap) (u : ℕ → ℕ → Option Found) (n b k : ℕ) → NextChild m n b (Some k) → (x : ℕ) → tried priority_of m u n b x ≡ or_else (rank_answer priority_of m u n k x) (tried priority_of m u n k x)
unfolding tried
tried_next m u n b k h x = tried_skip m u n b (suc k) h.within h.above x
