-- What the walk answers is a leaf: a region below or at the one asked, that is no container and no alias, at an offset below its size. Assumes nothing.
use mathlib.Core.Path.{◌≡◌, refl, subst}
use mathlib.Core.Bool.{Bool, true, false, cond, ◌||◌}
use Prim.Native.Nat.{ℕ, zero, suc, ◌+◌, ◌-◌, ◌%◌, ◌≤◌, ◌<◌}
use native.Mathlib.Omega.{arith}
use borrow.Author.Tests.{eqb-true, eqb-false, leb-false, leb-true}
use lib.Dec.{eqb, leb}
use Rattle.map_records.specs.Map.{container, ram, mmio, alias, managed, has_memory, region}
use Rattle.map_check.specs.Check.{Accepted}
use Rattle.region_map.specs.Visibility.{LeafOf}
use Rattle.map_check.specs.Clash.{priority_of}
use Rattle.region_map.specs.Walk.{found, ranked, or_else, holds, asked, own, rank_answer, tried, walk_at, walk_below, walk, walk_root, walk_by, walk_root_by}
use Rattle.map_records.specs.declared.map.RegionMap.{RegionMap}
use Rattle.std.specs.Prelude.{Option, Some, None}
use Rattle.map_records.specs.declared.map.Found.{Found}
use Rattle.map_check.proofs.Accepted.{accepted_sound}

module _ (m : RegionMap) where
  pub record Leaf (k n o : ℕ) : Type 0 where
    pub below : n < k
    pub inside : o < (region m n).size
    pub not_container : (region m n).kind ≡ container → ⊥
    pub not_alias : (region m n).kind ≡ alias → ⊥

  -- an answer below k
  abbrev pub Within : ℕ → Option Found → Type 0
  Within k None = Unit {0}
  Within k (Some x) = Leaf k x.region x.offset.0

  wider : (k l : ℕ) (x : Option Found) → k ≤ l → Within k x → Within l x
  wider k l None h w = tt
  wider k l (Some x) h w =
      record { below = omega (arith, w.below); inside = w.inside; not_container = w.not_container; not_alias = w.not_alias }

  either : (k : ℕ) (x y : Option Found) → Within k x → Within k y → Within k (or_else x y)
  either k None y p q = q
  either k (Some x) y p q = p

  chosen : (k : ℕ) (b : Bool) (x y : Option Found) → Within k x → Within k y → Within k (cond b x y)
  chosen k true x y p q = p
  chosen k false x y p q = q

  in_own : (n a : ℕ) → a < (region m n).size → ((region m n).kind ≡ alias → ⊥) → Within (suc n) (own m n a)
  unfolding own
  in_own n a h i = go (eqb (region m n).kind container) refl
    where
      go : (b : Bool) → eqb (region m n).kind container ≡ b → Within (suc n) (cond b None (found n a))
      go true e = tt
      go false e = record { below = omega arith; inside = h; not_container = eqb-false (region m n).kind container e; not_alias = i }

  in_tried : (u : ℕ → ℕ → Option Found) (n : ℕ) → ((c x : ℕ) → Within n (u c x)) → (r a : ℕ) → a < (region m n).size → ((region m n).kind ≡ alias → ⊥)
      → Within (suc n) (tried priority_of m u n r a)
  unfolding tried rank_answer asked
  in_tried u n w zero a h i = in_own n a h i
  in_tried u n w (suc r) a h i =
      let x : Option Found = u (r % 32) (a - (region m (r % 32)).offset) in
      either (suc n) (cond (ranked priority_of m n r) (cond (holds m (r % 32) a) x None) None) (tried priority_of m u n r a)
      (chosen (suc n) (ranked priority_of m n r) (cond (holds m (r % 32) a) x None) None
      (chosen (suc n) (holds m (r % 32) a) x None (wider n (suc n) x (omega arith) (w (r % 32) (a - (region m (r % 32)).offset))) tt) tt)
      (in_tried u n w r a h i)

  in_visit : (u : ℕ → ℕ → Option Found) (n : ℕ) → ((c x : ℕ) → Within n (u c x)) → (a : ℕ) → Within (suc n) (walk_at priority_of m u n a)
  unfolding walk_at
  in_visit u n w a = go (leb (region m n).size a) refl (eqb (region m n).kind alias) refl
    where
      go : (b : Bool) → leb (region m n).size a ≡ b → (d : Bool) → eqb (region m n).kind alias ≡ d
          → Within (suc n) (cond b None (cond d (u (region m n).target (a + (region m n).alias_offset)) (tried priority_of m u n 8192 a)))
      go true e d f = tt
      go false e true f = wider n (suc n) (u (region m n).target (a + (region m n).alias_offset)) (omega arith) (w (region m n).target (a + (region m n).alias_offset))
      go false e false f = in_tried u n w 8192 a (leb-false (region m n).size a e) (eqb-false (region m n).kind alias f)

  in_below : (k c a : ℕ) → Within k (walk_below priority_of m k c a)
  unfolding walk_below
  in_below zero c a = tt
  in_below (suc k) c a = go (eqb c k) refl (in_below k c a) (in_visit (walk_below priority_of m k) k (in_below k) a)
    where
      go : (b : Bool) → eqb c k ≡ b → Within k (walk_below priority_of m k c a) → Within (suc k) (walk_at priority_of m (walk_below priority_of m k) k a)
          → Within (suc k) (cond b (walk_at priority_of m (walk_below priority_of m k) c a) (walk_below priority_of m k c a))
      go true e p q = rw (eqb-true c k e) q
      go false e p q = wider k (suc k) (walk_below priority_of m k c a) (omega arith) p

  pub in_walk : (n a : ℕ) → Within (suc n) (walk m n a)
  unfolding walk_by
  in_walk n a = in_visit (walk_below priority_of m n) n (in_below n) a

-- a kind that is no container, alias or MMIO has memory
leaf_memory : (k : ℕ) → k ≤ managed → (k ≡ container → ⊥) → (k ≡ alias → ⊥) → (k ≡ mmio → ⊥) → has_memory k ≡ true
leaf_memory k h p q r = go (eqb k ram) refl (eqb k managed) refl
  where
    go : (x : Bool) → eqb k ram ≡ x → (y : Bool) → eqb k managed ≡ y → (x || y) ≡ true
    go true e y f = refl
    go false e true f = refl
    go false e false f = absurd (omega (arith, eqb-false k ram e, eqb-false k managed f))

-- from the root of an accepted map
pub root_leaf : (m : RegionMap) (memory : ℕ) → Accepted m memory → (a : ℕ) (x : Found) → walk_root m a ≡ Some x → LeafOf m x.region x.offset.0
unfolding walk_root_by
root_leaf m memory ok a x e =
    let s = accepted_sound m memory ok in
    let some = s.some in
    let w : Leaf m (suc (m.count - 1)) x.region x.offset.0 = subst (Within m (suc (m.count - 1))) e (in_walk m (m.count - 1) a) in
    let low : x.region < m.count = omega (arith, w.below) in
    let top = leb-true (region m x.region).kind managed (s.kinds x.region low) in
    let nc = w.not_container in
    let na = w.not_alias in
    record { below = low; inside = w.inside; kinds = λ q. leaf_memory (region m x.region).kind top nc na q }
