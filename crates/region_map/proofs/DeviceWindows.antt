-- Document 02's Req 07, 'Device windows lose by default': every map answers at every address as the old walk, document 01's, does for that map with field 127 at each MMIO region that has 0, and is judged as that map is by the old meaning of the field. Where no MMIO region has field 0 nothing changes. Assumes nothing.
use mathlib.Core.Path.{◌≡◌, refl, sym, ap, ap₂, ◌∙◌, fun_ext}
use mathlib.Core.Bool.{Bool, true, false, ◌&&◌, cond}
use mathlib.Core.List.{List}
use Prim.Native.Nat.{ℕ, zero, suc, ◌-◌, ◌%◌, ◌<◌}
use native.Mathlib.Omega.{arith}
use lib.Dec.{eqb, ltb}
use lib.ListN.{get_or, get_or-map}
use borrow.Author.Tests.{eqb-true, ltb-true}
use Rattle.map_records.specs.Map.{mmio, no_region, region, with_value}
use Rattle.map_check.specs.Fault.{kind_fault, field_fault, parent_of, parent_fault, link_fault, memory_fault}
use Rattle.map_check.specs.Clash.{priority_of, memory_clash, managed_clash, port_clash, sibling_clash}
use Rattle.map_check.specs.Check.{judged_by, judged}
use Rattle.map_check.proofs.First.{lowest_same, pair_same}
use Rattle.region_map.specs.Walk.{rank, child, ranked, holds, asked, own, rank_answer, tried, walk_at, walk_below, walk_by, walk_root_by, walk, walk_root}
use Rattle.region_map.specs.DeviceWindows.{old_priority, lowered_field, lowered, lowered_map, NoDefault}
use Rattle.map_records.specs.declared.map.Region.{Region}
use Rattle.map_records.specs.declared.map.RegionMap.{RegionMap}
use Rattle.map_records.specs.declared.map.Field.TheVariants.{Priority}
use Rattle.std.specs.Prelude.{Option}
use Rattle.map_records.specs.declared.map.Found.{Found}

-- Two maps, m and l, that differ in nothing but priority fields, each with a meaning of these, p and q, by which the priorities are equal.
module _ (p q : Region → ℕ) (m : RegionMap) (regions : List Region) (field : ℕ → ℕ)
    (same : (c : ℕ) → get_or regions c no_region ≡ with_value Priority (field c) (region m c)) where
  abbrev l : RegionMap
  l = record { count = m.count; regions = regions }

  -- The walk: at region n by the priorities of the regions below n.
  module _ (u : ℕ → ℕ → Option Found) (n : ℕ) (equal : (c : ℕ) → c < n → q (region l c) ≡ p (region m c)) (a : ℕ) where
    same_answer : (r : ℕ) → rank_answer q l u n r a ≡ rank_answer p m u n r a
    unfolding rank_answer ranked rank child asked holds
    same_answer r = go (ltb (r % 32) n) refl
      where
        go : (b : Bool) → ltb (r % 32) n ≡ b → rank_answer q l u n r a ≡ rank_answer p m u n r a
        go true e = rw (equal (r % 32) (ltb-true (r % 32) n e), same (r % 32))
        go false e = rw e

    same_tried : (r : ℕ) → tried q l u n r a ≡ tried p m u n r a
    unfolding tried own
    same_tried zero = rw (same n)
    same_tried (suc r) = rw (same_answer r, same_tried r)

    same_visit : walk_at q l u n a ≡ walk_at p m u n a
    unfolding walk_at
    same_visit = rw (same n, same_tried 8192)

  same_below : (k : ℕ) → ((c : ℕ) → c < k → q (region l c) ≡ p (region m c)) → walk_below q l k ≡ walk_below p m k
  unfolding walk_below
  same_below zero equal = refl
  same_below (suc k) equal = fun_ext (λ n. fun_ext (λ a. go n a (same_below k (λ c h. equal c (omega arith))) (eqb n k) refl))
    where
      go : (n a : ℕ) → walk_below q l k ≡ walk_below p m k → (b : Bool) → eqb n k ≡ b → walk_below q l (suc k) n a ≡ walk_below p m (suc k) n a
      go n a ih true e = rw (e, ih) (rw (eqb-true n k e) (same_visit (walk_below p m k) k (λ c h. equal c (omega arith)) a))
      go n a ih false e = rw (e, ih)

  same_walk : (n : ℕ) → ((c : ℕ) → c < n → q (region l c) ≡ p (region m c)) → (a : ℕ) → walk_by q l n a ≡ walk_by p m n a
  unfolding walk_by
  same_walk n equal a = ap (λ (u : ℕ → ℕ → Option Found). walk_at q l u n a) (same_below n equal) ∙ same_visit (walk_below p m n) n equal a

  -- The check: by the priorities of all regions, and with priority fields of which 6 says the same.
  module _ (equal : (c : ℕ) → c < m.count → q (region l c) ≡ p (region m c)) (bounds : (c : ℕ) → ltb 255 (field c) ≡ ltb 255 (region m c).priority) (memory : ℕ) where
    same_fields : (n : ℕ) → field_fault (region l n) ≡ field_fault (region m n)
    same_fields n = rw (same n, bounds n)

    same_links : (n : ℕ) → link_fault l n ≡ link_fault m n
    unfolding link_fault parent_fault
    same_links n = rw (same n) (rw (same (parent_of (region m n))))

    same_siblings : (i j : ℕ) → i < m.count → j < m.count → sibling_clash q l i j ≡ sibling_clash p m i j
    unfolding sibling_clash
    same_siblings i j h k = rw (equal i h, equal j k) (rw (same i, same j) (rw (same (parent_of (region m i)))))

    same_judged : judged_by q l memory ≡ judged_by p m memory
    unfolding judged_by
    same_judged =
        rw (
          lowest_same 4 _ (λ n. kind_fault (region m n).kind) m.count (λ n h. ap (λ (r : Region). kind_fault r.kind) (same n)),
          lowest_same 6 _ (λ n. field_fault (region m n)) m.count (λ n h. same_fields n),
          lowest_same 7 _ (λ n. link_fault m n) m.count (λ n h. same_links n),
          lowest_same 8 _ (λ n. memory_fault memory (region m n)) m.count (λ n h. ap (memory_fault memory) (same n)),
          pair_same 8 _ (λ i j. memory_clash (region m i) (region m j)) m.count (λ i j h k. ap₂ memory_clash (same i) (same j)),
          pair_same 9 _ (λ i j. managed_clash (region m i) (region m j)) m.count (λ i j h k. ap₂ managed_clash (same i) (same j)),
          pair_same 10 _ (λ i j. port_clash (region m i) (region m j)) m.count (λ i j h k. ap₂ port_clash (same i) (same j)),
          pair_same 11 _ (λ i j. sibling_clash p m i j) m.count same_siblings,
        )

-- One region with the default written out.

lowered_priority : (r : Region) → old_priority (lowered r) ≡ priority_of r
lowered_priority r = go (eqb r.kind mmio) (eqb r.priority 0) refl
  where
    go : (x y : Bool) → eqb r.priority 0 ≡ y → old_priority (with_value Priority (cond (x && y) 127 r.priority) r) ≡ cond y (cond x 127 128) r.priority
    go true true e = refl
    go true false e = rw e
    go false true e = rw e
    go false false e = rw e

lowered_bound : (r : Region) → ltb 255 (lowered_field r) ≡ ltb 255 r.priority
lowered_bound r = go (eqb r.kind mmio) (eqb r.priority 0) refl
  where
    go : (x y : Bool) → eqb r.priority 0 ≡ y → ltb 255 (cond (x && y) 127 r.priority) ≡ ltb 255 r.priority
    go true true e = rw (eqb-true r.priority 0 e)
    go true false e = refl
    go false y e = refl

module _ (m : RegionMap) where
  lowered_region : (c : ℕ) → region (lowered_map m) c ≡ lowered (region m c)
  lowered_region c = get_or-map lowered m.regions c no_region

  lowered_equal : (c : ℕ) → old_priority (region (lowered_map m) c) ≡ priority_of (region m c)
  lowered_equal c = ap (λ (r : Region). old_priority r) (lowered_region c) ∙ lowered_priority (region m c)

  -- at any region
  pub windows_lose_at : (n a : ℕ) → walk m n a ≡ walk_by old_priority (lowered_map m) n a
  windows_lose_at n a =
      sym (same_walk priority_of old_priority m (lowered_map m).regions (λ c. lowered_field (region m c)) lowered_region n (λ c h. lowered_equal c) a)

  -- Req 07: 'the walk answers at every address as the old walk does for that map with field 127 at each MMIO node that has 0'. It holds for every map, so 'for every map that 1 to 11 now let pass'.
  pub windows_lose : (a : ℕ) → walk_root m a ≡ walk_root_by old_priority (lowered_map m) a
  unfolding walk_root_by
  windows_lose a = windows_lose_at (m.count - 1) a

  -- And 1 to 11 let m pass now exactly where the old rules let that map pass; else both say the same number and nodes.
  pub judged_as_lowered : (memory : ℕ) → judged m memory ≡ judged_by old_priority (lowered_map m) memory
  judged_as_lowered memory =
      sym
      (same_judged priority_of old_priority m (lowered_map m).regions (λ c. lowered_field (region m c)) lowered_region (λ c h. lowered_equal c)
      (λ c. lowered_bound (region m c)) memory)

  -- Where no MMIO region has field 0 nothing changes.
  module _ (none : NoDefault m) where
    equal_old : (c : ℕ) → c < m.count → old_priority (region m c) ≡ priority_of (region m c)
    equal_old c h = go (eqb (region m c).kind mmio) refl (eqb (region m c).priority 0) refl
      where
        go : (x : Bool) → eqb (region m c).kind mmio ≡ x → (y : Bool) → eqb (region m c).priority 0 ≡ y → cond y 128 (region m c).priority ≡ cond y (cond x 127 128) (region m c).priority
        go true d true e = absurd (none c h (eqb-true (region m c).kind mmio d) (eqb-true (region m c).priority 0 e))
        go false d true e = refl
        go x d false e = refl

    pub walk_stays : (a : ℕ) → walk_root m a ≡ walk_root_by old_priority m a
    unfolding walk_root_by
    walk_stays a = sym (same_walk priority_of old_priority m m.regions (λ c. (region m c).priority) (λ c. refl) (m.count - 1) (λ c h. equal_old c (omega arith)) a)

    pub judged_stays : (memory : ℕ) → judged m memory ≡ judged_by old_priority m memory
    judged_stays memory = sym (same_judged priority_of old_priority m m.regions (λ c. (region m c).priority) (λ c. refl) equal_old (λ c. refl) memory)
