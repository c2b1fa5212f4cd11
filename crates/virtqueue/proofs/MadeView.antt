-- A view that is made of an accepted map keeps 27, with a device of the map's managed region and without a device. Assumes nothing.
use Rattle.std.proofs.Common.{◌≡◌, ℕ, zero, suc, ◌+◌, ◌-◌, ◌<◌, ◌≤◌, Bool, true, false, not, ◌||◌, eqb, ltb, List, length, get_or, replicate, sym, refl, ap, ◌∙◌, subst, ⊎_elim, eq-or-lt_of_le, arith, lt-ltb, eq-eqb, ne_eqb, eqb-true}
use mathlib.Core.Bool.{or-true}
use lib.ListN.{get_or-append}
use borrow.Author.Tests.{eqb-false}
use Rattle.map_records.specs.Map.{mmio, managed, has_memory, region}
use Rattle.map_check.specs.Check.{Accepted}
use Rattle.region_map.specs.FlatList.{range_answer, lookup, ValuedEntry, Longest}
use Rattle.region_map.specs.Flatten.{backing_of, flat_list, view_holding}
use Rattle.map_records.specs.View.{no_range}
use Rattle.region_map.specs.ViewRules.{LawfulRange, Lawful}
use Rattle.map_records.specs.View.{range_of, last_offset}
use Rattle.map_records.specs.declared.map.RegionMap.{RegionMap}
use Rattle.map_records.specs.declared.view.FlatRange.{FlatRange}
use Rattle.map_records.specs.declared.view.FlatView.{FlatView}
use Rattle.region_map.specs.declared.flat.Backing.{Backing}
use Rattle.map_check.proofs.Accepted.{accepted_sound}
use Rattle.region_map.proofs.LeafLaws.{root_leaf}
use Rattle.region_map.proofs.UniqueLaws.{entry_at}
use Rattle.region_map.proofs.Demand3.{list_gives_lem, list_longest, given_at, made_lawful}
use Rattle.memory_device.specs.SetUp.{managed_in, region_size}
use Rattle.device_words.specs.Device.{MemoryDevice}
use Rattle.device_words.proofs.TableLaws.{all_of}
use Rattle.guest_view.specs.View.{kind_ok, memory_ok, managed_ok, pair_ok, entry_ok, view_ok, no_region_bound}
use Rattle.guest_view.proofs.RuleLaws.{range_of_lem, agree_of, pair_of, entry_of, view_of_lem}

-- a range of a list of longest runs: it carries its region's values, and the list gives its last address its last offset
run_of : (backing : ℕ → Backing) (l : List FlatRange) (k : ℕ) → Longest backing l → k < length l
    → ValuedEntry backing (get_or l k no_range) × (lookup l (get_or l k no_range).last.0 ≡ range_answer (get_or l k no_range) (get_or l k no_range).last.0)
run_of backing l k c h =
    let e = entry_at backing l k c h in
    (e, given_at backing l k (get_or l k no_range).last.0 c h e.order (omega arith))

-- the managed region's size, of a map with one
managed_size : (m : RegionMap) (c n : ℕ) → n < c → (region m n).kind ≡ managed → ((i j : ℕ) → i < j → j < c → (region m i).kind ≡ managed → (region m j).kind ≡ managed → ⊥)
    → managed_in m c ≡ (region m n).size
unfolding managed_in
managed_size m zero n h e single = absurd (omega arith)
managed_size m (suc c) n h e single =
    ⊎_elim (λ (q : n ≡ c). rw (eq-eqb (region m c).kind managed (ap (λ (x : ℕ). (region m x).kind) (sym q) ∙ e)) (ap (λ (x : ℕ). (region m x).size) (sym q)))
    (λ lt. rw (ne_eqb (region m c).kind managed (single n c lt (omega arith) e)) (managed_size m c n lt e (λ i j p r. single i j p (omega arith))))
    (eq-or-lt_of_le {n = n} {m = c} (omega arith))

module _ (m : RegionMap) (memory : ℕ) (ok : Accepted m memory) (few : length (flat_list m) ≤ 256) where
  -- a managed range leads into a managed region of the map
  pub record InManaged (r : FlatRange) : Type 0 where
    pub below : r.region < m.count
    pub kind : (region m r.region).kind ≡ managed
    pub inside : last_offset r < (region m r.region).size

  pub managed_range : (k : ℕ) → k < (view_holding (flat_list m)).count → (range_of (view_holding (flat_list m)) k).kind ≡ managed → InManaged (range_of (view_holding (flat_list m)) k)
  unfolding view_holding
  managed_range k h e = go (get_or (flat_list m) k no_range) (get_or-append (flat_list m) (replicate (256 - length (flat_list m)) no_range) no_range k h) (run_of (backing_of m) (flat_list m) k (list_longest m) h) e
    where
      go : (r : FlatRange) → range_of (view_holding (flat_list m)) k ≡ r → ValuedEntry (backing_of m) r × (lookup (flat_list m) r.last.0 ≡ range_answer r r.last.0)
          → (range_of (view_holding (flat_list m)) k).kind ≡ managed → InManaged (range_of (view_holding (flat_list m)) k)
      go r is q e =
          let leaf = root_leaf m memory ok r.last.0 (record { region = r.region; offset = record { 0 = last_offset r } }) (sym (list_gives_lem m r.last.0) ∙ q.1) in
          let kind : (region m r.region).kind ≡ managed = sym q.0.kind ∙ ap (λ (x : FlatRange). x.kind) (sym is) ∙ e in
          subst InManaged (sym is) (record { below = leaf.below; kind = kind; inside = leaf.inside })

  -- and so lies in the managed region
  managed_inside : (k : ℕ) → k < (view_holding (flat_list m)).count → (range_of (view_holding (flat_list m)) k).kind ≡ managed → last_offset (range_of (view_holding (flat_list m)) k) < region_size m
  managed_inside k h e =
      let r = managed_range k h e in
      let within = r.inside in
      omega (arith, managed_size m m.count (range_of (view_holding (flat_list m)) k).region r.below r.kind (accepted_sound m memory ok).single)

  -- with any bound that the managed ranges keep
  made_ok : (bound : ℕ) → ((k : ℕ) → k < (view_holding (flat_list m)).count → (range_of (view_holding (flat_list m)) k).kind ≡ managed → last_offset (range_of (view_holding (flat_list m)) k) < bound)
      → view_ok (view_holding (flat_list m)) memory bound ≡ true
  made_ok bound managed-in = go (view_holding (flat_list m)) (made_lawful m memory ok few) managed-in
    where
      kind_ok_lem : (r : FlatRange) → LawfulRange m memory r → kind_ok r ≡ true
      kind_ok_lem r f = pick (eqb r.kind mmio) refl
        where
          pick : (x : Bool) → eqb r.kind mmio ≡ x → (has_memory r.kind || x) ≡ true
          pick true p = or-true (has_memory r.kind)
          pick false p = rw (f.kind (eqb-false r.kind mmio p))

      memory_ok_lem : (r : FlatRange) → LawfulRange m memory r → memory_ok memory r ≡ true
      memory_ok_lem r f = pick (has_memory r.kind) refl
        where
          pick : (x : Bool) → has_memory r.kind ≡ x → (not x || ltb (r.base + last_offset r) memory) ≡ true
          pick true p = lt-ltb (r.base + last_offset r) memory (f.bytes p)
          pick false p = refl

      managed_ok_lem : (r : FlatRange) → (r.kind ≡ managed → last_offset r < bound) → managed_ok bound r ≡ true
      managed_ok_lem r f = pick (eqb r.kind managed) refl
        where
          pick : (x : Bool) → eqb r.kind managed ≡ x → (not x || ltb (last_offset r) bound) ≡ true
          pick true p = lt-ltb (last_offset r) bound (f (eqb-true r.kind managed p))
          pick false p = refl

      go : (v : FlatView) → Lawful m memory v → ((k : ℕ) → k < v.count → (range_of v k).kind ≡ managed → last_offset (range_of v k) < bound) → view_ok v memory bound ≡ true
      go v l inside = view_of_lem v memory bound l.few (all_of (entry_ok v memory bound) v.count (λ k h.
          let f = l.each k h in
          entry_of v memory bound k
          (range_of_lem memory bound (range_of v k) (record { order = f.order; last = f.last; offset = f.offset; known = f.known; kind = kind_ok_lem (range_of v k) f; room = memory_ok_lem (range_of v k) f; inside = managed_ok_lem (range_of v k) (inside k h) }))
          (all_of (λ j. pair_ok (range_of v j) (range_of v k)) k (λ j p.
          let q : j < v.count = omega arith in
          pair_of (range_of v j) (range_of v k) (l.ascending j k p h) (agree_of (range_of v j) (range_of v k) (l.kinds j k q h) (l.bases j k q h))))))

  -- 27 over the same memory, with a device of the map's managed region
  pub made_view_kept : (d : MemoryDevice) → d.region_size ≡ region_size m → view_ok (view_holding (flat_list m)) memory d.region_size ≡ true
  made_view_kept d e = rw e (made_ok (region_size m) managed_inside)

  -- and without a device
  pub made_view_kept_alone : view_ok (view_holding (flat_list m)) memory no_region_bound ≡ true
  made_view_kept_alone = made_ok no_region_bound (λ k h e. ((made_lawful m memory ok few).each k h).offset)
