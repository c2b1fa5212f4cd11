-- Demand 2 for 23 to 27: each number exactly at its cause, found by number. Assumes nothing.
use mathlib.Core.Path.{◌≡◌, refl, sym, ap, ◌∙◌}
use mathlib.Core.Bool.{Bool, true, false, cond, ◌&&◌, ◌||◌, not}
use Prim.Native.Nat.{ℕ, ◌+◌, ◌<◌}
use native.Mathlib.Omega.{arith}
use lib.Dec.{eqb}
use lib.ListN.{length-take}
use lib.Seq.{get_or-take}
use Rattle.map_records.specs.Map.{mmio, has_memory}
use Rattle.map_records.specs.View.{entries, no_range}
use Rattle.map_records.specs.declared.view.FlatRange.{FlatRange}
use Rattle.map_records.specs.declared.view.FlatView.{FlatView}
use Rattle.map_check.proofs.Bools.{never}
use Rattle.device_words.specs.Table.{all_below}
use Rattle.device_words.specs.Device.{MemoryDevice, device_ok, plugged_at}
use Rattle.guest_view.specs.Guest.{Leaf, nowhere, leaf, leaf_in, leaf_at, place_of}
use Rattle.guest_view.specs.View.{view_ok, no_region_bound}
use Rattle.routing.specs.Route.{refused, to_memory, to_port, width_ok, is_nowhere, follows, is_open, target, routed, routed_with, routed_without}
use Rattle.routing.specs.RouteCauses.{route_refused_by, cause23, cause24, cause25, cause26, cause27, cause27_without}
use Rattle.guest_view.proofs.RuleLaws.{view_range}
use Rattle.routing.proofs.RouteLaws.{answered_at}

-- where a whole access leads is never refused with another number than 27
target_routed : (k n kind base o : ℕ) → eqb 27 k ≡ false → route_refused_by k (target (leaf n kind base o)) ≡ false
target_routed k n kind base o e = go (has_memory kind) (eqb kind mmio)
  where
    go : (b c : Bool) → route_refused_by k (cond b (to_memory (place_of base o)) (cond c (to_port base o) (refused 27))) ≡ false
    go true c = refl
    go false true = refl
    go false false = e

abbrev asked : ℕ → Leaf → Bool → Bool → Bool → Bool
asked k x ok same free =
    route_refused_by k (cond ok (cond (is_nowhere x) (refused 24) (cond same (cond free (target x) (refused 26)) (refused 25))) (refused 23))

module _ (answers : ℕ → Leaf) (plugged : ℕ → Bool) (a w : ℕ) where
  -- 23: 'access width not 1, 2, 4, 8'
  pub refused_23 : route_refused_by 23 (routed answers plugged a w) ≡ cause23 answers plugged a w
  unfolding routed
  refused_23 = go (answers a) (width_ok w) (all_below (λ i. follows (answers a) i (answers (a + i))) w) (all_below (λ i. is_open plugged (answers (a + i))) w)
    where
      go : (x : Leaf) (ok same free : Bool) → asked 23 x ok same free ≡ (not ok)
      go x false same free = refl
      go nowhere true same free = refl
      go (leaf n kind base o) true false free = refl
      go (leaf n kind base o) true true false = refl
      go (leaf n kind base o) true true true = target_routed 23 n kind base o refl

  -- 24: 'first byte answers nothing'
  pub refused_24 : route_refused_by 24 (routed answers plugged a w) ≡ cause24 answers plugged a w
  unfolding routed
  refused_24 = go (answers a) (width_ok w) (all_below (λ i. follows (answers a) i (answers (a + i))) w) (all_below (λ i. is_open plugged (answers (a + i))) w)
    where
      go : (x : Leaf) (ok same free : Bool) → asked 24 x ok same free ≡ (ok && is_nowhere x)
      go x false same free = refl
      go nowhere true same free = refl
      go (leaf n kind base o) true false free = refl
      go (leaf n kind base o) true true false = refl
      go (leaf n kind base o) true true true = target_routed 24 n kind base o refl

  -- 25: 'a later byte is not the same node at the next offset'
  pub refused_25 : route_refused_by 25 (routed answers plugged a w) ≡ cause25 answers plugged a w
  unfolding routed
  refused_25 = go (answers a) (width_ok w) (all_below (λ i. follows (answers a) i (answers (a + i))) w) (all_below (λ i. is_open plugged (answers (a + i))) w)
    where
      go : (x : Leaf) (ok same free : Bool) → asked 25 x ok same free ≡ (ok && not (is_nowhere x) && not same)
      go x false same free = refl
      go nowhere true same free = refl
      go (leaf n kind base o) true false free = refl
      go (leaf n kind base o) true true false = refl
      go (leaf n kind base o) true true true = target_routed 25 n kind base o refl

  -- 26: 'a byte lies in an unplugged block'
  pub refused_26 : route_refused_by 26 (routed answers plugged a w) ≡ cause26 answers plugged a w
  unfolding routed
  refused_26 = go (answers a) (width_ok w) (all_below (λ i. follows (answers a) i (answers (a + i))) w) (all_below (λ i. is_open plugged (answers (a + i))) w)
    where
      go : (x : Leaf) (ok same free : Bool) → asked 26 x ok same free ≡ (ok && not (is_nowhere x) && same && not free)
      go x false same free = refl
      go nowhere true same free = refl
      go (leaf n kind base o) true false free = refl
      go (leaf n kind base o) true true false = refl
      go (leaf n kind base o) true true true = target_routed 26 n kind base o refl

-- ---- 27: 'a given run list, device or queue record breaks its own rules', and nothing else

kind_known : ℕ → Bool
kind_known kind = has_memory kind || eqb kind mmio

target_known : (n kind base o : ℕ) → kind_known kind ≡ true → route_refused_by 27 (target (leaf n kind base o)) ≡ false
unfolding kind_known
target_known n kind base o = go (has_memory kind) (eqb kind mmio)
  where
    go : (b c : Bool) → (b || c) ≡ true → route_refused_by 27 (cond b (to_memory (place_of base o)) (cond c (to_port base o) (refused 27))) ≡ false
    go true c h = refl
    go false true h = refl
    go false false h = absurd (never (sym h))

module _ (v : FlatView) (memory region : ℕ) (ok : view_ok v memory region ≡ true) (plugged : ℕ → Bool) (a w : ℕ) where
  abbrev leaf_known : Leaf → Bool
  leaf_known nowhere = true
  leaf_known (leaf n kind base o) = kind_known kind

  -- a list that 27 lets pass answers RAM, MMIO or the managed region
  known : (n kind base o : ℕ) → leaf_at (entries v) a ≡ leaf n kind base o → kind_known kind ≡ true
  unfolding kind_known
  known n kind base o e =
      let r = answered_at (entries v) a n kind base o e in
      let p : r.at < v.count = omega (arith, r.below, length-take v.count v.ranges) in
      let here = get_or-take v.count v.ranges r.at no_range p in
      ap leaf_known (sym e ∙ r.given ∙ ap (λ (z : FlatRange). leaf_in z a) here) ∙ (view_range v memory region ok r.at p).kind

  routed_kept : route_refused_by 27 (routed (leaf_at (entries v)) plugged a w) ≡ false
  unfolding routed
  routed_kept = go (leaf_at (entries v) a) refl (width_ok w) (all_below (λ i. follows (leaf_at (entries v) a) i (leaf_at (entries v) (a + i))) w)
      (all_below (λ i. is_open plugged (leaf_at (entries v) (a + i))) w)
    where
      go : (x : Leaf) → leaf_at (entries v) a ≡ x → (ok same free : Bool) → asked 27 x ok same free ≡ false
      go x e false same free = refl
      go nowhere e true same free = refl
      go (leaf n kind base o) e true false free = refl
      go (leaf n kind base o) e true true false = refl
      go (leaf n kind base o) e true true true = target_known n kind base o (known n kind base o e)

pub refused_27 : (v : FlatView) (memory : ℕ) (d : MemoryDevice) (a w : ℕ) → route_refused_by 27 (routed_with v memory d a w) ≡ cause27 v memory d
unfolding routed_with
refused_27 v memory d a w = go (view_ok v memory d.region_size) refl (device_ok d)
  where
    go : (x : Bool) → view_ok v memory d.region_size ≡ x → (y : Bool)
        → route_refused_by 27 (cond (x && y) (routed (leaf_at (entries v)) (plugged_at d) a w) (refused 27)) ≡ not (x && y)
    go true e true = routed_kept v memory d.region_size e (plugged_at d) a w
    go true e false = refl
    go false e y = refl

pub refused_27_without : (v : FlatView) (memory a w : ℕ) → route_refused_by 27 (routed_without v memory a w) ≡ cause27_without v memory
unfolding routed_without
refused_27_without v memory a w = go (view_ok v memory no_region_bound) refl
  where
    go : (x : Bool) → view_ok v memory no_region_bound ≡ x → route_refused_by 27 (cond x (routed (leaf_at (entries v)) (λ o. false) a w) (refused 27)) ≡ not x
    go true e = routed_kept v memory no_region_bound e (λ o. false) a w
    go false e = refl
