-- A map with no managed region: a step over its view, with a device record of any region. Assumes nothing.
use Rattle.std.proofs.Common.{◌≡◌, ℕ, zero, suc, ◌<◌, ◌≤◌, Bool, false, cond, ◌&&◌, leb, List, length, sym, refl, ap, ◌∙◌, subst, ap₂, arith, ne_eqb}
use mathlib.Core.Path.{fun_ext}
use Rattle.map_records.specs.Map.{managed, region}
use Rattle.map_records.specs.View.{range_of}
use Rattle.map_records.specs.Words.{map_of, view_of}
use Rattle.map_records.specs.declared.map.RegionMap.{RegionMap}
use Rattle.map_records.specs.declared.view.FlatView.{FlatView}
use Rattle.map_check.specs.Check.{Accepted}
use Rattle.map_check.specs.Reply.{accepted}
use Rattle.region_map.specs.Walk.{walk_root}
use Rattle.region_map.specs.Flatten.{flat_list, view_holding, flattened_into}
use Rattle.std.specs.Prelude.{Option, None, Some}
use Rattle.map_records.specs.declared.map.Found.{Found}
use Rattle.region_map.proofs.LeafLaws.{root_leaf}
use Rattle.device_words.specs.Table.{all_below}
use Rattle.device_words.specs.Device.{MemoryDevice, device_ok, plugged_at}
use Rattle.device_words.specs.Words.{device_of}
use Rattle.guest_view.specs.Guest.{Guest, leaf_of, tree_leaf, reach_leaf, place_leaf, by_tree}
use Rattle.guest_view.specs.View.{range_ok, entry_ok, view_ok, no_region_bound}
use Rattle.virtqueue.specs.Queue.{queue_ok}
use Rattle.virtqueue.specs.Step.{refused, unmoved, stepped_by, records_ok, stepped}
use Rattle.virtqueue.specs.Unmanaged.{NoManaged, ram_guest, unmanaged_step}
use Rattle.virtqueue.specs.declared.queue.SplitQueue.{SplitQueue}
use Rattle.virtqueue.proofs.MadeView.{managed_range}
use Rattle.virtqueue.proofs.MadeWords.{made_view}
use Rattle.virtqueue.proofs.TreeLaws.{view_tree}

all_same : (f g : ℕ → Bool) (n : ℕ) → ((k : ℕ) → k < n → f k ≡ g k) → all_below f n ≡ all_below g n
unfolding all_below
all_same f g zero h = refl
all_same f g (suc n) h = ap₂ ◌&&◌ (all_same f g n (λ k l. h k (omega arith))) (h n (omega arith))

module _ (m : RegionMap) (size : ℕ) (ok : Accepted m size) (few : length (flat_list m) ≤ 256) (none : NoManaged m) where
  abbrev view : FlatView
  view = view_holding (flat_list m)

  -- no byte lies in a block, whatever blocks there are
  plain_reach : (p : ℕ → Bool) (a : ℕ) → reach_leaf p (tree_leaf m a) ≡ reach_leaf (λ o. false) (tree_leaf m a)
  plain_reach p a = go (walk_root m a) refl
    where
      go : (x : Option Found) → walk_root m a ≡ x → reach_leaf p (leaf_of m x) ≡ reach_leaf (λ o. false) (leaf_of m x)
      go None e = refl
      go (Some f) e = rw (ne_eqb (region m f.region).kind managed (none f.region (root_leaf m size ok a f e).below))

  plain_guest : (d : MemoryDevice) → by_tree m d ≡ ram_guest m
  plain_guest d = λ i. record { reach = fun_ext (plain_reach (plugged_at d)) i; place = λ a. place_leaf (tree_leaf m a) }

  -- and 27 asks no region's length
  any_region : (n bound : ℕ) → view_ok view n bound ≡ view_ok view n no_region_bound
  unfolding view_ok entry_ok range_ok
  any_region n bound = ap (λ (b : Bool). leb view.count 256 && b) (all_same (entry_ok view n bound) (entry_ok view n no_region_bound) view.count entry)
    where
      entry : (k : ℕ) → k < view.count → entry_ok view n bound k ≡ entry_ok view n no_region_bound k
      entry k h =
          let f = ne_eqb (range_of view k).kind managed (λ e. let r = managed_range m size ok few k h e in none (range_of view k).region r.below r.kind) in
          rw f

  pub step_unmanaged : (d : MemoryDevice) (q : SplitQueue) (memory : List ℕ) → stepped view d q memory ≡ unmanaged_step m view d q memory
  unfolding stepped records_ok unmanaged_step
  step_unmanaged d q memory =
      ap₂ (λ (b : Bool) (g : Guest). cond (b && (device_ok d && queue_ok q)) (stepped_by g d q memory) (unmoved (refused 27) d q memory))
      (any_region (length memory) d.region_size) (view_tree m size ok few d ∙ plain_guest d)

-- over words: `view` was made of the map in the words `map`, which has no managed region; any words are given as a device
pub unmanaged : (map : List ℕ) (size : ℕ) (old view : List ℕ) → flattened_into (map_of map) size old ≡ record { reply = accepted; words = view } → NoManaged (map_of map)
    → (device : List ℕ) (q : SplitQueue) (memory : List ℕ) → stepped (view_of view) (device_of device) q memory ≡ unmanaged_step (map_of map) (view_of view) (device_of device) q memory
unmanaged map size old view made none device q memory =
    let e = made_view (map_of map) size old view made in
    subst (λ (v : FlatView). stepped v (device_of device) q memory ≡ unmanaged_step (map_of map) v (device_of device) q memory) (sym e.is)
    (step_unmanaged (map_of map) size e.accepted e.few none (device_of device) q memory)
