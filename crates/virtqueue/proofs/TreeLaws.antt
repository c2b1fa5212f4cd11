-- The guest through a made view is the guest through the tree. Assumes nothing.
use Rattle.std.proofs.Common.{◌≡◌, ℕ, ◌≤◌, List, length, get_or, ap, ◌∙◌, ap₂}
use Rattle.map_check.specs.Check.{Accepted}
use Rattle.region_map.specs.FlatList.{range_answer, lookup, ValuedEntry, Longest}
use Rattle.region_map.specs.Flatten.{backing_of, flat_list, view_holding}
use Rattle.map_records.specs.View.{no_range, entries, offset_in}
use Rattle.map_records.specs.declared.map.RegionMap.{RegionMap}
use Rattle.map_records.specs.declared.view.FlatRange.{FlatRange}
use Rattle.std.specs.Prelude.{None}
use Rattle.region_map.proofs.Demand3.{demand3_first_half}
use Rattle.region_map.proofs.UniqueLaws.{entry_at}
use Rattle.region_map.proofs.ListLaws.{read_off}
use Rattle.device_words.specs.Device.{plugged_at}
use Rattle.device_words.specs.Device.{MemoryDevice}
use Rattle.guest_view.specs.Guest.{leaf, leaf_in, leaf_at, leaf_of, tree_leaf, guest_by, by_view, by_tree}

-- an entry that carries its region's values answers as its region does
entry_leaf : (m : RegionMap) (x : FlatRange) (a : ℕ) → ValuedEntry (backing_of m) x → leaf_in x a ≡ leaf_of m (range_answer x a)
entry_leaf m x a e = ap₂ (λ (k b : ℕ). leaf x.region k b (offset_in x a)) e.kind e.base

-- a list of longest runs gives each address the leaf of what it gives it
pub list_leaf : (m : RegionMap) (l : List FlatRange) (a : ℕ) → Longest (backing_of m) l → leaf_at l a ≡ leaf_of m (lookup l a)
list_leaf m l a c = read_off None range_answer (leaf_of m) leaf_in l a (λ k h. entry_leaf m (get_or l k no_range) a (entry_at (backing_of m) l k c h))

module _ (m : RegionMap) (memory : ℕ) (ok : Accepted m memory) (few : length (flat_list m) ≤ 256) where
  pub view_leaf : (a : ℕ) → leaf_at (entries (view_holding (flat_list m))) a ≡ tree_leaf m a
  view_leaf a =
      let h = (demand3_first_half m memory ok few).1 in
      list_leaf m (entries (view_holding (flat_list m))) a h.longest ∙ ap (leaf_of m) (h.gives a)

  pub view_tree : (d : MemoryDevice) → by_view (view_holding (flat_list m)) d ≡ by_tree m d
  view_tree d = λ i. guest_by (λ a. view_leaf a i) (plugged_at d)
