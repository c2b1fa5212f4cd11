-- Where the guest's bytes lie: what an address answers, reach and memory place. Everything that a queue step asks of a map it asks through `Guest`, so that the step over the flat list and the step over the tree are one definition. Assumes nothing: these are definitions.
use Rattle.std.specs.Prelude.{Bool, true, false, ◌&&◌, ◌||◌, List, [], ◌∷◌, Option, None, Some, ℕ, zero, suc, ◌+◌, eqb, get_or, set}
use Rattle.map_records.specs.Map.{ram, managed}
use Rattle.region_map.specs.FlatList.{list_gives}
use Rattle.region_map.specs.Flatten.{backing_of}
use Rattle.map_records.specs.View.{entries, offset_in}
use Rattle.region_map.specs.Walk.{walk_root}
use Rattle.map_records.specs.declared.map.RegionMap.{RegionMap}
use Rattle.map_records.specs.declared.map.Found.{Found}
use Rattle.map_records.specs.declared.view.FlatRange.{FlatRange}
use Rattle.map_records.specs.declared.view.FlatView.{FlatView}
use Rattle.device_words.specs.Bytes.{number_by}
use Rattle.device_words.specs.Device.{MemoryDevice, plugged_in, plugged_at}

-- what an address answers, with the node's values: nothing, or the node, its kind, its memory start or port, and the offset in it
pub data Leaf : Type 0 where
  nowhere : Leaf
  leaf : ℕ → ℕ → ℕ → ℕ → Leaf

abbrev pub leaf_in : FlatRange → ℕ → Leaf
leaf_in x a = leaf x.region x.kind x.base (offset_in x a)

-- what a list gives an address, with the node's values
abbrev pub leaf_at : List FlatRange → ℕ → Leaf
leaf_at = list_gives nowhere leaf_in

-- what the walk answers, with the node's values
abbrev pub leaf_of : RegionMap → Option Found → Leaf
leaf_of m None = nowhere
leaf_of m (Some f) = leaf f.region (backing_of m f.region).kind (backing_of m f.region).base f.offset.0

abbrev pub tree_leaf : RegionMap → ℕ → Leaf
tree_leaf m a = leaf_of m (walk_root m a)

-- 'Reachable means: the byte is in a RAM run, or a managed run in a block plugged': kinds, and offsets in the managed node that are plugged
abbrev pub reach_kind : (ℕ → Bool) → ℕ → ℕ → Bool
reach_kind plugged kind o = eqb kind ram || (eqb kind managed && plugged o)

abbrev pub reach_leaf : (ℕ → Bool) → Leaf → Bool
reach_leaf plugged nowhere = false
reach_leaf plugged (leaf n kind base o) = reach_kind plugged kind o

-- 'Memory place = memory start + offset in node'
abbrev pub place_of : ℕ → ℕ → ℕ
place_of base o = base + o

abbrev pub place_leaf : Leaf → ℕ
place_leaf nowhere = 0
place_leaf (leaf n kind base o) = place_of base o

-- which addresses of the guest are reachable, and the memory place of each
pub record Guest : Type 0 where
  pub reach : ℕ → Bool
  pub place : ℕ → ℕ

abbrev pub guest_by : (ℕ → Leaf) → (ℕ → Bool) → Guest
guest_by answers plugged = record { reach = λ a. reach_leaf plugged (answers a); place = λ a. place_leaf (answers a) }

-- by a flat view, with the block size and the plug table of a device; by a view and the device's record
abbrev pub view_guest : FlatView → ℕ → List ℕ → Guest
view_guest v block plugged = guest_by (leaf_at (entries v)) (plugged_in block plugged)

abbrev pub by_view : FlatView → MemoryDevice → Guest
by_view v d = view_guest v d.block_size d.plugged

-- by the tree: 'The tree leads a byte to plain RAM or to a block when the walk answers a RAM node or the managed node there'
abbrev pub by_tree : RegionMap → MemoryDevice → Guest
by_tree m d = guest_by (tree_leaf m) (plugged_at d)

-- each of the n bytes from a on is reachable; an address never wraps
unfoldable pub all_reach : (ℕ → Bool) → ℕ → ℕ → Bool
all_reach reach a zero = true
all_reach reach a (suc n) = reach a && all_reach reach (suc a) n

-- the n addresses from a on
unfoldable pub addresses : ℕ → ℕ → List ℕ
addresses a zero = []
addresses a (suc n) = a ∷ addresses (suc a) n

-- the byte at an address, and the number in the k bytes from a on
abbrev pub byte_at : (ℕ → ℕ) → List ℕ → ℕ → ℕ
byte_at place memory a = get_or memory (place a) 0

abbrev pub number_at : (ℕ → ℕ) → List ℕ → ℕ → ℕ → ℕ
number_at place memory a k = number_by (λ x. byte_at place memory x) a k

-- bytes written at memory places: 'in that order, byte by byte, a later write winning'
unfoldable pub written : List ℕ → List ℕ → List ℕ → List ℕ
written memory [] bytes = memory
written memory (p ∷ ps) [] = memory
written memory (p ∷ ps) (b ∷ bs) = written (set memory p b) ps bs
