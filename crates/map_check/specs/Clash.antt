-- The rules over two regions: the second half of 8, and 9 to 11. Assumes nothing: these are definitions.
use Rattle.std.specs.Prelude.{Bool, cond, ◌&&◌, not, ℕ, ◌+◌, max, eqb, ltb}
use Rattle.map_records.specs.Map.{mmio, managed, region, has_memory}
use Rattle.map_check.specs.Fault.{parent_of}
use Rattle.map_records.specs.declared.map.Region.{Region}
use Rattle.map_records.specs.declared.map.RegionMap.{RegionMap}

-- [a, a + s) and [b, b + t) share a number: the larger start lies in both
abbrev pub share : ℕ → ℕ → ℕ → ℕ → Bool
share a s b t = ltb (max a b) (a + s) && ltb (max a b) (b + t)

-- they share a number below e: the lowest that they share, the larger start, lies there
abbrev pub share_below : ℕ → ℕ → ℕ → ℕ → ℕ → Bool
share_below e a s b t = share a s b t && ltb (max a b) e

-- 'The tree': 'field f from 1 to 255 means f - 128', and 0 a default of the kind. This is the priority + 128, whose order and equality are the priority's.
abbrev pub priority_with : (ℕ → ℕ) → Region → ℕ
priority_with default r = cond (eqb r.priority 0) (default r.kind) r.priority

-- Req 07: 'For MMIO nodes a priority field of 0 now means -1; all other kinds keep 0'
abbrev pub default_of : ℕ → ℕ
default_of kind = cond (eqb kind mmio) 127 128

abbrev pub priority_of : Region → ℕ
priority_of = priority_with default_of

-- 8: 'two such ranges share a byte'
abbrev pub memory_clash : Region → Region → Bool
memory_clash a b = has_memory a.kind && has_memory b.kind && share a.memory_start a.size b.memory_start b.size

-- 9: 'more than one managed node'
abbrev pub managed_clash : Region → Region → Bool
managed_clash a b = eqb a.kind managed && eqb b.kind managed

-- 10: 'two MMIO nodes with one port'
abbrev pub port_clash : Region → Region → Bool
port_clash a b = eqb a.kind mmio && eqb b.kind mmio && eqb a.port b.port

-- two children of one parent
abbrev pub siblings : Region → Region → Bool
siblings a b = not (eqb a.parent 0) && eqb a.parent b.parent

-- by what a region's priority is, with 128 added
module _ (priority : Region → ℕ) where
  -- 11: 'two children of one parent, of equal priority, whose ranges share an address', with document 02's Req 02, 'below their parent's size', which is e
  abbrev pub clash_below : ℕ → Region → Region → Bool
  clash_below e a b = siblings a b && eqb (priority a) (priority b) && share_below e a.offset a.size b.offset b.size

  -- 11 for regions i and j. 7 comes first, so their parent is a region of the map; a number that no map has room for reads as one of size 0.
  unfoldable pub sibling_clash : RegionMap → ℕ → ℕ → Bool
  sibling_clash m i j = clash_below (region m (parent_of (region m i))).size (region m i) (region m j)
