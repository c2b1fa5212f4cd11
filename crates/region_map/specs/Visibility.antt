-- Source 001's rules of visibility as document 01 gives them, with no word of ranks, and what a walk from the root can come to. Assumes nothing: these are definitions.
use Rattle.std.specs.Prelude.{true, ◌≡◌, ℕ, ◌+◌, ◌-◌, ◌≤◌, ◌<◌}
use Rattle.map_records.specs.Map.{mmio, alias, has_memory, region}
use Rattle.map_check.specs.Clash.{priority_of}
use Rattle.region_map.specs.Walk.{own}
use Rattle.map_records.specs.declared.map.RegionMap.{RegionMap}
use Rattle.std.specs.Prelude.{Option, Some, None}
use Rattle.map_records.specs.declared.map.Found.{Found}

-- c is a child of n 'whose range [offset, offset + size) holds the address' a
pub record Holding (m : RegionMap) (n a c : ℕ) : Type 0 where
  pub below : c < n
  pub parent : (region m c).parent ≡ n + 1
  pub from : (region m c).offset ≤ a
  pub to : a < (region m c).offset + (region m c).size

-- 11 at an address that n has: of two children of equal priority at most one holds it, so that 'highest priority first' leaves no choice
abbrev pub OneHolder : RegionMap → ℕ → ℕ → Type 0
OneHolder m n a = (c e : ℕ) → Holding m n a c → Holding m n a e → priority_of (region m c) ≡ priority_of (region m e) → c ≡ e

-- what such a child answers, 'walked with address - offset'
abbrev pub child_answer : RegionMap → (ℕ → ℕ → Option Found) → ℕ → ℕ → Option Found
child_answer m walked a c = walked c (a - (region m c).offset)

-- the four cases at region n and an address a inside it, of a walk that gives each region at each address an answer
pub record Visible (m : RegionMap) (walked : ℕ → ℕ → Option Found) (n a : ℕ) : Type 0 where
  -- 'address not below the size: nothing'
  pub outside : (region m n).size ≤ a → walked n a ≡ None
  -- 'alias: walk at the target with address + alias offset'
  pub aliased : a < (region m n).size → (region m n).kind ≡ alias → walked n a ≡ walked (region m n).target (a + (region m n).alias_offset)
  -- 'highest priority first .. the first that answers wins': a child that holds the address and answers wins where every holding child of a higher priority answers nothing
  pub child : a < (region m n).size → ((region m n).kind ≡ alias → ⊥) → (c : ℕ) (x : Found) → Holding m n a c → child_answer m walked a c ≡ Some x
      → ((e : ℕ) → Holding m n a e → priority_of (region m c) < priority_of (region m e) → child_answer m walked a e ≡ None) → walked n a ≡ Some x
  -- 'If none does: a container answers nothing, any other kind answers itself at that address'
  pub none : a < (region m n).size → ((region m n).kind ≡ alias → ⊥) → ((e : ℕ) → Holding m n a e → child_answer m walked a e ≡ None) → walked n a ≡ own m n a

-- a walk from the root comes to RAM, MMIO or the managed region, inside the map and inside the region
pub record LeafOf (m : RegionMap) (n o : ℕ) : Type 0 where
  pub below : n < m.count
  pub inside : o < (region m n).size
  pub kinds : ((region m n).kind ≡ mmio → ⊥) → has_memory (region m n).kind ≡ true
