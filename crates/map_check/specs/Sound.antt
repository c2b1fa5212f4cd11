-- What acceptance says, as plain facts over every region and every pair. Assumes nothing: these are definitions.
use Rattle.std.specs.Prelude.{◌≡◌, true, false, ℕ, ◌+◌, ◌-◌, ◌≤◌, ◌<◌}
use Rattle.map_records.specs.Map.{container, mmio, alias, managed, has, value_of, region, has_memory, is_kind}
use Rattle.map_check.specs.Fault.{parent_of}
use Rattle.map_records.specs.Limits.{limit, most_regions, most_in_byte}
use Rattle.map_check.specs.Clash.{priority_of}
use Rattle.map_records.specs.declared.map.Region.{Region}
use Rattle.map_records.specs.declared.map.RegionMap.{RegionMap}
use Rattle.map_records.specs.declared.map.Field.{Field}

-- no number below e lies in [a, a + s) and in [b, b + t)
abbrev pub ApartBelow : ℕ → ℕ → ℕ → ℕ → ℕ → Type 0
ApartBelow e a s b t = (x : ℕ) → x < e → a ≤ x → x < a + s → b ≤ x → x < b + t → ⊥

-- no number does, however large
abbrev pub Apart : ℕ → ℕ → ℕ → ℕ → Type 0
Apart a s b t = (e : ℕ) → ApartBelow e a s b t

-- 6: the values of one region
pub record Bounded (r : Region) : Type 0 where
  pub offset : r.offset ≤ limit
  pub alias : r.alias_offset ≤ limit
  pub start : r.memory_start ≤ limit
  pub filled : 0 < r.size
  pub size : r.size ≤ limit
  pub priority : r.priority ≤ most_in_byte
  pub port : r.port ≤ most_in_byte
  pub lacked : (f : Field) → has r.kind f ≡ false → value_of f r ≡ 0

-- 7: the parent of region n
pub record Parented (m : RegionMap) (n : ℕ) : Type 0 where
  pub above : n < parent_of (region m n)
  pub below : parent_of (region m n) < m.count
  pub not_alias : (region m (parent_of (region m n))).kind ≡ alias → ⊥
  pub not_managed : (region m (parent_of (region m n))).kind ≡ managed → ⊥

-- 7: the root
pub record Rooted (r : Region) : Type 0 where
  pub kind : r.kind ≡ container
  pub parent : r.parent ≡ 0
  pub offset : r.offset ≡ 0

-- the facts of a map that the check lets pass, over a guest memory of so many bytes
pub record Sound (m : RegionMap) (memory : ℕ) : Type 0 where
  pub some : 0 < m.count
  pub count : m.count ≤ most_regions
  pub kinds : (n : ℕ) → n < m.count → is_kind (region m n).kind ≡ true
  pub bounded : (n : ℕ) → n < m.count → Bounded (region m n)
  pub parents : (n : ℕ) → n < m.count → ((region m n).parent ≡ 0 → ⊥) → Parented m n
  pub targets : (n : ℕ) → n < m.count → (region m n).kind ≡ alias → (region m n).target < n
  pub root : Rooted (region m (m.count - 1))
  pub ends : (n : ℕ) → n < m.count → has_memory (region m n).kind ≡ true → (region m n).memory_start + (region m n).size ≤ memory
  pub bytes : (i j : ℕ) → i < j → j < m.count → has_memory (region m i).kind ≡ true → has_memory (region m j).kind ≡ true
      → Apart (region m i).memory_start (region m i).size (region m j).memory_start (region m j).size
  pub single : (i j : ℕ) → i < j → j < m.count → (region m i).kind ≡ managed → (region m j).kind ≡ managed → ⊥
  pub ports : (i j : ℕ) → i < j → j < m.count → (region m i).kind ≡ mmio → (region m j).kind ≡ mmio → (region m i).port ≡ (region m j).port → ⊥
  pub siblings : (i j : ℕ) → i < j → j < m.count → ((region m i).parent ≡ 0 → ⊥) → (region m i).parent ≡ (region m j).parent
      → priority_of (region m i) ≡ priority_of (region m j)
      → ApartBelow (region m (parent_of (region m i))).size (region m i).offset (region m i).size (region m j).offset (region m j).size
