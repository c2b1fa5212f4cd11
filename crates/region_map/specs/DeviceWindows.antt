-- What the theorem of document 02's Req 07, 'Device windows lose by default', speaks of: the old meaning of a priority field, and a map with the new default written out. Assumes nothing: these are definitions.
use Rattle.std.specs.Prelude.{◌&&◌, cond, map, ◌≡◌, ℕ, ◌<◌, eqb}
use Rattle.map_records.specs.Map.{mmio, region, with_value}
use Rattle.map_check.specs.Clash.{priority_with}
use Rattle.map_records.specs.declared.map.Region.{Region}
use Rattle.map_records.specs.declared.map.RegionMap.{RegionMap}
use Rattle.map_records.specs.declared.map.Field.TheVariants.{Priority}

-- Document 01: 'Priority field 0 means the default, priority 0', whatever the kind. The old walk is `walk_root_by old_priority`. `judged_by old_priority` is the check by that meaning, with every other rule as it is now (11 as Req 02 has it).
abbrev pub old_priority : Region → ℕ
old_priority = priority_with (λ kind. 128)

-- 'field 127 at each MMIO node that has 0'; every other field stays
abbrev pub lowered_field : Region → ℕ
lowered_field r = cond (eqb r.kind mmio && eqb r.priority 0) 127 r.priority

abbrev pub lowered : Region → Region
lowered r = with_value Priority (lowered_field r) r

-- 'that map with field 127 at each MMIO node that has 0'
abbrev pub lowered_map : RegionMap → RegionMap
lowered_map m = record { count = m.count; regions = map lowered m.regions }

-- no MMIO region of the map has field 0
abbrev pub NoDefault : RegionMap → Type 0
NoDefault m = (n : ℕ) → n < m.count → (region m n).kind ≡ mmio → (region m n).priority ≡ 0 → ⊥
