-- The rules over one region: 4, 6, 7 and the first half of 8. Assumes nothing: these are definitions.
use Rattle.std.specs.Prelude.{Bool, ◌&&◌, ◌||◌, not, ℕ, ◌+◌, ◌-◌, eqb, leb, ltb}
use Rattle.map_records.specs.Map.{container, alias, managed, has, value_of, region, has_memory, is_kind}
use Rattle.map_records.specs.Limits.{limit, most_in_byte}
use Rattle.map_records.specs.declared.map.Region.{Region}
use Rattle.map_records.specs.declared.map.RegionMap.{RegionMap}
use Rattle.map_records.specs.declared.map.Field.{Field}
use Rattle.map_records.specs.declared.map.Field.TheVariants.{MemoryStart, Port, Target, AliasOffset}

-- 4: 'kind over 4'
abbrev pub kind_fault : ℕ → Bool
kind_fault kind = not (is_kind kind)

-- 6: 'a field that the kind lacks not 0'
abbrev pub extra : Region → Field → Bool
extra r f = not (has r.kind f) && not (eqb (value_of f r) 0)

-- 6: 'offset, alias offset or memory start over 2^48; size 0 or over 2^48; priority field or port over 255; in a given map, a field that the kind lacks not 0'
abbrev pub large_fault : Region → Bool
large_fault r = ltb limit r.offset || ltb limit r.alias_offset || ltb limit r.memory_start

abbrev pub range_fault : Region → Bool
range_fault r = eqb r.size 0 || ltb limit r.size || ltb most_in_byte r.priority || ltb most_in_byte r.port

abbrev pub extra_fault : Region → Bool
extra_fault r = extra r MemoryStart || extra r Port || extra r Target || extra r AliasOffset

abbrev pub field_fault : Region → Bool
field_fault r = large_fault r || range_fault r || extra_fault r

-- the number of a parent, where there is one
abbrev pub parent_of : Region → ℕ
parent_of r = r.parent - 1

-- 7: 'a parent not above its child or not below the count, or an alias or managed node'
unfoldable pub parent_fault : RegionMap → ℕ → Bool
parent_fault m n =
    not (eqb (region m n).parent 0)
    && (leb (parent_of (region m n)) n || leb m.count (parent_of (region m n))
    || eqb (region m (parent_of (region m n))).kind alias || eqb (region m (parent_of (region m n))).kind managed)

-- 7: 'an alias target not below the alias'
abbrev pub target_fault : Region → ℕ → Bool
target_fault r n = eqb r.kind alias && leb n r.target

-- 7: 'the last node not a container, or with a parent, or at an offset other than 0'
abbrev pub root_fault : Region → Bool
root_fault r = not (eqb r.kind container) || not (eqb r.parent 0) || not (eqb r.offset 0)

-- 7
unfoldable pub link_fault : RegionMap → ℕ → Bool
link_fault m n = parent_fault m n || target_fault (region m n) n || (eqb (n + 1) m.count && root_fault (region m n))

-- 8: 'memory start + size over the memory's length'
abbrev pub memory_fault : ℕ → Region → Bool
memory_fault memory r = has_memory r.kind && ltb memory (r.memory_start + r.size)
