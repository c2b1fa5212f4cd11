-- 27 for a given flat view, rule by rule. Assumes nothing: these are definitions.
use Rattle.std.specs.Prelude.{Bool, ◌&&◌, ◌||◌, not, ℕ, ◌+◌, eqb, leb, ltb}
use Rattle.map_records.specs.Map.{mmio, managed, has_memory}
use Rattle.map_records.specs.Limits.{limit, most_regions, most_ranges}
use Rattle.map_records.specs.View.{range_of, last_offset}
use Rattle.map_records.specs.declared.view.FlatRange.{FlatRange}
use Rattle.map_records.specs.declared.view.FlatView.{FlatView}
use Rattle.device_words.specs.Table.{all_below}

-- 'first over last'
abbrev pub order_ok : FlatRange → Bool
order_ok r = leb r.first.0 r.last.0

-- 'last or the offset there not below 2^48'
abbrev pub last_ok : FlatRange → Bool
last_ok r = ltb r.last.0 limit && ltb (last_offset r) limit

-- 'a node over 31'
abbrev pub number_ok : FlatRange → Bool
number_ok r = ltb r.region most_regions

-- 'a kind not 1, 2 or 4'
abbrev pub kind_ok : FlatRange → Bool
kind_ok r = has_memory r.kind || eqb r.kind mmio

-- 'a memory range past the lent memory'
abbrev pub memory_ok : ℕ → FlatRange → Bool
memory_ok memory r = not (has_memory r.kind) || ltb (r.base + last_offset r) memory

-- 'a managed part past the region'
abbrev pub managed_ok : ℕ → FlatRange → Bool
managed_ok region r = not (eqb r.kind managed) || ltb (last_offset r) region

-- one entry by itself
unfoldable pub range_ok : ℕ → ℕ → FlatRange → Bool
range_ok memory region r = order_ok r && (last_ok r && (number_ok r && (kind_ok r && (memory_ok memory r && managed_ok region r))))

-- 'two of one node with unequal kind, memory start or port'
abbrev pub agree : FlatRange → FlatRange → Bool
agree x y = not (eqb x.region y.region) || (eqb x.kind y.kind && eqb x.base y.base)

-- an entry and a later one: 'out of order or overlapping'
abbrev pub pair_ok : FlatRange → FlatRange → Bool
pair_ok x y = ltb x.last.0 y.first.0 && agree x y

-- entry k with each before it; by itself too
abbrev pub pairs_ok : FlatView → ℕ → Bool
pairs_ok v k = all_below (λ j. pair_ok (range_of v j) (range_of v k)) k

unfoldable pub entry_ok : FlatView → ℕ → ℕ → ℕ → Bool
entry_ok v memory region k = range_ok memory region (range_of v k) && pairs_ok v k

-- 27 for runs, over a lent memory and a managed region of these lengths: 'over 256', and every entry
unfoldable pub view_ok : FlatView → ℕ → ℕ → Bool
view_ok v memory region = leb v.count most_ranges && all_below (entry_ok v memory region) v.count

-- 'Given no device .. 27 judges no region': every offset is below 2^48 anyway
abbrev pub no_region_bound : ℕ
no_region_bound = limit
