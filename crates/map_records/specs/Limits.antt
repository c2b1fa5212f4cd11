-- The limits of document 01, and how many words a map and a view have: one name for each meaning. Assumes nothing: these are definitions.
use Rattle.std.specs.Prelude.{Bool, List, ℕ, ◌^◌, eqb, length}

-- 2^48: where addresses, offsets and sizes end
abbrev pub limit : ℕ
limit = 2 ^ 48

-- 'A map has 1 to 32 nodes'
abbrev pub most_regions : ℕ
most_regions = 32

-- a priority field and a port are at most 255
abbrev pub most_in_byte : ℕ
most_in_byte = 255

-- 12: 'more than 256 runs'
abbrev pub most_ranges : ℕ
most_ranges = 256

-- the words of a region, and of a map: its count, and its regions
abbrev pub region_length : ℕ
region_length = 9

abbrev pub map_length : ℕ
map_length = 289

abbrev pub is_map : List ℕ → Bool
is_map w = eqb (length w) map_length

-- the words of a range, and of a view: its count, and its ranges
abbrev pub range_length : ℕ
range_length = 6

abbrev pub view_length : ℕ
view_length = 1537

abbrev pub is_view : List ℕ → Bool
is_view w = eqb (length w) view_length
