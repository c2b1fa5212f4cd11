-- Which map and which view words stand for, and the words of each. Assumes nothing: these are definitions.
use Rattle.std.specs.Prelude.{cond, List, [], ◌∷◌, ◌++◌, ℕ, zero, suc, ◌+◌, get_or, replicate}
use Rattle.map_records.specs.Limits.{most_regions, region_length, is_map, most_ranges, range_length, is_view}
use Rattle.map_records.specs.Map.{blank_map}
use Rattle.map_records.specs.View.{no_range}
use Rattle.map_records.specs.declared.map.Region.{Region}
use Rattle.map_records.specs.declared.map.RegionMap.{RegionMap}
use Rattle.map_records.specs.declared.view.FlatRange.{FlatRange}
use Rattle.map_records.specs.declared.view.FlatView.{FlatView}

-- n records of k words each, one behind the other from a place on
unfoldable pub each_at : {A : Type 0} → (List ℕ → ℕ → A) → ℕ → List ℕ → ℕ → ℕ → List A
each_at read k w at zero = []
each_at read k w at (suc n) = read w at ∷ each_at read k w (at + k) n

-- the words of records, one behind the other
unfoldable pub each_words : {A : Type 0} → (A → List ℕ) → List A → List ℕ
each_words words [] = []
each_words words (x ∷ xs) = words x ++ each_words words xs

-- the words of a region
abbrev pub region_at : List ℕ → ℕ → Region
region_at w at =
    record {
      kind = get_or w at 0;
      parent = get_or w (at + 1) 0;
      offset = get_or w (at + 2) 0;
      size = get_or w (at + 3) 0;
      priority = get_or w (at + 4) 0;
      memory_start = get_or w (at + 5) 0;
      port = get_or w (at + 6) 0;
      target = get_or w (at + 7) 0;
      alias_offset = get_or w (at + 8) 0;
    }

-- a map: the count, and the regions; words of another number stand for the map of no regions, which 3 refuses
unfoldable pub map_of : List ℕ → RegionMap
map_of w = cond (is_map w) (record { count = get_or w 0 0; regions = each_at region_at region_length w 1 most_regions }) (blank_map 0)

abbrev pub region_words : Region → List ℕ
region_words r =
    r.kind ∷ r.parent ∷ r.offset ∷ r.size ∷ r.priority ∷ r.memory_start ∷ r.port ∷ r.target ∷ r.alias_offset ∷ []

unfoldable pub map_words : RegionMap → List ℕ
map_words m = m.count ∷ each_words region_words m.regions

-- the words of a range
abbrev pub range_at : List ℕ → ℕ → FlatRange
range_at w at =
    record {
      first = record { 0 = get_or w at 0 };
      last = record { 0 = get_or w (at + 1) 0 };
      region = get_or w (at + 2) 0;
      offset = record { 0 = get_or w (at + 3) 0 };
      kind = get_or w (at + 4) 0;
      base = get_or w (at + 5) 0;
    }

-- what words of another number stand for: a view that 27 refuses, 'over 256'
abbrev pub no_view : FlatView
no_view = record { count = most_ranges + 1; ranges = replicate most_ranges no_range }

-- a view: the count, and the ranges
unfoldable pub view_of : List ℕ → FlatView
view_of w = cond (is_view w) (record { count = get_or w 0 0; ranges = each_at range_at range_length w 1 most_ranges }) no_view

abbrev pub range_words : FlatRange → List ℕ
range_words r = r.first.0 ∷ r.last.0 ∷ r.region ∷ r.offset.0 ∷ r.kind ∷ r.base ∷ []

unfoldable pub view_words : FlatView → List ℕ
view_words v = v.count ∷ each_words range_words v.ranges
