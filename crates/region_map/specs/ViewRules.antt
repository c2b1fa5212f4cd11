-- Rule 27 for runs, as facts of a view over a map and a guest memory of so many bytes: what the proof that a made view passes 27 takes from the tree. Assumes nothing: these are definitions.
use Rattle.std.specs.Prelude.{true, ◌≡◌, ℕ, ◌+◌, ◌≤◌, ◌<◌}
use Rattle.map_records.specs.Map.{mmio, has_memory, region}
use Rattle.map_records.specs.View.{range_of, last_offset}
use Rattle.map_records.specs.Limits.{limit, most_regions, most_ranges}
use Rattle.map_records.specs.declared.map.RegionMap.{RegionMap}
use Rattle.map_records.specs.declared.view.FlatRange.{FlatRange}
use Rattle.map_records.specs.declared.view.FlatView.{FlatView}

-- one range: 'a kind not 1, 2 or 4, a node over 31, .. first over last, last or the offset there not below 2^48, a memory range past the lent memory, a managed part past the region'
pub record LawfulRange (m : RegionMap) (memory : ℕ) (r : FlatRange) : Type 0 where
  pub kind : (r.kind ≡ mmio → ⊥) → has_memory r.kind ≡ true
  pub known : r.region < most_regions
  pub order : r.first.0 ≤ r.last.0
  pub last : r.last.0 < limit
  pub offset : last_offset r < limit
  pub bytes : has_memory r.kind ≡ true → r.base + last_offset r < memory
  pub inside : last_offset r < (region m r.region).size

-- the view: 'over 256', 'out of order or overlapping, two of one node with unequal kind, memory start or port'
pub record Lawful (m : RegionMap) (memory : ℕ) (v : FlatView) : Type 0 where
  pub few : v.count ≤ most_ranges
  pub each : (k : ℕ) → k < v.count → LawfulRange m memory (range_of v k)
  pub ascending : (j k : ℕ) → j < k → k < v.count → (range_of v j).last.0 < (range_of v k).first.0
  pub kinds : (j k : ℕ) → j < v.count → k < v.count → (range_of v j).region ≡ (range_of v k).region → (range_of v j).kind ≡ (range_of v k).kind
  pub bases : (j k : ℕ) → j < v.count → k < v.count → (range_of v j).region ≡ (range_of v k).region → (range_of v j).base ≡ (range_of v k).base
