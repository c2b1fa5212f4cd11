-- Where guest addresses lie to a region, by the offsets of the regions above it. Assumes nothing: these are definitions.
use Rattle.std.specs.Prelude.{◌≡◌, cond, ℕ, zero, suc, ◌+◌, ◌-◌, ◌≤◌, ◌<◌, min, eqb, ltb}
use Rattle.map_records.specs.Map.{region}
use Rattle.map_check.specs.Fault.{parent_of}
use Rattle.region_map.specs.Flatten.{root_size}
use Rattle.map_records.specs.Limits.{limit, most_regions}
use Rattle.map_records.specs.declared.map.Region.{Region}
use Rattle.map_records.specs.declared.map.RegionMap.{RegionMap}
use Rattle.drawing.specs.declared.position.Position.{Position}
use Rattle.drawing.specs.declared.position.Position.TheVariants.{Aside, Outside, Inside}

-- The part of the addresses of its parent from `first` up to `end` that lies in a region, at 'address - offset'; outside where there is none. Subtraction ends at 0.
unfoldable pub entered : Region → ℕ → ℕ → Position
entered r first end =
    cond (ltb (first - r.offset) (min (end - r.offset) r.size))
    (Inside (record { 0 = first - r.offset }) (record { 0 = min (end - r.offset) r.size }))
    Outside

-- a region, where its parent is entered as p
abbrev pub below : Region → Position → Position
below r Aside = Aside
below r Outside = Outside
below r (Inside first end) = entered r first.0 end.0

-- The guest addresses from a up to b at region n: the root is entered with them, and every other region with what lies in its parent; a region with no parent that is not the root is aside. At most k regions are asked.
unfoldable pub climb : RegionMap → ℕ → ℕ → ℕ → ℕ → Position
climb m zero n a b = Aside
climb m (suc k) n a b =
    cond (eqb (region m n).parent 0)
    (cond (eqb (n + 1) m.count) (entered (region m n) a b) Aside)
    (below (region m n) (climb m k (parent_of (region m n)) a b))

-- 'a parent not above its child' is refused, so of 32 regions 32 are enough
unfoldable pub located : RegionMap → ℕ → ℕ → ℕ → Position
located m n a b = climb m most_regions n a b

-- what drawing needs of a map; acceptance gives it
pub record Climbable (m : RegionMap) : Type 0 where
  pub some : 0 < m.count
  pub count : m.count ≤ most_regions
  pub size : root_size m ≤ limit
  pub above : (n : ℕ) → n < m.count → ((region m n).parent ≡ 0 → ⊥) → n < parent_of (region m n)
  pub below : (n : ℕ) → n < m.count → ((region m n).parent ≡ 0 → ⊥) → parent_of (region m n) < m.count
