-- Rule 7 for the parent of a region that was read with it. Assumes nothing.
use mathlib.Core.Path.{◌≡◌}
use mathlib.Core.Bool.{◌||◌}
use Prim.Native.Nat.{ℕ, ◌-◌, ◌<◌}
use lib.Dec.{eqb}
use borrow.Author.Tests.{ne_eqb, lt-leb}
use Rattle.map_records.specs.Map.{alias, managed, region}
use Rattle.map_records.specs.declared.map.Region.{Region}
use Rattle.map_records.specs.declared.map.RegionMap.{RegionMap}
use Rattle.map_check.specs.Fault.{parent_fault}

pub parent_known : (m : RegionMap) (n : ℕ) (x y : Region) → x ≡ region m n → y ≡ region m (x.parent - 1) → (x.parent ≡ 0 → ⊥) → n < x.parent - 1 → x.parent - 1 < m.count
    → (eqb y.kind alias || eqb y.kind managed) ≡ parent_fault m n
unfolding parent_fault
parent_known m n x y e f some above below =
    rw (← e, ← f, ne_eqb x.parent 0 some, lt-leb (x.parent - 1) n above, lt-leb m.count (x.parent - 1) below)
