use mathlib.Core.Path.{◌≡◌}
use mathlib.Core.Bool.{true, false}
use Prim.Native.Nat.{ℕ, ◌+◌, ◌-◌, ◌%◌, ◌≤◌, ◌<◌}
use Rattle.map_records.specs.declared.map.RegionMap.{RegionMap}
use Rattle.map_check.specs.Clash.{priority_of}
use Rattle.region_map.specs.Walk.{ranked}
use Rattle.map_records.specs.Words.{map_of}
use Rattle.region_map.proofs.children.next_child.Given as goal

abbrev pub Looked : RegionMap → ℕ → ℕ → ℕ → ℕ → Type 0
Looked m n below best c =
    (c ≤ n) × (best ≤ below) × ((k : ℕ) → best ≡ k + 1 → ranked priority_of m n k ≡ true) ×
    ((k : ℕ) → best ≤ k → k < below → k % 32 < c → ranked priority_of m n k ≡ false)

abbrev pub invariant-loop-c : goal.invariant-loop-c
invariant-loop-c l = Looked (map_of l.map) l.n l.below l.best l.c

abbrev pub decreases-loop-c : goal.decreases-loop-c
decreases-loop-c l = l.n - l.c
