use mathlib.Core.Path.{◌≡◌}
use Prim.Native.Nat.{◌-◌, ◌≤◌}
use Rattle.map_records.specs.View.{entries}
use Rattle.map_records.specs.Words.{map_of, view_of}
use Rattle.region_map.specs.Walk.{walk_root}
use Rattle.region_map.specs.FlatList.{flat}
use Rattle.region_map.specs.Flatten.{backing_of}
use Rattle.region_map.specs.Promises.{Viewed, Blank}
use Rattle.region_map.proofs.flat.sweep.Given as goal

abbrev pub invariant-loop-at : goal.invariant-loop-at
invariant-loop-at l = (l.at.0 ≤ l.end.0) × Viewed l.view × (entries (view_of l.view) ≡ flat (backing_of (map_of l.map)) (walk_root (map_of l.map)) l.at.0) × (Blank (view_of l.initial.view) → Blank (view_of l.view))

abbrev pub decreases-loop-at : goal.decreases-loop-at
decreases-loop-at l = l.end.0 - l.at.0
