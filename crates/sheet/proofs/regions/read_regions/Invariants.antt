use mathlib.Core.Path.{◌≡◌}
use Prim.Native.Nat.{◌-◌}
use Rattle.map_records.specs.Words.{map_of}
use Rattle.sheet.specs.Sheet.{regions_from}
use Rattle.map_records.specs.Map.{blank_map}
use Rattle.sheet.proofs.regions.read_regions.Given as goal

abbrev pub invariant-loop-n : goal.invariant-loop-n
invariant-loop-n l = regions_from l.sheet (l.count - l.n) l.n (map_of l.map) l.at.at ≡ regions_from l.sheet l.count 0 (blank_map l.count) l.initial.at.at
