use Rattle.std.proofs.Common.{ℕ, ◌<◌, ◌≤◌, false}
use Rattle.map_records.specs.Map.{region}
use Rattle.map_records.specs.Words.{map_of}
use Rattle.map_check.proofs.search.first_pair.Given as goal

-- no pair that was asked for clashes
abbrev pub invariant-loop-i : goal.invariant-loop-i
invariant-loop-i g l =
    (l.i ≤ l.count)
    × ((a : ℕ) → a < l.i → (b : ℕ) → b < l.count → a < b → goal.F-post g l.clashes (region (map_of l.map) a) (region (map_of l.map) b) false)

abbrev pub invariant-loop-j : goal.invariant-loop-j
invariant-loop-j g l =
    (l.i < l.j) × (l.j ≤ l.count) × ((b : ℕ) → b < l.j → l.i < b → goal.F-post g l.clashes l.region (region (map_of l.map) b) false)
