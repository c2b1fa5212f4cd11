use Prim.Native.Nat.{ℕ, ◌-◌, ◌≤◌, ◌<◌}
use Rattle.map_records.specs.View.{range_of}
use Rattle.map_records.specs.Words.{view_of}
use Rattle.guest_view.proofs.view.View.search.Given as goal

abbrev pub invariant-loop-low : goal.invariant-loop-low
invariant-loop-low l = (l.low ≤ l.high) × (l.high ≤ (view_of l.self).count) × ((j : ℕ) → j < l.low → (range_of (view_of l.self) j).last.0 < l.a.0)
    × ((j : ℕ) → l.high ≤ j → j < (view_of l.self).count → l.a.0 ≤ (range_of (view_of l.self) j).last.0)

abbrev pub decreases-loop-low : goal.decreases-loop-low
decreases-loop-low l = l.high - l.low
