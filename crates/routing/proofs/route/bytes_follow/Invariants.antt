use mathlib.Core.Path.{◌≡◌}
use mathlib.Core.Bool.{true}
use Prim.Native.Nat.{◌≤◌}
use Rattle.device_words.specs.Table.{all_below}
use Rattle.map_records.specs.Words.{view_of}
use Rattle.routing.proofs.RouteLaws.{goes_on}
use Rattle.routing.proofs.route.bytes_follow.Given as goal

abbrev pub invariant-loop-i : goal.invariant-loop-i
invariant-loop-i l = (1 ≤ l.i) × (l.i ≤ l.w) × (all_below (goes_on (view_of l.view) l.a.0) l.i ≡ true)
