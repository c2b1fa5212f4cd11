-- `drawing::map::DrawnMap::count` meets its contract. Assumes nothing.
use mathlib.Core.Path.{subst}
use mathlib.Core.List.{List}
use Prim.Native.Nat.{ℕ}
use Rattle.map_records.specs.Words.{map_of}
use Rattle.drawing.specs.Position.{Climbable}
use Rattle.drawing.proofs.DrawLaws.{accepted_climbable}
use Rattle.drawing.proofs.map.DrawnMap.count.Goals as goal

pub returns-clause-climbable : goal.returns-clause-climbable
returns-clause-climbable c = subst (λ (w : List ℕ). Climbable (map_of w)) c.self.view_is (accepted_climbable _ _ c.self.invariant)
