-- `guest_view::view::View::range` meets its contract. Assumes nothing.
use mathlib.Core.Path.{ap}
use mathlib.Core.List.{List}
use Prim.Native.Nat.{ℕ}
use native.Mathlib.Omega.{arith}
use Rattle.map_records.specs.Words.{view_of}
use Rattle.guest_view.proofs.view.View.range.Goals as goal

pub range_at-requires : goal.range_at-requires
range_at-requires c = omega (arith, c.requires, ap (λ (w : List ℕ). (view_of w).count) c.self.view_is, c.self.invariant.ordered.few)
