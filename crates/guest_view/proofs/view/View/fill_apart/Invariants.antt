use Prim.Native.Nat.{ℕ}
use Rattle.map_records.specs.Words.{view_of}
use Rattle.guest_view.specs.Promises.{Makes, place_in}
use Rattle.guest_view.proofs.MemoryLaws.{Filling}
use Rattle.guest_view.proofs.view.View.fill_apart.Given as goal

abbrev pub invariant-loop-i : goal.invariant-loop-i
invariant-loop-i g l = (f : ℕ → g.row.T.Denot) → Makes (goal.F-pre g) (goal.F-post g) l.make f → Filling (λ a. f (place_in (view_of l.self) a)) l.addr.0 l.initial.out l.out l.i
