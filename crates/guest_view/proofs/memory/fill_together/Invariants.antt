use Prim.Native.Nat.{ℕ}
use Rattle.guest_view.specs.Promises.{Makes}
use Rattle.guest_view.proofs.MemoryLaws.{Filling}
use Rattle.guest_view.proofs.memory.fill_together.Given as goal

abbrev pub invariant-loop-i : goal.invariant-loop-i
invariant-loop-i g l = (f : ℕ → g.row.T.Denot) → Makes (goal.F-pre g) (goal.F-post g) l.make f → Filling f l.place l.initial.out l.out l.i
