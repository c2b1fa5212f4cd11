-- `guest_view::view::View::fill` meets its contract. Assumes nothing.
use native.Mathlib.Omega.{arith}
use Rattle.guest_view.specs.Promises.{Judged}
use mathlib.Core.Path.{◌∙◌, subst}
use Prim.Native.Nat.{ℕ, ◌^◌}
use Rattle.guest_view.proofs.MemoryLaws.{fill_none}
use Rattle.guest_view.proofs.StretchLaws.{some, runs_room, runs_made, ordered_room}
use Rattle.guest_view.proofs.view.View.fill.Goals as goal

pub returns-then-count-eq0 : goal.returns-then-count-eq0
returns-then-count-eq0 g c = λ f m. fill_none _ _ _ c.if-count-eq0.true

pub fill_together-requires-clause-room : goal.fill_together-requires-clause-room
fill_together-requires-clause-room g c = runs_room _ _ _ _ _ c.stretch_at-here.ensures (some c.if-count-eq0.false) c.if-count-here.true (2 ^ 64) c.requires.in_memory (ordered_room _ (subst Judged c.self.view_is c.self.invariant).ordered)

pub fill_together-requires-clause-callable : goal.fill_together-requires-clause-callable
fill_together-requires-clause-callable g c = λ i h. subst (λ (p : ℕ). goal.F-pre g c.args.make p) (c.stretch_at-here.ensures.each i (omega (arith, c.if-count-here.true))) (c.requires.callable i h)

pub returns-then-count-here : goal.returns-then-count-here
returns-then-count-here g c = λ f m. c.fill_together.ensures f m ∙ runs_made _ _ _ _ _ c.stretch_at-here.ensures (some c.if-count-eq0.false) c.if-count-here.true f
