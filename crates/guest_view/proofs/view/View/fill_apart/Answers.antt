-- `guest_view::view::View::fill_apart` meets its contract. Assumes nothing.
use native.Mathlib.Omega.{arith}
use Rattle.guest_view.specs.Promises.{Judged}
use mathlib.Core.Path.{sym, ap, ◌∙◌, subst}
use Prim.Native.Nat.{ℕ}
use Rattle.guest_view.proofs.MemoryLaws.{byte_low, byte_in, fill_starts, fill_turn, fill_ends}
use Rattle.guest_view.proofs.StretchLaws.{runs_first}
use Rattle.guest_view.proofs.view.View.fill_apart.Goals as goal

pub loop-i-init : goal.loop-i-init
loop-i-init g c = λ f m. fill_starts _ _ _

pub overflow_add-addr : goal.overflow_add-addr
overflow_add-addr g c = omega (arith, byte_low _ _ _ c.loop-i.i c.requires.in_memory c.loop-i-test.true (subst Judged c.self.view_is c.self.invariant).ordered)

pub stretch_at-here-requires : goal.stretch_at-here-requires
stretch_at-here-requires g c = record { in_memory = byte_in _ _ _ c.loop-i.i c.requires.in_memory c.loop-i-test.true }

pub make-requires : goal.make-requires
make-requires g c = subst (λ (p : ℕ). goal.F-pre g c.args.make p) (sym (runs_first _ _ _ _ c.stretch_at-here.ensures)) (c.requires.callable c.loop-i.i c.loop-i-test.true)

pub loop-i-preserved : goal.loop-i-preserved
loop-i-preserved g c = λ f m.
    let e = runs_first _ _ _ _ c.stretch_at-here.ensures in
    let may = subst (λ (p : ℕ). goal.F-pre g c.args.make p) (sym e) (c.requires.callable c.loop-i.i c.loop-i-test.true) in
    fill_turn _ _ _ _ _ (c.loop-i.invariant f m) (omega arith) _ (m _ _ may c.make.ensures ∙ ap f e)

pub returns : goal.returns
returns g c = λ f m. fill_ends _ _ _ _ _ (c.loop-i.invariant f m) (omega arith)
