-- `guest_view::memory::fill_together` meets its contract. Assumes nothing.
use native.Mathlib.Omega.{arith}
use Rattle.guest_view.proofs.MemoryLaws.{fill_starts, fill_turn, fill_ends}
use Rattle.guest_view.proofs.memory.fill_together.Goals as goal

pub loop-i-init : goal.loop-i-init
loop-i-init g c = λ f m. fill_starts f _ _

pub loop-i-preserved : goal.loop-i-preserved
loop-i-preserved g c = λ f m. fill_turn f _ _ _ _ (c.loop-i.invariant f m) (omega arith) _ (m _ _ (c.requires.callable c.loop-i.i c.loop-i-test.true) c.make.ensures)

pub returns : goal.returns
returns g c = λ f m. fill_ends f _ _ _ _ (c.loop-i.invariant f m) (omega arith)
