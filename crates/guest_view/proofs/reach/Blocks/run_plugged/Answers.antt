-- `guest_view::reach::Blocks::run_plugged` meets its contract. Assumes nothing.
use native.Mathlib.Omega.{arith}
use mathlib.Core.Path.{sym, ◌∙◌}
use Rattle.guest_view.proofs.ReachLaws.{run_true}
use Rattle.guest_view.proofs.reach.Blocks.run_plugged.Goals as goal

pub returns : goal.returns
returns c =
    let first = c.block_of-first in
    let last = c.block_of-last in
    λ r. run_true c.args.self.now.size c.args.self.now.plugged.now c.args.offset.0 c.args.more (omega (arith, c.args.self.now.positive)) first.result.0 last.result.0 first.ensures last.ensures (sym c.all_set.ensures ∙ r)
