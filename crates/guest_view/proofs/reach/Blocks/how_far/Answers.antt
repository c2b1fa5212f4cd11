-- `guest_view::reach::Blocks::how_far` meets its contract. Assumes nothing.
use native.Mathlib.Omega.{arith}
use mathlib.Core.Path.{◌∙◌, sym}
use borrow.Author.Tests.{eqb-true}
use Rattle.guest_view.proofs.ReachLaws.{block_true}
use Rattle.guest_view.proofs.reach.Blocks.how_far.Goals as goal

pub returns : goal.returns
returns c = (omega arith, λ e h. block_true c.args.self.now.size c.args.self.now.plugged.now _ _ e (omega (arith, c.args.self.now.positive)) (eqb-true _ _ (sym c.has_kind-2.ensures ∙ c.if-not-has_kind.false)) (sym c.byte_plugged.ensures ∙ c.if-not-byte_plugged.false) (omega (arith, h, c.min.ensures)))
