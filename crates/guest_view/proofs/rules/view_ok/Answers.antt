-- `guest_view::rules::view_ok` meets its contract. Assumes nothing.
use mathlib.Core.Path.{sym}
use Rattle.guest_view.proofs.WordLaws.{refused_other}
use Rattle.guest_view.proofs.rules.view_ok.Goals as goal

pub returns-in-None : goal.returns-in-None
returns-in-None c = sym (refused_other c.args.view.now c.in-None.ensures.cases c.args.memory c.args.region)
