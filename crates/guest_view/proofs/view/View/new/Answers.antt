-- `guest_view::view::View::new` meets its contract. Assumes nothing.
use native.Mathlib.Omega.{arith}
use mathlib.Core.Path.{sym, ◌∙◌}
use Rattle.guest_view.proofs.WordLaws.{refused_other, view_judged}
use Rattle.guest_view.proofs.view.View.new.Goals as goal

pub returns-in_default : goal.returns-in_default
returns-in_default c = refused_other c.args.words.now c.in_default.ensures.cases c.args.memory_length c.args.region_size

pub invariant_of-result : goal.invariant_of-result
invariant_of-result c = view_judged c.in-Some.words.now c.args.memory_length c.args.region_size (sym c.words_ok.ensures ∙ c.if-not-words_ok.false) (omega (arith, c.ranges.memory_length))
