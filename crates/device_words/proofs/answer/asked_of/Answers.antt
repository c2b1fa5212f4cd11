-- `device_words::answer::asked_of` meets its contract. Assumes nothing.
use mathlib.Core.Path.{sym, ◌∙◌}
use native.Mathlib.Omega.{arith}
use Rattle.device_words.proofs.AnswerLaws.{in_blocks}
use Rattle.device_words.proofs.answer.asked_of.Goals as goal

pub invariant_of-run-then-in_range : goal.invariant_of-run-then-in_range
invariant_of-run-then-in_range c =
    record { room = omega (arith, in_blocks c.args.sizes c.args.request c.requires.0 (sym c.in_range.ensures ∙ c.if-in_range.true), c.block_of_request-first.ensures) }
