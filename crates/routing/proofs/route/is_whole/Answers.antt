-- `routing::route::is_whole` meets its contract. Assumes nothing.
use native.Mathlib.Omega.{arith}
use mathlib.Core.Path.{sym}
use Rattle.guest_view.proofs.ReadLaws.{read_high}
use Rattle.routing.proofs.ViewWords.{read_within}
use Rattle.routing.proofs.route.is_whole.Goals as goal

pub overflow_sub-w : goal.overflow_sub-w
overflow_sub-w c = omega (arith, c.requires.at_bound.1)

pub overflow_sub-range : goal.overflow_sub-range
overflow_sub-range c = read_high c.range-range.ensures.judged c.requires.spot c.requires.at_bound.0 c.range-range.ensures.range

pub returns-then-w-range : goal.returns-then-w-range
returns-then-w-range c = sym (read_within c.range-range.ensures.judged c.requires.spot c.requires.at_bound.0 c.range-range.ensures.range c.args.w c.requires.at_bound.1 c.if-w-range.true)

pub returns : goal.returns
returns c = c.bytes_follow.ensures
