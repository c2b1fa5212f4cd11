-- `device_words::answer::in_range` meets its contract. Assumes nothing.
use native.Mathlib.Omega.{arith}
use Rattle.device_words.proofs.AnswerLaws.{in_low, in_past, in_offset, size_bound}
use Rattle.device_words.proofs.answer.in_range.Goals as goal

pub returns-then-address-first : goal.returns-then-address-first
returns-then-address-first c = let a = c.args in in_low a.sizes a.request c.if-address-first.true

pub overflow_mul-size : goal.overflow_mul-size
overflow_mul-size c = omega (arith, size_bound c.args.request.blocks c.args.sizes.block_size (omega (arith, c.requires.1)) c.requires.0.most)

pub returns-then-usable-offset : goal.returns-then-usable-offset
returns-then-usable-offset c = let a = c.args in in_past a.sizes a.request c.if-usable-offset.true

pub nonzero_rem-result : goal.nonzero_rem-result
nonzero_rem-result c = omega (arith, c.requires.0.some)

pub returns : goal.returns
returns c = in_offset c.args.sizes c.args.request c.requires.0 c.if-address-first.false c.if-usable-offset.false
