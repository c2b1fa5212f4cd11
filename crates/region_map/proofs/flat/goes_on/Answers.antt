-- `region_map::flat::goes_on` meets its contract. Assumes nothing.
use mathlib.Core.Path.{sym}
use native.Mathlib.Omega.{arith}
use Rattle.region_map.proofs.RangeTests.{off_joins, joins_last}
use Rattle.region_map.proofs.flat.goes_on.Goals as goal

pub returns-then-r-x : goal.returns-then-r-x
returns-then-r-x c = sym (off_joins _ _ (λ j. omega (arith, j.next)))

pub returns-then-r-x-ne1 : goal.returns-then-r-x-ne1
returns-then-r-x-ne1 c = sym (off_joins _ _ (λ j. omega (arith, j.next)))

pub returns-then-r-x-2 : goal.returns-then-r-x-2
returns-then-r-x-2 c = sym (off_joins _ _ (λ j. omega (arith, j.region)))

pub returns-then-r-x-3 : goal.returns-then-r-x-3
returns-then-r-x-3 c = sym (off_joins _ _ (λ j. omega (arith, j.next, j.offset)))

pub overflow_sub-result-2 : goal.overflow_sub-result-2
overflow_sub-result-2 c = omega (arith, c.if-r-x.false, c.requires)

pub returns : goal.returns
returns c =
    joins_last _ _ c.requires (omega (arith, c.if-r-x.false, c.if-r-x-ne1.false))
    c.if-r-x-2.false c.if-r-x-3.false
