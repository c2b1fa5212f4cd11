-- `sheet::number::read_number` meets its contract. Assumes nothing.
use Rattle.sheet.proofs.NumberLaws.{started, scale_bound, group_bound, at_end, at_last_zero, at_last, at_eighth, at_more, rest_byte, past_end}
use mathlib.Core.Path.{◌∙◌}
use Prim.Native.Nat.{◌+◌, ◌-◌}
use native.Mathlib.Omega.{arith}
use Rattle.sheet.proofs.number.read_number.Goals as goal

pub returns-in_default : goal.returns-in_default
returns-in_default c = past_end _ _ c.in_default.ensures.lookup.0

pub loop-i-init : goal.loop-i-init
loop-i-init c = started _ _

pub returns-then-group-eq0 : goal.returns-then-group-eq0
returns-then-group-eq0 c =
    let rest = c.in-Some.ensures.lookup.0 in
    at_last_zero _ _ _ _ _ c.loop-i.invariant (omega (arith, rest.3, c.loop-i-test.true)) _ (c.from-group.ensures ∙ rest_byte _ _ _ _ rest.2) c.if-group-lt128.true (omega arith) c.if-group-eq0.true

pub overflow_mul-whole : goal.overflow_mul-whole
overflow_mul-whole c = omega (arith, group_bound _ _ _ _ _ c.loop-i.invariant c.from-group.result (omega arith), scale_bound _ _ _ _ _ c.loop-i.invariant)

pub overflow_add-whole : goal.overflow_add-whole
overflow_add-whole c = omega (arith, group_bound _ _ _ _ _ c.loop-i.invariant c.from-group.result (omega arith), scale_bound _ _ _ _ _ c.loop-i.invariant, c.loop-i.invariant.small)

pub returns-then-group-lt128 : goal.returns-then-group-lt128
returns-then-group-lt128 c =
    let rest = c.in-Some.ensures.lookup.0 in
    at_last _ _ _ _ _ c.loop-i.invariant (omega (arith, rest.3, c.loop-i-test.true)) _ (c.from-group.ensures ∙ rest_byte _ _ _ _ rest.2) c.if-group-lt128.true (search arith)

pub returns-then-i-eq-LAST_GROUP : goal.returns-then-i-eq-LAST_GROUP
returns-then-i-eq-LAST_GROUP c =
    let rest = c.in-Some.ensures.lookup.0 in
    at_eighth _ _ _ _ _ c.loop-i.invariant (omega (arith, rest.3, c.loop-i-test.true)) _ (c.from-group.ensures ∙ rest_byte _ _ _ _ rest.2) c.if-group-lt128.false c.if-i-eq-LAST_GROUP.true

pub overflow_mul-value : goal.overflow_mul-value
overflow_mul-value c =
    let byte = c.from-group.ensures ∙ rest_byte c.args.sheet.now c.in-Some.rest.now c.args.from.at c.loop-i.i c.in-Some.ensures.lookup.0.2 in
    omega (arith, group_bound _ _ _ _ _ c.loop-i.invariant (c.from-group.result - 128) (omega (arith, byte, c.type_inv.sheet (c.args.from.at + c.loop-i.i))), scale_bound _ _ _ _ _ c.loop-i.invariant)

pub overflow_add-value : goal.overflow_add-value
overflow_add-value c =
    let byte = c.from-group.ensures ∙ rest_byte c.args.sheet.now c.in-Some.rest.now c.args.from.at c.loop-i.i c.in-Some.ensures.lookup.0.2 in
    omega (arith, group_bound _ _ _ _ _ c.loop-i.invariant (c.from-group.result - 128) (omega (arith, byte, c.type_inv.sheet (c.args.from.at + c.loop-i.i))), scale_bound _ _ _ _ _ c.loop-i.invariant, c.loop-i.invariant.small)

pub overflow_mul-scale : goal.overflow_mul-scale
overflow_mul-scale c = omega (arith, scale_bound _ _ _ _ _ c.loop-i.invariant)

pub loop-i-preserved : goal.loop-i-preserved
loop-i-preserved c =
    let rest = c.in-Some.ensures.lookup.0 in
    let byte = c.from-group.ensures ∙ rest_byte c.args.sheet.now c.in-Some.rest.now c.args.from.at c.loop-i.i rest.2 in
    at_more _ _ _ _ _ c.loop-i.invariant (omega (arith, rest.3, c.loop-i-test.true)) _ byte c.if-group-lt128.false c.if-i-eq-LAST_GROUP.false (omega (arith, byte, c.type_inv.sheet (c.args.from.at + c.loop-i.i)))

pub returns : goal.returns
returns c = at_end _ _ _ _ _ c.loop-i.invariant (omega (arith, c.in-Some.ensures.lookup.0.3, c.loop-i-test.false))
