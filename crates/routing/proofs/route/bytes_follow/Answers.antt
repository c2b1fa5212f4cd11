-- `routing::route::bytes_follow` meets its contract. Assumes nothing.
use native.Mathlib.Omega.{arith}
use mathlib.Core.Path.{◌≡◌, sym, ap, ◌∙◌, subst}
use mathlib.Core.Bool.{true, ◌&&◌}
use Prim.Native.Nat.{ℕ, ◌+◌}
use lib.Dec.{eqb}
use Rattle.device_words.specs.Table.{all_below}
use Rattle.device_words.proofs.TableLaws.{all_of, all_not}
use Rattle.map_records.specs.Words.{view_of}
use Rattle.map_records.specs.View.{offset_in}
use Rattle.guest_view.proofs.RuleLaws.{all_next}
use Rattle.guest_view.proofs.ReadLaws.{read_low, read_high, read_last, read_offset}
use Rattle.routing.proofs.RouteLaws.{goes_on, byte_missed}
use Rattle.routing.proofs.ViewWords.{first_in, read_byte}
use Rattle.routing.proofs.route.bytes_follow.Goals as goal

pub offset_in-offset-requires : goal.offset_in-offset-requires
offset_in-offset-requires c =
    (read_low c.range-range.ensures.judged c.requires.spot c.requires.at_bound.0 c.range-range.ensures.range, omega (arith, read_offset c.range-range.ensures.judged c.requires.spot c.requires.at_bound.0 c.range-range.ensures.range))

pub loop-i-init : goal.loop-i-init
loop-i-init c =
    let f = goes_on (view_of c.args.view.now) c.args.a.0 in
    (omega arith, omega (arith, c.requires.at_bound.1), all_next f 0 (all_of f 0 (λ b l. absurd (omega arith))) (first_in c.range-range.ensures.judged c.requires.spot c.requires.at_bound.0))

pub overflow_add-b : goal.overflow_add-b
overflow_add-b c =
    let e = c.range-range.ensures.range in
    omega (arith, c.loop-i-test.true, c.requires.at_bound.2, read_high c.range-range.ensures.judged c.requires.spot c.requires.at_bound.0 e, read_last c.range-range.ensures.judged c.requires.spot c.requires.at_bound.0 e)

pub returns-then-count-here : goal.returns-then-count-here
returns-then-count-here c =
    let v = view_of c.args.view.now in
    let i = c.loop-i.i in
    sym (all_not (goes_on v c.args.a.0) c.args.w i c.loop-i-test.true
    (byte_missed v c.args.a.0 c.args.at c.requires.spot c.requires.at_bound.0 i c.near-here.result c.near-here.ensures.spot (omega (arith, c.if-count-here.true, c.count.ensures.count))))

pub range-other-requires : goal.range-other-requires
range-other-requires c = omega (arith, c.if-count-here.false, c.count.ensures.count)

pub offset_in-there-requires : goal.offset_in-there-requires
offset_in-there-requires c = (
  read_low c.range-range.ensures.judged c.near-here.ensures.spot (omega (arith, c.if-count-here.false, c.count.ensures.count)) c.range-other.ensures.range,
  omega (arith, read_offset c.range-range.ensures.judged c.near-here.ensures.spot (omega (arith, c.if-count-here.false, c.count.ensures.count)) c.range-other.ensures.range),
)

pub overflow_add-offset : goal.overflow_add-offset
overflow_add-offset c =
    omega (arith, c.loop-i-test.true, c.requires.at_bound.2, c.offset_in-offset.ensures, read_offset c.range-range.ensures.judged c.requires.spot c.requires.at_bound.0 c.range-range.ensures.range)

pub returns-then-not-other-range : goal.returns-then-not-other-range
returns-then-not-other-range c =
    sym (all_not (goes_on (view_of c.args.view.now) c.args.a.0) c.args.w c.loop-i.i c.loop-i-test.true ((let it : (let i = c.loop-i.i in goes_on (view_of c.args.view.now) c.args.a.0 i ≡ (eqb c.range-other.result.region c.range-range.result.region && eqb c.offset_in-there.result.0 (c.offset_in-offset.result.0 + i))) = let x = c.range-range in let y = c.range-other in let i = c.loop-i.i in let near = c.near-here in read_byte c.range-range.ensures.judged c.requires.spot c.requires.at_bound.0 x.ensures.range i near.result near.ensures.spot (omega (arith, c.if-count-here.false, c.count.ensures.count)) y.result y.ensures.range ∙ ap (λ (n : ℕ). eqb y.result.region x.result.region && eqb n (offset_in x.result c.args.a.0 + i)) (sym c.offset_in-there.ensures) ∙ ap (λ (n : ℕ). eqb y.result.region x.result.region && eqb c.offset_in-there.result.0 (n + i)) (sym c.offset_in-offset.ensures) in it) ∙ c.if-not-other-range.true))

pub loop-i-preserved : goal.loop-i-preserved
loop-i-preserved c =
    let l = c.loop-i in
    (omega arith, omega (arith, c.loop-i-test.true), all_next (goes_on (view_of c.args.view.now) c.args.a.0) l.i l.invariant.2 ((let it : (let i = c.loop-i.i in goes_on (view_of c.args.view.now) c.args.a.0 i ≡ (eqb c.range-other.result.region c.range-range.result.region && eqb c.offset_in-there.result.0 (c.offset_in-offset.result.0 + i))) = let x = c.range-range in let y = c.range-other in let i = c.loop-i.i in let near = c.near-here in read_byte c.range-range.ensures.judged c.requires.spot c.requires.at_bound.0 x.ensures.range i near.result near.ensures.spot (omega (arith, c.if-count-here.false, c.count.ensures.count)) y.result y.ensures.range ∙ ap (λ (n : ℕ). eqb y.result.region x.result.region && eqb n (offset_in x.result c.args.a.0 + i)) (sym c.offset_in-there.ensures) ∙ ap (λ (n : ℕ). eqb y.result.region x.result.region && eqb c.offset_in-there.result.0 (n + i)) (sym c.offset_in-offset.ensures) in it) ∙ c.if-not-other-range.false))

pub returns : goal.returns
returns c =
    let l = c.loop-i in
    let e : l.i ≡ c.args.w = omega (arith, l.invariant.1, c.loop-i-test.false) in
    sym (subst (λ (n : ℕ). all_below (goes_on (view_of c.args.view.now) c.args.a.0) n ≡ true) e l.invariant.2)
