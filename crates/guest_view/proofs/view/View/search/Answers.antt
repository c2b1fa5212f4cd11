-- `guest_view::view::View::search` meets its contract. Assumes nothing.
use mathlib.Core.Path.{sym, ap, subst}
use Prim.Native.Nat.{ℕ, ◌+◌, ◌/◌, ◌<◌}
use native.Mathlib.Omega.{arith}
use Rattle.map_records.specs.declared.view.FlatRange.{FlatRange}
use Rattle.map_records.specs.Words.{view_of}
use Rattle.guest_view.specs.Promises.{Spot}
use Rattle.guest_view.proofs.FindLaws.{spot_at, spot_past, spot_between, last_up}
use Rattle.guest_view.proofs.ReadLaws.{words_full}
use Rattle.guest_view.proofs.view.View.search.Goals as goal

pub loop-low-init : goal.loop-low-init
loop-low-init c = (omega arith, omega (arith, c.count-count.ensures.count), λ j h. absurd (omega arith), λ j h q. absurd (omega (arith, c.count-count.ensures.count)))

pub overflow_add-middle : goal.overflow_add-middle
overflow_add-middle c = omega (arith, c.loop-low-test.true, c.loop-low.invariant.1, c.count-count.ensures.judged.ordered.few)

pub range-range-requires : goal.range-range-requires
range-range-requires c = omega (arith, c.loop-low-test.true, c.loop-low.invariant.1)

pub overflow_add-low : goal.overflow_add-low
overflow_add-low c = omega (arith, c.loop-low-test.true, c.loop-low.invariant.1, c.count-count.ensures.judged.ordered.few)

pub loop-low-smaller-then-range-a : goal.loop-low-smaller-then-range-a
loop-low-smaller-then-range-a c = omega (arith, c.loop-low-test.true)

pub loop-low-preserved-then-range-a : goal.loop-low-preserved-then-range-a
loop-low-preserved-then-range-a c =
    let l = c.loop-low in
    let h = c.loop-low-test.true in
    let e = ap (λ (r : FlatRange). r.last.0) c.range-range.ensures.range in (
      omega (arith, h),
      l.invariant.1,
      λ j q. omega (arith, last_up (view_of c.args.self.now) (words_full c.count-count.ensures.judged) c.count-count.ensures.judged.ordered j ((l.low + l.high) / 2) (omega arith) (omega (arith, h, l.invariant.1)), c.if-range-a.true, e),
      l.invariant.3,
    )

pub loop-low-smaller : goal.loop-low-smaller
loop-low-smaller c = omega (arith, c.loop-low-test.true)

pub loop-low-preserved : goal.loop-low-preserved
loop-low-preserved c =
    let l = c.loop-low in
    let h = c.loop-low-test.true in
    let e = ap (λ (r : FlatRange). r.last.0) c.range-range.ensures.range in (
      omega (arith, h),
      omega (arith, h, l.invariant.1),
      l.invariant.2,
      λ j p q. omega (arith, last_up (view_of c.args.self.now) (words_full c.count-count.ensures.judged) c.count-count.ensures.judged.ordered ((l.low + l.high) / 2) j p q, c.if-range-a.false, e),
    )

pub returns-then-count-low : goal.returns-then-count-low
returns-then-count-low c =
    let v = view_of c.args.self.now in
    let e = c.count-count.ensures.count in
    record { spot = subst (λ (n : ℕ). Spot v c.args.a.0 n) (sym e) (spot_past v (words_full c.count-count.ensures.judged) c.count-count.ensures.judged.ordered c.args.a.0 (λ j h. c.loop-low.invariant.2 j (omega (arith, c.if-count-low.true, e)))); judged = c.count-count.ensures.judged }

pub range-range-requires-2 : goal.range-range-requires-2
range-range-requires-2 c = omega (arith, c.if-count-low.false, c.count-count.ensures.count)

pub returns-then-a-range : goal.returns-then-a-range
returns-then-a-range c =
    let l = c.loop-low in
    let v = view_of c.args.self.now in
    let e = ap (λ (r : FlatRange). r.first.0) c.range-range-2.ensures.range in
    record { spot = subst (λ (n : ℕ). Spot v c.args.a.0 n) (sym c.count-count.ensures.count) (spot_between v (words_full c.count-count.ensures.judged) c.count-count.ensures.judged.ordered l.low c.args.a.0 l.invariant.2 (omega (arith, c.if-a-range.true, e))); judged = c.count-count.ensures.judged }

pub returns : goal.returns
returns c =
    let l = c.loop-low in
    let v = view_of c.args.self.now in
    let e = ap (λ (r : FlatRange). r.first.0) c.range-range-2.ensures.range in
    let h : l.low < (view_of c.args.self.now).count = omega (arith, c.if-count-low.false, c.count-count.ensures.count) in
    record { spot = spot_at v (words_full c.count-count.ensures.judged) c.count-count.ensures.judged.ordered l.low c.args.a.0 h (omega (arith, c.if-a-range.false, e)) (l.invariant.3 l.low (omega (arith, c.loop-low-test.false)) h); judged = c.count-count.ensures.judged }
