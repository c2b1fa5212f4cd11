-- `guest_view::rules::pairs_ok` meets its contract. Assumes nothing.
use native.Mathlib.Omega.{arith}
use mathlib.Core.Path.{sym, ap, ◌∙◌}
use mathlib.Core.Bool.{◌&&◌}
use Prim.Native.Nat.{◌-◌, ◌<◌}
use lib.Dec.{eqb}
use Rattle.map_records.specs.View.{range_of}
use Rattle.map_records.specs.declared.view.FlatRange.{FlatRange}
use Rattle.map_records.specs.Words.{view_of}
use Rattle.guest_view.proofs.RuleLaws.{pairs_none, pairs_low, pairs_new, pairs_known}
use Rattle.guest_view.proofs.rules.pairs_ok.Goals as goal

pub returns-then-k-eq0 : goal.returns-then-k-eq0
returns-then-k-eq0 c = sym (pairs_none (view_of c.args.view.now) c.args.k c.if-k-eq0.true)

pub overflow_sub-k : goal.overflow_sub-k
overflow_sub-k c = omega (arith, c.if-k-eq0.false)

pub range_at-before-requires : goal.range_at-before-requires
range_at-before-requires c = (omega (arith, c.requires.k_lt_most_ranges.0))

pub returns-then-range-before : goal.returns-then-range-before
returns-then-range-before c =
    let h = ap (λ (r : FlatRange). r.first.0) c.requires.k_lt_most_ranges.1 in
    let b = ap (λ (r : FlatRange). r.last.0) c.range_at-before.ensures in
    sym (pairs_low (view_of c.args.view.now) c.args.k (omega (arith, c.if-k-eq0.false)) (omega (arith, c.if-range-before.true, h, b)))

pub returns-then-first-eq0 : goal.returns-then-first-eq0
returns-then-first-eq0 c =
    sym (pairs_new (view_of c.args.view.now) c.args.k c.requires.owner.1.apart c.requires.owner.1.order (let it : (range_of (view_of c.args.view.now) (c.args.k - 1)).last.0 < (range_of (view_of c.args.view.now) c.args.k).first.0 = omega (arith, c.if-range-before.false, ap (λ (r : FlatRange). r.first.0) c.requires.k_lt_most_ranges.1, ap (λ (r : FlatRange). r.last.0) c.range_at-before.ensures) in it) c.args.range.region c.args.first c.requires.owner.0
    (sym (ap (λ (r : FlatRange). r.region) c.requires.k_lt_most_ranges.1)) c.if-first-eq0.true)

pub overflow_sub-first : goal.overflow_sub-first
overflow_sub-first c = omega (arith, c.if-first-eq0.false)

pub range_at-other-requires : goal.range_at-other-requires
range_at-other-requires c = (omega (arith, c.requires.k_lt_most_ranges.0, c.requires.owner.0.known (omega (arith, c.if-first-eq0.false))))

pub returns : goal.returns
returns c =
    let f = c.range_at-other.result in
    ap (λ (r : FlatRange). eqb f.kind r.kind && eqb f.base r.base) c.requires.k_lt_most_ranges.1
    ∙ pairs_known (view_of c.args.view.now) c.args.k c.requires.owner.1.apart c.requires.owner.1.order (let it : (range_of (view_of c.args.view.now) (c.args.k - 1)).last.0 < (range_of (view_of c.args.view.now) c.args.k).first.0 = omega (arith, c.if-range-before.false, ap (λ (r : FlatRange). r.first.0) c.requires.k_lt_most_ranges.1, ap (λ (r : FlatRange). r.last.0) c.range_at-before.ensures) in it) c.args.range.region c.args.first c.requires.owner.0
    (sym (ap (λ (r : FlatRange). r.region) c.requires.k_lt_most_ranges.1)) (omega (arith, c.if-first-eq0.false)) f c.range_at-other.ensures
