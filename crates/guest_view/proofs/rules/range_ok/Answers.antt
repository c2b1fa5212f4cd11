-- `guest_view::rules::range_ok` meets its contract. Assumes nothing.
use native.Mathlib.Omega.{arith}
use Prim.Native.Nat.{◌≤◌, ◌<◌}
use borrow.Author.Tests.{lt-ltb, le-ltb, le-leb, lt-leb}
use Rattle.map_records.specs.View.{last_offset}
use Rattle.guest_view.specs.View.{range_ok}
use Rattle.guest_view.proofs.rules.range_ok.Goals as goal

pub returns-then-range : goal.returns-then-range
unfolding range_ok
returns-then-range c = simp (lt-leb _ _ c.if-range.true)

pub returns-then-range-ge-LIMIT : goal.returns-then-range-ge-LIMIT
unfolding range_ok
returns-then-range-ge-LIMIT c = simp (le-leb _ _ c.if-range.false, le-ltb _ _ c.if-range-ge-LIMIT.true)

pub returns-then-range-ge-LIMIT-2 : goal.returns-then-range-ge-LIMIT-2
unfolding range_ok
returns-then-range-ge-LIMIT-2 c =
    let h : 281474976710656 ≤ last_offset c.args.range = omega (arith, c.if-range-ge-LIMIT-2.true) in
    simp (le-leb _ _ c.if-range.false, lt-ltb _ _ c.if-range-ge-LIMIT.false, le-ltb _ _ h)

pub offset_in-there-requires : goal.offset_in-there-requires
offset_in-there-requires c = (c.if-range.false, omega (arith, c.if-range-ge-LIMIT-2.false, c.if-range-ge-LIMIT.false))

pub returns-then-there-ge-LIMIT : goal.returns-then-there-ge-LIMIT
unfolding range_ok
returns-then-there-ge-LIMIT c =
    let h : 281474976710656 ≤ last_offset c.args.range = omega (arith, c.if-there-ge-LIMIT.true, c.offset_in-there.ensures) in
    simp (le-leb _ _ c.if-range.false, lt-ltb _ _ c.if-range-ge-LIMIT.false, le-ltb _ _ h)

pub returns-then-range-ge-REGIONS : goal.returns-then-range-ge-REGIONS
unfolding range_ok
returns-then-range-ge-REGIONS c =
    let h : last_offset c.args.range < 281474976710656 = omega (arith, c.if-there-ge-LIMIT.false, c.offset_in-there.ensures) in
    simp (le-leb _ _ c.if-range.false, lt-ltb _ _ c.if-range-ge-LIMIT.false, lt-ltb _ _ h, le-ltb _ _ c.if-range-ge-REGIONS.true)

pub backing_ok-requires : goal.backing_ok-requires
backing_ok-requires c = (c.offset_in-there.ensures, c.if-there-ge-LIMIT.false)

pub returns : goal.returns
unfolding range_ok
returns c =
    let h : last_offset c.args.range < 281474976710656 = omega (arith, c.if-there-ge-LIMIT.false, c.offset_in-there.ensures) in
    simp (le-leb _ _ c.if-range.false, lt-ltb _ _ c.if-range-ge-LIMIT.false, lt-ltb _ _ h, lt-ltb _ _ c.if-range-ge-REGIONS.false) c.backing_ok.ensures
