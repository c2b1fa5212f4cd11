-- `region_map::pieces::PieceTable::fill` meets its contract. The loop's invariant: below the address `a`, whose place is `i`, the table shows the span behind what it showed at first. The measure is
-- what is left up to the end. Assumes nothing.
use native.Mathlib.Nat.{le_of_lt}
use native.Mathlib.Omega.{arith}
use mathlib.Core.Path.{refl}
use Rattle.region_map.proofs.FillLaws.{filled_first, filled_horizon, filled_end, filled_run, filled_fits, filled_put, filled_cut}
use Rattle.region_map.proofs.pieces.PieceTable.fill.Goals as goal

pub spot-i-requires : goal.spot-i-requires
spot-i-requires c = c.requires.0.kept

pub loop-a-init : goal.loop-a-init
loop-a-init c = filled_first c.requires.0.kept c.spot-i.ensures

pub returns-then-self-a : goal.returns-then-self-a
returns-then-self-a c = filled_horizon c.loop-a.invariant (c.if-self-a.true)

pub free_until-stop-requires : goal.free_until-stop-requires
free_until-stop-requires c =
    let f = c.loop-a.invariant in
    record { pieces = f.kept; piece_spot = (f.spot, le_of_lt c.loop-a-test.true) }

pub skip-past-requires : goal.skip-past-requires
skip-past-requires c =
    let f = c.loop-a.invariant in
    let t = c.free_until-stop.ensures.taken c.if-stop-a.true c.loop-a-test.true in
    (f.kept, t.0)

pub loop-a-smaller-then-stop-a : goal.loop-a-smaller-then-stop-a
loop-a-smaller-then-stop-a c =
    let l = c.loop-a in
    let h = c.loop-a-test.true in
    let t = c.free_until-stop.ensures.taken c.if-stop-a.true h in
    omega (arith, h, c.skip-past.ensures.past, l.invariant.spot.after t.0)

pub loop-a-preserved-then-stop-a : goal.loop-a-preserved-then-stop-a
loop-a-preserved-then-stop-a c =
    let t = c.free_until-stop.ensures.taken c.if-stop-a.true c.loop-a-test.true in
    filled_run c.loop-a.invariant t.0 t.1 c.skip-past.ensures

pub returns-then-i-eq-PIECES : goal.returns-then-i-eq-PIECES
returns-then-i-eq-PIECES c = filled_cut c.loop-a.invariant c.if-i-eq-PIECES.true _ refl (omega (arith, c.if-self-a.false))

pub overflow_sub-gone : goal.overflow_sub-gone
overflow_sub-gone c = c.loop-a.invariant.reached

pub overflow_add-piece : goal.overflow_add-piece
overflow_add-piece c =
    omega (arith, c.loop-a-test.true, c.requires.0.to, c.requires.0.offset)

pub insert-requires : goal.insert-requires
insert-requires c =
    let f = c.loop-a.invariant in
    record {
      pieces = f.kept;
      fits = filled_fits f _ c.free_until-stop.ensures c.if-stop-a.false c.if-i-eq-PIECES.false (omega (arith, c.if-self-a.false))
          c.requires.0.from c.requires.0.to c.requires.1;
    }

pub overflow_add-i : goal.overflow_add-i
overflow_add-i c =
    let f = c.loop-a.invariant in
    omega (arith, f.spot.bound, f.kept.few)

pub loop-a-smaller : goal.loop-a-smaller
loop-a-smaller c =
    let moved = c.if-stop-a.false in
    omega (arith, c.loop-a-test.true, c.free_until-stop.ensures.low, moved)

pub loop-a-preserved : goal.loop-a-preserved
loop-a-preserved c =
    let f = c.loop-a.invariant in
    let stop = c.free_until-stop in
    let put = c.insert.ensures in
    filled_put f stop.result.0 _ (omega (arith, stop.ensures.low, c.if-stop-a.false)) stop.ensures.high put.0 put.1

pub returns : goal.returns
returns c = filled_end c.loop-a.invariant (omega (arith, c.loop-a-test.false))
