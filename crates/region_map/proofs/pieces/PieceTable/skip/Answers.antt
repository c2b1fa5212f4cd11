-- `region_map::pieces::PieceTable::skip` meets its contract. The loop's invariant: up to the address all is taken. The measure is how many pieces are left. Assumes nothing.
use native.Mathlib.Omega.{arith}
use lib.Dec.{ltb}
use Rattle.region_map.proofs.FillLaws.{taken_on, run_one, run_more}
use Rattle.region_map.proofs.pieces.PieceTable.skip.Goals as goal

pub overflow_add-at : goal.overflow_add-at
overflow_add-at c = omega (arith, c.requires.1, c.requires.0.few)

pub loop-address-init : goal.loop-address-init
loop-address-init c =
    run_one c.requires.0 c.args.i c.requires.1

pub is_taken-requires : goal.is_taken-requires
is_taken-requires c = c.requires.0

pub overflow_add-at-in-loop-address : goal.overflow_add-at-in-loop-address
overflow_add-at-in-loop-address c =
    let p = c.requires.0 in
    omega (arith, c.loop-address.invariant.spot.bound, p.few)

pub loop-address-smaller : goal.loop-address-smaller
loop-address-smaller c =
    let l = c.loop-address in
    let asked = c.is_taken in
    let t = taken_on c.args.self.now l.at l.address.0 (ltb l.address.0 c.args.end.0) asked.result asked.ensures c.loop-address-test.true in
    omega (arith, t.0)

pub loop-address-preserved : goal.loop-address-preserved
loop-address-preserved c =
    let l = c.loop-address in
    let asked = c.is_taken in
    let t = taken_on c.args.self.now l.at l.address.0 (ltb l.address.0 c.args.end.0) asked.result asked.ensures c.loop-address-test.true in
    run_more c.requires.0 l.invariant t.0 t.1

pub returns : goal.returns
returns c = c.loop-address.invariant
