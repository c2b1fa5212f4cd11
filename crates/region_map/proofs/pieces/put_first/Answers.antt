-- `region_map::pieces::put_first` meets its contract. Assumes nothing.
use Prim.Native.Nat.{◌+◌, ◌-◌}
use native.Mathlib.Omega.{arith}
use Rattle.region_map.proofs.PieceLaws.{none_moved, moved_up, all_moved}
use Rattle.region_map.proofs.pieces.put_first.Goals as goal

pub loop-k-init : goal.loop-k-init
loop-k-init c = none_moved _ c.requires

pub loop-k-preserved : goal.loop-k-preserved
loop-k-preserved c =
    let k = c.loop-k.k - 4 in
    let one = moved_up _ _ _ c.loop-k.invariant (k + 3) (k + 2) (omega arith) (omega arith) in
    let two = moved_up _ _ _ one (k + 2) (k + 1) (omega arith) (omega arith) in
    let three = moved_up _ _ _ two (k + 1) k (omega arith) (omega arith) in
    moved_up _ _ _ three k (k - 1) (omega arith) (omega arith)

pub loop-k-2-init : goal.loop-k-2-init
loop-k-2-init c = c.loop-k.invariant

pub loop-k-2-preserved : goal.loop-k-2-preserved
loop-k-2-preserved c = moved_up _ _ _ c.loop-k-2.invariant (c.loop-k-2.k - 1) (c.loop-k-2.k - 1 - 1) (omega arith) (omega arith)

pub returns : goal.returns
returns c = all_moved _ _ _ c.loop-k-2.invariant _ (omega arith)
