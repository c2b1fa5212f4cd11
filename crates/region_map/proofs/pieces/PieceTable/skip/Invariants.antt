use Prim.Native.Nat.{◌-◌}
use Rattle.region_map.specs.Pieces.{TakenUpTo}
use Rattle.region_map.proofs.pieces.PieceTable.skip.Given as goal

abbrev pub invariant-loop-address : goal.invariant-loop-address
invariant-loop-address l = TakenUpTo l.self l.i l.address.0 l.at

abbrev pub decreases-loop-address : goal.decreases-loop-address
decreases-loop-address l = l.self.count - l.at
