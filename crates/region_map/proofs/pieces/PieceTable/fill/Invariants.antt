use Prim.Native.Nat.{◌-◌}
use Rattle.region_map.proofs.FillLaws.{Filled}
use Rattle.region_map.proofs.pieces.PieceTable.fill.Given as goal

abbrev pub invariant-loop-a : goal.invariant-loop-a
invariant-loop-a l = Filled l.initial.self l.region l.at.first.0 l.at.offset.0 l.at.end.0 l.self l.a.0 l.i

abbrev pub decreases-loop-a : goal.decreases-loop-a
decreases-loop-a l = l.at.end.0 - l.a.0
