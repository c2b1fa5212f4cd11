use Rattle.region_map.proofs.PieceLaws.{MovingUp}
use Rattle.region_map.proofs.pieces.put_first.Given as goal

abbrev pub invariant-loop-k : goal.invariant-loop-k
invariant-loop-k l = MovingUp l.fn.row l.row l.k

abbrev pub decreases-loop-k : goal.decreases-loop-k
decreases-loop-k l = l.k

abbrev pub invariant-loop-k-2 : goal.invariant-loop-k-2
invariant-loop-k-2 l = MovingUp l.fn.row l.row l.k

abbrev pub decreases-loop-k-2 : goal.decreases-loop-k-2
decreases-loop-k-2 l = l.k
