-- The measure of the cycle of `walk` and `walk_children`: the region number, and then the children left.
use Rattle.std.proofs.Common.{◌+◌, ◌*◌}
use Rattle.region_map.proofs.walk.+walk_walk_children.Given as goal

abbrev pub decreases-walk : goal.decreases-walk
decreases-walk l = l.n * 16384 + 8193

abbrev pub decreases-walk_children : goal.decreases-walk_children
decreases-walk_children l = l.n * 16384 + l.below
