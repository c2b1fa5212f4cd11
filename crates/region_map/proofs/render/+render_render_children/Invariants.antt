-- The measure of the cycle of `render` and `render_children`: the region number, and then the children left.
use Rattle.std.proofs.Common.{◌+◌, ◌*◌}
use Rattle.region_map.proofs.render.+render_render_children.Given as goal

abbrev pub decreases-render : goal.decreases-render
decreases-render l = l.n * 16384 + 8193

abbrev pub decreases-render_children : goal.decreases-render_children
decreases-render_children l = l.n * 16384 + l.below
