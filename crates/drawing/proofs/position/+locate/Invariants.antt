-- `drawing::position::locate` is a cycle of one: its measure is how many numbers are left above the region.
use Prim.Native.Nat.{◌-◌}
use Rattle.drawing.proofs.position.+locate.Given as goal

abbrev pub decreases-locate : goal.decreases-locate
decreases-locate l = 32 - l.n
