use mathlib.Core.Path.{◌≡◌}
use lib.ListN.{length, drop}
use Rattle.guest_view.specs.Guest.{written}
use Rattle.guest_view.proofs.memory.write_bytes.Given as goal

abbrev pub invariant-loop-i : goal.invariant-loop-i
invariant-loop-i l = (length l.mem ≡ length l.initial.mem) × (written l.mem (drop l.i l.places) (drop l.i l.bytes) ≡ written l.initial.mem l.places l.bytes)
