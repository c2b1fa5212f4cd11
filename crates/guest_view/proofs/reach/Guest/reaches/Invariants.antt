use mathlib.Core.Path.{◌≡◌}
use mathlib.Core.Bool.{true}
use Prim.Native.Nat.{ℕ, ◌+◌, ◌-◌, ◌≤◌, ◌<◌}
use Rattle.guest_view.specs.Guest.{view_guest}
use Rattle.map_records.specs.Words.{view_of}
use Rattle.guest_view.proofs.reach.Guest.reaches.Given as goal

abbrev pub invariant-loop-done : goal.invariant-loop-done
invariant-loop-done l = (l.done ≤ l.count) × ((e : ℕ) → e < l.done → (view_guest (view_of l.self.view) l.self.blocks.size l.self.blocks.plugged.now).reach (l.addr.0 + e) ≡ true)

abbrev pub decreases-loop-done : goal.decreases-loop-done
decreases-loop-done l = l.count - l.done
