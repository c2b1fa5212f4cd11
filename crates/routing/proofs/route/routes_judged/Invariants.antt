use mathlib.Core.Path.{◌≡◌}
use mathlib.Core.List.{List}
use Prim.Native.Nat.{ℕ, ◌-◌, ◌*◌}
use lib.ListN.{length}
use lib.Seq.{sets}
use Rattle.map_records.specs.View.{entries}
use Rattle.device_words.specs.Device.{plugged_in}
use Rattle.map_records.specs.Words.{view_of}
use Rattle.guest_view.specs.Guest.{leaf_at}
use Rattle.routing.specs.Route.{Routed, routed, answers_to}
use Rattle.routing.proofs.route.routes_judged.Given as goal

-- how one access is answered
abbrev pub one : List ℕ → ℕ → List ℕ → ℕ → ℕ → Routed
one view block plugged = routed (leaf_at (entries (view_of view))) (plugged_in block plugged)

abbrev pub invariant-loop-i : goal.invariant-loop-i
invariant-loop-i l =
    record {
      rest : sets l.answers (4 * l.i) (answers_to (one l.guest.view l.guest.blocks.size l.guest.blocks.plugged.now) l.accesses l.i (length l.pairs - l.i)) ≡ answers_to (one l.guest.view l.guest.blocks.size l.guest.blocks.plugged.now) l.accesses 0 (length l.pairs);
      size : length l.answers ≡ length l.initial.answers;
    }
