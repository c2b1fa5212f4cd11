use mathlib.Core.Path.{◌≡◌}
use Prim.Native.Nat.{◌+◌, ◌/◌, ◌≤◌}
use Rattle.device_words.proofs.WordLaws.{Turned}
use Rattle.device_words.proofs.table.with_run.Given as goal

abbrev pub invariant-loop-i : goal.invariant-loop-i
invariant-loop-i l =
    (l.i-iterator.end ≡ (l.run.first.0 + l.run.count + 63) / 64) × (l.run.first.0 / 64 ≤ l.i-iterator.start) × (l.i-iterator.start ≤ l.i-iterator.end) × Turned l.initial.words l.words l.run.first.0 l.run.count l.on l.i-iterator.start
