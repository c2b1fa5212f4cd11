-- The loop's invariant: what is left of the run from here is what the whole run comes to.
use Rattle.std.proofs.Common.{◌≡◌}
use Rattle.std.specs.Prelude.{Ok}
use Rattle.device_words.specs.Words.{device_of}
use Rattle.map_records.specs.Words.{view_of}
use Rattle.virtqueue.specs.declared.run.RunEnd.TheVariants.{AllDone}
use Rattle.virtqueue.proofs.RunLaws.{Running}
use Rattle.virtqueue.proofs.run.run_steps.Given as goal

abbrev pub invariant-loop-done : goal.invariant-loop-done
invariant-loop-done l = Running (view_of l.view) l.most l.initial.mem (device_of l.initial.device) l.initial.ran.queue l.mem l.device l.ran.queue l.ran.served l.ran.notified
    × (l.ran.end ≡ Ok AllDone)
    × (l.ran.served ≡ l._done)
