-- `virtqueue::take::used_reached` meets its contract. Assumes nothing.
use Rattle.std.proofs.Common.{arith}
use Rattle.virtqueue.specs.Step.{used_reached}
use Rattle.virtqueue.proofs.QueueLaws.{queue_facts}
use Rattle.virtqueue.proofs.take.used_reached.Goals as goal

pub used_entry-entry-requires : goal.used_entry-entry-requires
used_entry-entry-requires c = let f = queue_facts c.args.lent.now.queue c.args.lent.now.kept in (omega (arith, f.used), f.some)

pub used_idx-idx-requires : goal.used_idx-idx-requires
used_idx-idx-requires c = omega (arith, (queue_facts c.args.lent.now.queue c.args.lent.now.kept).used)

pub returns : goal.returns
unfolding used_reached
returns c = rw (c.reaches.ensures, c.reaches-2.ensures, c.used_entry-entry.ensures, c.used_idx-idx.ensures)
