-- `virtqueue::queue::SplitQueue::keeps_rules` meets its contract. Assumes nothing.
use Rattle.virtqueue.specs.Queue.{queue_ok}
use Rattle.virtqueue.proofs.QueueLaws.{stop_read}
use Rattle.virtqueue.proofs.queue.SplitQueue.keeps_rules.Goals as goal

pub returns : goal.returns
unfolding queue_ok
returns c = rw (c.areas_ok.ensures, c.is_some.ensures, stop_read _ _ c.stopped.ensures)
