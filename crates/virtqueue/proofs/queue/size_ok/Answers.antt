-- `virtqueue::queue::size_ok` meets its contract. Assumes nothing.
use Rattle.virtqueue.proofs.QueueLaws.{size_power}
use Rattle.virtqueue.proofs.queue.size_ok.Goals as goal

pub returns : goal.returns
returns c = rw c.is_power_of_two.ensures (size_power _)
