-- `virtqueue::queue::areas_ok` meets its contract. Assumes nothing.
use Rattle.virtqueue.specs.Queue.{areas_ok}
use Rattle.virtqueue.proofs.queue.areas_ok.Goals as goal

pub returns : goal.returns
unfolding areas_ok
returns c = rw (c.size_ok.ensures, c.area_ok.ensures, c.area_ok-2.ensures, c.area_ok-3.ensures, c.from-n.ensures)
