-- `virtqueue::queue::make_queue` meets its contract. Assumes nothing.
use Rattle.std.proofs.Common.{sym, ◌∙◌}
use Rattle.virtqueue.specs.Queue.{made}
use Rattle.virtqueue.proofs.queue.make_queue.Goals as goal

pub returns-then-not-areas_ok : goal.returns-then-not-areas_ok
unfolding made
returns-then-not-areas_ok c = rw (sym c.areas_ok.ensures ∙ c.if-not-areas_ok.true, c.no_queue.ensures)

pub returns : goal.returns
unfolding made
returns c = rw (sym c.areas_ok.ensures ∙ c.if-not-areas_ok.false)
