-- `virtqueue::queue::SplitQueue::reset` meets its contract. Assumes nothing.
use Rattle.std.proofs.Common.{sym, ◌∙◌}
use Rattle.virtqueue.specs.Queue.{was_reset}
use Rattle.virtqueue.proofs.queue.SplitQueue.reset.Goals as goal

pub returns-then-not-keeps_rules : goal.returns-then-not-keeps_rules
unfolding was_reset
returns-then-not-keeps_rules c = rw (sym c.keeps_rules.ensures ∙ c.if-not-keeps_rules.true)

pub returns : goal.returns
unfolding was_reset
returns c = rw (sym c.keeps_rules.ensures ∙ c.if-not-keeps_rules.false)
