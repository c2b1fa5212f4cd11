-- `wicktumble::queue_words::queue_words` meets its contract. Assumes nothing.
use borrow.Author.Rules.{rules}
use Rattle.wicktumble.specs.Queues.{queue_words}
use Rattle.wicktumble.proofs.queue_words.queue_words.Goals as goal

pub returns : goal.returns
unfolding queue_words
returns c = search rules
