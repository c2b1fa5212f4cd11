-- `device_words::answer::state_answer` meets its contract. Assumes nothing.
use Rattle.device_words.proofs.answer.state_answer.Goals as goal

pub returns-then-all_set : goal.returns-then-all_set
returns-then-all_set c = rw (← c.all_set.ensures, c.if-all_set.true)

pub returns-then-none_set : goal.returns-then-none_set
returns-then-none_set c = rw (← c.all_set.ensures, c.if-all_set.false, ← c.none_set.ensures, c.if-none_set.true)

pub returns : goal.returns
returns c = rw (← c.all_set.ensures, c.if-all_set.false, ← c.none_set.ensures, c.if-none_set.false)
