-- `wicktumble::queues::put_made` meets its contract. Assumes nothing.
use native.Mathlib.Omega.{arith}
use Rattle.wicktumble.proofs.QueueCalls.{made_large}
use Rattle.wicktumble.proofs.queues.put_made.Goals as goal

pub returns-in_default : goal.returns-in_default
returns-in_default c =
    let a = c.args in
    made_large a.size a.descriptors a.available a.used (omega (arith, c.in_default.ensures)) a.words.now
