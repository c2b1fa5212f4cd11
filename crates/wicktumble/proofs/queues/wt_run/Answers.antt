-- `wicktumble::queues::wt_run` meets its contract. Assumes nothing.
use mathlib.Core.Path.{refl, sym, ap, ◌∙◌}
use mathlib.Core.List.{List}
use Prim.Native.Nat.{ℕ}
use lib.ListN.{length}
use borrow.Author.Tests.{ne_eqb}
use Rattle.wicktumble.specs.Queues.{queue_words}
use Rattle.wicktumble.proofs.QueueCalls.{lent_some, lent_none, run_refused, run_done}
use Rattle.wicktumble.proofs.queues.wt_run.Goals as goal

pub returns-in_default : goal.returns-in_default
returns-in_default c =
    let a = c.args in
    run_refused a.view.now a.device.now a.queue.now a.memory.now a.res.now
    (lent_none a.view.now a.device.now a.queue.now a.res.now c.lent_queue.ensures c.in_default.is) c.refused.ensures a.k

pub returns-in_default-as_mut_array : goal.returns-in_default-as_mut_array
returns-in_default-as_mut_array c =
    let a = c.args in
    let l = lent_some a.view.now a.device.now a.queue.now c.lent_queue.ensures c.in-Some.is in
    run_refused a.view.now a.device.now a.queue.now a.memory.now a.res.now
    (rw (l.view, l.device, l.read.fits, ne_eqb _ _ c.in_default-as_mut_array.ensures.cases) refl) c.refused-in_default-as_mut_array.ensures a.k

pub copy_from_slice-requires : goal.copy_from_slice-requires
unfolding queue_words
copy_from_slice-requires c =
    let a = c.args in
    let l = lent_some a.view.now a.device.now a.queue.now c.lent_queue.ensures c.in-Some.is in
    l.read.long ∙ sym (ap (λ (w : List ℕ). length w) c.queue_words.ensures)

pub returns : goal.returns
returns c =
    let a = c.args in
    let l = lent_some a.view.now a.device.now a.queue.now c.lent_queue.ensures c.in-Some.is in
    run_done a.view.now a.device.now a.queue.now a.memory.now a.res.now l c.in-Some-as_mut_array.ensures.cases.long
    a.k c.run_steps-ran.result c.run_steps-ran.ensures (c.copy_from_slice.ensures.after ∙ c.queue_words.ensures) c.number_of.ensures c.words.ensures
