-- `wicktumble::queues::put_reset` meets its contract. Assumes nothing.
use mathlib.Core.Path.{sym, ap, ◌∙◌}
use mathlib.Core.List.{List}
use Prim.Native.Nat.{ℕ}
use lib.ListN.{length}
use Rattle.wicktumble.specs.Queues.{queue_words}
use Rattle.wicktumble.proofs.QueueCalls.{unread_by, read_as_given, record_number, reset_unfit, reset_refused, reset_done}
use Rattle.wicktumble.proofs.queues.put_reset.Goals as goal

pub returns-in_err-ok_or : goal.returns-in_err-ok_or
returns-in_err-ok_or c =
    reset_unfit c.args.words.now (unread_by c.args.words.now c.queue_of.ensures c.ok_or.ensures.value c.in_err-ok_or.was)
    (record_number c.from_residual.result c.from_residual.ensures.0)

pub returns-in_err-queue : goal.returns-in_err-queue
returns-in_err-queue c =
    reset_refused c.args.words.now (read_as_given c.args.words.now c.queue_of.ensures c.ok_or.ensures.value c.in_ok-ok_or.was) c.reset.ensures c.in_err-queue.was
    (record_number c.from_residual-in_err-queue.result c.from_residual-in_err-queue.ensures.0)

pub copy_from_slice-requires : goal.copy_from_slice-requires
unfolding queue_words
copy_from_slice-requires c =
    let l = read_as_given c.args.words.now c.queue_of.ensures c.ok_or.ensures.value c.in_ok-ok_or.was in
    l.long ∙ sym (ap (λ (w : List ℕ). length w) c.queue_words.ensures)

pub returns : goal.returns
returns c =
    reset_done c.args.words.now (read_as_given c.args.words.now c.queue_of.ensures c.ok_or.ensures.value c.in_ok-ok_or.was) c.reset.ensures c.in_ok-queue.was
    (c.copy_from_slice.ensures.after ∙ c.queue_words.ensures)
