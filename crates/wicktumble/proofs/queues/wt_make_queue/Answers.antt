-- `wicktumble::queues::wt_make_queue` meets its contract. Assumes nothing.
use mathlib.Core.Path.{refl, ap, ◌∙◌}
use mathlib.Core.List.{List}
use Prim.Native.Nat.{ℕ}
use borrow.Author.Tests.{eq-eqb, ne_eqb}
use Rattle.map_check.specs.Reply.{left_words}
use Rattle.virtqueue.specs.Queue.{Given, made}
use Rattle.wicktumble.specs.Queues.{queue_words, make_call}
use Rattle.wicktumble.proofs.queues.wt_make_queue.Goals as goal

pub returns-in_default : goal.returns-in_default
unfolding make_call
returns-in_default c = rw (ne_eqb _ _ c.in_default.ensures.cases) (c.refused.ensures, refl)

pub returns : goal.returns
unfolding make_call
returns c =
    let a = c.args in
    let g : Given = made a.size a.descriptors a.available a.used in
    rw (eq-eqb _ _ c.in-Some.ensures.cases.long) (
      c.number_of.ensures ∙ c.put_made.ensures.0,
      c.put_made.ensures.1 ∙ ap (λ (w : List ℕ). left_words g.reply (queue_words g.queue) w) c.in-Some.ensures.cases.same,
    )
