-- `virtqueue::take::take_chain` meets its contract. Assumes nothing.
use Rattle.std.proofs.Common.{Bool, cond, sym, ap, ◌∙◌, arith}
use Rattle.std.proofs.lemmas.Result.{err_from_is_err_and}
use Rattle.virtqueue.specs.Step.{chain_of}
use Rattle.virtqueue.specs.Promises.{guest_of}
use Rattle.virtqueue.specs.declared.queue.QueueStop.TheVariants as stops
use Rattle.virtqueue.proofs.QueueLaws.{queue_facts}
use Rattle.virtqueue.proofs.TakeLaws.{whole_shape, whole_ready, chain_short, chain_stopped, chain_unused, chain_ready}
use Rattle.virtqueue.proofs.take.take_chain.Goals as goal

pub gather-requires-clause-table : goal.gather-requires-clause-table
gather-requires-clause-table c = let f = queue_facts c.args.lent.now.queue c.args.lent.now.kept in
    (omega (arith, f.descriptors), c.requires.head_lt_size)

pub returns-in_err-gather : goal.returns-in_err-gather
returns-in_err-gather c = let p = err_from_is_err_and c.from_residual.result c.from_residual.ensures.1 in
    rw (p.1, p.2) (λ notify. chain_stopped _ _ _ notify _ _ c.in_err-gather.ensures)

pub returns-then-is_short : goal.returns-then-is_short
returns-then-is_short c = λ notify. chain_short _ _ _ notify _ stops.Shape
    (whole_shape _ _ _ _ c.in_ok-gather.ensures
    ∙ ap (λ (b : Bool). cond b 22 0) (sym c.is_short.ensures ∙ c.if-is_short.true))

pub returns-then-not-used_reached : goal.returns-then-not-used_reached
returns-then-not-used_reached c = λ notify. chain_unused _ _ _ notify _
    (whole_shape _ _ _ _ c.in_ok-gather.ensures
    ∙ ap (λ (b : Bool). cond b 22 0) (sym c.is_short.ensures ∙ c.if-is_short.false)) (sym c.used_reached.ensures ∙ c.if-not-used_reached.true)

pub returns : goal.returns
returns c = λ notify. let g = c.args.lent.now in
    let w = c.in_ok-gather.ensures in
    let r = whole_ready _ _ _ _ w (sym c.is_short.ensures ∙ c.if-is_short.false) in
    record {
      chain = chain_of (guest_of g) g.mem.now c.args.lent.now.queue c.args.head;
      is = chain_ready _ _ _ notify _ (whole_shape _ _ _ _ w ∙ ap (λ (b : Bool). cond b 22 0) (sym c.is_short.ensures ∙ c.if-is_short.false))
          (sym c.used_reached.ensures ∙ c.if-not-used_reached.false);
      request = r.0;
      places = r.1;
    }
