-- `virtqueue::take::take` meets its contract. Assumes nothing.
use Rattle.std.proofs.Common.{◌≡◌, sym, ap, ◌∙◌, subst}
use Rattle.std.proofs.lemmas.Result.{err_from_is_err_and}
use Rattle.virtqueue.specs.Queue.{stop_number}
use Rattle.virtqueue.specs.Step.{Offer, stop}
use Rattle.virtqueue.specs.Promises.{guest_of, Ready}
use Rattle.virtqueue.proofs.QueueLaws.{stop_some, stop_none}
use Rattle.virtqueue.proofs.TakeLaws.{head_low, noticed, offered_stopped, offered_notices, offered_head}
use Rattle.virtqueue.proofs.take.take.Goals as goal

pub returns-in-Some : goal.returns-in-Some
returns-in-Some c = let e : c.args.lent.now.queue.stop ≡ stop_number c.in-Some.stop = c.in-Some.ensures in
    offered_stopped _ _ _ (λ z. stop_some _ (sym e ∙ z)) ∙ ap stop e

pub returns-in_err-notify : goal.returns-in_err-notify
returns-in_err-notify c = let p = err_from_is_err_and c.from_residual.result c.from_residual.ensures.1 in
    rw (p.1, p.2) (offered_notices _ _ _ _ (stop_none c.args.lent.now.queue c.args.lent.now.kept c.in_default.ensures) (sym c.notices.ensures ∙ c.in_err-notify.was))

pub returns-in_default-2 : goal.returns-in_default-2
returns-in_default-2 c = offered_notices _ _ _ _ (stop_none c.args.lent.now.queue c.args.lent.now.kept c.in_default.ensures)
    (noticed _ _ _ _ _ _ c.notices.ensures c.in_ok-notify.was c.in_default-2.is)

pub returns-in_err-head : goal.returns-in_err-head
returns-in_err-head c = let p = err_from_is_err_and c.from_residual-in_err-head.result c.from_residual-in_err-head.ensures.1 in
    rw (p.1, p.2)
    (offered_head _ _ _ _ _ (stop_none c.args.lent.now.queue c.args.lent.now.kept c.in_default.ensures)
    (noticed _ _ _ _ _ _ c.notices.ensures c.in_ok-notify.was c.in-Some-2.is) (sym c.head.ensures ∙ c.in_err-head.was))

pub take_chain-requires-clause-head_lt_size : goal.take_chain-requires-clause-head_lt_size
take_chain-requires-clause-head_lt_size c = head_low _ _ _ _ (sym c.head.ensures ∙ c.in_ok-head.was)

pub returns-in_err-take_chain : goal.returns-in_err-take_chain
returns-in_err-take_chain c = let p = err_from_is_err_and c.from_residual-in_err-take_chain.result c.from_residual-in_err-take_chain.ensures.1 in
    rw (p.1, p.2)
    (offered_head _ _ _ c.in-Some-2.notify _ (stop_none c.args.lent.now.queue c.args.lent.now.kept c.in_default.ensures)
    (noticed _ _ _ _ _ _ c.notices.ensures c.in_ok-notify.was c.in-Some-2.is) (sym c.head.ensures ∙ c.in_ok-head.was)
    ∙ c.in_err-take_chain.ensures c.in-Some-2.notify)

pub returns : goal.returns
returns c = let g = c.args.lent.now in
    subst (λ (o : Offer). Ready (guest_of g) g.mem.now o c.in_ok-head.head c.in-Some-2.notify c.take_chain.new.chain)
    (sym (offered_head _ _ _ c.in-Some-2.notify _ (stop_none c.args.lent.now.queue c.args.lent.now.kept c.in_default.ensures)
    (noticed _ _ _ _ _ _ c.notices.ensures c.in_ok-notify.was c.in-Some-2.is) (sym c.head.ensures ∙ c.in_ok-head.was)))
    (c.in_ok-take_chain.ensures c.in-Some-2.notify)
