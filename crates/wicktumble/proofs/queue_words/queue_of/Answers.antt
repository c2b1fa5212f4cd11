-- `wicktumble::queue_words::queue_of` meets its contract. Assumes nothing.
use mathlib.Core.Path.{refl}
use Rattle.wicktumble.proofs.QueueWords.{unfit, wide_16, wide_8, narrow_16, narrow_8, read_as}
use Rattle.wicktumble.proofs.queue_words.queue_of.Goals as goal

pub returns-in_err-size : goal.returns-in_err-size
returns-in_err-size c = unfit c.args.words.now refl c.from_residual.ensures (λ f. c.in_err-size.ensures.cases f.seven)

pub returns-in_err-ok : goal.returns-in_err-ok
returns-in_err-ok c = unfit c.args.words.now c.in_ok-size.ensures.cases.same c.from_residual-in_err-ok.ensures (λ f. wide_16 c.try_from.result c.try_from.ensures c.ok.ensures.value c.in_err-ok.was f.size)

pub returns-in_err-ok-2 : goal.returns-in_err-ok-2
returns-in_err-ok-2 c = unfit c.args.words.now c.in_ok-size.ensures.cases.same c.from_residual-in_err-ok-2.ensures (λ f. wide_16 c.try_from-2.result c.try_from-2.ensures c.ok-2.ensures.value c.in_err-ok-2.was f.available)

pub returns-in_err-ok-3 : goal.returns-in_err-ok-3
returns-in_err-ok-3 c = unfit c.args.words.now c.in_ok-size.ensures.cases.same c.from_residual-in_err-ok-3.ensures (λ f. wide_16 c.try_from-3.result c.try_from-3.ensures c.ok-3.ensures.value c.in_err-ok-3.was f.used)

pub returns-in_err-ok-4 : goal.returns-in_err-ok-4
returns-in_err-ok-4 c = unfit c.args.words.now c.in_ok-size.ensures.cases.same c.from_residual-in_err-ok-4.ensures (λ f. wide_8 c.try_from-4.result c.try_from-4.ensures c.ok-4.ensures.value c.in_err-ok-4.was f.stop)

pub returns : goal.returns
returns c =
    read_as c.args.words.now c.in_ok-size.ensures.cases.same c.in_ok-size.ensures.cases.long
    (narrow_16 c.try_from.result c.try_from.ensures c.ok.ensures.value c.in_ok-ok.was)
    (narrow_16 c.try_from-2.result c.try_from-2.ensures c.ok-2.ensures.value c.in_ok-ok-2.was)
    (narrow_16 c.try_from-3.result c.try_from-3.ensures c.ok-3.ensures.value c.in_ok-ok-3.was)
    (narrow_8 c.try_from-4.result c.try_from-4.ensures c.ok-4.ensures.value c.in_ok-ok-4.was)
