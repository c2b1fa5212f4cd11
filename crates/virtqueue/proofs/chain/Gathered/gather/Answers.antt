-- `virtqueue::chain::Gathered::gather` meets its contract. Assumes nothing.
use Rattle.std.proofs.Common.{◌≡◌, ◌+◌, ◌-◌, Bool, sym, refl, ap, ◌∙◌, subst, arith}
use Rattle.std.proofs.lemmas.Result.{err_from_is_err_and}
use Rattle.virtqueue.specs.Chain.{whole, ended, chain_at}
use Rattle.virtqueue.specs.Promises.{guest_of, place_of, entry_by}
use Rattle.virtqueue.specs.declared.chain.Gathered.{Gathered}
use Rattle.virtqueue.proofs.ChainLaws.{added_late, Going, going_start, going_next, going_whole, end_ended, next_below_lem, next_astray, follow_none, follow_out, follow_stopped, follow_last, follow_astray, follow_next}
use Rattle.virtqueue.proofs.QueueLaws.{stop_some}
use Rattle.virtqueue.proofs.chain.Gathered.gather.Invariants.{left_of}
use Rattle.virtqueue.proofs.chain.Gathered.gather.Goals as goal

pub loop-passed-init : goal.loop-passed-init
unfolding chain_at
loop-passed-init c = let e : c.args.size - 0 ≡ c.args.size = omega arith in
    rw (c.requires.begun, e) (c.requires.table.1, going_start _ _ _ _ _ refl refl)

pub fetch-requires : goal.fetch-requires
fetch-requires c = c.requires.table.0

pub returns-in_default : goal.returns-in_default
returns-in_default c = let t = c.loop-passed-test.true in
    sym c.loop-passed.invariant.1.end ∙ follow_out _ _ _ _ _ _ (omega arith) (sym c.fetch.ensures ∙ ap entry_by c.in_default.is)

pub visit-requires : goal.visit-requires
visit-requires c = let g = c.loop-passed.invariant.1 in record { few_read = g.few_read; few_written = g.few_written }

pub returns-in_err-visit : goal.returns-in_err-visit
returns-in_err-visit c = let p = err_from_is_err_and c.from_residual.result c.from_residual.ensures.1 in
    let t = c.loop-passed-test.true in
    rw (p.1, p.2)
    (sym c.loop-passed.invariant.1.end
    ∙ follow_stopped _ _ _ _ _ _ (sym c.fetch.ensures ∙ ap entry_by c.in-Some.is) _ _ (omega arith) (sym c.in_err-visit.ensures) (stop_some _))

pub returns-then-not-has_next : goal.returns-then-not-has_next
returns-then-not-has_next c = let v = c.in_ok-visit.ensures in
    let t = c.loop-passed-test.true in
    going_whole _ _ _ _
    (going_next _ _ _ _ whole c.in-Some.d _ _ c.loop-passed.invariant.1
    (follow_last _ _ _ _ _ _ (sym c.fetch.ensures ∙ ap entry_by c.in-Some.is) v.0 _ (omega arith) (sym c.has_next.ensures ∙ c.if-not-has_next.true)) v.1)

pub returns-then-size-d : goal.returns-then-size-d
returns-then-size-d c = let v = c.in_ok-visit.ensures in
    let t = c.loop-passed-test.true in
    let d = c.in-Some.d in
    let g = going_next _ _ _ _ (ended 20) d _ _ c.loop-passed.invariant.1
    (follow_astray _ _ _ _ _ _ (sym c.fetch.ensures ∙ ap entry_by c.in-Some.is) v.0 _ (omega arith)
    (sym c.has_next.ensures ∙ c.if-not-has_next.false) (next_astray c.args.size c.loop-passed.i d c.if-size-d.true)) v.1 in
    sym g.end ∙ end_ended 20

pub loop-passed-preserved : goal.loop-passed-preserved
loop-passed-preserved c = let v = c.in_ok-visit.ensures in
    let t = c.loop-passed-test.true in
    let d = c.in-Some.d in
    let g = c.args.lent.now in
    let e : c.args.size - c.loop-passed._passed - 1 ≡ c.args.size - (c.loop-passed._passed + 1) = omega arith in (
      c.if-size-d.false,
      rw (← e)
          (subst (λ (b : Bool). Going (place_of g) g.mem.now (chain_at (guest_of g) g.mem.now c.args.table.0 c.args.size c.args.head)
          (left_of g c.args.table.0 c.args.size (c.args.size - c.loop-passed._passed - 1) d.next b) c.visit.new.self)
          (sym (ap (λ (s : Gathered). s.late) v.1 ∙ added_late _ _ _ _))
          (going_next _ _ _ _ _ d _ _ c.loop-passed.invariant.1
          (follow_next _ _ _ _ _ _ (sym c.fetch.ensures ∙ ap entry_by c.in-Some.is) v.0 _ _ (omega arith)
          (sym c.has_next.ensures ∙ c.if-not-has_next.false) (next_below_lem c.args.size c.loop-passed.i d c.if-size-d.false)) v.1)),
    )

pub returns : goal.returns
returns c = let t = c.loop-passed-test.false in sym c.loop-passed.invariant.1.end ∙ follow_none _ _ _ _ _ _ (omega arith)
