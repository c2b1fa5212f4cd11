-- `virtqueue::run::run_steps` meets its contract. Assumes nothing.
use Rattle.std.proofs.Common.{◌≡◌, ℕ, ◌+◌, true, List, length, sym, refl, ap, ◌∙◌, subst, arith, rules}
use Rattle.std.specs.Prelude.{Ok, Err}
use Rattle.device_words.specs.Words.{device_of}
use Rattle.map_records.specs.Words.{view_of}
use Rattle.virtqueue.specs.Step.{records_ok}
use Rattle.virtqueue.specs.Promises.{refused_run}
use Rattle.virtqueue.specs.declared.queue.SplitQueue.{SplitQueue}
use Rattle.virtqueue.specs.declared.run.Ran.{Ran}
use Rattle.virtqueue.specs.declared.run.RunEnd.TheVariants.{AllDone, Idle}
use Rattle.virtqueue.proofs.DeviceLaws.{records_short}
use Rattle.virtqueue.proofs.StepLaws.{records_facts}
use Rattle.virtqueue.proofs.RunLaws.{RunLeft, run_starts, run_all, run_refused, run_idle, run_turn, run_judged, run_refused_all}
use Rattle.virtqueue.proofs.run.run_steps.Goals as goal

-- a run over words that are a view's and a device's
moved : {view seen device words : List ℕ} → seen ≡ view → words ≡ device → (q : SplitQueue) (mem : List ℕ) (k : ℕ) (r : Ran) (x m : List ℕ)
    → RunLeft (view_of seen) words q mem k r x m → RunLeft (view_of view) device q mem k r x m
moved {view} {seen} {device} {words} e f q mem k r x m t =
    subst (λ (w : List ℕ). RunLeft (view_of w) device q mem k r x m) e (subst (λ (d : List ℕ). RunLeft (view_of seen) d q mem k r x m) f t)

-- that they keep 27's rules, said of the view that was judged
judged : {view seen : List ℕ} → seen ≡ view → (device mem : List ℕ) (q : SplitQueue) → records_ok (view_of view) (device_of device) q (length mem) ≡ true
    → records_ok (view_of seen) (device_of device) q (length mem) ≡ true
judged e device mem q h = subst (λ (w : List ℕ). records_ok (view_of w) (device_of device) q (length mem) ≡ true) (sym e) h

pub returns-in_default : goal.returns-in_default
returns-in_default c = let a = c.args in
    rw c.refused_run.ensures (run_refused_all (view_of a.view.now) a.device.now a.queue a.mem.now a.k (sym (records_short _ _ _ _ c.in_default.ensures.cases)))

pub returns-in_default-judged_view : goal.returns-in_default-judged_view
returns-in_default-judged_view c = let a = c.args in
    let same : c.in-Some.device.now ≡ a.device.now = search rules in
    rw c.refused_run-in_default-judged_view.ensures (moved refl same a.queue a.mem.now a.k (refused_run a.queue) _ _ (run_refused_all (view_of a.view.now) c.in-Some.device.now a.queue a.mem.now a.k c.in_default-judged_view.ensures))

pub loop-done-init : goal.loop-done-init
loop-done-init c = let h = judged c.in-Some-judged_view.ensures.0 _ _ _ c.in-Some-judged_view.ensures.1 in
    let f = records_facts _ _ _ _ h (omega (arith, c.well_formed)) in
    (run_starts _ _ _ _ _ (search rules) f.device f.queue, refl, refl)

pub step_judged-outcome-requires : goal.step_judged-outcome-requires
step_judged-outcome-requires c = let h = judged c.in-Some-judged_view.ensures.0 _ _ _ c.in-Some-judged_view.ensures.1 in
    let f = records_facts _ _ _ _ h (omega (arith, c.well_formed)) in
    let r = c.loop-done.invariant.0 in
    record { backed = rw r.same f.backed; valid = r.device; queue = r.queue }

pub loop-done-preserved : goal.loop-done-preserved
loop-done-preserved c = let s = c.step_judged-outcome in (
  run_turn _ _ _ _ _ _ _ _ _ _ c.loop-done.invariant.0 (let t = c.loop-done-test.true in omega (arith, c.loop-done.invariant.2)) s.result _ _ s.ensures (s.array_long ∙ sym c.loop-done.invariant.0.words) c.in-Ok-Some.chain _ c.in-Ok-Some.is (rw c.in-Ok-Some.is at c.in-Ok-Some.field-0-is) s.auto.mem,
  c.loop-done.invariant.1,
  ap (λ (n : ℕ). n + 1) c.loop-done.invariant.2,
)

pub returns-after-loop-done : goal.returns-after-loop-done
returns-after-loop-done c = let a = c.args in
    let same : c.in-Some.device.now ≡ a.device.now = search rules in
    let e = c.in-Some-judged_view.ensures.0 in
    let v = view_of c.in-Some-judged_view.view in
    let d = c.in-Some.device.now in
    let h = judged e d a.mem.now a.queue c.in-Some-judged_view.ensures.1 in
    let whole : length d ≡ 37 = search rules in
    let l = c.loop-done in
    let r : Ran = record { served = l.ran.served; notified = l.ran.notified; end = Ok AllDone; queue = l.ran.queue } in
    rw l.invariant.1
    (moved e same a.queue a.mem.now a.k r _ _ (run_judged v d a.queue a.mem.now a.k h c.min-most.result c.min-most.ensures
    r _ _
    (l.invariant.0.words ∙ sym whole) (run_all _ _ _ _ _ _ _ _ _ _ l.invariant.0 (let t = c.loop-done-test.false in omega (arith, l.invariant.2)))))

pub returns-in-Err : goal.returns-in-Err
returns-in-Err c = let a = c.args in
    let same : c.in-Some.device.now ≡ a.device.now = search rules in
    let e = c.in-Some-judged_view.ensures.0 in
    let v = view_of c.in-Some-judged_view.view in
    let d = c.in-Some.device.now in
    let h = judged e d a.mem.now a.queue c.in-Some-judged_view.ensures.1 in
    let whole : length d ≡ 37 = search rules in
    let l = c.loop-done in
    let s = c.step_judged-outcome in
    let r : Ran = record { served = l.ran.served; notified = l.ran.notified; end = Err c.in-Err.fault; queue = s.result.queue } in
    moved e same a.queue a.mem.now a.k r _ _ (run_judged v d a.queue a.mem.now a.k h c.min-most.result c.min-most.ensures
    r _ _
    (s.array_long ∙ sym whole)
    (run_refused _ _ _ _ _ _ _ _ _ _ l.invariant.0 (let t = c.loop-done-test.true in omega (arith, l.invariant.2)) s.result _ _ s.ensures (s.array_long ∙ sym l.invariant.0.words) _ c.in-Err.is))

pub returns-in-Ok-None : goal.returns-in-Ok-None
returns-in-Ok-None c = let a = c.args in
    let same : c.in-Some.device.now ≡ a.device.now = search rules in
    let e = c.in-Some-judged_view.ensures.0 in
    let v = view_of c.in-Some-judged_view.view in
    let d = c.in-Some.device.now in
    let h = judged e d a.mem.now a.queue c.in-Some-judged_view.ensures.1 in
    let whole : length d ≡ 37 = search rules in
    let l = c.loop-done in
    let s = c.step_judged-outcome in
    let r : Ran = record { served = l.ran.served; notified = l.ran.notified; end = Ok Idle; queue = s.result.queue } in
    moved e same a.queue a.mem.now a.k r _ _ (run_judged v d a.queue a.mem.now a.k h c.min-most.result c.min-most.ensures
    r _ _
    (s.array_long ∙ sym whole)
    (run_idle _ _ _ _ _ _ _ _ _ _ l.invariant.0 (let t = c.loop-done-test.true in omega (arith, l.invariant.2)) s.result _ _ s.ensures (s.array_long ∙ sym l.invariant.0.words) _ c.in-Ok-None.is (rw c.in-Ok-None.is at c.in-Ok-None.field-0-is)))
