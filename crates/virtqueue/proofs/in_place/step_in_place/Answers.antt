-- `virtqueue::in_place::step_in_place` meets its contract. Assumes nothing.
use Rattle.std.proofs.Common.{◌≡◌, List, ℕ, true, length, refl, sym, subst, arith, rules}
use Rattle.device_words.specs.Words.{device_of}
use Rattle.map_records.specs.Words.{view_of}
use Rattle.guest_view.specs.Promises.{Backed}
use Rattle.virtqueue.specs.Step.{records_ok}
use Rattle.virtqueue.specs.Promises.{refused_step}
use Rattle.virtqueue.specs.declared.queue.SplitQueue.{SplitQueue}
use Rattle.virtqueue.specs.declared.step.Moved.{Moved}
use Rattle.virtqueue.proofs.DeviceLaws.{records_short}
use Rattle.virtqueue.proofs.StepLaws.{LeftAny, records_facts, step_judged, step_refused}
use Rattle.virtqueue.proofs.in_place.step_in_place.Goals as goal

-- a step over words that are a view's and a device's
moved : {view seen device words : List ℕ} → seen ≡ view → words ≡ device → (q : SplitQueue) (mem : List ℕ) (r : Moved) (x m : List ℕ)
    → LeftAny (view_of seen) words q mem r x m → LeftAny (view_of view) device q mem r x m
moved {view} {seen} {device} {words} e f q mem r x m t =
    subst (λ (w : List ℕ). LeftAny (view_of w) device q mem r x m) e (subst (λ (d : List ℕ). LeftAny (view_of seen) d q mem r x m) f t)

-- that they keep 27's rules, said of the view that was judged
judged : {view seen : List ℕ} → seen ≡ view → (device mem : List ℕ) (q : SplitQueue) → records_ok (view_of view) (device_of device) q (length mem) ≡ true
    → records_ok (view_of seen) (device_of device) q (length mem) ≡ true
judged e device mem q h = subst (λ (w : List ℕ). records_ok (view_of w) (device_of device) q (length mem) ≡ true) (sym e) h

pub returns-in_default : goal.returns-in_default
returns-in_default c = let a = c.args in
    rw c.refused.ensures (step_refused (view_of a.view.now) a.device.now a.queue a.mem.now (sym (records_short _ _ _ _ c.in_default.ensures.cases)))

pub returns-in_default-judged_view : goal.returns-in_default-judged_view
returns-in_default-judged_view c = let a = c.args in
    let same : c.in-Some.device.now ≡ a.device.now = search rules in
    rw c.refused-in_default-judged_view.ensures (moved refl same a.queue a.mem.now (refused_step a.queue) _ _ (step_refused (view_of a.view.now) c.in-Some.device.now a.queue a.mem.now c.in_default-judged_view.ensures))

pub step_judged-requires : goal.step_judged-requires
step_judged-requires c = let a = c.args in
    let f = records_facts _ _ _ _ c.in-Some-judged_view.ensures.1 (omega (arith, c.well_formed)) in
    record { backed = subst (λ (w : List ℕ). Backed (view_of w) (length a.mem.now)) (sym c.in-Some-judged_view.ensures.0) f.backed; valid = f.device; queue = f.queue }

pub returns : goal.returns
returns c = let a = c.args in
    let same : c.in-Some.device.now ≡ a.device.now = search rules in
    let e = c.in-Some-judged_view.ensures.0 in
    let h = judged e c.in-Some.device.now a.mem.now a.queue c.in-Some-judged_view.ensures.1 in
    moved e same a.queue a.mem.now c.step_judged.result _ _ (step_judged (view_of c.in-Some-judged_view.view) c.in-Some.device.now a.queue a.mem.now h c.step_judged.result _ _ c.step_judged.ensures)
