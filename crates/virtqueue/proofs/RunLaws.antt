-- Laws of a run: the turns of the loop over steps. Assumes nothing.
use Rattle.std.proofs.Common.{◌≡◌, ℕ, suc, ◌+◌, ◌-◌, ◌<◌, ◌≤◌, min, Bool, true, false, ◌||◌, List, length, sym, refl, ap, ◌∙◌, arith, eq-eqb, eqb-true}
use Rattle.std.specs.Prelude.{Option, Some, None, Result, Ok, Err}
use Rattle.map_records.specs.declared.view.FlatView.{FlatView}
use Rattle.device_words.specs.Device.{device_ok}
use Rattle.device_words.specs.Device.{MemoryDevice}
use Rattle.device_words.proofs.DeviceWords.{record_back, words_of}
use Rattle.guest_view.specs.Guest.{by_view}
use Rattle.virtqueue.specs.Queue.{queue_ok}
use Rattle.virtqueue.specs.Step.{Answer, refused, Effect, stepped_by, records_ok, stepped}
use Rattle.virtqueue.specs.Step as step
use Rattle.virtqueue.specs.Run.{judged_step, RunEffect, run_ends, run_end_of, goes_on, steps_by, ran, RunDoes}
use Rattle.virtqueue.specs.declared.queue.SplitQueue.{SplitQueue}
use Rattle.virtqueue.specs.declared.step.Served.{Served}
use Rattle.virtqueue.specs.declared.step.StepFault.{StepFault}
use Rattle.virtqueue.specs.declared.step.StepFault.TheVariants as fault
use Rattle.virtqueue.specs.declared.step.Moved.{Moved}
use Rattle.virtqueue.specs.declared.run.RunEnd.{RunEnd}
use Rattle.virtqueue.specs.declared.run.RunEnd.TheVariants as end
use Rattle.virtqueue.specs.declared.run.Ran.{Ran}
use Rattle.device_words.specs.Words.{is_device, device_of, device_words, device_length}
use Rattle.virtqueue.specs.Does.{step_fault, answer_of}
use Rattle.virtqueue.proofs.DeviceLaws.{tables, step_tables, laid_back, full}
use Rattle.virtqueue.proofs.StepLaws.{Left}
use Rattle.virtqueue.proofs.RunSteps.{step_kept, run_is_steps}

-- k more steps on records that were judged
abbrev pub steps_from : FlatView → ℕ → ℕ → Bool → MemoryDevice → SplitQueue → List ℕ → RunEffect
steps_from v = steps_by (judged_step v)

-- the state of the loop, by the device's words: what is left of the run from here is what the whole run comes to
pub record Running (v : FlatView) (most : ℕ) (memory₀ : List ℕ) (d₀ : MemoryDevice) (q₀ : SplitQueue) (memory w : List ℕ) (q : SplitQueue) (served : ℕ) (notified : Bool) : Type 0 where
  pub low : served ≤ most
  pub same : length memory ≡ length memory₀
  pub words : length w ≡ device_length
  pub device : device_ok (device_of w) ≡ true
  pub queue : queue_ok q ≡ true
  pub rest : steps_from v (most - served) served notified (device_of w) q memory ≡ steps_from v most 0 false d₀ q₀ memory₀

-- what the loop leaves
abbrev pub Ends : FlatView → ℕ → List ℕ → MemoryDevice → SplitQueue → ℕ → Bool → Result RunEnd StepFault → SplitQueue → List ℕ → List ℕ → Type 0
Ends v most memory₀ d₀ q₀ served notified e q w memory =
    run_ends served notified (run_end_of e) (device_of w) q memory ≡ steps_from v most 0 false d₀ q₀ memory₀

module _ (v : FlatView) (most : ℕ) (memory₀ w₀ : List ℕ) (q₀ : SplitQueue) where
  pub run_starts : length w₀ ≡ device_length → device_ok (device_of w₀) ≡ true → queue_ok q₀ ≡ true → Running v most memory₀ (device_of w₀) q₀ memory₀ w₀ q₀ 0 false
  run_starts l h k =
      let e : most - 0 ≡ most = omega arith in
      record { low = omega arith; same = refl; words = l; device = h; queue = k; rest = rw e }

module _ (v : FlatView) (most : ℕ) (memory₀ : List ℕ) (d₀ : MemoryDevice) (q₀ : SplitQueue)
    (memory w : List ℕ) (q : SplitQueue) (served : ℕ) (notified : Bool) (r : Running v most memory₀ d₀ q₀ memory w q served notified) where
  pub run_all : most ≤ served → Ends v most memory₀ d₀ q₀ served notified (Ok end.AllDone) q w memory
  unfolding steps_by
  run_all l = let e : most - served ≡ 0 = omega (arith, r.low) in rw e at r.rest

  module _ (l : served < most) (s : Moved) (x m : List ℕ) (left : Left v w q memory s x m) (z : length x ≡ length w) where
    abbrev d : MemoryDevice
    d = device_of w

    -- the device after the step is what its words stand for
    back : device_of x ≡ (stepped_by (by_view v d) d q memory).device
    back =
        let k = step_tables (by_view v d) d q memory (tables w r.words) in
        ap device_of (left.2 ∙ (let x = eq-eqb (length w) device_length r.words in rw x)) ∙ record_back (stepped_by (by_view v d) d q memory).device k.0 k.1

    abbrev effect : Effect MemoryDevice
    effect = record { answer = answer_of s.outcome; device = device_of x; queue = s.queue; memory = m }

    is : effect ≡ stepped_by (by_view v d) d q memory
    is = λ i. record { answer = left.0 i; device = back i; queue = left.1 i; memory = left.3 i }

    run_step : (o : Answer) → answer_of s.outcome ≡ o → goes_on served notified (steps_from v (most - (served + 1))) effect o ≡ steps_from v most 0 false d₀ q₀ memory₀
    unfolding steps_by
    run_step o g =
        let p : most - served ≡ suc (most - (served + 1)) = omega arith in
        let i = rw p at r.rest in
        let h : (stepped_by (by_view v d) d q memory).answer ≡ o = sym (ap (λ (e : Effect MemoryDevice). e.answer) is) ∙ g in
        rw (is, ← h) i

    pub run_refused : (f : StepFault) → s.outcome ≡ Err f → Ends v most memory₀ d₀ q₀ served notified (Err f) s.queue x m
    run_refused f g = run_step (refused (step_fault f)) (ap answer_of g)

    pub run_idle : (o : Option Served) → s.outcome ≡ Ok o → o ≡ None → Ends v most memory₀ d₀ q₀ served notified (Ok end.Idle) s.queue x m
    run_idle o e f = let g : s.outcome ≡ Ok None = rw f at e in run_step step.idle (ap answer_of g)

    pub run_turn : (b : Served) (o : Option Served) → s.outcome ≡ Ok o → o ≡ Some b → length m ≡ length memory → Running v most memory₀ d₀ q₀ m x s.queue (served + 1) (notified || b.notify)
    run_turn b o e f y =
        let g : s.outcome ≡ Ok (Some b) = rw f at e in
        let k = step_kept (by_view v d) d q memory b.notify r.device r.queue (sym (ap (λ (e : Effect MemoryDevice). e.answer) is) ∙ ap answer_of g) in
        record {
          low = omega arith;
          same = y ∙ r.same;
          words = z ∙ r.words;
          device = rw back k.0;
          queue = ap (λ (e : Effect MemoryDevice). queue_ok e.queue) is ∙ k.1;
          rest = run_step (step.served b.notify) (ap answer_of g);
        }

-- the run on records that keep 27's rules or not
abbrev pub RunLeft : FlatView → List ℕ → SplitQueue → List ℕ → ℕ → Ran → List ℕ → List ℕ → Type 0
RunLeft v w q memory k r device m = RunDoes w (ran v (device_of w) q memory k) r device m

module _ (v : FlatView) (w : List ℕ) (q : SplitQueue) (memory : List ℕ) (k : ℕ) where
  -- what ran comes to, where a loop that judged once left it
  left_as : (e : RunEffect) (r : Ran) (x m : List ℕ) → is_device w ≡ true → length x ≡ length w
      → run_ends r.served r.notified (run_end_of r.end) (device_of x) r.queue m ≡ e → RunDoes w e r x m
  left_as e r x m i l f =
      rw i (
        ap (λ (y : RunEffect). y.served) f,
        ap (λ (y : RunEffect). y.notified) f,
        ap (λ (y : RunEffect). y.end) f,
        ap (λ (y : RunEffect). y.queue) f,
        sym (words_of x (l ∙ eqb-true (length w) device_length i)) ∙ ap (λ (y : RunEffect). device_words y.device) f,
        ap (λ (y : RunEffect). y.memory) f,
      )

  pub run_judged : records_ok v (device_of w) q (length memory) ≡ true → (most : ℕ) → most ≡ min k 256 → (r : Ran) (x m : List ℕ) → length x ≡ length w
      → Ends v most memory (device_of w) q r.served r.notified r.end r.queue x m
      → RunLeft v w q memory k r x m
  unfolding ran
  run_judged h most e r x m l f =
      rw (h, ← e) (left_as (steps_by (stepped v) most 0 false (device_of w) q memory) r x m (full v w q (length memory) h) l (f ∙ run_is_steps v most 0 false (device_of w) q memory h))

  pub run_refused_all : records_ok v (device_of w) q (length memory) ≡ false
      → RunLeft v w q memory k (record { served = 0; notified = false; end = Err fault.Record; queue = q }) w memory
  unfolding ran
  run_refused_all h = rw h (refl, refl, refl, refl, sym (laid_back w), refl)
