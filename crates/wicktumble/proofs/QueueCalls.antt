-- What the calls over queues say, from what the calls inside them give. Assumes nothing.
use mathlib.Core.Path.{◌≡◌, refl, sym, ap, ◌∙◌}
use mathlib.Core.Bool.{Bool, true, false, cond, ◌&&◌}
use mathlib.Core.List.{List, []}
use Prim.Native.Nat.{ℕ, ◌<◌}
use native.Mathlib.Omega.{arith}
use lib.ListN.{length}
use borrow.Author.Tests.{eq-eqb}
use Rattle.std.proofs.Common.{Result, Ok, Err, Option, Some, None}
use Rattle.std.specs.Option.{ok_or}
use Rattle.std.specs.Result.{IsErr}
use Rattle.map_records.specs.Words.{view_of}
use Rattle.map_records.specs.Limits.{is_view}
use Rattle.map_check.specs.Reply.{number_of, reply_by}
use Rattle.map_check.specs.declared.answer.RecordFault.{RecordFault}
use Rattle.device_words.specs.Device.{MemoryDevice}
use Rattle.device_words.specs.Words.{is_device, device_of, device_words}
use Rattle.memory_device.specs.Record.{record_fault_reply, record_reply}
use Rattle.memory_device.specs.declared.refused.Refused.{Refused}
use Rattle.virtqueue.specs.Queue.{size_ok, areas_ok, made, was_reset, given_by}
use Rattle.virtqueue.specs.Step.{Answer, stepped}
use Rattle.virtqueue.specs.Does.{answer_of, step_fault_reply, laid, DoesIn}
use Rattle.virtqueue.specs.Run.{run_end_of, ran, RunDoes}
use Rattle.virtqueue.specs.declared.queue.SplitQueue.{SplitQueue}
use Rattle.virtqueue.specs.declared.step.Moved.{Moved}
use Rattle.virtqueue.specs.declared.step.Served.{Served}
use Rattle.virtqueue.specs.declared.step.StepFault.{StepFault}
use Rattle.virtqueue.specs.declared.run.Ran.{Ran}
use Rattle.virtqueue.specs.declared.run.RunEnd.{RunEnd}
use Rattle.virtqueue.specs.declared.run.RunEnd.TheVariants.{AllDone, Idle}
use Rattle.virtqueue.proofs.QueueLaws.{size_bounds}
use Rattle.wicktumble.specs.Result.{Returns, padded, result_length, is_result}
use Rattle.wicktumble.specs.Devices.{ReturnsWords}
use Rattle.wicktumble.specs.Queues.{queue_length, queue_fits, queue_of, queue_words, gives, reset_queue_call, StepReport, ReturnsStep, records_fit}
use Rattle.wicktumble.specs.Queues.{step_result, step_call, run_result, run_call}
use Rattle.wicktumble.specs.Promises.{told_by, served_words, run_words, queue_read, queue_lent}
use Rattle.wicktumble.proofs.CallLaws.{told_as}
use Rattle.wicktumble.proofs.QueueWords.{queue_widths}

-- ---- the queue that is read
pub record Read (w : List ℕ) (q : SplitQueue) : Type 0 where
  pub fits : queue_fits w ≡ true
  pub long : length w ≡ queue_length
  pub queue : q ≡ queue_of w

module _ (w : List ℕ) where
  read_by : (t : Bool) → queue_fits w ≡ t → {q : SplitQueue} → cond t (Some (queue_of w)) None ≡ Some q → Read w q
  read_by true e s = record { fits = e; long = (queue_widths w e).seven; queue = cc }
  read_by false e s = cc

  pub read_some : {o : Option SplitQueue} {q : SplitQueue} → o ≡ queue_read w → o ≡ Some q → Read w q
  unfolding queue_read
  read_some e s = read_by (queue_fits w) refl (cc)

  unread : (t : Bool) → cond t (Some (queue_of w)) None ≡ None → t ≡ false
  unread true s = cc
  unread false s = refl

  pub read_none : {o : Option SplitQueue} → o ≡ queue_read w → o ≡ None → queue_fits w ≡ false
  unfolding queue_read
  read_none e s = unread (queue_fits w) (cc)

-- ---- the queue of a step or a run
pub record Lent (v d w : List ℕ) (q : SplitQueue) : Type 0 where
  pub view : is_view v ≡ true
  pub device : is_device d ≡ true
  pub read : Read w q

module _ (v d w : List ℕ) where
  lent_by : (s t : Bool) → is_view v ≡ s → is_device d ≡ t → {q : SplitQueue} → cond (s && t) (queue_read w) None ≡ Some q → Lent v d w q
  lent_by true true e f h = record { view = e; device = f; read = read_some w refl h }
  lent_by true false e f h = cc
  lent_by false t e f h = cc

  pub lent_some : {o : Option SplitQueue} {q : SplitQueue} → o ≡ queue_lent v d w → o ≡ Some q → Lent v d w q
  lent_some e s = lent_by (is_view v) (is_device d) refl refl (cc)

  unlent : (s t : Bool) (x : List ℕ) → cond (s && t) (queue_read w) None ≡ None → (s && (t && (queue_fits w && is_result x))) ≡ false
  unlent true true x h = rw (read_none w refl h)
  unlent true false x h = refl
  unlent false t x h = refl

  pub lent_none : {o : Option SplitQueue} (x : List ℕ) → o ≡ queue_lent v d w → o ≡ None → records_fit v d w x ≡ false
  lent_none x e s = unlent (is_view v) (is_device d) x (cc)

-- ---- a size past 16 bits is no power of two from 1 to 256
module _ (size a b u : ℕ) (l : 65535 < size) where
  size_large : size_ok size ≡ false
  size_large = go (size_ok size) refl
    where
      go : (t : Bool) → size_ok size ≡ t → t ≡ false
      go true e = absurd (omega (arith, l, (size_bounds size e).1))
      go false e = refl

  areas_large : areas_ok size a b u ≡ false
  unfolding areas_ok
  areas_large = rw size_large

  pub made_large : (w : List ℕ) → ReturnsWords (gives (made size a b u) w) 16 w
  unfolding made
  made_large w = (rw areas_large, rw areas_large)

-- ---- a reset
ok_or_none : {A E : Type 0} (o : Option A) (e : E) {d : E} → ok_or o e ≡ Err d → o ≡ None
ok_or_none (Some x) e s = cc
ok_or_none None e s = refl

ok_or_some : {A E : Type 0} (o : Option A) (e : E) {x : A} → ok_or o e ≡ Ok x → o ≡ Some x
ok_or_some (Some y) e s = cc
ok_or_some None e s = cc

pub record_number : {A : Type 0} (r : Result A RecordFault) → IsErr r → number_of (record_reply r) ≡ 27
record_number (Ok a) h = cc
record_number (Err e) h = refl

module _ (w : List ℕ) where
  pub unread_by : {o : Option SplitQueue} {e d : RecordFault} {r : Result SplitQueue RecordFault} → o ≡ queue_read w → r ≡ ok_or o e → r ≡ Err d → queue_fits w ≡ false
  unread_by {o = o} {e = e} q f s = read_none w q (ok_or_none o e (sym f ∙ s))

  pub read_as_given : {o : Option SplitQueue} {e : RecordFault} {x : SplitQueue} {r : Result SplitQueue RecordFault} → o ≡ queue_read w → r ≡ ok_or o e → r ≡ Ok x → Read w x
  read_as_given {o = o} {e = e} q f s = read_some w q (ok_or_some o e (sym f ∙ s))

  pub reset_unfit : {n : ℕ} → queue_fits w ≡ false → n ≡ 27 → ReturnsWords (reset_queue_call w) n w
  unfolding reset_queue_call
  reset_unfit f e = rw f (e, refl)

  pub reset_refused : {n : ℕ} {q : SplitQueue} {r : Result SplitQueue (Refused RecordFault SplitQueue)} {d : Refused RecordFault SplitQueue} → Read w q
      → given_by record_fault_reply r ≡ was_reset q → r ≡ Err d → n ≡ 27 → ReturnsWords (reset_queue_call w) n w
  unfolding reset_queue_call
  reset_refused l g s e = rw (l.fits, ← l.queue, ← g, s) (e, refl)

  pub reset_done : {q p : SplitQueue} {r : Result SplitQueue (Refused RecordFault SplitQueue)} {w' : List ℕ} → Read w q → given_by record_fault_reply r ≡ was_reset q → r ≡ Ok p
      → w' ≡ queue_words p → ReturnsWords (reset_queue_call w) 0 w'
  unfolding reset_queue_call
  reset_done l g s e = rw (l.fits, ← l.queue, ← g, s) (refl, e)

-- ---- what the outcome of a step tells, and the end of a run
step_told : (a : Result (Option Served) StepFault) → told_by served_words (λ _. []) step_fault_reply a ≡ step_result (answer_of a)
step_told (Ok None) = refl
step_told (Ok (Some s)) = refl
step_told (Err f) = refl

run_number : (served : ℕ) (notified : Bool) (a : Result RunEnd StepFault) → number_of (reply_by step_fault_reply a) ≡ (run_result served notified (run_end_of a)).number
run_number n b (Ok AllDone) = refl
run_number n b (Ok Idle) = refl
run_number n b (Err f) = refl

-- ---- a step or a run: the device's words lie as it left them, the queue's are put
pub left_as : {c c' : StepReport} {n : ℕ} {d q m x : List ℕ} → ReturnsStep c n d q m x → c ≡ c' → ReturnsStep c' n d q m x
left_as (d, q, m, t) e = (
  d ∙ ap (λ (y : StepReport). y.device) e,
  q ∙ ap (λ (y : StepReport). y.queue) e,
  m ∙ ap (λ (y : StepReport). y.memory) e,
  told_as t (ap (λ (y : StepReport). y.told) e),
)

laid_in : (d : List ℕ) (y : MemoryDevice) → is_device d ≡ true → laid d y ≡ device_words y
laid_in d y f = rw f

module _ (v d w m x : List ℕ) {y : SplitQueue} (l : Lent v d w y) (f : length x ≡ result_length) where
  fit : records_fit v d w x ≡ true
  fit = rw (l.view, l.device, l.read.fits, eq-eqb (length x) result_length f)

  pub step_done : (r : Moved) {n : ℕ} {d' w' m' x' : List ℕ} → DoesIn d (stepped (view_of v) (device_of d) y m) r d' m'
      → w' ≡ queue_words r.queue → Returns (told_by served_words (λ _. []) step_fault_reply r.outcome) n x' → ReturnsStep (step_call v d w m x) n d' w' m' x'
  unfolding step_call
  step_done r (ea, er, ed, em) ew told =
      rw (fit, ← l.read.queue)
      (ed ∙ laid_in d _ l.device, ew ∙ ap queue_words er, em, told_as told (step_told r.outcome ∙ ap (λ (z : Answer). step_result z) ea))

  pub run_done : (k : ℕ) (r : Ran) {n : ℕ} {d' w' m' x' : List ℕ} → RunDoes d (ran (view_of v) (device_of d) y m k) r d' m'
      → w' ≡ queue_words r.queue → n ≡ number_of (reply_by step_fault_reply r.end) → x' ≡ padded (run_words r) → ReturnsStep (run_call v d w m k x) n d' w' m' x'
  unfolding run_call
  run_done k r (es, en, ee, er, ed, em) ew en' ex =
      rw (fit, ← l.read.queue) (
        ed ∙ laid_in d _ l.device,
        ew ∙ ap queue_words er,
        em,
        told_as (en' ∙ run_number r.served r.notified r.end, ex) (λ i. run_result (es i) (en i) (ee i)),
      )

-- ---- and where the records do not fit, all stays
module _ (v d w m x : List ℕ) (f : records_fit v d w x ≡ false) {n : ℕ} (e : n ≡ 27) where
  pub step_refused : ReturnsStep (step_call v d w m x) n d w m x
  unfolding step_call
  step_refused = rw f (refl, refl, refl, (e, refl))

  pub run_refused : (k : ℕ) → ReturnsStep (run_call v d w m k x) n d w m x
  unfolding run_call
  run_refused k = rw f (refl, refl, refl, (e, refl))
