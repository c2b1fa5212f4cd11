-- Judging the records once gives what k single steps give, each of the public kind that judges its records, up to the first idle or stop. Assumes nothing.
use Rattle.std.proofs.Common.{◌≡◌, ℕ, zero, suc, ◌+◌, ◌-◌, min, Bool, true, false, cond, ◌&&◌, ◌||◌, List, [], ◌∷◌, length, set, sym, refl, ap, ◌∙◌, arith, length-set}
use Rattle.map_records.specs.declared.view.FlatView.{FlatView}
use Rattle.map_check.proofs.Bools.{and_fst, and_snd, and_true}
use Rattle.device_words.specs.Device.{device_ok}
use Rattle.device_words.specs.Request.{request_of}
use Rattle.device_words.specs.Device.{MemoryDevice}
use Rattle.guest_view.specs.Guest.{Guest, written, by_view}
use Rattle.guest_view.specs.View.{view_ok}
use Rattle.virtqueue.specs.Queue.{queue_ok}
use Rattle.virtqueue.specs.Step.{Answer, refused, idle, served, Offer, stop, nothing, ready, offered, request_bytes, response_places, carrying, Effect, unmoved, finished, stepped_by, records_ok, stepped}
use Rattle.virtqueue.specs.Run.{judged_step, run_ends, refused_by, goes_on, steps_by, single_steps, ran}
use Rattle.virtqueue.specs.declared.queue.SplitQueue.{SplitQueue}
use Rattle.device_words.proofs.Kept.{change_kept}

-- writes keep memory's length
pub written_length : (memory places bytes : List ℕ) → length (written memory places bytes) ≡ length memory
unfolding written
written_length memory [] bytes = refl
written_length memory (p ∷ ps) [] = refl
written_length memory (p ∷ ps) (b ∷ bs) = written_length (set memory p b) ps bs ∙ length-set memory p b

module _ (g : Guest) (d : MemoryDevice) (q : SplitQueue) (memory : List ℕ) where
  finish_length : (x : Offer) → length (finished g d q memory x).memory ≡ length memory
  finish_length (stop k) = refl
  finish_length nothing = refl
  finish_length (ready h n c) =
      written_length (written memory (response_places g.place c) (carrying d (request_bytes g.place memory c)).response) _ _
      ∙ written_length memory (response_places g.place c) (carrying d (request_bytes g.place memory c)).response

  finish_region : (x : Offer) → (finished g d q memory x).device.region_size ≡ d.region_size
  unfolding carrying
  finish_region (stop k) = refl
  finish_region nothing = refl
  finish_region (ready h n c) = refl

-- a step that is served keeps the device's and the queue's rules
module _ (g : Guest) (d : MemoryDevice) (q : SplitQueue) (memory : List ℕ) (b : Bool) (h : device_ok d ≡ true) (k : queue_ok q ≡ true) where
  finish_kept : (x : Offer) → (finished g d q memory x).answer ≡ served b
      → (device_ok (finished g d q memory x).device ≡ true) × (queue_ok (finished g d q memory x).queue ≡ true)
  unfolding carrying queue_ok
  finish_kept (stop n) e = absurd (let z : ◌≡◌ {A = ℕ} 0 1 = cc in omega arith)
  finish_kept nothing e = absurd (let z : ◌≡◌ {A = ℕ} 0 1 = cc in omega arith)
  finish_kept (ready n notify c) e = (change_kept d (request_of (request_bytes g.place memory c)) h, k)

  pub step_kept : (stepped_by g d q memory).answer ≡ served b
      → (device_ok (stepped_by g d q memory).device ≡ true) × (queue_ok (stepped_by g d q memory).queue ≡ true)
  unfolding stepped_by
  step_kept e = finish_kept (offered g memory q) e

module _ (v : FlatView) where
  -- after a served step 27 lets the records pass again
  records_kept : (d : MemoryDevice) (q : SplitQueue) (memory : List ℕ) (b : Bool) → records_ok v d q (length memory) ≡ true
      → (stepped_by (by_view v d) d q memory).answer ≡ served b
      → records_ok v (stepped_by (by_view v d) d q memory).device (stepped_by (by_view v d) d q memory).queue (length (stepped_by (by_view v d) d q memory).memory) ≡ true
  unfolding records_ok stepped_by
  records_kept d q memory b ok e =
      let view = and_fst (view_ok v (length memory) d.region_size) (device_ok d && queue_ok q) ok in
      let both = and_snd (view_ok v (length memory) d.region_size) (device_ok d && queue_ok q) ok in
      let kept = step_kept (by_view v d) d q memory b (and_fst (device_ok d) (queue_ok q) both) (and_snd (device_ok d) (queue_ok q) both) e in
      let o = offered (by_view v d) memory q in
      and_true _ _
      (ap (λ (n : ℕ). view_ok v n (finished (by_view v d) d q memory o).device.region_size) (finish_length (by_view v d) d q memory o)
      ∙ ap (view_ok v (length memory)) (finish_region (by_view v d) d q memory o) ∙ view)
      (and_true _ _ kept.0 kept.1)

  pub run_is_steps : (k count : ℕ) (notified : Bool) (d : MemoryDevice) (q : SplitQueue) (memory : List ℕ) → records_ok v d q (length memory) ≡ true
      → steps_by (judged_step v) k count notified d q memory ≡ steps_by (stepped v) k count notified d q memory
  unfolding steps_by stepped
  run_is_steps zero count notified d q memory ok = refl
  run_is_steps (suc k) count notified d q memory ok =
      go (judged_step v d q memory).answer refl
      (λ b e. run_is_steps k (count + 1) (notified || b) (judged_step v d q memory).device (judged_step v d q memory).queue (judged_step v d q memory).memory (records_kept d q memory b ok e))
      ∙ ap (λ (f : Effect MemoryDevice). goes_on count notified (steps_by (stepped v) k) f f.answer) (sym single)
    where
      single : stepped v d q memory ≡ judged_step v d q memory
      single = rw ok

      go : (x : Answer) → (judged_step v d q memory).answer ≡ x
          → ((b : Bool) → (judged_step v d q memory).answer ≡ served b
          → steps_by (judged_step v) k (count + 1) (notified || b) (judged_step v d q memory).device (judged_step v d q memory).queue (judged_step v d q memory).memory
          ≡ steps_by (stepped v) k (count + 1) (notified || b) (judged_step v d q memory).device (judged_step v d q memory).queue (judged_step v d q memory).memory)
          → goes_on count notified (steps_by (judged_step v) k) (judged_step v d q memory) x ≡ goes_on count notified (steps_by (stepped v) k) (judged_step v d q memory) x
      go (refused n) e f = refl
      go idle e f = refl
      go (served b) e f = f b e

  -- 'A run of k steps .. equals k single steps up to the first idle or stop', of records that 27 refuses too
  pub run_single : (k : ℕ) (d : MemoryDevice) (q : SplitQueue) (memory : List ℕ) → ran v d q memory (suc k) ≡ single_steps v (min (suc k) 256) d q memory
  unfolding ran steps_by stepped
  run_single k d q memory = go (records_ok v d q (length memory)) refl
    where
      broken : (n : ℕ) → records_ok v d q (length memory) ≡ false → run_ends 0 false (refused_by 27) d q memory ≡ steps_by (stepped v) (suc n) 0 false d q memory
      broken n e =
          let f : stepped v d q memory ≡ unmoved (refused 27) d q memory = rw e in
          ap (λ (x : Effect MemoryDevice). goes_on 0 false (steps_by (stepped v) n) x x.answer) (sym f)

      go : (b : Bool) → records_ok v d q (length memory) ≡ b
          → cond (records_ok v d q (length memory)) (steps_by (stepped v) (min (suc k) 256) 0 false d q memory) (run_ends 0 false (refused_by 27) d q memory)
          ≡ steps_by (stepped v) (min (suc k) 256) 0 false d q memory
      go true e = rw e
      go false e =
          let n : suc (min (suc k) 256 - 1) ≡ min (suc k) 256 = omega arith in
          rw e (broken (min (suc k) 256 - 1) e ∙ ap (λ (m : ℕ). steps_by (stepped v) m 0 false d q memory) n)
