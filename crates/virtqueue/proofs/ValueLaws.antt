-- A step over records by value is the step over words. Assumes nothing.
use Rattle.std.proofs.Common.{◌≡◌, ℕ, Bool, true, false, cond, List, length, ap, ◌∙◌, eq-eqb}
use Rattle.map_records.specs.declared.view.FlatView.{FlatView}
use Rattle.device_words.specs.Device.{MemoryDevice}
use Rattle.device_words.specs.Words.{device_of, device_words, device_length}
use Rattle.device_words.proofs.DeviceWords.{words_length, record_back}
use Rattle.guest_view.specs.Guest.{by_view}
use Rattle.memory_device.specs.Record.{record_of}
use Rattle.memory_device.specs.declared.device.MemoryDevice as value
use Rattle.virtqueue.specs.Step.{Effect, refused, unmoved, stepped_by, records_ok, stepped}
use Rattle.virtqueue.specs.Does.{laid, Does}
use Rattle.virtqueue.specs.declared.queue.SplitQueue.{SplitQueue}
use Rattle.virtqueue.specs.declared.step.Moved.{Moved}
use Rattle.virtqueue.proofs.DeviceLaws.{Tables, step_tables}
use Rattle.virtqueue.proofs.StepLaws.{LeftAny}

stepped_tables : (v : FlatView) (d : MemoryDevice) (q : SplitQueue) (memory : List ℕ) → Tables d → Tables (stepped v d q memory).device
unfolding stepped
stepped_tables v d q memory t = go (records_ok v d q (length memory))
  where
    go : (b : Bool) → Tables (cond b (stepped_by (by_view v d) d q memory) (unmoved (refused 27) d q memory)).device
    go true = step_tables (by_view v d) d q memory t
    go false = t

module _ (v : FlatView) (d : value.MemoryDevice) (q : SplitQueue) (memory w x m : List ℕ) (s : Moved) (r : value.MemoryDevice)
    (laid_in : w ≡ device_words (record_of d)) (stands : device_of w ≡ record_of d) (t : Tables (record_of d)) (left : LeftAny v w q memory s x m) (back : record_of r ≡ device_of x) where
  abbrev after : Effect MemoryDevice
  after = stepped v (record_of d) q memory

  same : stepped v (device_of w) q memory ≡ after
  same = ap (λ (e : MemoryDevice). stepped v e q memory) stands

  whole : laid w (stepped v (device_of w) q memory).device ≡ device_words after.device
  whole = rw (eq-eqb (length w) device_length (ap length laid_in ∙ words_length (record_of d) t.0 t.1)) (ap (λ (e : Effect MemoryDevice). device_words e.device) same)

  device_is : record_of r ≡ after.device
  device_is =
      let k = stepped_tables v (record_of d) q memory t in
      back ∙ ap device_of (left.2 ∙ whole) ∙ record_back after.device k.0 k.1

  pub value_stepped : Does after (record { outcome = s.outcome; device = r; queue = s.queue }) m
  value_stepped = (
    left.0 ∙ ap (λ (e : Effect MemoryDevice). e.answer) same,
    device_is,
    left.1 ∙ ap (λ (e : Effect MemoryDevice). e.queue) same,
    left.3 ∙ ap (λ (e : Effect MemoryDevice). e.memory) same,
  )
