-- Laws of a step over a device's words: what 27 says of them, and what they are after a step. Assumes nothing.
use Rattle.std.proofs.Common.{◌≡◌, ℕ, Bool, true, false, ◌&&◌, List, length, sym, refl, ap, ◌∙◌, eqb-true}
use borrow.Author.Tests.{eqb-false}
use Rattle.map_records.specs.declared.view.FlatView.{FlatView}
use Rattle.map_check.proofs.Bools.{never, and_fst, and_snd}
use Rattle.device_words.specs.Device.{MemoryDevice, sizes_of, device_ok}
use Rattle.device_words.specs.Request.{request_of, answered}
use Rattle.device_words.specs.Words.{is_device, device_of, device_length}
use Rattle.device_words.proofs.AnswerLaws.{table_whole}
use Rattle.device_words.proofs.DeviceWords.{device_at_lem, device_none, none_refused, plugged_length, pins_length, words_of}
use Rattle.guest_view.specs.View.{view_ok}
use Rattle.virtqueue.specs.Does.{laid}
use Rattle.virtqueue.specs.Queue.{queue_ok}
use Rattle.guest_view.specs.Guest.{Guest}
use Rattle.virtqueue.specs.Step.{Offer, stop, nothing, ready, offered, request_bytes, carrying, finished, stepped_by, records_ok}
use Rattle.virtqueue.specs.declared.queue.SplitQueue.{SplitQueue}

-- the lengths of a record's two tables
abbrev pub Tables : MemoryDevice → Type 0
Tables d = (length d.plugged ≡ 16) × (length d.pinned ≡ 16)

pub tables : (w : List ℕ) → length w ≡ device_length → Tables (device_of w)
tables w l = rw (device_at_lem w l) (plugged_length w l, pins_length w l)

-- a step keeps the lengths of the device's tables
carried_tables : (d : MemoryDevice) (s : List ℕ) → Tables d → Tables (carrying d s).device
unfolding carrying
carried_tables d s t = (table_whole (sizes_of d) d.plugged (request_of s) (answered d (request_of s)) t.0, t.1)

pub step_tables : (g : Guest) (d : MemoryDevice) (q : SplitQueue) (memory : List ℕ) → Tables d → Tables (stepped_by g d q memory).device
unfolding stepped_by
step_tables g d q memory t = go (offered g memory q)
  where
    go : (o : Offer) → Tables (finished g d q memory o).device
    go (stop n) = t
    go nothing = t
    go (ready n notify c) = carried_tables d (request_bytes g.place memory c) t

pub laid_back : (w : List ℕ) → laid w (device_of w) ≡ w
laid_back w = go (is_device w) refl
  where
    go : (b : Bool) → is_device w ≡ b → laid w (device_of w) ≡ w
    go true h = rw h (words_of w (eqb-true (length w) device_length h))
    go false h = rw h

-- words of another number are refused, so that records that 27 lets pass have a whole device
pub refused_short : (w : List ℕ) → (length w ≡ device_length → ⊥) → device_ok (device_of w) ≡ false
refused_short w n = ap device_ok (device_none w n) ∙ none_refused

pub full : (v : FlatView) (w : List ℕ) (q : SplitQueue) (n : ℕ) → records_ok v (device_of w) q n ≡ true → is_device w ≡ true
unfolding records_ok
full v w q n h = go (is_device w) refl
  where
    go : (b : Bool) → is_device w ≡ b → b ≡ true
    go true e = refl
    go false e =
        let y = and_snd (view_ok v n (device_of w).region_size) (device_ok (device_of w) && queue_ok q) h in
        absurd (never (sym (and_fst (device_ok (device_of w)) (queue_ok q) y) ∙ refused_short w (eqb-false (length w) device_length e)))

pub records_short : (v : FlatView) (w : List ℕ) (q : SplitQueue) (n : ℕ) → (length w ≡ device_length → ⊥) → false ≡ records_ok v (device_of w) q n
unfolding records_ok
records_short v w q n l = rw (refused_short w l) (go (view_ok v n (device_of w).region_size))
  where
    go : (b : Bool) → false ≡ (b && false)
    go true = refl
    go false = refl
