-- A served step carries its request out, and a run those of its single steps; so from the fresh state on, over any sequence of host calls, requests, steps and runs, the plugged blocks are those acknowledged in less those acknowledged out, and the record stays valid. Assumes nothing.
use Rattle.std.proofs.Common.{◌≡◌, ℕ, zero, suc, ◌+◌, ◌<◌, min, Bool, true, false, cond, ◌&&◌, ◌||◌, List, [], ◌∷◌, length, sym, refl, ap, ◌∙◌}
use Rattle.map_records.specs.declared.view.FlatView.{FlatView}
use Rattle.map_check.proofs.Bools.{never, and_fst, and_snd}
use Rattle.device_words.specs.Table.{bit_at}
use Rattle.device_words.specs.Device.{MemoryDevice, fresh, device_ok}
use Rattle.device_words.specs.Request.{RequestOutcome}
use Rattle.device_words.proofs.TableLaws.{zero_bit}
use Rattle.guest_view.specs.Guest.{Guest, by_view}
use Rattle.guest_view.specs.View.{view_ok}
use Rattle.memory_device.specs.Calls as device
use Rattle.memory_device.proofs.Kept.{carry_through}
use Rattle.memory_device.proofs.Plugged as device-laws
use Rattle.virtqueue.specs.Queue.{queue_ok}
use Rattle.virtqueue.specs.Step.{entry, comes_to, Offer, stop, nothing, ready, offered, response_places, used_places, used_bytes, carrying, served_memory, Answer, refused, idle, served, Effect, unmoved, finished, stepped_by, records_ok, stepped}
use Rattle.virtqueue.specs.Run.{goes_on, steps_by, ran}
use Rattle.virtqueue.specs.Calls.{Call, host, step, run, called, is_served, request_read, requests_in, asked_by, after, ledger, CarriesOut}
use Rattle.virtqueue.specs.declared.queue.SplitQueue.{SplitQueue}
use Rattle.virtqueue.proofs.Demand3.{serving, unserved}

-- a step that is not served keeps the device
finish_keeps : (g : Guest) (d : MemoryDevice) (q : SplitQueue) (memory : List ℕ) (o : Offer) → is_served (finished g d q memory o).answer ≡ false → (finished g d q memory o).device ≡ d
finish_keeps g d q memory (stop k) e = refl
finish_keeps g d q memory nothing e = refl
finish_keeps g d q memory (ready h n c) e = absurd (never e)

device_ok_lem : (v : FlatView) (d : MemoryDevice) (q : SplitQueue) (n : ℕ) → records_ok v d q n ≡ true → device_ok d ≡ true
unfolding records_ok
device_ok_lem v d q n r = and_fst (device_ok d) (queue_ok q) (and_snd (view_ok v n d.region_size) (device_ok d && queue_ok q) r)

module _ (v : FlatView) (d : MemoryDevice) (q : SplitQueue) (memory : List ℕ) where
  -- 'carried out as the request': through the public definition with 27
  pub served_carries : (notify : Bool) → (stepped v d q memory).answer ≡ served notify → CarriesOut v d q memory
  unfolding stepped stepped_by carrying
  served_carries notify e = go (records_ok v d q (length memory)) refl
    where
      go : (x : Bool) → records_ok v d q (length memory) ≡ x → CarriesOut v d q memory
      go true r =
          let g = by_view v d in
          let is : stepped v d q memory ≡ finished g d q memory (offered g memory q) = rw r in
          let k = is ∙ serving g d q memory notify (ap (λ (f : Effect MemoryDevice). f.answer) (sym is) ∙ e) in
          let o = carry_through d (request_read v d q memory) (device_ok_lem v d q (length memory) r) in
          record {
            reply = ap (λ (x : RequestOutcome). x.reply) o;
            device = ap (λ (f : Effect MemoryDevice). f.device) k ∙ sym (ap (λ (x : RequestOutcome). x.device) o);
            left = ap (λ (f : Effect MemoryDevice). f.memory) k
                ∙ ap (λ (x : RequestOutcome). served_memory memory (response_places g.place (comes_to g memory q)) x.response (used_places g.place q) (used_bytes q.next_used (entry g memory q))) (sym o);
          }
      go false r =
          let is : stepped v d q memory ≡ unmoved (refused 27) d q memory = rw r in
          unserved 27 notify (ap (λ (f : Effect MemoryDevice). f.answer) (sym is) ∙ e)

  -- any other step leaves the device as it was
  pub unserved_keeps : is_served (stepped v d q memory).answer ≡ false → (stepped v d q memory).device ≡ d
  unfolding stepped stepped_by
  unserved_keeps e = go (records_ok v d q (length memory)) refl
    where
      go : (x : Bool) → records_ok v d q (length memory) ≡ x → (stepped v d q memory).device ≡ d
      go true r =
          let g = by_view v d in
          let is : stepped v d q memory ≡ finished g d q memory (offered g memory q) = rw r in
          ap (λ (f : Effect MemoryDevice). f.device) is
          ∙ finish_keeps g d q memory (offered g memory q) (ap (λ (f : Effect MemoryDevice). is_served f.answer) (sym is) ∙ e)
      go false r = rw r

  -- the state after a step, by what it asks
  step_asks : (stepped v d q memory).device ≡ device.after d (requests_in v 1 d q memory)
  unfolding requests_in device.after
  step_asks = go (stepped v d q memory).answer refl
    where
      go : (x : Answer) → (stepped v d q memory).answer ≡ x → (stepped v d q memory).device ≡ device.after d (cond (is_served x) (device.request (request_read v d q memory) ∷ []) [])
      go (refused k) e = unserved_keeps (ap is_served e)
      go idle e = unserved_keeps (ap is_served e)
      go (served b) e = (served_carries b e).device

module _ (v : FlatView) where
  -- single steps, by the requests that they carry out
  singles_ask : (k count : ℕ) (notified : Bool) (d : MemoryDevice) (q : SplitQueue) (memory : List ℕ)
      → (steps_by (stepped v) k count notified d q memory).device ≡ device.after d (requests_in v k d q memory)
  unfolding steps_by requests_in device.after
  singles_ask zero count notified d q memory = refl
  singles_ask (suc k) count notified d q memory =
      go (stepped v d q memory).answer refl
      (λ b. singles_ask k (count + 1) (notified || b) (stepped v d q memory).device (stepped v d q memory).queue (stepped v d q memory).memory)
    where
      rest : List device.Call
      rest = requests_in v k (stepped v d q memory).device (stepped v d q memory).queue (stepped v d q memory).memory

      go : (x : Answer) → (stepped v d q memory).answer ≡ x
          → ((b : Bool) → (goes_on count notified (steps_by (stepped v) k) (stepped v d q memory) (served b)).device ≡ device.after (stepped v d q memory).device rest)
          → (goes_on count notified (steps_by (stepped v) k) (stepped v d q memory) x).device ≡ device.after d (cond (is_served x) (device.request (request_read v d q memory) ∷ rest) [])
      go (refused n) e f = unserved_keeps v d q memory (ap is_served e)
      go idle e f = unserved_keeps v d q memory (ap is_served e)
      go (served b) e f = f b ∙ ap (λ (x : MemoryDevice). device.after x rest) (served_carries v d q memory b e).device

  -- with records that 27 refuses there are none
  none_asked : (k : ℕ) (d : MemoryDevice) (q : SplitQueue) (memory : List ℕ) → records_ok v d q (length memory) ≡ false → requests_in v k d q memory ≡ []
  unfolding requests_in stepped
  none_asked zero d q memory r = refl
  none_asked (suc k) d q memory r = rw r

  run_asks : (d : MemoryDevice) (q : SplitQueue) (memory : List ℕ) (k : ℕ) → (ran v d q memory k).device ≡ device.after d (requests_in v (min k 256) d q memory)
  unfolding ran device.after
  run_asks d q memory k = go (records_ok v d q (length memory)) refl
    where
      go : (x : Bool) → records_ok v d q (length memory) ≡ x → (ran v d q memory k).device ≡ device.after d (requests_in v (min k 256) d q memory)
      go true r = rw r (singles_ask (min k 256) 0 false d q memory)
      go false r = rw (r, none_asked (min k 256) d q memory r)

-- the state after a call is that after what it asks of the device
pub call_asks : (d : MemoryDevice) (c : Call) → called d c ≡ device.after d (asked_by d c)
unfolding device.after
call_asks d (host c) = refl
call_asks d (step v q memory) = step_asks v d q memory
call_asks d (run v q memory k) = run_asks v d q memory k

-- over any sequence
pub plugged_is : (d : MemoryDevice) (had : ℕ → Bool) (cs : List Call) → ((b : ℕ) → b < 1024 → bit_at d.plugged b ≡ had b) → (b : ℕ) → b < 1024 → bit_at (after d cs).plugged b ≡ ledger d had cs b
unfolding after ledger
plugged_is d had [] h b l = h b l
plugged_is d had (c ∷ cs) h b l =
    plugged_is (called d c) (device.ledger d had (asked_by d c)) cs
    (λ a m. ap (λ (x : MemoryDevice). bit_at x.plugged a) (call_asks d c) ∙ device-laws.plugged_is d had (asked_by d c) h a m) b l

-- 'from the fresh state on these are the blocks acknowledged in less those acknowledged out'
pub plugged_from_fresh : (d : MemoryDevice) (cs : List Call) (b : ℕ) → b < 1024 → bit_at (after (fresh d) cs).plugged b ≡ ledger (fresh d) (λ _. false) cs b
plugged_from_fresh d cs b l = plugged_is (fresh d) (λ _. false) cs (λ a m. zero_bit a) b l

-- and the record stays valid
pub valid_all : (d : MemoryDevice) (cs : List Call) → device_ok d ≡ true → device_ok (after d cs) ≡ true
unfolding after
valid_all d [] h = h
valid_all d (c ∷ cs) h = valid_all (called d c) cs (ap device_ok (call_asks d c) ∙ device-laws.valid_all d (asked_by d c) h)
