-- Sequences of calls on a device, with the queue's steps and runs by which a guest's requests come, and the blocks that they acknowledged in and out: 'from the fresh state on these are the blocks acknowledged in less those acknowledged out'. Assumes nothing: these are definitions.
use Rattle.std.specs.Prelude.{◌≡◌, ℕ, zero, suc, min, Bool, true, false, cond, List, [], ◌∷◌}
use Rattle.map_records.specs.declared.view.FlatView.{FlatView}
use Rattle.map_check.specs.Reply.{accepted}
use Rattle.device_words.specs.Device.{MemoryDevice}
use Rattle.guest_view.specs.Guest.{by_view}
use Rattle.memory_device.specs.Request.{carried}
use Rattle.memory_device.specs.Calls as device
use Rattle.virtqueue.specs.Step.{Answer, refused, idle, served, entry, comes_to, request_bytes, response_places, used_places, used_bytes, served_memory, stepped}
use Rattle.virtqueue.specs.Run.{most_steps, ran}
use Rattle.virtqueue.specs.declared.queue.SplitQueue.{SplitQueue}

-- a call of the host or a request handed over by itself; a step; a run. Each step and run has its own view, queue record and memory: between calls the guest writes what it likes
pub data Call : Type 0 where
  host : device.Call → Call
  step : FlatView → SplitQueue → List ℕ → Call
  run : FlatView → SplitQueue → List ℕ → ℕ → Call

-- the state after a call
abbrev pub called : MemoryDevice → Call → MemoryDevice
called d (host c) = device.called d c
called d (step v q memory) = (stepped v d q memory).device
called d (run v q memory k) = (ran v d q memory k).device

-- 'served when neither a number nor idle ends it'
abbrev pub is_served : Answer → Bool
is_served (refused k) = false
is_served idle = false
is_served (served notify) = true

-- the request of a step: 'the first 24 readable bytes' of the chain that it goes along
abbrev pub request_read : FlatView → MemoryDevice → SplitQueue → List ℕ → List ℕ
request_read v d q memory = request_bytes (by_view v d).place memory (comes_to (by_view v d) memory q)

-- the requests that k single steps carry out, up to the first that is not served
unfoldable pub requests_in : FlatView → ℕ → MemoryDevice → SplitQueue → List ℕ → List device.Call
requests_in v zero d q memory = []
requests_in v (suc k) d q memory =
    cond (is_served (stepped v d q memory).answer)
    (device.request (request_read v d q memory)
    ∷ requests_in v k (stepped v d q memory).device (stepped v d q memory).queue (stepped v d q memory).memory)
    []

-- what a call asks of the device: itself, or the requests that a step or a run carries out, one after the other
abbrev pub asked_by : MemoryDevice → Call → List device.Call
asked_by d (host c) = c ∷ []
asked_by d (step v q memory) = requests_in v 1 d q memory
asked_by d (run v q memory k) = requests_in v (min k most_steps) d q memory

-- the state after a sequence of calls, and the blocks acknowledged in less those acknowledged out, where `had` were held before
unfoldable pub after : MemoryDevice → List Call → MemoryDevice
after d [] = d
after d (c ∷ cs) = after (called d c) cs

unfoldable pub ledger : MemoryDevice → (ℕ → Bool) → List Call → ℕ → Bool
ledger d had [] = had
ledger d had (c ∷ cs) = ledger (called d c) (device.ledger d had (asked_by d c)) cs

-- A step carries its request out: 27 lets the device pass, the next state is the one that the request gives, and its ten bytes are the response that is written.
pub record CarriesOut (v : FlatView) (d : MemoryDevice) (q : SplitQueue) (memory : List ℕ) : Type 0 where
  pub reply : (carried d (request_read v d q memory)).reply ≡ accepted
  pub device : (stepped v d q memory).device ≡ (carried d (request_read v d q memory)).device
  pub left : (stepped v d q memory).memory
      ≡ served_memory memory (response_places (by_view v d).place (comes_to (by_view v d) memory q)) (carried d (request_read v d q memory)).response
      (used_places (by_view v d).place q) (used_bytes q.next_used (entry (by_view v d) memory q))
