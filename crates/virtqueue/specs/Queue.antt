-- The split queue's record: 16, 27, making and reset, and where its areas lie. Assumes nothing: these are definitions.
use Rattle.std.specs.Prelude.{◌≡◌, ℕ, ◌+◌, ◌-◌, ◌*◌, ◌%◌, Bool, cond, ◌&&◌, ◌||◌, ◌==◌, nat_le, Result, Option, MatchOption}
use Rattle.map_records.specs.Limits.{limit}
use Rattle.map_check.specs.Reply.{Reply, accepted, plain, reply_by}
use Rattle.map_records.specs.Refusal as refusal
use Rattle.virtqueue.specs.declared.queue.SplitQueue.{SplitQueue}
use Rattle.virtqueue.specs.declared.queue.QueueFault.{QueueFault}
use Rattle.virtqueue.specs.declared.queue.QueueStop.{QueueStop}
use Rattle.virtqueue.specs.declared.queue.QueueStop.TheVariants as stop
use Rattle.memory_device.specs.Refused.{value_reply, value_given}
use Rattle.memory_device.specs.declared.refused.Refused.{Refused}

-- 16: 'queue size not a power of two from 1 to 256'
abbrev pub largest_queue : ℕ
largest_queue = 256

abbrev pub size_ok : ℕ → Bool
size_ok n = n == 1 || n == 2 || n == 4 || n == 8 || n == 16 || n == 32 || n == 64 || n == 128 || n == largest_queue

-- 16: an address 'not a multiple of' its alignment; 'an area ending over 2^48'
abbrev pub area_ok : ℕ → ℕ → ℕ → Bool
area_ok start align bytes = start % align == 0 && nat_le (start + bytes) limit

-- 16: 'descriptor, available, used address not a multiple of 16, 2, 4'; 'Areas: 16n, 6 + 2n, 6 + 8n bytes'
unfoldable pub areas_ok : ℕ → ℕ → ℕ → ℕ → Bool
areas_ok size descriptors available used =
    size_ok size && (area_ok descriptors 16 (16 * size) && (area_ok available 2 (6 + 2 * size) && area_ok used 4 (6 + 8 * size)))

-- 27: 'a stop that is neither none nor 17 to 22'; none is 0
abbrev pub stop_ok : ℕ → Bool
stop_ok s = s == 0 || (nat_le refusal.RING s && nat_le s refusal.SHAPE)

-- 27 for the queue: 'rules of 16, or a stop ..'
unfoldable pub queue_ok : SplitQueue → Bool
queue_ok q = areas_ok q.size q.descriptors.0 q.available.0 q.used.0 && stop_ok q.stop

-- the record of a refusal: all zero
abbrev pub no_queue : SplitQueue
no_queue =
    record { size = 0; descriptors = record { 0 = 0 }; available = record { 0 = 0 }; used = record { 0 = 0 }; next_available = 0; next_used = 0; stop = 0 }

-- 'A queue reset sets its indices to 0 and clears the stop'
abbrev pub cleared : SplitQueue → SplitQueue
cleared q =
    record { size = q.size; descriptors = q.descriptors; available = q.available; used = q.used; next_available = 0; next_used = 0; stop = 0 }

-- document 01's answer, and the record
pub record Given : Type 0 where
  pub reply : Reply
  pub queue : SplitQueue

-- a queue made of a size and three areas, or 16
unfoldable pub made : ℕ → ℕ → ℕ → ℕ → Given
made size descriptors available used =
    cond (areas_ok size descriptors available used)
    (record {
      reply = accepted;
      queue =
          record {
            size = size;
            descriptors = record { 0 = descriptors };
            available = record { 0 = available };
            used = record { 0 = used };
            next_available = 0;
            next_used = 0;
            stop = 0;
          };
    })
    (record { reply = plain refusal.QUEUE; queue = no_queue })

-- a reset, or 27 with the record as it was
unfoldable pub was_reset : SplitQueue → Given
was_reset q = cond (queue_ok q) (record { reply = accepted; queue = cleared q }) (record { reply = plain refusal.RECORD; queue = q })

-- document 01's reply for the fault of making a queue
abbrev pub queue_fault_reply : QueueFault → Reply
queue_fault_reply f = plain refusal.QUEUE

-- and for each answer; a reset's are those of any call refused with 27 alone, `record_fault_reply` and `record_reply` of `memory_device`
abbrev pub queue_reply : {A : Type 0} → Result A QueueFault → Reply
queue_reply = reply_by queue_fault_reply

-- what the answer of a call that makes a record stands for
abbrev pub given_by : {E : Type 0} → (E → Reply) → Result SplitQueue (Refused E SplitQueue) → Given
given_by fault a = record { reply = value_reply fault a; queue = value_given a }

-- document 01's number for each of what stops a queue, and what a number stands for
abbrev pub stop_number : QueueStop → ℕ
stop_number stop.Ring = refusal.RING
stop_number stop.Ahead = refusal.AHEAD
stop_number stop.Head = refusal.HEAD
stop_number stop.Chain = refusal.CHAIN
stop_number stop.Reach = refusal.REACH
stop_number stop.Shape = refusal.SHAPE

abbrev pub stop_reply : QueueStop → Reply
stop_reply s = plain (stop_number s)

abbrev pub StopOf : ℕ → Option QueueStop → Type 0
StopOf n r = MatchOption r ((s : QueueStop) → n ≡ stop_number s → ⊥) (λ s. n ≡ stop_number s)

-- VIRTIO 2.6.6 and 2.6.8: a ring has flags and idx of two bytes each, then its entries, of which a count takes its own modulo the size, and behind them two bytes of an event index, which 16 counts and the device does not use; places by the ring's address, a count and the size
abbrev pub ring_entry_at : ℕ → ℕ → ℕ → ℕ
ring_entry_at available count size = available + 4 + 2 * (count % size)

abbrev pub used_entry_at : ℕ → ℕ → ℕ → ℕ
used_entry_at used count size = used + 4 + 8 * (count % size)

abbrev pub used_idx_at : ℕ → ℕ
used_idx_at used = used + 2

-- of the device's record: 'ring entry at seen mod n', 'the used slot (own count mod n)'
abbrev pub ring_entry : SplitQueue → ℕ
ring_entry q = ring_entry_at q.available.0 q.next_available q.size

abbrev pub used_entry : SplitQueue → ℕ
used_entry q = used_entry_at q.used.0 q.next_used q.size

abbrev pub used_idx : SplitQueue → ℕ
used_idx q = used_idx_at q.used.0

-- 'the distance taken modulo 65,536', and the next index
abbrev pub distance : ℕ → ℕ → ℕ
distance idx seen = (idx + 65536 - seen) % 65536

abbrev pub next_index : ℕ → ℕ
next_index i = (i + 1) % 65536

-- '17 to 22 only stop the queue with that number'
abbrev pub stopped_by : SplitQueue → ℕ → SplitQueue
stopped_by q k =
    record { size = q.size; descriptors = q.descriptors; available = q.available; used = q.used; next_available = q.next_available; next_used = q.next_used; stop = k }

-- one chain taken and returned
abbrev pub advanced : SplitQueue → SplitQueue
advanced q =
    record { size = q.size; descriptors = q.descriptors; available = q.available; used = q.used; next_available = next_index q.next_available; next_used = next_index q.next_used; stop = q.stop }
