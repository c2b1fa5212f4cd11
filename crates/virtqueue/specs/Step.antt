-- The queue step in document 01's order: first all that is read, then all that is written. Assumes nothing: these are definitions.
use Rattle.std.specs.Prelude.{ℕ, ◌+◌, ◌%◌, Bool, cond, ◌&&◌, List, ◌++◌, map, length, ◌==◌, nat_le, nat_lt}
use Rattle.map_check.specs.Reply.{Reply, accepted, plain}
use Rattle.map_records.specs.Refusal as refusal
use Rattle.map_records.specs.declared.view.FlatView.{FlatView}
use Rattle.device_words.specs.Bytes.{le, request_length, response_length}
use Rattle.device_words.specs.Device.{MemoryDevice, device_ok}
use Rattle.device_words.specs.Request.{request_of, carried_out}
use Rattle.guest_view.specs.Guest.{Guest, all_reach, addresses, byte_at, number_at, written, by_view}
use Rattle.guest_view.specs.View.{view_ok}
use Rattle.virtqueue.specs.Queue.{queue_ok, ring_entry, used_entry, used_idx, distance, next_index, stopped_by, advanced}
use Rattle.virtqueue.specs.Chain.{Chain, ended, readable, writable, first_bytes, shape_of, chain_at}
use Rattle.virtqueue.specs.declared.queue.SplitQueue.{SplitQueue}

-- ---- what a step reads

-- the available ring's flags and idx, and its entry at seen mod n
abbrev pub flags : Guest → List ℕ → SplitQueue → ℕ
flags g memory q = number_at g.place memory q.available.0 2

abbrev pub idx : Guest → List ℕ → SplitQueue → ℕ
idx g memory q = number_at g.place memory (q.available.0 + 2) 2

abbrev pub entry : Guest → List ℕ → SplitQueue → ℕ
entry g memory q = number_at g.place memory (ring_entry q) 2

-- how far idx is ahead of what was seen
abbrev pub offers : Guest → List ℕ → SplitQueue → ℕ
offers g memory q = distance (idx g memory q) q.next_available

-- 'Notify unless available flags bit 0'
abbrev pub notifies : ℕ → Bool
notifies f = f % 2 == 0

-- 'per descriptor ..': the chain from a head on
abbrev pub chain_of : Guest → List ℕ → SplitQueue → ℕ → Chain
chain_of g memory q h = chain_at g memory q.descriptors.0 q.size h

-- The way of a step: a number that ends it before its chain, nothing offered, or its head, whether to notify, and the chain that it goes along.
pub data Way : Type 0 where
  halted : ℕ → Way
  quiet : Way
  along : ℕ → Bool → Chain → Way

abbrev pub unless : Bool → ℕ → Way → Way
unless ok k rest = cond ok rest (halted k)

-- 'Order: stopped (same number again); available flags and idx (17); idx equal to seen: idle; 18, the distance taken modulo 65,536; ring entry at seen mod n (17); 19; per descriptor ..'
unfoldable pub way_of : Guest → List ℕ → SplitQueue → Way
way_of g memory q =
    unless (q.stop == 0) q.stop
    (unless (all_reach g.reach q.available.0 4) refusal.RING
    (cond (idx g memory q == q.next_available) quiet
    (unless (nat_le (offers g memory q) q.size) refusal.AHEAD
    (unless (all_reach g.reach (ring_entry q) 2) refusal.RING
    (unless (nat_lt (entry g memory q) q.size) refusal.HEAD
    (along (entry g memory q) (notifies (flags g memory q)) (chain_of g memory q (entry g memory q))))))))

-- The elements that a step comes to, each accepted or not, in `Chain`: 'A step comes to an element when nothing before that element's 21 in the order ends it'. A step that ends before its chain comes to none.
abbrev pub chain_in : Way → Chain
chain_in (halted k) = ended k
chain_in quiet = ended 0
chain_in (along h notify c) = c

abbrev pub comes_to : Guest → List ℕ → SplitQueue → Chain
comes_to g memory q = chain_in (way_of g memory q)

-- 'used element and used idx (17)'
unfoldable pub used_reached : Guest → SplitQueue → Bool
used_reached g q = all_reach g.reach (used_entry q) 8 && all_reach g.reach (used_idx q) 2

-- What the reading half of a step comes to: a number, nothing to do, or a head, whether to notify, and a chain to serve.
pub data Offer : Type 0 where
  stop : ℕ → Offer
  nothing : Offer
  ready : ℕ → Bool → Chain → Offer

-- '.. 22; used element and used idx (17)', after what ended the chain
unfoldable pub offer_chain : Guest → SplitQueue → ℕ → Bool → Chain → Offer
offer_chain g q h notify c = cond (shape_of c == 0) (cond (used_reached g q) (ready h notify c) (stop refusal.RING)) (stop (shape_of c))

-- read off the way and its chain
abbrev pub offer_of : Guest → SplitQueue → Way → Offer
offer_of g q (halted k) = stop k
offer_of g q quiet = nothing
offer_of g q (along h notify c) = offer_chain g q h notify c

abbrev pub offered : Guest → List ℕ → SplitQueue → Offer
offered g memory q = offer_of g q (way_of g memory q)

-- ---- what it writes

-- 'the first 24 readable bytes are carried out as the request'
unfoldable pub request_bytes : (ℕ → ℕ) → List ℕ → Chain → List ℕ
request_bytes place memory c = map (byte_at place memory) (first_bytes request_length (readable c))

-- 'the first 10 writable bytes get the response'
unfoldable pub response_places : (ℕ → ℕ) → Chain → List ℕ
response_places place c = map place (first_bytes response_length (writable c))

-- 'the used slot (own count mod n) the head and 10, used idx (the device's own count) one more': ten bytes
abbrev pub used_length : ℕ
used_length = 10

unfoldable pub used_places : (ℕ → ℕ) → SplitQueue → List ℕ
used_places place q = map place (addresses (used_entry q) 8 ++ addresses (used_idx q) 2)

unfoldable pub used_bytes : ℕ → ℕ → List ℕ
used_bytes count h = le 4 h ++ le 4 response_length ++ le 2 (next_index count)

-- what carrying a request out gives: the response's bytes, and the next state of what carried it out
pub record Reaction (D : Type 0) : Type 0 where
  pub response : List ℕ
  pub device : D

-- 'carried out as the request', by the memory device
unfoldable pub carrying : MemoryDevice → List ℕ → Reaction MemoryDevice
carrying d request = record { response = (carried_out d (request_of request)).response; device = (carried_out d (request_of request)).device }

-- the writing half, by the places and bytes of the response and of the used ring: 'in that order, byte by byte, a later write winning'
abbrev pub served_memory : List ℕ → List ℕ → List ℕ → List ℕ → List ℕ → List ℕ
served_memory memory places response used bytes = written (written memory places response) used bytes

-- ---- the step

-- What a step answers: the number that refuses it, nothing to do, or a chain served and whether to notify the guest.
pub data Answer : Type 0 where
  refused : ℕ → Answer
  idle : Answer
  served : Bool → Answer

-- document 01's number
abbrev pub step_reply : Answer → Reply
step_reply (refused n) = plain n
step_reply idle = accepted
step_reply (served notify) = accepted

-- What a step gives, whatever carries requests out: the answer, the next states, and memory.
pub record Effect (D : Type 0) : Type 0 where
  pub answer : Answer
  pub device : D
  pub queue : SplitQueue
  pub memory : List ℕ

abbrev pub unmoved : {D : Type 0} → Answer → D → SplitQueue → List ℕ → Effect D
unmoved a d q memory = record { answer = a; device = d; queue = q; memory = memory }

abbrev pub served_by : {D : Type 0} → Guest → (List ℕ → Reaction D) → SplitQueue → List ℕ → ℕ → Bool → Chain → Effect D
served_by g carry q memory h notify c =
    record {
      answer = served notify;
      device = (carry (request_bytes g.place memory c)).device;
      queue = advanced q;
      memory = served_memory memory (response_places g.place c) (carry (request_bytes g.place memory c)).response (used_places g.place q) (used_bytes q.next_used h);
    }

-- the step after its reading half, `carry` carrying the request out: '17 to 22 only stop the queue with that number'
abbrev pub finished_by : {D : Type 0} → Guest → (List ℕ → Reaction D) → D → SplitQueue → List ℕ → Offer → Effect D
finished_by g carry d q memory (stop k) = unmoved (refused k) d (stopped_by q k) memory
finished_by g carry d q memory nothing = unmoved idle d q memory
finished_by g carry d q memory (ready h notify c) = served_by g carry q memory h notify c

abbrev pub finished : Guest → MemoryDevice → SplitQueue → List ℕ → Offer → Effect MemoryDevice
finished g d q memory o = finished_by g (carrying d) d q memory o

unfoldable pub stepped_by : Guest → MemoryDevice → SplitQueue → List ℕ → Effect MemoryDevice
stepped_by g d q memory = finished g d q memory (offered g memory q)

-- '27 comes first': the view over this memory and the device's region, the device and the queue
unfoldable pub records_ok : FlatView → MemoryDevice → SplitQueue → ℕ → Bool
records_ok v d q memory = view_ok v memory d.region_size && (device_ok d && queue_ok q)

-- One step over a given view. 'Reachable means .. plugged when the step began': the guest is that of the device as it is given.
unfoldable pub stepped : FlatView → MemoryDevice → SplitQueue → List ℕ → Effect MemoryDevice
stepped v d q memory = cond (records_ok v d q (length memory)) (stepped_by (by_view v d) d q memory) (unmoved (refused refusal.RECORD) d q memory)
