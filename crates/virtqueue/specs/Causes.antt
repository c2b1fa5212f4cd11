-- The exact cause of each answer of a step over given records, for demand 2: 'each number has its exact cause'. Assumes nothing: these are definitions.
use Rattle.std.specs.Prelude.{◌≡◌, ℕ, ◌+◌, ◌<◌, ◌≤◌, Bool, true, false, ◌⊎◌, List, length, ◌≢◌}
use Rattle.map_records.specs.Refusal as refusal
use Rattle.device_words.specs.Bytes.{request_length, response_length}
use Rattle.map_records.specs.declared.view.FlatView.{FlatView}
use Rattle.device_words.specs.Device.{MemoryDevice}
use Rattle.guest_view.specs.Guest.{Guest, all_reach, by_view}
use Rattle.virtqueue.specs.Queue.{ring_entry}
use Rattle.virtqueue.specs.Chain.{out, here, has_next, is_writable, is_indirect, misplaced, readable, writable, total, fetched, reached}
use Rattle.virtqueue.specs.Step.{Answer, refused, idle, served, flags, idx, entry, offers, notifies, comes_to, used_reached, records_ok}
use Rattle.virtqueue.specs.declared.chain.Descriptor.{Descriptor}
use Rattle.virtqueue.specs.declared.queue.SplitQueue.{SplitQueue}

-- How far a step gets, in document 01's order: each of these says that nothing before it ends the step.
module _ (v : FlatView) (d : MemoryDevice) (q : SplitQueue) (memory : List ℕ) where
  abbrev g : Guest
  g = by_view v d

  -- 27 lets the records pass, and the queue is not stopped
  pub record Begun : Type 0 where
    pub records : records_ok v d q (length memory) ≡ true
    pub running : q.stop ≡ 0

  -- available flags and idx are reachable
  pub record Noticed : Type 0 where
    pub begun : Begun
    pub flags : all_reach g.reach q.available.0 4 ≡ true

  -- idx is ahead of seen
  pub record Pending : Type 0 where
    pub noticed : Noticed
    pub new : idx g memory q ≡ q.next_available → ⊥

  -- by no more than the queue size
  pub record Offered : Type 0 where
    pub pending : Pending
    pub near : offers g memory q ≤ q.size

  -- the ring's entry is reachable
  pub record Entered : Type 0 where
    pub offered : Offered
    pub ring : all_reach g.reach (ring_entry q) 2 ≡ true

  -- its head is below the queue size: the step comes to its chain
  pub record Headed : Type 0 where
    pub entered : Entered
    pub below : entry g memory q < q.size

  -- The step comes to entry i of the table as the descriptor after n others of its chain; `late` says whether the one before is writable, and so whether any before is: a readable one after it would have ended the step.
  pub data On : ℕ → ℕ → Bool → Type 0 where
    first : Headed → On 0 (entry g memory q) false
    next : {n i : ℕ} {late : Bool} (e : Descriptor) → On n i late → fetched g memory q.descriptors.0 i ≡ here e → misplaced late e ≡ false → reached g e ≡ true
        → has_next e ≡ true → e.next < q.size → n + 1 < q.size → On (n + 1) e.next (is_writable e)

  -- it comes to the descriptor e, after n others
  pub record Meets (n : ℕ) (late : Bool) (e : Descriptor) : Type 0 where
    pub place : ℕ
    pub on : On n place late
    pub is : fetched g memory q.descriptors.0 place ≡ here e

  -- and accepts it
  pub record Accepts (n : ℕ) (e : Descriptor) : Type 0 where
    pub late : Bool
    pub meets : Meets n late e
    pub placed : misplaced late e ≡ false
    pub reach : reached g e ≡ true

  -- it accepts a last one: the chain is whole
  pub record Whole : Type 0 where
    pub others : ℕ
    pub last : Descriptor
    pub accepted : Accepts others last
    pub end : has_next last ≡ false

  -- the whole chain has the bytes of a request and of a response
  pub record Shaped : Type 0 where
    pub whole : Whole
    pub request : request_length ≤ total (readable (comes_to g memory q))
    pub response : response_length ≤ total (writable (comes_to g memory q))

  -- What causes each answer. Each line is a sentence of document 01.
  pub data Cause : Answer → Type 0 where
    -- 27: 'a given run list, device or queue record breaks its own rules'
    records : records_ok v d q (length memory) ≡ false → Cause (refused refusal.RECORD)
    -- 'stopped (same number again)'
    again : records_ok v d q (length memory) ≡ true → (q.stop ≢ 0) → Cause (refused q.stop)
    -- 17: 'a byte of a queue area that the step needs is not reachable': flags and idx, the ring's entry, a descriptor, the used element and idx
    notices : Begun → all_reach g.reach q.available.0 4 ≡ false → Cause (refused refusal.RING)
    ring : Offered → all_reach g.reach (ring_entry q) 2 ≡ false → Cause (refused refusal.RING)
    table : {n i : ℕ} {late : Bool} → On n i late → fetched g memory q.descriptors.0 i ≡ out → Cause (refused refusal.RING)
    used : Shaped → used_reached g q ≡ false → Cause (refused refusal.RING)
    -- 'idx equal to seen: idle'
    seen : Noticed → idx g memory q ≡ q.next_available → Cause idle
    -- 18: 'available idx more than the queue size ahead'
    ahead : Pending → q.size < offers g memory q → Cause (refused refusal.AHEAD)
    -- 19: 'head not below the queue size'
    head : Entered → q.size ≤ entry g memory q → Cause (refused refusal.HEAD)
    -- 20: 'INDIRECT set'; 'a readable element after a writable one'; 'next not below the queue size'; 'NEXT set in the descriptor that is the queue-size-th of the chain'
    indirect : {n : ℕ} {late : Bool} {e : Descriptor} → Meets n late e → is_indirect e ≡ true → Cause (refused refusal.CHAIN)
    order : {n : ℕ} {e : Descriptor} → Meets n true e → is_writable e ≡ false → Cause (refused refusal.CHAIN)
    astray : {n : ℕ} {e : Descriptor} → Accepts n e → has_next e ≡ true → q.size ≤ e.next → Cause (refused refusal.CHAIN)
    long : {n : ℕ} {e : Descriptor} → Accepts n e → has_next e ≡ true → n + 1 ≡ q.size → Cause (refused refusal.CHAIN)
    -- 21: 'a byte of an element is not reachable'
    reach : {n : ℕ} {late : Bool} {e : Descriptor} → Meets n late e → misplaced late e ≡ false → reached g e ≡ false → Cause (refused refusal.REACH)
    -- 22: 'fewer than 24 readable or 10 writable bytes'
    short : Whole → (total (readable (comes_to g memory q)) < request_length) ⊎ (total (writable (comes_to g memory q)) < response_length) → Cause (refused refusal.SHAPE)
    -- 'served when neither a number nor idle ends it'; 'Notify unless available flags bit 0'
    returned : Shaped → used_reached g q ≡ true → Cause (served (notifies (flags g memory q)))

  -- A step answers a exactly at its cause; so the causes cover every step, and no two of different answers hold at once.
  pub record Exact (answer : Answer) : Type 0 where
    pub cause : Cause answer
    pub only : (other : Answer) → Cause other → other ≡ answer
