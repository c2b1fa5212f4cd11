-- What the functions inside the crate promise each other. Assumes nothing: these are definitions.
use Rattle.std.specs.Prelude.{◌≡◌, ℕ, ◌+◌, ◌-◌, ◌≤◌, min, Bool, true, false, cond, ◌||◌, List, map, length, take, replicate, ◌==◌, nat_le, nat_lt, Option, Some, None, MatchOption, Result, Ok, Err, MatchResult}
use Rattle.std.proofs.lemmas.List.Edits.{sets}
use Rattle.map_records.specs.Refusal as refusal
use Rattle.device_words.specs.Bytes.{request_length, response_length}
use Rattle.map_records.specs.declared.view.FlatView.{FlatView}
use Rattle.map_records.specs.Words.{view_of}
use Rattle.device_words.specs.Device.{MemoryDevice, device_ok}
use Rattle.device_words.specs.Words.{device_of}
use Rattle.guest_view.specs.Guest.{all_reach, byte_at, addresses, by_view}
use Rattle.guest_view.specs.Guest as guest
use Rattle.guest_view.specs.Promises.{Backed, InMemory, place_in}
use Rattle.virtqueue.specs.Queue.{queue_ok, ring_entry, used_entry, used_idx, stop_number}
use Rattle.virtqueue.specs.Chain.{Chain, Entry, out, here, end_of, is_writable, misplaced, reached, chain_at}
use Rattle.virtqueue.specs.Step.{Way, halted, quiet, along, Offer, stop, nothing, ready, idx, flags, entry, offers, notifies, chain_of, request_bytes, response_places, offer_chain, offered, stepped_by, Effect}
use Rattle.virtqueue.specs.declared.chain.Gathered.{Gathered}
use Rattle.virtqueue.specs.declared.chain.Descriptor.{Descriptor}
use Rattle.virtqueue.specs.declared.lent.Lent.{Lent}
use Rattle.virtqueue.specs.declared.queue.QueueStop.{QueueStop}
use Rattle.virtqueue.specs.declared.queue.QueueStop.TheVariants as stops
use Rattle.virtqueue.specs.declared.queue.SplitQueue.{SplitQueue}
use Rattle.virtqueue.specs.declared.run.Ran.{Ran}
use Rattle.virtqueue.specs.declared.step.Moved.{Moved}
use Rattle.virtqueue.specs.declared.step.StepFault.TheVariants as fault
use Rattle.virtqueue.specs.declared.take.Taken.{Taken}

-- the guest through a view's words, with a device of a block size and a plug table
abbrev pub guest_in : List ℕ → ℕ → List ℕ → guest.Guest
guest_in view block plugged = guest.view_guest (view_of view) block plugged

-- the guest that the reading half of a step sees, and where its addresses lie in memory
abbrev pub guest_of : Lent → guest.Guest
guest_of g = guest_in g.guest.view g.guest.blocks.size g.guest.blocks.plugged.now

abbrev pub place_of : Lent → ℕ → ℕ
place_of g = place_in (view_of g.guest.view)

-- what a step on records that were judged relies on
pub record Stepping (view device mem : List ℕ) (q : SplitQueue) : Type 0 where
  pub backed : Backed (view_of view) (length mem)
  pub valid : device_ok (device_of device) ≡ true
  pub queue : queue_ok q ≡ true

-- ---- the way of a step as the code goes it
abbrev pub entry_by : Option Descriptor → Entry
entry_by None = out
entry_by (Some d) = here d

-- available flags and idx
unfoldable pub notices_of : guest.Guest → List ℕ → SplitQueue → Result (Option Bool) QueueStop
notices_of g memory q =
    cond (all_reach g.reach q.available.0 4)
    (cond (idx g memory q == q.next_available) (Ok None)
    (cond (nat_le (offers g memory q) q.size) (Ok (Some (notifies (flags g memory q)))) (Err stops.Ahead)))
    (Err stops.Ring)

-- the ring's entry
unfoldable pub head_of : guest.Guest → List ℕ → SplitQueue → Result ℕ QueueStop
head_of g memory q =
    cond (all_reach g.reach (ring_entry q) 2) (cond (nat_lt (entry g memory q) q.size) (Ok (entry g memory q)) (Err stops.Head)) (Err stops.Ring)

abbrev pub head_way : guest.Guest → List ℕ → SplitQueue → Bool → Result ℕ QueueStop → Way
head_way g memory q notify (Err s) = halted (stop_number s)
head_way g memory q notify (Ok h) = along h notify (chain_of g memory q h)

abbrev pub notices_way : guest.Guest → List ℕ → SplitQueue → Result (Option Bool) QueueStop → Way
notices_way g memory q (Err s) = halted (stop_number s)
notices_way g memory q (Ok None) = quiet
notices_way g memory q (Ok (Some notify)) = head_way g memory q notify (head_of g memory q)

-- ---- the chain

-- the used ring's ten bytes lie in the memory
pub record UsedIn (v : FlatView) (q : SplitQueue) : Type 0 where
  pub entry : InMemory v (used_entry q) 8
  pub idx : InMemory v (used_idx q) 2

-- nothing yet
abbrev pub nothing_yet : Gathered
nothing_yet = record { request = replicate request_length 0; readable = 0; places = replicate response_length 0; writable = 0; late = false }

-- no more than 24 bytes and 10 places are there
pub record Filled (s : Gathered) : Type 0 where
  pub few_read : s.readable ≤ request_length
  pub few_written : s.writable ≤ response_length

-- what an accepted element adds: bytes of the request up to 24, or places for the response up to 10
unfoldable pub added : (ℕ → ℕ) → List ℕ → Gathered → Descriptor → Gathered
added place memory s d =
    cond (is_writable d)
    (record {
      request = s.request;
      readable = s.readable;
      places = sets s.places s.writable (map place (addresses d.addr.0 (min (response_length - s.writable) d.length)));
      writable = s.writable + min (response_length - s.writable) d.length;
      late = true;
    })
    (record {
      request = sets s.request s.readable (map (byte_at place memory) (addresses d.addr.0 (min (request_length - s.readable) d.length)));
      readable = s.readable + min (request_length - s.readable) d.length;
      places = s.places;
      writable = s.writable;
      late = false;
    })

-- what one descriptor comes to: the number that ends the chain there, or 0
abbrev pub stop_at : (Descriptor → Bool) → Bool → Descriptor → ℕ
stop_at reached late d = cond (misplaced late d) refusal.CHAIN (cond (reached d) 0 refusal.REACH)

-- and what the element adds, where none ends it
abbrev pub Visits : (ℕ → ℕ) → List ℕ → (Descriptor → Bool) → Descriptor → Gathered → Result Unit QueueStop → Gathered → Type 0
Visits place memory reached d s r t = MatchResult r (λ _. (stop_at reached s.late d ≡ 0) × (t ≡ added place memory s d)) (λ e. stop_at reached s.late d ≡ stop_number e)

-- what a whole chain gives up: its first readable bytes and the places of its first writable ones
pub record Whole (place : ℕ → ℕ) (memory : List ℕ) (c : Chain) (t : Gathered) : Type 0 where
  pub end : end_of c ≡ 0
  pub all_read : length t.request ≡ request_length
  pub all_written : length t.places ≡ response_length
  pub few_read : t.readable ≤ request_length
  pub few_written : t.writable ≤ response_length
  pub request : take t.readable t.request ≡ request_bytes place memory c
  pub places : take t.writable t.places ≡ response_places place c

-- and any chain: that, or what ends it
abbrev pub Gathers : (ℕ → ℕ) → List ℕ → Chain → Result Unit QueueStop → Gathered → Type 0
Gathers place memory c r t = MatchResult r (λ _. Whole place memory c t) (λ e. end_of c ≡ stop_number e)

-- 22: what was gathered is too short
abbrev pub is_short : Gathered → Bool
is_short t = nat_lt t.readable request_length || nat_lt t.writable response_length

-- a chain that is ready: its request's bytes and the places for its response
pub record Ready (g : guest.Guest) (memory : List ℕ) (o : Offer) (h : ℕ) (notify : Bool) (t : Gathered) : Type 0 where
  pub chain : Chain
  pub is : o ≡ ready h notify chain
  pub request : t.request ≡ request_bytes g.place memory chain
  pub places : t.places ≡ response_places g.place chain

-- what the reading half of a step hands on, where document 01 offers o: what stops the queue, nothing, or a chain that is ready
abbrev pub Takes : guest.Guest → List ℕ → Offer → Result (Option Taken) QueueStop → Gathered → Type 0
Takes g memory o r t =
    MatchResult r (λ found. MatchOption found (o ≡ nothing) (λ x. Ready g memory o x.head x.notify t)) (λ e. o ≡ stop (stop_number e))

-- the same of a chain from a head on, whether it is to notify or not
abbrev pub TakesChain : guest.Guest → List ℕ → SplitQueue → ℕ → Result Unit QueueStop → Gathered → Type 0
TakesChain g memory q h r t =
    (notify : Bool) → MatchResult r (λ _. Ready g memory (offer_chain g q h notify (chain_of g memory q h)) h notify t)
    (λ e. offer_chain g q h notify (chain_of g memory q h) ≡ stop (stop_number e))

-- one descriptor, what a chain gives up, and what is taken of a chain and in all, over what is lent
abbrev pub VisitsIn : Lent → Descriptor → Gathered → Result Unit QueueStop → Gathered → Type 0
VisitsIn g = Visits (place_of g) g.mem.now (reached (guest_of g))

abbrev pub GathersIn : Lent → ℕ → ℕ → ℕ → Result Unit QueueStop → Gathered → Type 0
GathersIn g table size h = Gathers (place_of g) g.mem.now (chain_at (guest_of g) g.mem.now table size h)

abbrev pub TakesIn : Lent → ℕ → Result Unit QueueStop → Gathered → Type 0
TakesIn g = TakesChain (guest_of g) g.mem.now g.queue

abbrev pub TakesAll : Lent → Result (Option Taken) QueueStop → Gathered → Type 0
TakesAll g = Takes (guest_of g) g.mem.now (offered (guest_of g) g.mem.now g.queue)

-- a step over words that 27 let pass
abbrev pub stepped_in : List ℕ → List ℕ → SplitQueue → List ℕ → Effect MemoryDevice
stepped_in view device q memory = stepped_by (by_view (view_of view) (device_of device)) (device_of device) q memory

-- a step and a run on records that 27 refuses
abbrev pub refused_step : SplitQueue → Moved
refused_step q = record { outcome = Err fault.Record; queue = q }

abbrev pub refused_run : SplitQueue → Ran
refused_run q = record { served = 0; notified = false; end = Err fault.Record; queue = q }
