-- Demand 3, second half: what a step over a view accepts, and memory after it, by a guest t. For the view that was made of a map, t is the guest that the tree gives (`by_tree`). Assumes nothing: these are definitions.
use Rattle.std.specs.Prelude.{◌≡◌, ℕ, ◌+◌, ◌<◌, ◌≤◌, Bool, true, cond, List, length}
use Rattle.map_records.specs.Words.{view_of}
use Rattle.map_records.specs.Refusal as refusal
use Rattle.map_records.specs.Limits.{most_ranges}
use Rattle.map_records.specs.declared.map.RegionMap.{RegionMap}
use Rattle.map_records.specs.declared.view.FlatView.{FlatView}
use Rattle.map_check.specs.Check.{Accepted}
use Rattle.region_map.specs.Flatten.{flat_list, view_holding}
use Rattle.device_words.specs.Device.{MemoryDevice}
use Rattle.guest_view.specs.Guest.{Guest, by_view}
use Rattle.virtqueue.specs.Chain.{Chain, whole, ended, rejected, element}
use Rattle.virtqueue.specs.Step.{entry, comes_to, request_bytes, response_places, used_places, used_bytes, carrying, served_memory, records_ok, stepped}
use Rattle.virtqueue.specs.Step as step
use Rattle.virtqueue.specs.declared.chain.Descriptor.{Descriptor}
use Rattle.virtqueue.specs.declared.queue.SplitQueue.{SplitQueue}

-- the tree leads each byte of the element to plain RAM or to a block plugged when the step began
abbrev pub Led : Guest → Descriptor → Type 0
Led t e = (i : ℕ) → i < e.length → t.reach (e.addr.0 + i) ≡ true

-- the elements that a step comes to, each accepted or not; with records that 27 refuses it comes to none
unfoldable pub elements_of : FlatView → MemoryDevice → SplitQueue → List ℕ → Chain
elements_of v d q memory = cond (records_ok v d q (length memory)) (comes_to (by_view v d) memory q) (ended refusal.RECORD)

-- exactly: those accepted are led, the one rejected is not
abbrev pub Exactly : (Descriptor → Type 0) → Chain → Type 0
Exactly P whole = Unit {0}
Exactly P (ended k) = Unit {0}
Exactly P (rejected e) = P e → ⊥
Exactly P (element e c) = P e × Exactly P c

-- the former memory with the ten response bytes and then the ten used-ring bytes written at the places to which the tree leads them
abbrev pub served_at : Guest → MemoryDevice → SplitQueue → List ℕ → Chain → List ℕ
served_at t d q memory c =
    served_memory memory (response_places t.place c) (carrying d (request_bytes t.place memory c)).response
    (used_places t.place q) (used_bytes q.next_used (entry t memory q))

-- over any view, device record, queue record and memory
pub record SecondHalf (t : Guest) (v : FlatView) (d : MemoryDevice) (q : SplitQueue) (memory : List ℕ) : Type 0 where
  pub accepts : Exactly (Led t) (elements_of v d q memory)
  pub served : (notify : Bool) → (stepped v d q memory).answer ≡ step.served notify → (stepped v d q memory).memory ≡ served_at t d q memory (elements_of v d q memory)
  pub idle : (stepped v d q memory).answer ≡ step.idle → (stepped v d q memory).memory ≡ memory
  pub refused : (k : ℕ) → (stepped v d q memory).answer ≡ step.refused k → (stepped v d q memory).memory ≡ memory

-- What the words of a view that was made of a map say: the map is accepted, its list has no more than 256 runs, and the words stand for that list.
pub record Made (m : RegionMap) (size : ℕ) (view : List ℕ) : Type 0 where
  pub accepted : Accepted m size
  pub few : length (flat_list m) ≤ most_ranges
  pub is : view_of view ≡ view_holding (flat_list m)
