-- Laws of a step: the used ring's places and bytes, what is written, what an offer that is ready says. Assumes nothing.
use Rattle.std.proofs.Common.{◌≡◌, ℕ, zero, suc, ◌+◌, ◌^◌, ◌<◌, ◌≤◌, Bool, true, false, cond, ◌&&◌, eqb, List, [], ◌∷◌, ◌++◌, map, length, get_or, sym, refl, ap, ◌∙◌, add-zero, arith, eq-eqb}
use Rattle.std.specs.Prelude.{Some, None, Ok, Err}
use lib.Seq.{sets}
use Rattle.map_check.proofs.Bools.{and_fst, and_snd}
use Rattle.map_records.proofs.StoreLaws.{sets_append, over}
use Rattle.map_records.specs.View.{entries}
use Rattle.map_records.specs.declared.view.FlatView.{FlatView}
use Rattle.device_words.specs.Device.{device_ok}
use Rattle.device_words.specs.Device.{plugged_at}
use Rattle.device_words.specs.Device.{MemoryDevice}
use Rattle.guest_view.specs.Guest.{leaf_at, Guest, all_reach, addresses, by_view}
use Rattle.virtqueue.specs.Queue.{queue_ok, stop_number, used_entry, used_idx, stopped_by, advanced}
use Rattle.virtqueue.specs.Chain.{Chain, writable, first_bytes, shape_of}
use Rattle.virtqueue.specs.Step.{Way, halted, quiet, along, way_of, chain_of, used_reached, stop, nothing, ready, offer_chain, offer_of, offered, response_places, used_places, used_bytes, carrying, served_memory, stepped_by, records_ok, stepped}
use Rattle.guest_view.specs.View.{view_ok}
use Rattle.guest_view.specs.Promises.{memory_leaf, Ordered, Backed, InMemory, Within, place_in}
use Rattle.virtqueue.specs.Promises.{UsedIn, Ready}
use Rattle.virtqueue.specs.declared.queue.SplitQueue.{SplitQueue}
use Rattle.virtqueue.specs.declared.queue.QueueStop.{QueueStop}
use Rattle.virtqueue.specs.declared.chain.Gathered.{Gathered}
use Rattle.virtqueue.specs.declared.step.StepFault.TheVariants.{Stopped, Record}
use Rattle.virtqueue.specs.declared.step.Moved.{Moved}
use Rattle.device_words.specs.Words.{device_of, device_words, device_length}
use Rattle.virtqueue.specs.Does.{DoesIn}
use Rattle.virtqueue.proofs.DeviceLaws.{laid_back}
use Rattle.guest_view.proofs.GuestLaws.{all_memory, reach_memory, place_below}
use Rattle.virtqueue.proofs.WayLaws.{way_along}
use Rattle.virtqueue.proofs.ReachedLaws.{Every, every_append, every_weaken, Reaches, every_byte, every_writable, chain_judged}
use Rattle.guest_view.proofs.RuleLaws.{view_ordered, view_backed}

-- the copies that make the used ring's places
pub used_laid : (place : ℕ → ℕ) (q : SplitQueue) (out : List ℕ) → length out ≡ 10
    → sets (sets out 0 (map place (addresses (used_entry q) 8))) 8 (map place (addresses (used_idx q) 2)) ≡ used_places place q
unfolding used_places addresses
used_laid place q out l =
    sym (sets_append out 0 (map place (addresses (used_entry q) 8)) (map place (addresses (used_idx q) 2)))
    ∙ over (map place (addresses (used_entry q) 8 ++ addresses (used_idx q) 2)) out l

-- bytes in the memory, their address and their number told otherwise
pub memory_as : (v : FlatView) (a b n m : ℕ) → a ≡ b → n ≡ m → InMemory v b m → InMemory v a n
memory_as v a b n m e f p = rw (e, f) p

-- a fact of each address of a stretch
pub every_stretch : (P : ℕ → Type 0) (a n : ℕ) → ((i : ℕ) → i < n → P (a + i)) → Every P (addresses a n)
unfolding addresses
every_stretch P a zero f = tt
every_stretch P a (suc n) f = (
  rw (add-zero a) at (f 0 (omega arith)),
  every_stretch P (suc a) n (λ i h. let e : a + suc i ≡ suc a + i = omega arith in rw e at (f (suc i) (omega arith))),
)

-- addresses that lie in the memory have their places in it
abbrev pub InView : FlatView → ℕ → Type 0
InView v a = memory_leaf (leaf_at (entries v) a) ≡ true

pub places_within : (v : FlatView) (n : ℕ) → Backed v n → (xs : List ℕ) → Every (InView v) xs → Within (map (place_in v) xs) n
places_within v n b xs p = record { each = go xs p }
  where
    go : (xs : List ℕ) → Every (InView v) xs → (i : ℕ) → i < length (map (place_in v) xs) → get_or (map (place_in v) xs) i 0 < n
    go [] p i h = absurd (omega arith)
    go (x ∷ xs) p zero h = place_below v x p.0 n b
    go (x ∷ xs) p (suc i) h = go xs p.1 i (omega arith)

pub used_within : (v : FlatView) (q : SplitQueue) (n : ℕ) → Backed v n → UsedIn v q → Within (used_places (place_in v) q) n
unfolding used_places
used_within v q n b u =
    places_within v n b (addresses (used_entry q) 8 ++ addresses (used_idx q) 2)
    (every_append (InView v) (addresses (used_entry q) 8) (addresses (used_idx q) 2)
    (every_stretch (InView v) (used_entry q) 8 u.entry.each)
    (every_stretch (InView v) (used_idx q) 2 u.idx.each))

pub within_moved : (ps qs : List ℕ) (n m : ℕ) → ps ≡ qs → m ≡ n → Within qs n → Within ps m
within_moved ps qs n m e f w = rw (e, f) w

-- what a chain that is ready says
pub record Readied (g : Guest) (memory : List ℕ) (q : SplitQueue) (h : ℕ) (c : Chain) : Type 0 where
  pub used : used_reached g q ≡ true
  pub low : h < q.size
  pub chain : c ≡ chain_of g memory q h

module _ (g : Guest) (memory : List ℕ) (q : SplitQueue) (h : ℕ) (notify : Bool) (c : Chain) where
  chain_ready : (j : ℕ) (n : Bool) (b : Chain) → j < q.size → b ≡ chain_of g memory q j → offer_chain g q j n b ≡ ready h notify c → Readied g memory q h c
  unfolding offer_chain
  chain_ready j n b l k e = go (eqb (shape_of b) 0) (used_reached g q) refl e
    where
      go : (x y : Bool) → used_reached g q ≡ y → cond x (cond y (ready j n b) (stop 17)) (stop (shape_of b)) ≡ ready h notify c → Readied g memory q h c
      go true true f e =
          let i : j ≡ h = cc in
          let r : b ≡ c = cc in
          record { used = f; low = rw i at l; chain = sym r ∙ k ∙ ap (chain_of g memory q) i }
      go true false f e = absurd (let z : ◌≡◌ {A = ℕ} 0 1 = cc in omega arith)
      go false y f e = absurd (let z : ◌≡◌ {A = ℕ} 0 1 = cc in omega arith)

  way_ready : (w : Way) → way_of g memory q ≡ w → offer_of g q w ≡ ready h notify c → Readied g memory q h c
  way_ready (halted k) f e = absurd (let z : ◌≡◌ {A = ℕ} 0 1 = cc in omega arith)
  way_ready quiet f e = absurd (let z : ◌≡◌ {A = ℕ} 0 1 = cc in omega arith)
  way_ready (along j n b) f e = let k = way_along g memory q j n b f in chain_ready j n b k.low k.chain e

  pub offer_ready : offered g memory q ≡ ready h notify c → Readied g memory q h c
  offer_ready e = way_ready (way_of g memory q) refl e

-- its used ring and its response's places lie in the memory
pub used_in : (v : FlatView) (d : MemoryDevice) (q : SplitQueue) → used_reached (by_view v d) q ≡ true → UsedIn v q
unfolding used_reached
used_in v d q h =
    let r = (by_view v d).reach in
    record {
      entry = all_memory v d.block_size d.plugged (used_entry q) 8 (and_fst (all_reach r (used_entry q) 8) (all_reach r (used_idx q) 2) h);
      idx = all_memory v d.block_size d.plugged (used_idx q) 2 (and_snd (all_reach r (used_entry q) 8) (all_reach r (used_idx q) 2) h);
    }

pub ready_within : (v : FlatView) (d : MemoryDevice) (memory : List ℕ) (q : SplitQueue) (h : ℕ) (c : Chain) (n : ℕ)
    → Backed v n → c ≡ chain_of (by_view v d) memory q h → Within (response_places (place_in v) c) n
unfolding response_places
ready_within v d memory q h c n b e =
    let r = (by_view v d).reach in
    let c = chain_of (by_view v d) memory q h in
    rw e
    (places_within v n b (first_bytes 10 (writable c))
    (every_weaken (Reaches r) (InView v) (λ a l. reach_memory (plugged_at d) (leaf_at (entries v) a) l) (first_bytes 10 (writable c))
    (every_byte r 10 (writable c) (every_writable r c (chain_judged (by_view v d) memory q.descriptors.0 q.size h)))))

-- What a step on records that were judged leaves: the answer, the device's words and memory.
abbrev pub Left : FlatView → List ℕ → SplitQueue → List ℕ → Moved → List ℕ → List ℕ → Type 0
Left v w q memory r device m = DoesIn w (stepped_by (by_view v (device_of w)) (device_of w) q memory) r device m

module _ (v : FlatView) (w : List ℕ) (l : length w ≡ device_length) (q : SplitQueue) (memory : List ℕ) where
  abbrev d : MemoryDevice
  d = device_of w

  pub judged_stop : (s : QueueStop) (p : SplitQueue) → offered (by_view v d) memory q ≡ stop (stop_number s) → p ≡ stopped_by q (stop_number s)
      → Left v w q memory (record { outcome = Err (Stopped s); queue = p }) w memory
  unfolding stepped_by
  judged_stop s p o f = rw (f, o) (refl, refl, sym (laid_back w), refl)

  pub judged_idle : offered (by_view v d) memory q ≡ nothing → Left v w q memory (record { outcome = Ok None; queue = q }) w memory
  unfolding stepped_by
  judged_idle o = rw o (refl, refl, sym (laid_back w), refl)

  module _ (h : ℕ) (notify : Bool) (t : Gathered) (r : Ready (by_view v d) memory (offered (by_view v d) memory q) h notify t) where
    readied : Readied (by_view v d) memory q h r.chain
    readied = offer_ready (by_view v d) memory q h notify r.chain r.is

    pub judged_used : UsedIn v q
    judged_used = used_in v d q readied.used

    pub judged_within : (n : ℕ) → Backed v n → Within t.places n
    judged_within n b = rw r.places (ready_within v d memory q h r.chain n b readied.chain)

    pub judged_ready : (p : SplitQueue) (used bytes device m : List ℕ) → p ≡ advanced q → used ≡ used_places (place_in v) q → bytes ≡ used_bytes q.next_used h
        → device ≡ device_words (carrying d t.request).device → m ≡ served_memory memory t.places (carrying d t.request).response used bytes
        → Left v w q memory (record { outcome = Ok (Some (record { notify = notify })); queue = p }) device m
    unfolding stepped_by
    judged_ready p used bytes device m f x y z u =
        rw (r.is, ← r.request, ← r.places, eq-eqb (length w) device_length l, f, z, u, x, y) (refl, refl, refl, refl)

-- 27's rules, and the step on records that keep them or not
pub record RecordFacts (v : FlatView) (d : MemoryDevice) (q : SplitQueue) (n : ℕ) : Type 0 where
  pub ordered : Ordered v
  pub backed : Backed v n
  pub device : device_ok d ≡ true
  pub queue : queue_ok q ≡ true

pub records_facts : (v : FlatView) (d : MemoryDevice) (q : SplitQueue) (n : ℕ) → records_ok v d q n ≡ true → n ≤ 2 ^ 64 → RecordFacts v d q n
unfolding records_ok
records_facts v d q n h l =
    let x = and_fst (view_ok v n d.region_size) (device_ok d && queue_ok q) h in
    let y = and_snd (view_ok v n d.region_size) (device_ok d && queue_ok q) h in
    record {
      ordered = view_ordered v n d.region_size x l;
      backed = view_backed v n d.region_size x;
      device = and_fst (device_ok d) (queue_ok q) y;
      queue = and_snd (device_ok d) (queue_ok q) y;
    }

-- a step on words that keep 27's rules or not
abbrev pub LeftAny : FlatView → List ℕ → SplitQueue → List ℕ → Moved → List ℕ → List ℕ → Type 0
LeftAny v w q memory r device m = DoesIn w (stepped v (device_of w) q memory) r device m

module _ (v : FlatView) (w : List ℕ) (q : SplitQueue) (memory : List ℕ) where
  pub step_judged : records_ok v (device_of w) q (length memory) ≡ true → (r : Moved) (device m : List ℕ)
      → Left v w q memory r device m → LeftAny v w q memory r device m
  unfolding stepped
  step_judged h r device m l = rw h l

  pub step_refused : records_ok v (device_of w) q (length memory) ≡ false → LeftAny v w q memory (record { outcome = Err Record; queue = q }) w memory
  unfolding stepped
  step_refused h = rw h (refl, refl, sym (laid_back w), refl)
