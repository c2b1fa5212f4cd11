-- Laws of the reading half of a step: notices, head, what was gathered, and what is offered. Assumes nothing.
use Rattle.std.proofs.Common.{◌≡◌, ℕ, ◌+◌, ◌-◌, ◌%◌, ◌^◌, ◌<◌, ◌≤◌, min, Bool, true, false, cond, ◌||◌, ltb, List, length, take, sym, refl, ap, ◌∙◌, mod-lt, arith, length-take, take_all, ltb-false, ltb-true, le-ltb, lt-ltb, eq-eqb, ne_eqb, le-leb}
use lib.ListN.{length-map}
use Rattle.std.specs.Prelude.{Option, Some, None, Result, Ok, Err}
use borrow.Author.Tests.{lt-leb}
use Rattle.guest_view.specs.Guest.{Guest, all_reach, byte_at, number_at}
use Rattle.virtqueue.specs.Queue.{stop_number, ring_entry, used_entry, distance}
use Rattle.virtqueue.specs.Chain.{Chain, end_of, readable, writable, total, first_bytes, shape_of}
use Rattle.virtqueue.specs.Step.{notifies, used_reached, stop, ready, offer_chain, offer_of, offered, request_bytes, response_places}
use Rattle.virtqueue.specs.Promises.{Whole, is_short, notices_of, head_of, head_way, notices_way}
use Rattle.virtqueue.specs.declared.chain.Gathered.{Gathered}
use Rattle.virtqueue.specs.declared.queue.SplitQueue.{SplitQueue}
use Rattle.virtqueue.specs.declared.queue.QueueStop.{QueueStop}
use Rattle.virtqueue.specs.declared.queue.QueueStop.TheVariants as stops
use Rattle.virtqueue.proofs.ChainLaws.{length_first}
use Rattle.virtqueue.proofs.QueueLaws.{QueueFacts, stop_some}
use Rattle.virtqueue.proofs.WayLaws.{way_stopped, way_notices}

-- where a queue's entries end
module _ (q : SplitQueue) (f : QueueFacts q) where
  pub ring_end : ring_entry q + 2 ≤ 2 ^ 48
  ring_end = omega (arith, f.available, mod-lt q.next_available f.some)

  pub used_end : used_entry q + 8 ≤ 2 ^ 48
  used_end = omega (arith, f.used, mod-lt q.next_used f.some)

-- the distance of two indices, as it is computed
pub distance_is : (a b : ℕ) → b < 65536 → (a + (65536 - b)) % 65536 ≡ distance a b
distance_is a b h = let e : a + (65536 - b) ≡ a + 65536 - b = omega arith in ap (λ (x : ℕ). x % 65536) e

-- what the available ring says
module _ (g : Guest) (memory : List ℕ) (q : SplitQueue) where
  pub notices_out : all_reach g.reach q.available.0 4 ≡ false → Err stops.Ring ≡ notices_of g memory q
  unfolding notices_of
  notices_out h = rw h

  module _ (h : all_reach g.reach q.available.0 4 ≡ true) (idx : ℕ) (e : idx ≡ number_at g.place memory (q.available.0 + 2) 2) where
    pub notices_idle : idx ≡ q.next_available → Ok None ≡ notices_of g memory q
    unfolding notices_of
    notices_idle n = rw (h, ← e, eq-eqb idx q.next_available n)

    module _ (n : idx ≡ q.next_available → ⊥) where
      pub notices_far : q.size < distance idx q.next_available → Err stops.Ahead ≡ notices_of g memory q
      unfolding notices_of
      notices_far l = rw (h, ← e, ne_eqb idx q.next_available n, lt-leb (distance idx q.next_available) q.size l)

      pub notices_offered : (flags : ℕ) → flags ≡ number_at g.place memory q.available.0 2 → distance idx q.next_available ≤ q.size
          → Ok (Some (notifies flags)) ≡ notices_of g memory q
      unfolding notices_of
      notices_offered flags k l = rw (h, ← e, ← k, ne_eqb idx q.next_available n, le-leb (distance idx q.next_available) q.size l)

  -- and its entry
  pub head_out : all_reach g.reach (ring_entry q) 2 ≡ false → Err stops.Ring ≡ head_of g memory q
  unfolding head_of
  head_out h = rw h

  module _ (h : all_reach g.reach (ring_entry q) 2 ≡ true) (at : ℕ) (e : at ≡ number_at g.place memory (ring_entry q) 2) where
    pub head_at : at < q.size → Ok at ≡ head_of g memory q
    unfolding head_of
    head_at l = rw (h, ← e, lt-ltb at q.size l)

    pub head_past : q.size ≤ at → Err stops.Head ≡ head_of g memory q
    unfolding head_of
    head_past l = rw (h, ← e, le-ltb at q.size l)

  -- a head is below the size
  pub head_low : (h : ℕ) → head_of g memory q ≡ Ok h → h < q.size
  unfolding head_of
  head_low h e = go (all_reach g.reach (ring_entry q) 2) (number_at g.place memory (ring_entry q) 2) e
    where
      below : (n : ℕ) (b : Bool) → ltb n q.size ≡ b → cond b (Ok n) (Err stops.Head) ≡ Ok h → h < q.size
      below n true l e = let z : n ≡ h = cc in omega (arith, ltb-true n q.size l)
      below n false l e = let z : ◌≡◌ {A = ℕ} 0 1 = cc in omega arith

      go : (r : Bool) (n : ℕ) → cond r (cond (ltb n q.size) (Ok n) (Err stops.Head)) (Err stops.Ring) ≡ Ok h → h < q.size
      go true n e = below n (ltb n q.size) refl e
      go false n e = let z : ◌≡◌ {A = ℕ} 0 1 = cc in omega arith

-- what was gathered of a chain has the chain's shape
least_below : (n k t : ℕ) → n ≡ min k t → ltb n k ≡ ltb t k
least_below n k t e = go (ltb t k) refl
  where
    go : (b : Bool) → ltb t k ≡ b → ltb n k ≡ ltb t k
    go true h = let l = ltb-true t k h in lt-ltb n k (omega arith) ∙ sym h
    go false h = let l = ltb-false t k h in le-ltb n k (omega arith) ∙ sym h

module _ (place : ℕ → ℕ) (memory : List ℕ) (c : Chain) (r : Gathered) (g : Whole place memory c r) where
  read_count : r.readable ≡ min 24 (total (readable c))
  unfolding request_bytes
  read_count =
      let l : length (take r.readable r.request) ≡ min 24 (total (readable c)) =
      ap length g.request ∙ length-map (first_bytes 24 (readable c)) (byte_at place memory) ∙ length_first 24 (readable c) in
      omega (arith, g.few_read, length-take r.readable r.request)

  written_count : r.writable ≡ min 10 (total (writable c))
  unfolding response_places
  written_count =
      let l : length (take r.writable r.places) ≡ min 10 (total (writable c)) =
      ap length g.places ∙ length-map (first_bytes 10 (writable c)) place ∙ length_first 10 (writable c) in
      omega (arith, g.few_written, length-take r.writable r.places)

  pub whole_shape : shape_of c ≡ cond (is_short r) 22 0
  unfolding shape_of
  whole_shape =
      rw (g.end, least_below r.readable 24 (total (readable c)) read_count, least_below r.writable 10 (total (writable c)) written_count)

  -- one that is not short has all the bytes and places
  pub whole_ready : is_short r ≡ false → (r.request ≡ request_bytes place memory c) × (r.places ≡ response_places place c)
  whole_ready h =
      let p = or_fst (ltb r.readable 24) (ltb r.writable 10) h in
      let q = or_snd (ltb r.readable 24) (ltb r.writable 10) h in (
        sym (take_all r.readable r.request (omega (arith, ltb-false r.readable 24 p, g.all_read))) ∙ g.request,
        sym (take_all r.writable r.places (omega (arith, ltb-false r.writable 10 q, g.all_written))) ∙ g.places,
      )
    where
      or_fst : (a b : Bool) → (a || b) ≡ false → a ≡ false
      or_fst false b h = refl
      or_fst true b h = cc

      or_snd : (a b : Bool) → (a || b) ≡ false → b ≡ false
      or_snd false b h = h
      or_snd true b h = cc

-- what is offered
module _ (g : Guest) (q : SplitQueue) (h : ℕ) (notify : Bool) (c : Chain) where
  pub chain_ended : (shape_of c ≡ 0 → ⊥) → offer_chain g q h notify c ≡ stop (shape_of c)
  unfolding offer_chain
  chain_ended n = rw (ne_eqb (shape_of c) 0 n)

  pub chain_short : (s : QueueStop) → shape_of c ≡ stop_number s → offer_chain g q h notify c ≡ stop (stop_number s)
  chain_short s e = chain_ended (λ z. stop_some s (sym e ∙ z)) ∙ ap stop e

  pub chain_stopped : (s : QueueStop) → end_of c ≡ stop_number s → offer_chain g q h notify c ≡ stop (stop_number s)
  unfolding shape_of
  chain_stopped s e = chain_short s (rw (ne_eqb (end_of c) 0 (λ z. stop_some s (sym e ∙ z))) e)

  pub chain_unused : shape_of c ≡ 0 → used_reached g q ≡ false → offer_chain g q h notify c ≡ stop 17
  unfolding offer_chain
  chain_unused e u = rw (e, u)

  pub chain_ready : shape_of c ≡ 0 → used_reached g q ≡ true → offer_chain g q h notify c ≡ ready h notify c
  unfolding offer_chain
  chain_ready e u = rw (e, u)

module _ (g : Guest) (memory : List ℕ) (q : SplitQueue) where
  pub offered_stopped : (q.stop ≡ 0 → ⊥) → offered g memory q ≡ stop q.stop
  offered_stopped n = ap (offer_of g q) (way_stopped g memory q n)

  -- what is noticed, by what the code was told
  pub noticed : (r : Result (Option Bool) QueueStop) (x n : Option Bool) → r ≡ notices_of g memory q → r ≡ Ok x → x ≡ n → notices_of g memory q ≡ Ok n
  noticed r x n e f i = rw (← e, f, i)

  pub offered_notices : (n : Result (Option Bool) QueueStop) → q.stop ≡ 0 → notices_of g memory q ≡ n → offered g memory q ≡ offer_of g q (notices_way g memory q n)
  offered_notices n e f = ap (offer_of g q) (way_notices g memory q e ∙ ap (notices_way g memory q) f)

  pub offered_head : (notify : Bool) (x : Result ℕ QueueStop) → q.stop ≡ 0 → notices_of g memory q ≡ Ok (Some notify) → head_of g memory q ≡ x
      → offered g memory q ≡ offer_of g q (head_way g memory q notify x)
  offered_head notify x e f i = offered_notices (Ok (Some notify)) e f ∙ ap (λ (y : Result ℕ QueueStop). offer_of g q (head_way g memory q notify y)) i
