-- Demand 3, second half: over the view that was made of an accepted map, whatever memory, device record and queue record hold, a step accepts an element's addresses exactly when the tree leads each of its bytes to plain RAM or to a block plugged when the step began, and memory after it is as the tree says. Assumes nothing.
use Rattle.std.proofs.Common.{◌≡◌, ℕ, ◌≤◌, Bool, true, false, cond, eqb, List, length, sym, refl, ap, ◌∙◌, subst, arith}
use Rattle.map_records.specs.Words.{map_of, view_of}
use Rattle.map_records.specs.declared.map.RegionMap.{RegionMap}
use Rattle.map_records.specs.declared.view.FlatView.{FlatView}
use Rattle.map_check.specs.Check.{Accepted}
use Rattle.map_check.specs.Reply.{accepted}
use Rattle.region_map.specs.Flatten.{flat_list, view_holding, flattened_into}
use Rattle.map_check.proofs.Bools.{never}
use Rattle.device_words.specs.Device.{MemoryDevice}
use Rattle.device_words.specs.Words.{device_of}
use Rattle.guest_view.specs.Guest.{Guest, by_view, by_tree}
use Rattle.guest_view.proofs.GuestLaws.{all_each}
use Rattle.guest_view.proofs.ReachLaws.{all_true}
use Rattle.virtqueue.specs.Chain.{Chain, whole, ended, rejected, element, shape_of}
use Rattle.virtqueue.specs.Step.{refused, idle, served, Way, halted, quiet, along, entry, way_of, chain_in, comes_to, used_reached, Offer, stop, nothing, ready, offer_chain, offer_of, offered, Effect, unmoved, served_by, finished, stepped_by, records_ok, stepped, carrying}
use Rattle.virtqueue.specs.SecondHalf.{Led, elements_of, Exactly, served_at, SecondHalf}
use Rattle.virtqueue.specs.declared.queue.SplitQueue.{SplitQueue}
use Rattle.virtqueue.proofs.ReachedLaws.{Judged, chain_judged}
use Rattle.virtqueue.proofs.WayLaws.{way_along}
use Rattle.virtqueue.proofs.TreeLaws.{view_tree}
use Rattle.virtqueue.proofs.MadeWords.{made_view}

-- ---- over any guest

-- the elements that a step comes to were judged by their bytes
comes_judged : (g : Guest) (memory : List ℕ) (q : SplitQueue) → Judged g.reach (comes_to g memory q)
comes_judged g memory q = go (way_of g memory q) refl
  where
    go : (w : Way) → way_of g memory q ≡ w → Judged g.reach (chain_in w)
    go (halted k) e = tt
    go quiet e = tt
    go (along h n c) e = rw (way_along g memory q h n c e).chain (chain_judged g memory q.descriptors.0 q.size h)

exactly : (g : Guest) (c : Chain) → Judged g.reach c → Exactly (Led g) c
exactly g whole p = tt
exactly g (ended k) p = tt
exactly g (rejected e) p = λ led. never (sym (all_true g.reach e.addr.0 e.length led) ∙ p)
exactly g (element e c) p = ((λ i h. all_each g.reach e.addr.0 e.length i p.0 h), exactly g c p.1)

pub unserved : {P : Type 0} (k : ℕ) (b : Bool) → refused k ≡ served b → P
unserved k b e = absurd (let z : ◌≡◌ {A = ℕ} 0 1 = cc in omega arith)

unidle : {P : Type 0} (b : Bool) → idle ≡ served b → P
unidle b e = absurd (let z : ◌≡◌ {A = ℕ} 0 1 = cc in omega arith)

module _ (g : Guest) (d : MemoryDevice) (q : SplitQueue) (memory : List ℕ) where
  -- a step that was served went along the chain that it comes to, from the ring's entry
  pub serving : (b : Bool) → (finished g d q memory (offered g memory q)).answer ≡ served b
      → finished g d q memory (offered g memory q) ≡ served_by g (carrying d) q memory (entry g memory q) b (comes_to g memory q)
  unfolding offer_chain
  serving b e = go (way_of g memory q) refl e
    where
      by_chain : (h : ℕ) (n : Bool) (c : Chain) → h ≡ entry g memory q → (x y : Bool)
          → (finished g d q memory (cond x (cond y (ready h n c) (stop 17)) (stop (shape_of c)))).answer ≡ served b
          → finished g d q memory (cond x (cond y (ready h n c) (stop 17)) (stop (shape_of c))) ≡ served_by g (carrying d) q memory (entry g memory q) b c
      by_chain h n c i true true e = let j : n ≡ b = cc in λ t. served_by g (carrying d) q memory (i t) (j t) c
      by_chain h n c i true false e = unserved 17 b e
      by_chain h n c i false y e = unserved (shape_of c) b e

      go : (w : Way) → way_of g memory q ≡ w → (finished g d q memory (offer_of g q w)).answer ≡ served b
          → finished g d q memory (offer_of g q w) ≡ served_by g (carrying d) q memory (entry g memory q) b (chain_in w)
      go (halted k) f e = unserved k b e
      go quiet f e = unidle b e
      go (along h n c) f e = by_chain h n c (way_along g memory q h n c f).head (eqb (shape_of c) 0) (used_reached g q) e

  -- a step that is not served leaves memory as it was
  idle_kept : (o : Offer) → (finished g d q memory o).answer ≡ idle → (finished g d q memory o).memory ≡ memory
  idle_kept (stop k) e = refl
  idle_kept nothing e = refl
  idle_kept (ready h n c) e = unidle n (sym e)

  refused_kept : (k : ℕ) (o : Offer) → (finished g d q memory o).answer ≡ refused k → (finished g d q memory o).memory ≡ memory
  refused_kept k (stop j) e = refl
  refused_kept k nothing e = refl
  refused_kept k (ready h n c) e = unserved k n (sym e)

-- over the guest that a view gives
by_view_lem : (v : FlatView) (d : MemoryDevice) (q : SplitQueue) (memory : List ℕ) → SecondHalf (by_view v d) v d q memory
unfolding elements_of stepped stepped_by
by_view_lem v d q memory = go (records_ok v d q (length memory)) refl
  where
    go : (x : Bool) → records_ok v d q (length memory) ≡ x → SecondHalf (by_view v d) v d q memory
    go true r =
        let g = by_view v d in
        let step : stepped v d q memory ≡ finished g d q memory (offered g memory q) = rw r in
        let came : elements_of v d q memory ≡ comes_to g memory q = rw r in
        record {
          accepts = rw r (exactly g (comes_to g memory q) (comes_judged g memory q));
          served = λ n e.
              ap (λ (f : Effect MemoryDevice). f.memory) (step ∙ serving g d q memory n (ap (λ (f : Effect MemoryDevice). f.answer) (sym step) ∙ e))
              ∙ ap (served_at g d q memory) (sym came);
          idle = λ e.
              ap (λ (f : Effect MemoryDevice). f.memory) step
              ∙ idle_kept g d q memory (offered g memory q) (ap (λ (f : Effect MemoryDevice). f.answer) (sym step) ∙ e);
          refused = λ k e.
              ap (λ (f : Effect MemoryDevice). f.memory) step
              ∙ refused_kept g d q memory k (offered g memory q) (ap (λ (f : Effect MemoryDevice). f.answer) (sym step) ∙ e);
        }
    go false r =
        let step : stepped v d q memory ≡ unmoved (refused 27) d q memory = rw r in
        record {
          accepts = rw r tt;
          served = λ n e. unserved 27 n (ap (λ (f : Effect MemoryDevice). f.answer) (sym step) ∙ e);
          idle = λ e. ap (λ (f : Effect MemoryDevice). f.memory) step;
          refused = λ k e. ap (λ (f : Effect MemoryDevice). f.memory) step;
        }

-- ---- over the tree: the view that was made of a map gives the guest that the tree gives
pub demand3_second_half : (m : RegionMap) (size : ℕ) → Accepted m size → length (flat_list m) ≤ 256
    → (d : MemoryDevice) (q : SplitQueue) (memory : List ℕ) → SecondHalf (by_tree m d) (view_holding (flat_list m)) d q memory
demand3_second_half m size ok few d q memory =
    subst (λ (t : Guest). SecondHalf t (view_holding (flat_list m)) d q memory) (view_tree m size ok few d) (by_view_lem (view_holding (flat_list m)) d q memory)

-- Demand 3, second half, over words: `view` was made of the map in the words `map`; any words are given as a device
pub demand3 : (map : List ℕ) (size : ℕ) (old view : List ℕ) → flattened_into (map_of map) size old ≡ record { reply = accepted; words = view }
    → (device : List ℕ) (q : SplitQueue) (memory : List ℕ) → SecondHalf (by_tree (map_of map) (device_of device)) (view_of view) (device_of device) q memory
demand3 map size old view made device q memory =
    let e = made_view (map_of map) size old view made in
    subst (λ (v : FlatView). SecondHalf (by_tree (map_of map) (device_of device)) v (device_of device) q memory) (sym e.is)
    (demand3_second_half (map_of map) size e.accepted e.few (device_of device) q memory)
