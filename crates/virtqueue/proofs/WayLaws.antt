-- The way of a step: where it leads by what is met, and what is known of one that goes along a chain. Assumes nothing.
use Rattle.std.proofs.Common.{◌≡◌, ℕ, ◌<◌, ◌≤◌, Bool, true, false, cond, eqb, ltb, leb, List, sym, refl, ap, ◌∙◌, arith, ltb-true, le-ltb, lt-ltb, eq-eqb, ne_eqb, le-leb}
use Rattle.std.specs.Prelude.{Some, None, Ok, Err}
use borrow.Author.Tests.{lt-leb}
use Rattle.guest_view.specs.Guest.{Guest, all_reach}
use Rattle.virtqueue.specs.Queue.{ring_entry}
use Rattle.virtqueue.specs.Chain.{Chain}
use Rattle.virtqueue.specs.Step.{halted, quiet, along, unless, flags, idx, entry, offers, notifies, chain_of, way_of}
use Rattle.virtqueue.specs.Promises.{notices_of, head_of, head_way, notices_way}
use Rattle.virtqueue.specs.declared.queue.SplitQueue.{SplitQueue}
use Rattle.virtqueue.specs.declared.queue.QueueStop.TheVariants as stops

module _ (g : Guest) (memory : List ℕ) (q : SplitQueue) where
  pub way_stopped : (q.stop ≡ 0 → ⊥) → way_of g memory q ≡ halted q.stop
  unfolding way_of
  way_stopped n = rw (ne_eqb q.stop 0 n)

  module _ (z : q.stop ≡ 0) where
    pub way_unnoticed : all_reach g.reach q.available.0 4 ≡ false → way_of g memory q ≡ halted 17
    unfolding way_of
    way_unnoticed f = rw (eq-eqb q.stop 0 z, f)

    module _ (f : all_reach g.reach q.available.0 4 ≡ true) where
      pub way_quiet : idx g memory q ≡ q.next_available → way_of g memory q ≡ quiet
      unfolding way_of
      way_quiet s = rw (eq-eqb q.stop 0 z, f, eq-eqb (idx g memory q) q.next_available s)

      module _ (n : idx g memory q ≡ q.next_available → ⊥) where
        pub way_ahead : q.size < offers g memory q → way_of g memory q ≡ halted 18
        unfolding way_of
        way_ahead l = rw (eq-eqb q.stop 0 z, f, ne_eqb (idx g memory q) q.next_available n, lt-leb (offers g memory q) q.size l)

        module _ (l : offers g memory q ≤ q.size) where
          pub way_ring : all_reach g.reach (ring_entry q) 2 ≡ false → way_of g memory q ≡ halted 17
          unfolding way_of
          way_ring r = rw (eq-eqb q.stop 0 z, f, ne_eqb (idx g memory q) q.next_available n, le-leb (offers g memory q) q.size l, r)

          module _ (r : all_reach g.reach (ring_entry q) 2 ≡ true) where
            pub way_head : q.size ≤ entry g memory q → way_of g memory q ≡ halted 19
            unfolding way_of
            way_head h =
                rw (eq-eqb q.stop 0 z, f, ne_eqb (idx g memory q) q.next_available n, le-leb (offers g memory q) q.size l, r, le-ltb (entry g memory q) q.size h)

            pub way_on : entry g memory q < q.size → way_of g memory q ≡ along (entry g memory q) (notifies (flags g memory q)) (chain_of g memory q (entry g memory q))
            unfolding way_of
            way_on h =
                rw (eq-eqb q.stop 0 z, f, ne_eqb (idx g memory q) q.next_available n, le-leb (offers g memory q) q.size l, r, lt-ltb (entry g memory q) q.size h)

  -- the way as the code goes it
  pub way_notices : q.stop ≡ 0 → way_of g memory q ≡ notices_way g memory q (notices_of g memory q)
  unfolding way_of notices_of head_of
  way_notices e =
      rw (eq-eqb q.stop 0 e)
      (go (all_reach g.reach q.available.0 4) (eqb (idx g memory q) q.next_available) (leb (offers g memory q) q.size))
    where
      by_head : (r h : Bool)
          → unless r 17 (unless h 19 (along (entry g memory q) (notifies (flags g memory q)) (chain_of g memory q (entry g memory q))))
          ≡ head_way g memory q (notifies (flags g memory q)) (cond r (cond h (Ok (entry g memory q)) (Err stops.Head)) (Err stops.Ring))
      by_head true true = refl
      by_head true false = refl
      by_head false h = refl

      go : (x y z : Bool)
          → unless x 17 (cond y quiet (unless z 18 (unless (all_reach g.reach (ring_entry q) 2) 17 (unless (ltb (entry g memory q) q.size) 19 (along (entry g memory q) (notifies (flags g memory q)) (chain_of g memory q (entry g memory q)))))))
          ≡ notices_way g memory q (cond x (cond y (Ok None) (cond z (Ok (Some (notifies (flags g memory q)))) (Err stops.Ahead))) (Err stops.Ring))
      go true true z = refl
      go true false true = by_head (all_reach g.reach (ring_entry q) 2) (ltb (entry g memory q) q.size)
      go true false false = refl
      go false y z = refl

-- what is known of a step that goes along a chain
pub record Along (g : Guest) (memory : List ℕ) (q : SplitQueue) (h : ℕ) (c : Chain) : Type 0 where
  pub ring : all_reach g.reach (ring_entry q) 2 ≡ true
  pub head : h ≡ entry g memory q
  pub low : h < q.size
  pub chain : c ≡ chain_of g memory q h

pub way_along : (g : Guest) (memory : List ℕ) (q : SplitQueue) (h : ℕ) (n : Bool) (c : Chain) → way_of g memory q ≡ along h n c → Along g memory q h c
unfolding way_of
way_along g memory q h n c e =
    go (eqb q.stop 0) (all_reach g.reach q.available.0 4) (eqb (idx g memory q) q.next_available) (leb (offers g memory q) q.size) (all_reach g.reach (ring_entry q) 2) (ltb at q.size) refl refl e
  where
    at : ℕ
    at = entry g memory q

    none : {k : ℕ} → halted k ≡ along h n c → Along g memory q h c
    none e = absurd (let z : ◌≡◌ {A = ℕ} 0 1 = cc in omega arith)

    go : (s f i o r l : Bool) → all_reach g.reach (ring_entry q) 2 ≡ r → ltb at q.size ≡ l
        → unless s q.stop (unless f 17 (cond i quiet (unless o 18 (unless r 17 (unless l 19 (along at (notifies (flags g memory q)) (chain_of g memory q at))))))) ≡ along h n c → Along g memory q h c
    go true true false true true true x y e =
        let i : at ≡ h = cc in
        let k : chain_of g memory q at ≡ c = cc in
        record { ring = x; head = sym i; low = rw i at (ltb-true at q.size y); chain = sym k ∙ ap (chain_of g memory q) i }
    go true true false true true false x y e = none e
    go true true false true false l x y e = none e
    go true true false false r l x y e = none e
    go true true true o r l x y e = absurd (let z : ◌≡◌ {A = ℕ} 0 1 = cc in omega arith)
    go true false i o r l x y e = none e
    go false f i o r l x y e = none e
