-- Laws of the queue record. Assumes nothing.
use Rattle.std.proofs.Common.{◌≡◌, ℕ, zero, suc, ◌+◌, ◌*◌, ◌%◌, ◌^◌, ◌<◌, ◌≤◌, Bool, true, false, cond, not, ◌&&◌, ◌||◌, eqb, leb, sym, refl, ◌∙◌, arith, eqb-true, leb-true, le-leb}
use Rattle.std.specs.Int.{is_power_of_two}
use Rattle.std.specs.Prelude.{Option, Some, None, is_some}
use borrow.Author.Tests.{eqb-false}
use lib.Count.{ones}
use Rattle.map_records.specs.Limits.{limit}
use Rattle.map_check.proofs.Bools.{and_fst, and_snd}
use Rattle.virtqueue.specs.Queue.{size_ok, area_ok, areas_ok, stop_ok, queue_ok, stop_number, StopOf}
use Rattle.virtqueue.specs.declared.queue.QueueStop.{QueueStop}
use Rattle.virtqueue.specs.declared.queue.QueueStop.TheVariants as stops
use Rattle.virtqueue.specs.declared.queue.SplitQueue.{SplitQueue}

-- a size is one of nine numbers, each from 1 to 256
or_else : {A : Type 0} (a b : Bool) → (a || b) ≡ true → (a ≡ true → A) → (b ≡ true → A) → A
or_else true b e f g = f refl
or_else false b e f g = g e

pub size_bounds : (n : ℕ) → size_ok n ≡ true → (1 ≤ n) × (n ≤ 256)
size_bounds n h =
    or_else (eqb n 1 || eqb n 2 || eqb n 4 || eqb n 8 || eqb n 16 || eqb n 32 || eqb n 64 || eqb n 128) (eqb n 256) h
    (λ h. or_else (eqb n 1 || eqb n 2 || eqb n 4 || eqb n 8 || eqb n 16 || eqb n 32 || eqb n 64) (eqb n 128) h
    (λ h. or_else (eqb n 1 || eqb n 2 || eqb n 4 || eqb n 8 || eqb n 16 || eqb n 32) (eqb n 64) h
    (λ h. or_else (eqb n 1 || eqb n 2 || eqb n 4 || eqb n 8 || eqb n 16) (eqb n 32) h
    (λ h. or_else (eqb n 1 || eqb n 2 || eqb n 4 || eqb n 8) (eqb n 16) h
    (λ h. or_else (eqb n 1 || eqb n 2 || eqb n 4) (eqb n 8) h
    (λ h. or_else (eqb n 1 || eqb n 2) (eqb n 4) h
    (λ h. or_else (eqb n 1) (eqb n 2) h (is 1 refl) (is 2 refl)) (is 4 refl)) (is 8 refl)) (is 16 refl)) (is 32 refl)) (is 64 refl)) (is 128 refl)) (is 256 refl)
  where
    is : (k : ℕ) → (leb 1 k && leb k 256) ≡ true → eqb n k ≡ true → (1 ≤ n) × (n ≤ 256)
    is k b e =
        let z = eqb-true n k e in
        let low = leb-true 1 k (and_fst (leb 1 k) (leb k 256) b) in
        let high = leb-true k 256 (and_snd (leb 1 k) (leb k 256) b) in
        (omega arith, omega arith)

-- and those nine are the powers of two up to 256
same : Bool → Bool → Bool
same a b = cond a b (not b)

same_is : (a b : Bool) → same a b ≡ true → a ≡ b
unfolding same
same_is true b e = sym e
same_is false false e = refl
same_is false true e = e

agree : ℕ → Bool
agree zero = true
agree (suc n) = agree n && same (is_power_of_two n) (size_ok n)

agree_at : (k n : ℕ) → agree k ≡ true → n < k → is_power_of_two n ≡ size_ok n
unfolding agree
agree_at zero n e h = absurd (omega arith)
agree_at (suc k) n e h = go (eqb n k) refl (λ l. agree_at k n (and_fst (agree k) (same (is_power_of_two k) (size_ok k)) e) l)
  where
    here : same (is_power_of_two k) (size_ok k) ≡ true
    here = and_snd (agree k) (same (is_power_of_two k) (size_ok k)) e

    go : (b : Bool) → eqb n k ≡ b → (n < k → is_power_of_two n ≡ size_ok n) → is_power_of_two n ≡ size_ok n
    go true i f = let j = eqb-true n k i in rw j (same_is (is_power_of_two k) (size_ok k) here)
    go false i f = let j = eqb-false n k i in f (omega arith)

pub size_power : (n : ℕ) → (is_power_of_two n && leb n 256) ≡ size_ok n
unfolding agree same ones
size_power n = go (leb n 256) refl (size_ok n) refl
  where
    and_one : (a : Bool) → (a && true) ≡ a
    and_one true = refl
    and_one false = refl

    and_zero : (a : Bool) → (a && false) ≡ false
    and_zero true = refl
    and_zero false = refl

    go : (b : Bool) → leb n 256 ≡ b → (s : Bool) → size_ok n ≡ s → (is_power_of_two n && leb n 256) ≡ size_ok n
    go true i s e = let j = leb-true n 256 i in rw (i, agree_at 257 n refl (omega arith)) (and_one (size_ok n))
    go false i true e = let j = size_bounds n e in let k = le-leb n 256 j.1 in let z : true ≡ false = cc in cc
    go false i false e = rw (i, e) (and_zero (is_power_of_two n))

-- what 27 tells of a queue
pub record QueueFacts (q : SplitQueue) : Type 0 where
  pub some : 1 ≤ q.size
  pub most : q.size ≤ 256
  pub descriptors : q.descriptors.0 + 16 * q.size ≤ 2 ^ 48
  pub available : q.available.0 + (6 + 2 * q.size) ≤ 2 ^ 48
  pub used : q.used.0 + (6 + 8 * q.size) ≤ 2 ^ 48
  pub stop : stop_ok q.stop ≡ true

pub queue_facts : (q : SplitQueue) → queue_ok q ≡ true → QueueFacts q
unfolding queue_ok areas_ok
queue_facts q h =
    let n = q.size in
    let d = area_ok q.descriptors.0 16 (16 * n) in
    let a = area_ok q.available.0 2 (6 + 2 * n) in
    let u = area_ok q.used.0 4 (6 + 8 * n) in
    let areas = and_fst (size_ok n && (d && (a && u))) (stop_ok q.stop) h in
    let three = and_snd (size_ok n) (d && (a && u)) areas in
    let two = and_snd d (a && u) three in
    let bounds = size_bounds n (and_fst (size_ok n) (d && (a && u)) areas) in
    record {
      some = bounds.0;
      most = bounds.1;
      descriptors = area_end q.descriptors.0 16 (16 * n) (and_fst d (a && u) three);
      available = area_end q.available.0 2 (6 + 2 * n) (and_fst a u two);
      used = area_end q.used.0 4 (6 + 8 * n) (and_snd a u two);
      stop = and_snd (size_ok n && (d && (a && u))) (stop_ok q.stop) h;
    }
  where
    area_end : (start align bytes : ℕ) → area_ok start align bytes ≡ true → start + bytes ≤ 2 ^ 48
    area_end start align bytes e = leb-true (start + bytes) limit (and_snd (eqb (start % align) 0) (leb (start + bytes) limit) e)

-- a stop that is set is one of 17 to 22
pub stop_bounds : (s : ℕ) → stop_ok s ≡ true → (s ≡ 0 → ⊥) → (17 ≤ s) × (s ≤ 22)
stop_bounds s h ne =
    or_else (eqb s 0) (leb 17 s && leb s 22) h (λ e. absurd (ne (eqb-true s 0 e)))
    (λ e. (leb-true 17 s (and_fst (leb 17 s) (leb s 22) e), leb-true s 22 (and_snd (leb 17 s) (leb s 22) e)))

-- the numbers of what stops a queue
pub stop_some : (s : QueueStop) → stop_number s ≡ 0 → ⊥
stop_some stops.Ring e = omega arith
stop_some stops.Ahead e = omega arith
stop_some stops.Head e = omega arith
stop_some stops.Chain e = omega arith
stop_some stops.Reach e = omega arith
stop_some stops.Shape e = omega arith

-- a queue's stop is none, or one of them
pub stop_read : (n : ℕ) (r : Option QueueStop) → StopOf n r → (eqb n 0 || is_some r) ≡ stop_ok n
stop_read n (Some stops.Ring) e = rw e
stop_read n (Some stops.Ahead) e = rw e
stop_read n (Some stops.Head) e = rw e
stop_read n (Some stops.Chain) e = rw e
stop_read n (Some stops.Reach) e = rw e
stop_read n (Some stops.Shape) e = rw e
stop_read n None e = go (leb 17 n) refl (leb n 22) refl
  where
    go : (a : Bool) → leb 17 n ≡ a → (b : Bool) → leb n 22 ≡ b → (eqb n 0 || false) ≡ stop_ok n
    go false i b j = rw i
    go true i false j = rw (i, j)
    go true i true j =
        let x = leb-true 17 n i in
        let y = leb-true n 22 j in
        absurd (let a : n ≡ 17 → ⊥ = e stops.Ring in
        let b : n ≡ 18 → ⊥ = e stops.Ahead in
        let c : n ≡ 19 → ⊥ = e stops.Head in
        let d : n ≡ 20 → ⊥ = e stops.Chain in
        let f : n ≡ 21 → ⊥ = e stops.Reach in
        let g : n ≡ 22 → ⊥ = e stops.Shape in omega arith)

pub stop_none : (q : SplitQueue) → queue_ok q ≡ true → ((s : QueueStop) → q.stop ≡ stop_number s → ⊥) → q.stop ≡ 0
stop_none q h n = eqb-true q.stop 0 (go (eqb q.stop 0) (stop_read q.stop None n ∙ (queue_facts q h).stop))
  where
    go : (b : Bool) → (b || false) ≡ true → b ≡ true
    go true e = refl
    go false e = e
