-- The queue that words are read as. Assumes nothing.
use mathlib.Core.Path.{◌≡◌, refl, ap, ◌∙◌}
use mathlib.Core.Bool.{Bool, true, false, ◌&&◌}
use mathlib.Core.List.{List}
use Prim.{⊥}
use Prim.Native.Nat.{ℕ, ◌≤◌}
use native.Mathlib.Omega.{arith}
use lib.Dec.{eqb, leb}
use lib.ListN.{length, get_or}
use borrow.Author.Tests.{eqb-true, leb-true, eq-eqb, le-leb}
use Rattle.std.proofs.Common.{Result, Ok, Err, Option, Some, None, pos, unsigned_abs}
use Rattle.std.specs.Result.{OkIff, result_ok}
use Rattle.std.specs.Int.{FitsUnsignedBits}
use Rattle.map_check.proofs.Bools.{and_fst, and_snd}
use Rattle.virtqueue.specs.declared.queue.SplitQueue.{SplitQueue}
use Rattle.wicktumble.specs.Queues.{queue_fits, QueueWidths, queue_of}
use Rattle.wicktumble.specs.Promises.{queue_read}

-- ---- what the test of the length and the widths says
pub queue_widths : (w : List ℕ) → queue_fits w ≡ true → QueueWidths w
unfolding queue_fits
queue_widths w h =
    let n = eqb (length w) 7 in
    let a = leb (get_or w 0 0) 65535 in
    let b = leb (get_or w 4 0) 65535 in
    let c = leb (get_or w 5 0) 65535 in
    let d = leb (get_or w 6 0) 255 in
    let abcd = and_snd n (a && (b && (c && d))) h in
    let bcd = and_snd a (b && (c && d)) abcd in
    let cd = and_snd b (c && d) bcd in
    record {
      seven = eqb-true (length w) 7 (and_fst n (a && (b && (c && d))) h);
      size = leb-true (get_or w 0 0) 65535 (and_fst a (b && (c && d)) abcd);
      available = leb-true (get_or w 4 0) 65535 (and_fst b (c && d) bcd);
      used = leb-true (get_or w 5 0) 65535 (and_fst c d cd);
      stop = leb-true (get_or w 6 0) 255 (and_snd c d cd);
    }

-- ---- words that do not fit are no queue
pub unfit : (w : List ℕ) {v : List ℕ} {o : Option SplitQueue} → v ≡ w → o ≡ None → (QueueWidths v → ⊥) → o ≡ queue_read w
unfolding queue_read
unfit w same none not = none ∙ go (queue_fits w) refl
  where
    go : (t : Bool) → queue_fits w ≡ t → None ≡ queue_read w
    go true e = absurd (not (rw same (queue_widths w e)))
    go false e = rw e

-- ---- a number of 16 bits, and one of 8
module _ {E : Type 0} {n : ℕ} where
  pub narrow_16 : (r : Result ℕ E) {o : Option ℕ} {x : ℕ} → OkIff r (FitsUnsignedBits 16 (pos n)) (unsigned_abs (pos n)) → o ≡ result_ok r → o ≡ Some x → (n ≤ 65535) × (x ≡ n)
  narrow_16 (Ok y) (f, v) e s = (omega arith, cc)
  narrow_16 (Err d) h e s = cc

  pub wide_16 : (r : Result ℕ E) {o : Option ℕ} → OkIff r (FitsUnsignedBits 16 (pos n)) (unsigned_abs (pos n)) → o ≡ result_ok r → o ≡ None → n ≤ 65535 → ⊥
  wide_16 (Ok y) h e s l = cc
  wide_16 (Err d) h e s l = h (omega arith)

  pub narrow_8 : (r : Result ℕ E) {o : Option ℕ} {x : ℕ} → OkIff r (FitsUnsignedBits 8 (pos n)) (unsigned_abs (pos n)) → o ≡ result_ok r → o ≡ Some x → (n ≤ 255) × (x ≡ n)
  narrow_8 (Ok y) (f, v) e s = (omega arith, cc)
  narrow_8 (Err d) h e s = cc

  pub wide_8 : (r : Result ℕ E) {o : Option ℕ} → OkIff r (FitsUnsignedBits 8 (pos n)) (unsigned_abs (pos n)) → o ≡ result_ok r → o ≡ None → n ≤ 255 → ⊥
  wide_8 (Ok y) h e s l = cc
  wide_8 (Err d) h e s l = h (omega arith)

-- ---- words that fit are the queue of their fields
pub read_as : (w : List ℕ) {v : List ℕ} {size available used stop : ℕ} → v ≡ w → length w ≡ 7
    → (get_or v 0 0 ≤ 65535) × (size ≡ get_or v 0 0) → (get_or v 4 0 ≤ 65535) × (available ≡ get_or v 4 0)
    → (get_or v 5 0 ≤ 65535) × (used ≡ get_or v 5 0) → (get_or v 6 0 ≤ 255) × (stop ≡ get_or v 6 0)
    → Some (record {
      size = size;
      descriptors = record { 0 = get_or v 1 0 };
      available = record { 0 = get_or v 2 0 };
      used = record { 0 = get_or v 3 0 };
      next_available = available;
      next_used = used;
      stop = stop;
    }) ≡ queue_read w
unfolding queue_read queue_fits queue_of
read_as w {v = v} same long (a, ea) (b, eb) (c, ec) (d, ed) =
    rw (ea, eb, ec, ed, ← same, eq-eqb (length v) 7 (ap length same ∙ long), le-leb (get_or v 0 0) 65535 a, le-leb (get_or v 4 0) 65535 b, le-leb (get_or v 5 0) 65535 c, le-leb (get_or v 6 0) 255 d)
