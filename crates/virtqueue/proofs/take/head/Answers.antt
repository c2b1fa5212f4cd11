-- `virtqueue::take::head` meets its contract. Assumes nothing.
use Rattle.std.proofs.Common.{◌≡◌, ℕ, Bool, List, sym, ap, ◌∙◌, arith}
use Rattle.map_records.specs.Words.{view_of}
use Rattle.guest_view.specs.Guest.{all_reach, number_at}
use Rattle.guest_view.proofs.GuestLaws.{all_memory}
use Rattle.virtqueue.specs.Queue.{ring_entry}
use Rattle.virtqueue.specs.Promises.{place_of}
use Rattle.virtqueue.specs.declared.queue.SplitQueue.{SplitQueue}
use Rattle.virtqueue.proofs.QueueLaws.{queue_facts}
use Rattle.virtqueue.proofs.TakeLaws.{head_out, head_at, head_past}
use Rattle.virtqueue.proofs.take.head.Goals as goal

module _ (q : SplitQueue) (at : ℕ) (entry : at ≡ ring_entry q) where
  -- the entry's bytes, where the ring's entry lies
  tested : (reach : ℕ → Bool) (result : Bool) → result ≡ all_reach reach at 2 → result ≡ all_reach reach (ring_entry q) 2
  tested reach result e = e ∙ ap (λ (x : ℕ). all_reach reach x 2) entry

  number : (place : ℕ → ℕ) (memory : List ℕ) (result : ℕ) → result ≡ number_at place memory at 2 → result ≡ number_at place memory (ring_entry q) 2
  number place memory result e = e ∙ ap (λ (x : ℕ). number_at place memory x 2) entry

pub ring_entry-entry-requires : goal.ring_entry-entry-requires
ring_entry-entry-requires c = let f = queue_facts c.args.lent.now.queue c.args.lent.now.kept in (omega (arith, f.available), f.some)

pub returns-then-not-reaches : goal.returns-then-not-reaches
returns-then-not-reaches c = head_out _ _ _ (sym (tested c.args.lent.now.queue _ c.ring_entry-entry.ensures _ _ c.reaches.ensures) ∙ c.if-not-reaches.true)

pub number-number-requires : goal.number-number-requires
number-number-requires c = let g = c.args.lent.now in
    all_memory (view_of g.guest.view) g.guest.blocks.size g.guest.blocks.plugged.now _ 2 (sym c.reaches.ensures ∙ c.if-not-reaches.false)

pub returns-then-number-queue : goal.returns-then-number-queue
returns-then-number-queue c = let q = c.args.lent.now.queue in
    let e = c.ring_entry-entry.ensures in
    head_at _ _ _ (sym (tested q _ e _ _ c.reaches.ensures) ∙ c.if-not-reaches.false) _
    (number q _ e (place_of c.args.lent.now) c.args.lent.now.mem.now _ c.number-number.ensures) c.if-number-queue.true

pub returns : goal.returns
returns c = let q = c.args.lent.now.queue in
    let e = c.ring_entry-entry.ensures in
    head_past _ _ _ (sym (tested q _ e _ _ c.reaches.ensures) ∙ c.if-not-reaches.false) _
    (number q _ e (place_of c.args.lent.now) c.args.lent.now.mem.now _ c.number-number.ensures) c.if-number-queue.false
