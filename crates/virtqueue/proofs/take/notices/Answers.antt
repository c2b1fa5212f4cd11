-- `virtqueue::take::notices` meets its contract. Assumes nothing.
use Rattle.std.proofs.Common.{sym, ◌∙◌, arith}
use Rattle.map_records.specs.Words.{view_of}
use Rattle.guest_view.proofs.GuestLaws.{all_memory, memory_front, memory_part}
use Rattle.virtqueue.proofs.QueueLaws.{queue_facts}
use Rattle.virtqueue.proofs.TakeLaws.{distance_is, notices_out, notices_idle, notices_far, notices_offered}
use Rattle.virtqueue.proofs.take.notices.Goals as goal

pub returns-then-not-reaches : goal.returns-then-not-reaches
returns-then-not-reaches c = notices_out _ _ _ (sym c.reaches.ensures ∙ c.if-not-reaches.true)

pub number-flags-requires : goal.number-flags-requires
number-flags-requires c = let g = c.args.lent.now in
    let a = c.args.lent.now.queue.available.0 in
    memory_front (view_of g.guest.view) a 4 2 (all_memory (view_of g.guest.view) g.guest.blocks.size g.guest.blocks.plugged.now a 4 (sym c.reaches.ensures ∙ c.if-not-reaches.false)) (omega arith)

pub overflow_add-ring : goal.overflow_add-ring
overflow_add-ring c = omega (arith, (queue_facts c.args.lent.now.queue c.args.lent.now.kept).available)

pub number-idx-requires : goal.number-idx-requires
number-idx-requires c = let g = c.args.lent.now in
    let a = c.args.lent.now.queue.available.0 in
    memory_part (view_of g.guest.view) a 4 2 2 (all_memory (view_of g.guest.view) g.guest.blocks.size g.guest.blocks.plugged.now a 4 (sym c.reaches.ensures ∙ c.if-not-reaches.false)) (omega arith)

pub returns-then-idx-queue : goal.returns-then-idx-queue
returns-then-idx-queue c = notices_idle _ _ _ (sym c.reaches.ensures ∙ c.if-not-reaches.false) _ c.number-idx.ensures c.if-idx-queue.true

pub returns-then-queue-distance : goal.returns-then-queue-distance
returns-then-queue-distance c = let i = c.number-idx in
    let e = distance_is i.result c.args.lent.now.queue.next_available (omega (arith, c.well_formed)) in
    notices_far _ _ _ (sym c.reaches.ensures ∙ c.if-not-reaches.false) _ i.ensures c.if-idx-queue.false (omega (arith, e, c.if-queue-distance.true))

pub returns : goal.returns
returns c = let i = c.number-idx in
    let e = distance_is i.result c.args.lent.now.queue.next_available (omega (arith, c.well_formed)) in
    notices_offered _ _ _ (sym c.reaches.ensures ∙ c.if-not-reaches.false) _ i.ensures c.if-idx-queue.false _ c.number-flags.ensures
    (omega (arith, e, c.if-queue-distance.false))
