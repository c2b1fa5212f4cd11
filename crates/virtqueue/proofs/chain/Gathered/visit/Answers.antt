-- `virtqueue::chain::Gathered::visit` meets its contract. Assumes nothing.
use Rattle.std.proofs.Common.{sym, ◌∙◌}
use Rattle.map_records.specs.Words.{view_of}
use Rattle.guest_view.proofs.GuestLaws.{all_memory}
use Rattle.virtqueue.proofs.chain.Gathered.visit.Goals as goal

pub add-requires-clause-in_memory : goal.add-requires-clause-in_memory
add-requires-clause-in_memory c = rw (← c.from.ensures) (all_memory (view_of c.args.lent.now.guest.view) c.args.lent.now.guest.blocks.size c.args.lent.now.guest.blocks.plugged.now _ _ (sym c.reaches.ensures ∙ c.if-not-reaches.false))
