-- `virtqueue::chain::fetch` meets its contract. Assumes nothing.
use Rattle.std.proofs.Common.{◌≡◌, ℕ, ◌+◌, ◌*◌, List, sym, ap, ◌∙◌}
use Rattle.map_records.specs.Words.{view_of}
use Rattle.guest_view.proofs.GuestLaws.{all_memory}
use Rattle.virtqueue.specs.Chain.{descriptor_at, fetched}
use Rattle.virtqueue.specs.Promises.{place_of}
use Rattle.virtqueue.proofs.ChainLaws.{descriptor_laid}
use Rattle.virtqueue.proofs.chain.fetch.Goals as goal

pub returns-then-not-reaches : goal.returns-then-not-reaches
unfolding fetched
returns-then-not-reaches c = rw (← c.from.ensures) (simp (sym c.reaches.ensures ∙ c.if-not-reaches.true))

pub read_bytes-requires-clause-in_memory : goal.read_bytes-requires-clause-in_memory
read_bytes-requires-clause-in_memory c = let g = c.args.lent.now in all_memory (view_of g.guest.view) g.guest.blocks.size g.guest.blocks.plugged.now (c.args.table.0 + 16 * c.from.result) 16 (sym c.reaches.ensures ∙ c.if-not-reaches.false)

pub returns : goal.returns
unfolding fetched
returns c = let e : c.descriptor_of.result ≡ descriptor_at (place_of c.args.lent.now) c.args.lent.now.mem.now (c.args.table.0 + 16 * c.from.result) =
    c.descriptor_of.ensures ∙ ap (λ (b : List ℕ). descriptor_at (λ a. a) b 0) c.read_bytes.ensures ∙ descriptor_laid _ _ _ in
    rw (← c.from.ensures) (simp (sym c.reaches.ensures ∙ c.if-not-reaches.false, e))
