-- The loop's invariant: what is gathered and what is left of the chain make up the chain from the head on.
use Rattle.std.proofs.Common.{ℕ, ◌-◌, ◌<◌, Bool}
use Rattle.virtqueue.specs.Chain.{Chain, next_below, fetched, reached, follow, chain_at}
use Rattle.virtqueue.specs.Promises.{guest_of, place_of}
use Rattle.virtqueue.specs.declared.lent.Lent.{Lent}
use Rattle.virtqueue.proofs.ChainLaws.{Going}
use Rattle.virtqueue.proofs.chain.Gathered.gather.Given as goal

-- the chain that is left where a turn begins: of at most `left` descriptors, from entry i on
abbrev pub left_of : Lent → ℕ → ℕ → ℕ → ℕ → Bool → Chain
left_of g table size = follow (fetched (guest_of g) g.mem.now table) (reached (guest_of g)) (next_below size)

abbrev pub invariant-loop-passed : goal.invariant-loop-passed
invariant-loop-passed l = (l.i < l.size)
    × Going (place_of l.lent) l.lent.mem.now (chain_at (guest_of l.lent) l.lent.mem.now l.table.0 l.size l.head)
    (left_of l.lent l.table.0 l.size (l.size - l._passed) l.i l.self.late) l.self
