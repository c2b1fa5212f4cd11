-- `listing::input::read_full` meets its contract. Assumes nothing.
use Rattle.std.proofs.Common.{rules}
use Rattle.listing.proofs.InputLaws.{read_more}
use Rattle.listing.proofs.input.read_full.Goals as goal

pub loop-done-preserved : goal.loop-done-preserved
loop-done-preserved g c =
    let l = c.loop-done in
    let i = l.invariant in
    let n = c.in_ok-n.ensures in
    (search rules, read_more (g.R.Read.remaining c.args.input.now) (g.R.Read.remaining l.input) _ l.done c.in_ok-n.n l.buffer c.read.new.buf i.0 n.bound.0 i.1 n.bytes.0)
