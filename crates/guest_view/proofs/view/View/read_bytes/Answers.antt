-- `guest_view::view::View::read_bytes` meets its contract. Assumes nothing.
use Rattle.std.proofs.Common.{rules, get_or, length, ◌<◌, ◌^◌, ◌+◌, arith}
use Rattle.map_records.specs.Words.{view_of}
use Rattle.guest_view.specs.Promises.{place_in}
use Rattle.guest_view.proofs.GuestLaws.{place_below}
use Rattle.guest_view.proofs.view.View.read_bytes.Goals as goal

pub fill-requires-clause-callable : goal.fill-requires-clause-callable
fill-requires-clause-callable c = λ i h.
    let v = view_of c.args.self.now in
    let below : place_in v (c.args.addr.0 + i) < length c.args.mem.now = place_below v _ (c.requires.in_memory.each i h) _ c.requires.backed in
    let fits : place_in v (c.args.addr.0 + i) < 2 ^ 64 = omega (arith, below) in
    search rules

pub returns : goal.returns
returns c = c.fill.ensures (λ p. get_or c.args.mem.now p 0) (λ p x h q. search rules)
