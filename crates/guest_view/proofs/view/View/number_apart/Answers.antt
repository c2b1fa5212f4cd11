-- `guest_view::view::View::number_apart` meets its contract. Assumes nothing.
use Rattle.std.proofs.Common.{rules, get_or, length, ◌<◌, ◌^◌, ◌+◌, ◌∙◌, arith}
use Rattle.map_records.specs.Words.{view_of}
use Rattle.guest_view.specs.Guest.{byte_at}
use Rattle.guest_view.specs.Promises.{place_in}
use Rattle.guest_view.proofs.GuestLaws.{place_below}
use Rattle.guest_view.proofs.MemoryLaws.{number_made, eight_part}
use Rattle.guest_view.proofs.view.View.number_apart.Goals as goal

pub fill_apart-requires-clause-callable : goal.fill_apart-requires-clause-callable
fill_apart-requires-clause-callable c = λ i h.
    let v = view_of c.args.self.now in
    let near : i < c.args.bytes = omega (arith, h, eight_part c.args.bytes c.requires.bytes_bound) in
    let below : place_in v (c.args.addr.0 + i) < length c.args.mem.now = place_below v _ (c.requires.in_memory.each i near) _ c.requires.backed in
    let fits : place_in v (c.args.addr.0 + i) < 2 ^ 64 = omega (arith, below) in
    search rules

pub returns : goal.returns
returns c = (
  c.number_from.ensures.0
      ∙ number_made (byte_at (place_in (view_of c.args.self.now)) c.args.mem.now) c.args.addr.0 _ c.args.bytes _ (c.fill_apart.ensures (λ p. get_or c.args.mem.now p 0) (λ p x h q. search rules)) (eight_part c.args.bytes c.requires.bytes_bound),
  c.number_from.ensures.1,
)
