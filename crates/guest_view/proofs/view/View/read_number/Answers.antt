-- `guest_view::view::View::read_number` meets its contract. Assumes nothing.
use mathlib.Core.Path.{◌∙◌}
use native.Mathlib.Omega.{arith}
use lib.ListN.{length}
use Rattle.map_records.specs.Words.{view_of}
use Rattle.guest_view.proofs.GuestLaws.{memory_front}
use Rattle.guest_view.proofs.StretchLaws.{runs_number, runs_room}
use Rattle.guest_view.proofs.view.View.read_number.Goals as goal

pub stretch_at-here-requires : goal.stretch_at-here-requires
stretch_at-here-requires c =
    record { in_memory = memory_front (view_of c.args.self.now) c.args.addr.0 c.args.bytes 1 c.requires.in_memory c.requires.bytes_nonzero.0 }

pub overflow_sub-bytes : goal.overflow_sub-bytes
overflow_sub-bytes c = omega (arith, c.requires.bytes_nonzero.0)

pub number_from-requires : goal.number_from-requires
number_from-requires c =
    let here = c.stretch_at-here in
    (runs_room (view_of c.args.self.now) c.args.addr.0 here.result.place here.result.left c.args.bytes here.ensures c.requires.bytes_nonzero.0 c.if-bytes-here.true (length c.args.mem.now) c.requires.in_memory c.requires.backed, c.requires.bytes_nonzero.1)

pub returns-then-bytes-here : goal.returns-then-bytes-here
returns-then-bytes-here c =
    let here = c.stretch_at-here in
    (c.number_from.ensures.0 ∙ runs_number (view_of c.args.self.now) c.args.addr.0 here.result.place here.result.left c.args.bytes here.ensures c.requires.bytes_nonzero.0 c.if-bytes-here.true c.args.mem.now, c.number_from.ensures.1)

pub number_apart-requires : goal.number_apart-requires
number_apart-requires c =
    record { backed = c.requires.backed; in_memory = c.requires.in_memory; bytes_bound = c.requires.bytes_nonzero.1 }

pub returns : goal.returns
returns c = c.number_apart.ensures
