-- `virtqueue::serve::serve` meets its contract. Assumes nothing.
use Rattle.std.proofs.Common.{ℕ, List, refl, ap, ◌∙◌}
use Rattle.guest_view.specs.Guest.{written}
use Rattle.virtqueue.specs.Step.{carrying}
use Rattle.virtqueue.proofs.StepLaws.{within_moved}
use Rattle.virtqueue.proofs.serve.serve.Goals as goal

pub write_bytes-requires-2 : goal.write_bytes-requires-2
write_bytes-requires-2 c = record { within = within_moved _ _ _ _ refl c.write_bytes.auto.mem c.requires.used_len.1; places_len = c.requires.used_len.0 }

pub returns : goal.returns
unfolding carrying
returns c = let a = c.args in (
  c.respond-response.ensures.1,
  c.write_bytes-2.ensures ∙ ap (λ (m : List ℕ). written m a.used.now a.bytes.now) (c.write_bytes.ensures ∙ ap (λ (x : List ℕ). written a.mem.now a.places.now x) c.respond-response.ensures.0),
)
