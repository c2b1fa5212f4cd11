-- `guest_view::view::View::find_places` meets its contract. Assumes nothing.
use Rattle.std.proofs.Common.{rules}
use Rattle.guest_view.proofs.view.View.find_places.Goals as goal

pub returns : goal.returns
returns c = c.fill.ensures (λ p. p) (λ p x h q. search rules)
