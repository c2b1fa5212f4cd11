-- `routing::route::route` meets its contract. Assumes nothing.
use mathlib.Core.Path.{sym, ap, ◌∙◌}
use Prim.Native.Nat.{ℕ}
use Rattle.routing.specs.Route.{Routed}
use Rattle.routing.proofs.RouteAllLaws.{refused_given, record_given}
use Rattle.routing.proofs.route.route.Goals as goal

pub returns-in_err-guest : goal.returns-in_err-guest
returns-in_err-guest c = record_given c.from_residual.result c.from_residual.ensures.1 ∙ refused_given _ _ _ c.in_err-guest.ensures _ _

pub returns : goal.returns
returns c = c.route_at.ensures ∙ sym (ap (λ (f : ℕ → ℕ → Routed). f c.args.address.0 c.args.width) c.in_ok-guest.ensures.routes)
