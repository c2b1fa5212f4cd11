-- `routing::route::route_all` meets its contract. Assumes nothing.
use mathlib.Core.Path.{sym, ap, ◌∙◌}
use mathlib.Core.Bool.{Bool, ◌&&◌}
use Rattle.map_check.proofs.Bools.{and_off}
use Rattle.std.specs.Prelude.{option_map}
use Rattle.device_words.specs.Words.{device_of}
use Rattle.map_records.specs.Words.{view_of}
use Rattle.routing.specs.Route.{RoutedAll, answers_fit}
use Rattle.routing.specs.Promises.{given_ok}
use Rattle.routing.proofs.RouteAllLaws.{given_refused, given_answered, record_counts}
use Rattle.routing.proofs.route.route_all.Goals as goal

pub returns-in_err-guest : goal.returns-in_err-guest
returns-in_err-guest c =
    let a = c.args in
    let e = given_refused (view_of a.view.now) a.memory_length a.accesses.now a.answers.now (option_map (λ d. device_of d.now) a.device) (ap (λ (x : Bool). x && answers_fit a.accesses.now a.answers.now) c.in_err-guest.ensures) in
    (record_counts c.from_residual.result c.from_residual.ensures.0 ∙ ap (λ (x : RoutedAll). x.number) (sym e), ap (λ (x : RoutedAll). x.answers) (sym e))

pub returns-then-not-answers_fit : goal.returns-then-not-answers_fit
returns-then-not-answers_fit c =
    let a = c.args in
    let d = option_map (λ d. device_of d.now) a.device in
    let ok = given_ok (view_of a.view.now) a.memory_length d in
    let e = given_refused (view_of a.view.now) a.memory_length a.accesses.now a.answers.now d (ap (λ (x : Bool). ok && x) (sym c.answers_fit.ensures ∙ c.if-not-answers_fit.true) ∙ and_off ok) in
    (ap (λ (x : RoutedAll). x.number) (sym e), ap (λ (x : RoutedAll). x.answers) (sym e))

pub returns : goal.returns
returns c =
    let a = c.args in
    let asked = c.in_ok-guest.ensures in
    let e = given_answered (view_of a.view.now) a.memory_length a.accesses.now a.answers.now (option_map (λ d. device_of d.now) a.device) asked.ok (sym c.answers_fit.ensures ∙ c.if-not-answers_fit.false) _ asked.routes in
    (ap (λ (x : RoutedAll). x.number) (sym e), c.routes_judged.ensures ∙ ap (λ (x : RoutedAll). x.answers) (sym e))
