-- `wicktumble::routes::wt_route_all` meets its contract. Assumes nothing.
use mathlib.Core.Path.{ap, ◌∙◌}
use Rattle.std.proofs.Common.{Option}
use Rattle.map_records.specs.Words.{view_of}
use Rattle.device_words.specs.Device.{MemoryDevice}
use Rattle.device_words.specs.Words.{device_of}
use Rattle.routing.specs.Route.{RoutedAll, all_given}
use Rattle.wicktumble.specs.Routes.{is_none, route_all_call}
use Rattle.wicktumble.proofs.CallLaws.{routes_given}
use Rattle.wicktumble.proofs.RouteCalls.{routes_refused}
use Rattle.wicktumble.proofs.routes.wt_route_all.Goals as goal

pub returns-in_default : goal.returns-in_default
returns-in_default c =
    let a = c.args in
    routes_refused a.view.now a.memory_length a.device.now a.accesses.now a.answers.now c.in_default.ensures c.refused.ensures

pub returns : goal.returns
unfolding route_all_call
returns c =
    let a = c.args in
    let e = ap (λ (o : Option MemoryDevice). all_given (view_of a.view.now) a.memory_length o a.accesses.now a.answers.now) c.in-Ok.ensures.1
    ∙ routes_given (is_none a.device.now) (view_of a.view.now) a.memory_length (device_of a.device.now) a.accesses.now a.answers.now in
    (c.number_of.ensures ∙ c.route_all.ensures.0 ∙ ap (λ (y : RoutedAll). y.number) e, c.route_all.ensures.1 ∙ ap (λ (y : RoutedAll). y.answers) e)
