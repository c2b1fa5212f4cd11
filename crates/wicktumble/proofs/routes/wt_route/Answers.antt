-- `wicktumble::routes::wt_route` meets its contract. Assumes nothing.
use mathlib.Core.Path.{refl, ap, ◌∙◌}
use mathlib.Core.List.{List}
use Prim.Native.Nat.{ℕ}
use borrow.Author.Tests.{eq-eqb, ne_eqb}
use Rattle.std.proofs.Common.{Option}
use Rattle.map_records.specs.Words.{view_of}
use Rattle.device_words.specs.Device.{MemoryDevice}
use Rattle.device_words.specs.Words.{device_of}
use Rattle.routing.specs.Route.{routed_given}
use Rattle.wicktumble.specs.Routes.{is_none, route_call, route_result}
use Rattle.wicktumble.proofs.CallLaws.{told_as, route_told, route_given}
use Rattle.wicktumble.proofs.routes.wt_route.Goals as goal

pub returns-in_default : goal.returns-in_default
unfolding route_call
returns-in_default c = rw (ne_eqb _ _ c.in_default.ensures.cases) (c.refused.ensures, refl)

pub returns-in_default-lent_device : goal.returns-in_default-lent_device
unfolding route_call
returns-in_default-lent_device c = rw (eq-eqb _ _ c.in-Some.ensures.cases.long, c.in_default-lent_device.ensures) (c.refused-in_default-lent_device.ensures, refl)

pub returns-in_default-as_mut_array : goal.returns-in_default-as_mut_array
unfolding route_call
returns-in_default-as_mut_array c =
    rw (eq-eqb _ _ c.in-Some.ensures.cases.long, c.in-Ok.ensures.0, ne_eqb _ _ c.in_default-as_mut_array.ensures.cases)
    (c.refused-in_default-as_mut_array.ensures, refl)

pub returns : goal.returns
unfolding route_call
returns c =
    let a = c.args in
    let made : List ℕ → Option MemoryDevice → _ = λ v o. routed_given (view_of v) a.memory_length o a.address a.width in
    let same = c.in-Some.ensures.cases.same in
    rw (eq-eqb _ _ c.in-Some.ensures.cases.long, c.in-Ok.ensures.0, eq-eqb _ _ c.in-Some-as_mut_array.ensures.cases.long)
    (told_as c.tell.ensures
    (route_told c.route.result
    ∙ ap route_result
    (c.route.ensures
    ∙ (λ i. made (same i) (c.in-Ok.ensures.1 i))
    ∙ route_given (is_none a.device.now) (view_of a.view.now) a.memory_length (device_of a.device.now) a.address a.width)))
