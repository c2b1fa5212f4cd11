-- `wicktumble::routes::wt_look_up` meets its contract. Assumes nothing.
use mathlib.Core.Path.{refl, ap, ◌∙◌}
use mathlib.Core.List.{List}
use Prim.Native.Nat.{ℕ}
use borrow.Author.Tests.{eq-eqb, ne_eqb}
use Rattle.map_records.specs.Words.{view_of}
use Rattle.routing.specs.Look.{looked_up}
use Rattle.wicktumble.specs.Maps.{walk_result}
use Rattle.wicktumble.specs.Routes.{look_up_call}
use Rattle.wicktumble.proofs.CallLaws.{told_as, look_told}
use Rattle.wicktumble.proofs.routes.wt_look_up.Goals as goal

pub returns-in_default : goal.returns-in_default
unfolding look_up_call
returns-in_default c = rw (ne_eqb _ _ c.in_default.ensures.cases) (c.refused.ensures, refl)

pub returns-in_default-as_mut_array : goal.returns-in_default-as_mut_array
unfolding look_up_call
returns-in_default-as_mut_array c = rw (eq-eqb _ _ c.in-Some.ensures.cases.long, ne_eqb _ _ c.in_default-as_mut_array.ensures.cases) (c.refused-in_default-as_mut_array.ensures, refl)

pub returns : goal.returns
unfolding look_up_call
returns c =
    rw (eq-eqb _ _ c.in-Some.ensures.cases.long, eq-eqb _ _ c.in-Some-as_mut_array.ensures.cases.long)
    (told_as c.tell.ensures
    (look_told c.look_up.result
    ∙ ap walk_result
    (c.look_up.ensures ∙ ap (λ (w : List ℕ). looked_up (view_of w) c.args.memory_length c.args.address) c.in-Some.ensures.cases.same)))
