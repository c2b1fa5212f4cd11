-- `wicktumble::maps::wt_flatten` meets its contract. Assumes nothing.
use mathlib.Core.Path.{refl, ap, ◌∙◌}
use mathlib.Core.List.{List}
use Prim.Native.Nat.{ℕ}
use borrow.Author.Tests.{eq-eqb, ne_eqb}
use Rattle.map_records.specs.Words.{map_of}
use Rattle.map_check.specs.Reply.{Laid}
use Rattle.region_map.specs.Flatten.{flattened_into, flat_fault_reply}
use Rattle.wicktumble.specs.Result.{reply_report}
use Rattle.wicktumble.specs.Maps.{flatten_call}
use Rattle.wicktumble.proofs.CallLaws.{told_as, reply_told}
use Rattle.wicktumble.proofs.maps.wt_flatten.Goals as goal

pub returns-in_default : goal.returns-in_default
unfolding flatten_call
returns-in_default c = rw (ne_eqb _ _ c.in_default.ensures.cases) (refl, (c.refused.ensures, refl))

pub returns-in_default-as_mut_array : goal.returns-in_default-as_mut_array
unfolding flatten_call
returns-in_default-as_mut_array c =
    rw (eq-eqb _ _ c.in-Some.ensures.cases.long, ne_eqb _ _ c.in_default-as_mut_array.ensures.cases)
    (refl, (c.refused-in_default-as_mut_array.ensures, refl))

pub returns-in_default-as_mut_array-2 : goal.returns-in_default-as_mut_array-2
unfolding flatten_call
returns-in_default-as_mut_array-2 c =
    rw (eq-eqb _ _ c.in-Some.ensures.cases.long, eq-eqb _ _ c.in-Some-as_mut_array.ensures.cases.long, ne_eqb _ _ c.in_default-as_mut_array-2.ensures.cases)
    (c.in-Some-as_mut_array.ensures.cases.same, (c.refused-in_default-as_mut_array-2.ensures, refl))

pub returns : goal.returns
unfolding flatten_call
returns c =
    let made : List ℕ → List ℕ → Laid = λ m v. flattened_into (map_of m) c.args.memory_length v in
    let map = c.in-Some.ensures.cases in
    let view = c.in-Some-as_mut_array.ensures.cases in
    rw (eq-eqb _ _ map.long, eq-eqb _ _ view.long, eq-eqb _ _ c.in-Some-as_mut_array-2.ensures.cases.long) (
      c.flatten.ensures.1 ∙ (λ i. (made (map.same i) (view.same i)).words),
      told_as c.tell.ensures
          (reply_told flat_fault_reply c.flatten.result
          ∙ ap reply_report (c.flatten.ensures.0 ∙ (λ i. (made (map.same i) (view.same i)).reply))),
    )
