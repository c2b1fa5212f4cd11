-- `wicktumble::maps::wt_walk` meets its contract. Assumes nothing.
use mathlib.Core.Path.{refl, ap, ◌∙◌}
use mathlib.Core.List.{List}
use Prim.Native.Nat.{ℕ}
use borrow.Author.Tests.{eq-eqb, ne_eqb}
use Rattle.map_records.specs.Words.{map_of}
use Rattle.region_map.specs.Resolve.{resolved}
use Rattle.wicktumble.specs.Maps.{walk_call, walk_result}
use Rattle.wicktumble.proofs.CallLaws.{told_as, walk_told}
use Rattle.wicktumble.proofs.maps.wt_walk.Goals as goal

pub returns-in_default : goal.returns-in_default
unfolding walk_call
returns-in_default c = rw (ne_eqb _ _ c.in_default.ensures.cases) (c.refused.ensures, refl)

pub returns-in_default-as_mut_array : goal.returns-in_default-as_mut_array
unfolding walk_call
returns-in_default-as_mut_array c = rw (eq-eqb _ _ c.in-Some.ensures.cases.long, ne_eqb _ _ c.in_default-as_mut_array.ensures.cases) (c.refused-in_default-as_mut_array.ensures, refl)

pub returns : goal.returns
unfolding walk_call
returns c =
    rw (eq-eqb _ _ c.in-Some.ensures.cases.long, eq-eqb _ _ c.in-Some-as_mut_array.ensures.cases.long)
    (told_as c.tell.ensures
    (walk_told c.resolve_address.result
    ∙ ap walk_result
    (c.resolve_address.ensures ∙ ap (λ (w : List ℕ). resolved (map_of w) c.args.memory_length c.args.address) c.in-Some.ensures.cases.same)))
