-- `wicktumble::maps::wt_check_map` meets its contract. Assumes nothing.
use mathlib.Core.Path.{refl, ap, ◌∙◌}
use mathlib.Core.List.{List}
use Prim.Native.Nat.{ℕ}
use borrow.Author.Tests.{eq-eqb, ne_eqb}
use Rattle.map_records.specs.Words.{map_of}
use Rattle.map_check.specs.Check.{fault_reply, judged}
use Rattle.wicktumble.specs.Result.{reply_report}
use Rattle.wicktumble.specs.Maps.{check_call}
use Rattle.wicktumble.proofs.CallLaws.{told_as, reply_told}
use Rattle.wicktumble.proofs.maps.wt_check_map.Goals as goal

pub returns-in_default : goal.returns-in_default
unfolding check_call
returns-in_default c = rw (ne_eqb _ _ c.in_default.ensures.cases) (c.refused.ensures, refl)

pub returns-in_default-as_mut_array : goal.returns-in_default-as_mut_array
unfolding check_call
returns-in_default-as_mut_array c = rw (eq-eqb _ _ c.in-Some.ensures.cases.long, ne_eqb _ _ c.in_default-as_mut_array.ensures.cases) (c.refused-in_default-as_mut_array.ensures, refl)

pub returns : goal.returns
unfolding check_call
returns c =
    rw (eq-eqb _ _ c.in-Some.ensures.cases.long, eq-eqb _ _ c.in-Some-as_mut_array.ensures.cases.long)
    (told_as c.tell.ensures
    (reply_told fault_reply c.check_map.result
    ∙ ap reply_report (c.check_map.ensures.reply ∙ ap (λ (w : List ℕ). judged (map_of w) c.args.memory_length) c.in-Some.ensures.cases.same)))
