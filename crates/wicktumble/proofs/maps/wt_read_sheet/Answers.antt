-- `wicktumble::maps::wt_read_sheet` meets its contract. Assumes nothing.
use mathlib.Core.Path.{refl, ap, ◌∙◌}
use mathlib.Core.List.{List}
use Prim.Native.Nat.{ℕ}
use borrow.Author.Tests.{eq-eqb, ne_eqb}
use Rattle.sheet.specs.Answer.{sheet_fault_reply}
use Rattle.sheet.specs.Sheet.{read_into}
use Rattle.wicktumble.specs.Result.{reply_report}
use Rattle.wicktumble.specs.Maps.{read_call}
use Rattle.wicktumble.proofs.CallLaws.{told_as, reply_told}
use Rattle.wicktumble.proofs.maps.wt_read_sheet.Goals as goal

pub returns-in_default : goal.returns-in_default
unfolding read_call
returns-in_default c = rw (ne_eqb _ _ c.in_default.ensures.cases) (refl, (c.refused.ensures, refl))

pub returns-in_default-as_mut_array : goal.returns-in_default-as_mut_array
unfolding read_call
returns-in_default-as_mut_array c = rw (eq-eqb _ _ c.in-Some.ensures.cases.long, ne_eqb _ _ c.in_default-as_mut_array.ensures.cases) (c.in-Some.ensures.cases.same, (c.refused-in_default-as_mut_array.ensures, refl))

pub returns : goal.returns
unfolding read_call
returns c =
    rw (eq-eqb _ _ c.in-Some.ensures.cases.long, eq-eqb _ _ c.in-Some-as_mut_array.ensures.cases.long) (
      c.read_sheet.ensures.1 ∙ ap (λ (w : List ℕ). (read_into c.args.sheet.now c.args.memory_length w).words) c.in-Some.ensures.cases.same,
      told_as c.tell.ensures
          (reply_told sheet_fault_reply c.read_sheet.result
          ∙ ap reply_report
          (c.read_sheet.ensures.0 ∙ ap (λ (w : List ℕ). (read_into c.args.sheet.now c.args.memory_length w).reply) c.in-Some.ensures.cases.same)),
    )
