-- `wicktumble::devices::wt_set_up` meets its contract. Assumes nothing.
use mathlib.Core.Path.{refl, ap, ◌∙◌}
use mathlib.Core.List.{List}
use Prim.Native.Nat.{ℕ}
use borrow.Author.Tests.{eq-eqb, ne_eqb}
use Rattle.map_records.specs.Words.{map_of}
use Rattle.memory_device.specs.Leaves.{words_left}
use Rattle.memory_device.specs.Record.{HostOutcome}
use Rattle.memory_device.specs.SetUp.{set_up, set_up_fault_reply}
use Rattle.wicktumble.specs.Result.{reply_report}
use Rattle.wicktumble.specs.Devices.{values_of, set_up_call}
use Rattle.wicktumble.proofs.CallLaws.{told_as, reply_told}
use Rattle.wicktumble.proofs.devices.wt_set_up.Goals as goal

pub returns-in_default : goal.returns-in_default
unfolding set_up_call
returns-in_default c = rw (ne_eqb _ _ c.in_default.ensures.cases) (refl, (c.refused.ensures, refl))

pub returns-in_default-as_mut_array : goal.returns-in_default-as_mut_array
unfolding set_up_call
returns-in_default-as_mut_array c =
    rw (eq-eqb _ _ c.in-Some.ensures.cases.long, ne_eqb _ _ c.in_default-as_mut_array.ensures.cases)
    (refl, (c.refused-in_default-as_mut_array.ensures, refl))

pub returns-in_default-as_mut_array-2 : goal.returns-in_default-as_mut_array-2
unfolding set_up_call
returns-in_default-as_mut_array-2 c =
    rw (eq-eqb _ _ c.in-Some.ensures.cases.long, eq-eqb _ _ c.in-Some-as_mut_array.ensures.cases.long, ne_eqb _ _ c.in_default-as_mut_array-2.ensures.cases)
    (c.in-Some-as_mut_array.ensures.cases.same, (c.refused-in_default-as_mut_array-2.ensures, refl))

pub returns : goal.returns
unfolding set_up_call
returns c =
    let a = c.args in
    let made : List ℕ → HostOutcome = λ m. set_up (map_of m) a.memory_length (values_of a.block_size a.addr a.usable_size a.requested_size) in
    let map = c.in-Some.ensures.cases in
    let device = c.in-Some-as_mut_array.ensures.cases in
    rw (eq-eqb _ _ map.long, eq-eqb _ _ device.long, eq-eqb _ _ c.in-Some-as_mut_array-2.ensures.cases.long) (
      c.put_fresh.ensures.words ∙ (λ i. words_left (made (map.same i)).reply (made (map.same i)).device (device.same i)),
      told_as c.tell.ensures
          (reply_told set_up_fault_reply c.put_fresh.result
          ∙ ap reply_report (c.put_fresh.ensures.reply ∙ (λ i. (made (map.same i)).reply))),
    )
