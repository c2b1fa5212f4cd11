-- `wicktumble::devices::wt_request` meets its contract. Assumes nothing.
use mathlib.Core.Path.{refl, ap, ◌∙◌}
use mathlib.Core.List.{List}
use Prim.Native.Nat.{ℕ}
use borrow.Author.Tests.{eq-eqb, ne_eqb}
use Rattle.map_check.specs.Reply.{number_of}
use Rattle.device_words.specs.Request.{RequestOutcome}
use Rattle.device_words.specs.Words.{device_of}
use Rattle.memory_device.specs.Leaves.{words_left}
use Rattle.memory_device.specs.Request.{carried_into}
use Rattle.wicktumble.specs.Devices.{request_call}
use Rattle.wicktumble.proofs.devices.wt_request.Goals as goal

pub returns-in_default : goal.returns-in_default
unfolding request_call
returns-in_default c = rw (ne_eqb _ _ c.in_default.ensures.cases) (c.refused.ensures, refl, refl)

pub returns : goal.returns
unfolding request_call
returns c =
    let a = c.args in
    let made : List ℕ → RequestOutcome = λ s. carried_into (device_of a.device.now) s a.response.now in
    let same = c.in-Some.ensures.cases.same in
    rw (eq-eqb _ _ c.in-Some.ensures.cases.long) (
      c.number_of.ensures ∙ ap number_of (c.carry_out.ensures.0 ∙ (λ i. (made (same i)).reply)),
      c.carry_out.ensures.2 ∙ (λ i. words_left (made (same i)).reply (made (same i)).device a.device.now),
      c.carry_out.ensures.1 ∙ (λ i. (made (same i)).response),
    )
