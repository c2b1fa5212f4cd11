-- `wicktumble::devices::wt_block_of_byte` meets its contract. Assumes nothing.
use mathlib.Core.Path.{refl, ap, ◌∙◌}
use mathlib.Core.List.{List}
use Prim.Native.Nat.{ℕ}
use borrow.Author.Tests.{eq-eqb, ne_eqb}
use Rattle.device_words.specs.Words.{device_of}
use Rattle.memory_device.specs.Host.{byte_block}
use Rattle.wicktumble.specs.Devices.{block_call, in_block}
use Rattle.wicktumble.proofs.CallLaws.{told_as, block_told}
use Rattle.wicktumble.proofs.devices.wt_block_of_byte.Goals as goal

pub returns-in_default : goal.returns-in_default
unfolding block_call
returns-in_default c = rw (ne_eqb _ _ c.in_default.ensures.cases) (c.refused.ensures, refl)

pub returns-in_default-as_mut_array : goal.returns-in_default-as_mut_array
unfolding block_call
returns-in_default-as_mut_array c = rw (eq-eqb _ _ c.in-Some.ensures.cases.long, ne_eqb _ _ c.in_default-as_mut_array.ensures.cases) (c.refused-in_default-as_mut_array.ensures, refl)

pub returns : goal.returns
unfolding block_call
returns c =
    rw (eq-eqb _ _ c.in-Some.ensures.cases.long, eq-eqb _ _ c.in-Some-as_mut_array.ensures.cases.long)
    (told_as c.tell.ensures
    (block_told c.block_of_byte.result
    ∙ ap in_block (c.block_of_byte.ensures ∙ ap (λ (w : List ℕ). byte_block (device_of w) c.args.offset) c.in-Some.ensures.cases.same)))
