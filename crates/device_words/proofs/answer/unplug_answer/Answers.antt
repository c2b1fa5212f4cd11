-- `device_words::answer::unplug_answer` meets its contract. Assumes nothing.
use mathlib.Core.Path.{◌≡◌, sym, ap, ◌∙◌}
use mathlib.Core.Bool.{Bool, not}
use mathlib.Core.List.{List}
use Prim.Native.Nat.{ℕ}
use lib.Dec.{eqb, ltb}
use Rattle.device_words.specs.Table.{held_in}
use Rattle.device_words.proofs.WordLaws.{any_free}
use Rattle.device_words.proofs.answer.unplug_answer.Goals as goal

free_is : (t : List ℕ) (from n : ℕ) {all : Bool} → all ≡ eqb (held_in t from n) n → not all ≡ ltb (held_in t from n) n
free_is t from n e = ap not e ∙ sym (any_free t from n)

pub returns-then-not-all_set : goal.returns-then-not-all_set
returns-then-not-all_set c = rw (← free_is _ _ _ c.all_set.ensures, c.if-not-all_set.true)

pub returns : goal.returns
returns c = rw (← free_is _ _ _ c.all_set.ensures, c.if-not-all_set.false) c.unplug_all_answer.ensures
