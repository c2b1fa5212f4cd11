-- `device_words::answer::plug_answer` meets its contract. Assumes nothing.
use mathlib.Core.Path.{◌≡◌, sym, ap, ◌∙◌}
use mathlib.Core.Bool.{Bool, not}
use mathlib.Core.List.{List}
use Prim.Native.Nat.{ℕ}
use native.Mathlib.Omega.{arith}
use lib.Dec.{eqb, ltb}
use borrow.Author.Tests.{lt-ltb, le-ltb}
use Rattle.device_words.specs.Table.{held_in}
use Rattle.device_words.proofs.AnswerLaws.{size_bound}
use Rattle.device_words.proofs.WordLaws.{any_held}
use Rattle.device_words.proofs.answer.plug_answer.Goals as goal

some_is : (t : List ℕ) (from n : ℕ) {none : Bool} → none ≡ eqb (held_in t from n) 0 → not none ≡ ltb 0 (held_in t from n)
some_is t from n e = ap not e ∙ sym (any_held t from n)

pub returns-then-not-none_set : goal.returns-then-not-none_set
returns-then-not-none_set c = rw (← some_is _ _ _ c.none_set.ensures, c.if-not-none_set.true)

pub overflow_mul-size : goal.overflow_mul-size
overflow_mul-size c = omega (arith, size_bound c.args.run.count c.args.sizes.block_size (omega (arith, c.args.run.room)) c.requires.most)

pub overflow_add-size : goal.overflow_add-size
overflow_add-size c = omega (arith, c.plugged_size.ensures.1, size_bound c.args.run.count c.args.sizes.block_size (omega (arith, c.args.run.room)) c.requires.most)

pub returns-then-sizes-size : goal.returns-then-sizes-size
returns-then-sizes-size c = rw (← some_is _ _ _ c.none_set.ensures, c.if-not-none_set.false, ← c.plugged_size.ensures.0, lt-ltb _ _ c.if-sizes-size.true)

pub returns : goal.returns
returns c = rw (← some_is _ _ _ c.none_set.ensures, c.if-not-none_set.false, ← c.plugged_size.ensures.0, le-ltb _ _ c.if-sizes-size.false)
