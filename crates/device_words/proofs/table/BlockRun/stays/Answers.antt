-- `device_words::table::BlockRun::stays` meets its contract. Assumes nothing.
use mathlib.Core.Path.{◌≡◌, ap, ◌∙◌, sym}
use mathlib.Core.Bool.{Bool, cond}
use Prim.Native.Nat.{ℕ, ◌+◌, ◌*◌}
use borrow.Author.Tests.{eq-eqb}
use Rattle.device_words.specs.Table.{bit_of, word_of, within}
use Rattle.device_words.proofs.WordLaws.{full_word}
use Rattle.device_words.proofs.table.BlockRun.stays.Goals as goal
use Rattle.device_words.proofs.table.BlockRun.stays.Goals.{then-on, else-on}

pub returns-then-word-full : goal.returns-then-word-full
returns-then-word-full c =
    let a = c.args in
    let run = λ (k : ℕ). within a.self.first.0 a.self.count (a.i * 64 + k) in
    let is : c.if-on.full ≡ cond a.on 18446744073709551615 0 =
    elim c.if-on.branch [
      | then-on w ↦ w.full-is ∙ ap (λ (x : Bool). cond x 18446744073709551615 0) (sym w.if-on.true)
      | else-on w ↦ w.full-is ∙ ap (λ (x : Bool). cond x 18446744073709551615 0) (sym w.if-on.false)
    ] in
    eq-eqb a.word c.if-on.full c.if-word-full.true
    ∙ sym (eq-eqb (word_of (λ k. cond (run k) a.on (bit_of a.word k)) 64) a.word (full_word a.word a.on run (c.if-word-full.true ∙ is)))
