-- `device_words::table::run_is` meets its contract. Assumes nothing.
use mathlib.Core.Path.{refl, ◌∙◌}
use Prim.Native.Nat.{◌-◌}
use lib.Dec.{eqb}
use lib.ListN.{get_or}
use borrow.Author.Rules.{rules}
use borrow.Author.Tests.{tests}
use Rattle.std.proofs.lemmas.Iterator.{YieldsList-from_range}
use Rattle.std.proofs.lemmas.Iterator.Search.{all_from_yields_List}
use Rattle.device_words.proofs.WordLaws.{turned_word, run_words}
use Rattle.device_words.proofs.table.run_is.Goals as goal

pub returns : goal.returns
returns c =
    let a = c.args in
    let run = a.run in
    all_from_yields_List (λ i. eqb (turned_word a.words.now run.first.0 run.count a.on i) (get_or a.words.now i 0)) _ _ c.all.result c.all.ensures.ran
    (YieldsList-from_range c.words.result.start c.words.result.end (c.words.result.end - c.words.result.start) refl refl)
    (λ x b q k. search (rules, tests))
    ∙ run_words a.words.now run.first.0 run.count a.on _ _ c.words.ensures.start c.words.ensures.end (record { size = c.told-words; words = λ j p. search rules }) run.room
