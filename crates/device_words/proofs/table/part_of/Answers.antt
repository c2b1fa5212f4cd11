-- `device_words::table::part_of` meets its contract. Assumes nothing.
use mathlib.Core.Path.{◌∙◌}
use lib.Bits.{bit_and}
use lib.Dec.{eqb}
use borrow.Author.Rules.{rules}
use borrow.Author.Tests.{tests}
use Rattle.std.proofs.lemmas.Iterator.{YieldsList-from_slice, YieldsList-from_zip}
use Rattle.std.proofs.lemmas.Iterator.Consumers.{YieldsList-at}
use Rattle.std.proofs.lemmas.Iterator.Search.{all_from_yields_List}
use Rattle.device_words.proofs.TableLaws.{words_part}
use Rattle.device_words.proofs.table.part_of.Goals as goal

pub returns : goal.returns
returns c = let a = c.args in
    all_from_yields_List (λ p. eqb (bit_and p.0 p.1) p.0) c.all.new.self _ c.all.result c.all.ensures.ran
    (YieldsList-from_zip (YieldsList-at c.zip.ensures.first (YieldsList-from_slice a.words.now (cc))) (YieldsList-from_slice a.whole.now (cc)))
    (λ x b q k. search (rules, tests))
    ∙ words_part a.words.now a.whole.now (record { size = c.told-words; words = λ j p. search rules }) (record { size = c.told-whole; words = λ j p. search rules })
