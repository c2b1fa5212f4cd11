-- `map_check::counted::CountedMap::new` meets its contract. Assumes nothing.
use borrow.Author.Rules.{rules}
use Rattle.map_check.proofs.MapWords.{count_other}
use Rattle.map_check.proofs.counted.CountedMap.new.Goals as goal

pub returns-in_default : goal.returns-in_default
returns-in_default c = count_other c.args.words.now (search (rules, c.in_default.ensures.cases))
