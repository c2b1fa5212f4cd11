-- `map_records::words::count_of` meets its contract. Assumes nothing.
use mathlib.Core.Path.{sym}
use Rattle.map_records.proofs.WordLaws.{count_words}
use Rattle.map_records.proofs.words.count_of.Goals as goal

pub returns : goal.returns
returns c = sym (count_words c.args.view.now c.told-view)
