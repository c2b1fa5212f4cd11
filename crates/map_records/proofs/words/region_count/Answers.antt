-- `map_records::words::region_count` meets its contract. Assumes nothing.
use mathlib.Core.Path.{sym}
use Rattle.map_records.proofs.WordLaws.{region_count_words}
use Rattle.map_records.proofs.words.region_count.Goals as goal

pub returns : goal.returns
returns c = sym (region_count_words c.args.map.now c.told-map)
