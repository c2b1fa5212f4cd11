-- `map_records::words::region_at` meets its contract. Assumes nothing.
use mathlib.Core.Path.{sym, ◌∙◌}
use Rattle.map_records.proofs.WordLaws.{region_words_lem}
use Rattle.map_records.proofs.words.region_at.Goals as goal

pub returns : goal.returns
returns c =
    let s = c in
    c.region_from.ensures ∙ sym (region_words_lem s.args.map.now s.told-map s.args.n s.requires)
