-- `map_records::words::range_at` meets its contract. Assumes nothing.
use mathlib.Core.Path.{sym, ◌∙◌}
use Rattle.map_records.proofs.WordLaws.{range_words_lem}
use Rattle.map_records.proofs.words.range_at.Goals as goal

pub returns : goal.returns
returns c =
    let s = c in
    c.range_from.ensures ∙ sym (range_words_lem s.args.view.now s.told-view s.args.k s.requires)
