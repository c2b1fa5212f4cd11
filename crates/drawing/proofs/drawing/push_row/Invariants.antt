use Rattle.std.proofs.Common.{◌≡◌, ◌++◌, ◌+◌}
use Rattle.arrayvec.specs.ArrayVec.{array_vec_len}
use Rattle.map_records.specs.Words.{map_of}
use Rattle.drawing.specs.Drawing.{character, characters}
use Rattle.drawing.proofs.drawing.push_row.Given as goal

abbrev pub invariant-loop-k : goal.invariant-loop-k
invariant-loop-k l =
    (l.text.items ≡ l.initial.text.items ++ characters (character (map_of l.map) l.row) l.k)
    × (array_vec_len l.text ≡ array_vec_len l.initial.text + l.k)
