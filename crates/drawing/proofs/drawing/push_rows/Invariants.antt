use Rattle.std.proofs.Common.{◌≡◌, ◌*◌}
use Rattle.arrayvec.specs.ArrayVec.{array_vec_len}
use Rattle.map_records.specs.Words.{map_of}
use Rattle.drawing.specs.Drawing.{rows_text}
use Rattle.drawing.proofs.drawing.push_rows.Given as goal

abbrev pub invariant-loop-w : goal.invariant-loop-w
invariant-loop-w l = (l.text.items ≡ rows_text (map_of l.map) l.w) × (array_vec_len l.text ≡ 79 * l.w)
