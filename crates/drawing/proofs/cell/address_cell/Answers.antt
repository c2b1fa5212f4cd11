-- `drawing::cell::address_cell` meets its contract. Assumes nothing.
use Rattle.drawing.proofs.DrawLaws.{column_small}
use Rattle.listing.proofs.TextLaws.{fewest_bound, hex_spelled}
use mathlib.Core.Path.{◌∙◌, ap}
use mathlib.Core.List.{List}
use native.Mathlib.Omega.{arith}
use Prim.Native.Nat.{ℕ, ◌/◌, ◌*◌, ◌%◌, ◌≤◌}
use Rattle.listing.specs.Text.{hex_text}
use Rattle.drawing.specs.Drawing.{letter_of, address_cell}
use Rattle.drawing.proofs.cell.address_cell.Goals as goal

pub returns : goal.returns
unfolding address_cell
returns c =
    let a = c.args in
    let p = c.requires in
    let at = c.column_address-address.ensures in
    let room : c.hex-k.result ≤ 16 = fewest_bound 16 16 _ _ (omega arith) (omega arith) (omega (arith, at, column_small a.size (a.c / 16 * 16) p.0 (omega (arith, p.1)))) c.hex-k.ensures.len in
    c.letter.ensures ∙ ap (λ (w : List ℕ). letter_of w (a.c % 16)) (c.hex-k.ensures.digits ∙ hex_spelled _ _ room c.hex-k.ensures.len ∙ ap hex_text at)
