-- `drawing::drawing::push_rows` meets its contract. Assumes nothing.
use mathlib.Core.Path.{◌≡◌, sym, ap, subst, ◌∙◌}
use Prim.Native.Nat.{ℕ}
use native.Mathlib.Omega.{arith}
use Rattle.map_records.specs.Words.{map_of}
use Rattle.drawing.specs.Drawing.{row_at, RowIn}
use Rattle.drawing.proofs.DrawLaws.{row_in}
use Rattle.drawing.proofs.drawing.push_rows.Goals as goal

pub push_row-requires : goal.push_row-requires
push_row-requires c =
    let m = map_of c.args.map.now in
    let l = c.loop-w in
    let e = c.count-count.ensures in
    let row : c.row_at.result ≡ row_at m.count l.w = c.row_at.ensures ∙ ap (λ (n : ℕ). row_at n l.w) e.count in
    (subst (RowIn m) (sym row) (row_in m l.w e.climbable.some), omega (arith, l.invariant.1, e.count, e.climbable.count, c.loop-w-test.true))
