-- `region_map::pieces::PieceTable::insert` meets its contract. Assumes nothing.
use mathlib.Core.Path.{ap, ◌∙◌}
use native.Mathlib.Omega.{arith}
use Rattle.region_map.specs.Pieces.{piece_first}
use Rattle.region_map.specs.declared.pieces.PieceTable.{PieceTable}
use Rattle.region_map.proofs.PieceLaws.{placed, insert_room, insert_full}
use Rattle.region_map.proofs.pieces.PieceTable.insert.Goals.{then-self-eq-PIECES, else-self-eq-PIECES}
use Rattle.region_map.proofs.pieces.PieceTable.insert.Goals as goal

pub returns : goal.returns
returns c =
    let w = c.args.self.now in
    let u = c.if-self-eq-PIECES.self in
    let p = c.args.piece in
    let ys = c.put_first.new.row in
    let put = c.put_first.ensures in
    let t = c.requires.pieces in
    let f = c.requires.fits in
    elim c.if-self-eq-PIECES.branch [
      | then-self-eq-PIECES x ↦
          let full = x.if-self-eq-PIECES.true in
          let count = ap (λ (t : PieceTable). t.count) x.self-is ∙ full in
          insert_full w c.args.i p _ t f (placed w u c.args.i 255 (piece_first w 255) p ys t.size (ap (λ (t : PieceTable). t.pieces) x.self-is) (ap (λ (t : PieceTable). t.start) x.self-is) count (ap (λ (t : PieceTable). t.horizon.0) x.self-is) (omega (arith, f.room)) (omega arith) put) full
      | else-self-eq-PIECES x ↦
          insert_room w c.args.i p _ t f (placed w u c.args.i w.count w.horizon.0 p ys t.size (ap (λ (t : PieceTable). t.pieces) x.self-is) (ap (λ (t : PieceTable). t.start) x.self-is) (ap (λ (t : PieceTable). t.count) x.self-is) (ap (λ (t : PieceTable). t.horizon.0) x.self-is) f.place (omega (arith, t.few, x.if-self-eq-PIECES.false)) put) x.if-self-eq-PIECES.false
    ]
