-- `region_map::pieces::PieceTable::spot` meets its contract. Assumes nothing.
use lib.Dec.{leb}
use Rattle.std.proofs.Common.{rules}
use Rattle.std.proofs.lemmas.List.Sorted.{IsPartitionPoint-from_clause}
use Rattle.region_map.specs.declared.pieces.Piece.{Piece}
use Rattle.region_map.proofs.FillLaws.{spot_ordered, spot_found}
use Rattle.region_map.proofs.pieces.PieceTable.spot.Goals as goal

pub returns : goal.returns
returns c =
    let w = c.args.self.now in
    let xs = c.pieces.result.now in
    let ordered = spot_ordered w c.requires xs c.pieces.ensures c.args.a.0 in
    let point = IsPartitionPoint-from_clause (λ (p : Piece). leb p.end.0 c.args.a.0) xs _ c.partition_point.ensures.partitioned ordered (λ a r q k. search rules) in
    spot_found w c.requires xs c.pieces.ensures c.args.a.0 c.partition_point.result c.partition_point.ensures.bound point
