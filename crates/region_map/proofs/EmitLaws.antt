-- A turn of the loop that puts a table's pieces into the view: up to where the piece ends, or the table, whichever is nearer. Assumes nothing.
use mathlib.Core.Path.{◌≡◌, ap}
use mathlib.Core.List.{List}
use Prim.Native.Nat.{ℕ, ◌+◌, ◌-◌, ◌≤◌, ◌<◌, min}
use native.Mathlib.Omega.{arith}
use lib.ListN.{length, get_or, take}
use Rattle.map_records.specs.declared.map.Found.{Found}
use Rattle.map_records.specs.declared.map.GuestAddress.{GuestAddress}
use Rattle.map_records.specs.declared.view.FlatRange.{FlatRange}
use Rattle.std.specs.Prelude.{Option}
use Rattle.region_map.specs.FlatList.{push, flat}
use Rattle.region_map.specs.Pieces.{no_piece, piece, piece_end, Pieces, WholeTable}
use Rattle.region_map.specs.Promises.{Pushed, Grew}
use Rattle.region_map.specs.declared.flat.Backing.{Backing}
use Rattle.region_map.specs.declared.pieces.Piece.{Piece}
use Rattle.region_map.specs.declared.pieces.PieceTable.{PieceTable}
use Rattle.region_map.proofs.FillLaws.{items_long, item_is}
use Rattle.region_map.proofs.RenderLaws.{Emitted, piece_grew, one_emitted}
use Rattle.region_map.proofs.ViewLaws.{step_leaf}

module _ (backing : ℕ → Backing) (f : ℕ → Option Found) (w : PieceTable) (good : Pieces w) (xs : List Piece) (e : xs ≡ take w.count w.pieces)
    (i : ℕ) (h : i < length xs) where
  -- the piece
  there : get_or xs i no_piece ≡ piece w i
  there = item_is w good xs e i h

  pub known : i < w.count
  known = omega (arith, h, items_long w good xs e)

  pub item_region : (get_or xs i no_piece).region < 32
  item_region = omega (arith, ap (λ (p : Piece). p.region) there, good.regions i known)

  module _ (stop : ℕ) (nearer : stop ≡ min (get_or xs i no_piece).end.0 w.horizon.0) where
    end : (get_or xs i no_piece).end.0 ≡ piece_end w i
    end = ap (λ (p : Piece). p.end.0) there

    pub stop_some : 0 < stop
    stop_some = omega (arith, nearer, end, good.order i known, good.ahead)

    one : stop ≤ piece_end w i
    one = omega (arith, nearer, end)

    pub two : stop ≤ w.horizon.0
    two = omega (arith, nearer)

    less : stop < piece_end w i → w.horizon.0 ≤ stop
    less l = omega (arith, nearer, end)

    module _ (whole : WholeTable f w) (l : List FlatRange) (em : Emitted backing f w i l) where
      pub item_grew : (last : GuestAddress) → last.0 ≡ stop - 1 → (t : Backing) → t ≡ backing (get_or xs i no_piece).region → (p : Pushed)
          → Grew (push l (record { first = (get_or xs i no_piece).first; last = last; region = (get_or xs i no_piece).region; offset = (get_or xs i no_piece).offset; kind = t.kind; base = t.base })) p
          → Grew (flat backing f stop) p
      item_grew last at t same p g =
          let x = get_or xs i no_piece in
          piece_grew backing f w good whole i l known em stop one two less p x.first.0 x.region x.offset.0
          (ap (λ (p : Piece). p.first.0) there) (ap (λ (p : Piece). p.region) there) (ap (λ (p : Piece). p.offset.0) there)
          (rw at at (step_leaf backing l x.first last x.region x.offset t p same g))

      pub item_emitted : (k : List FlatRange) → k ≡ flat backing f stop → Emitted backing f w (i + 1) k
      item_emitted = one_emitted backing f w good whole i l known em stop one two less
