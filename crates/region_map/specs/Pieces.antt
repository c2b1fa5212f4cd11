-- The table of pieces from which the flat view is made, and what the functions that fill it promise each other. No promise of an entry point cites these. Assumes nothing: these are definitions.
use Rattle.std.specs.Prelude.{◌≡◌, Bool, cond, ◌&&◌, ℕ, zero, suc, ◌+◌, ◌-◌, ◌^◌, ◌≤◌, ◌<◌, leb, ltb, length, get_or}
use Rattle.region_map.specs.Walk.{or_else, found}
use Rattle.map_records.specs.Limits.{limit, most_regions}
use Rattle.std.specs.Prelude.{Option, None}
use Rattle.map_records.specs.declared.map.Found.{Found}
use Rattle.region_map.specs.declared.pieces.Piece.{Piece}
use Rattle.region_map.specs.declared.pieces.AddressSpan.{AddressSpan}
use Rattle.region_map.specs.declared.pieces.PieceTable.{PieceTable}

-- how many pieces a table has room for
abbrev pub most_pieces : ℕ
most_pieces = 256

abbrev pub no_piece : Piece
no_piece = record { first = record { 0 = 0 }; end = record { 0 = 0 }; region = 0; offset = record { 0 = 0 } }

-- piece i: addresses from its first up to its end (not within it), of a region from an offset on
abbrev pub piece : PieceTable → ℕ → Piece
piece w i = get_or w.pieces i no_piece

abbrev pub piece_first : PieceTable → ℕ → ℕ
piece_first w i = (piece w i).first.0

abbrev pub piece_end : PieceTable → ℕ → ℕ
piece_end w i = (piece w i).end.0

abbrev pub piece_region : PieceTable → ℕ → ℕ
piece_region w i = (piece w i).region

abbrev pub piece_offset : PieceTable → ℕ → ℕ
piece_offset w i = (piece w i).offset.0

-- f, read from an offset on, at the addresses from first up to end
unfoldable pub in_span : (ℕ → Option Found) → ℕ → ℕ → ℕ → ℕ → Option Found
in_span f first offset end a = cond (leb first a && ltb a end) (f (offset + (a - first))) None

-- a region at each of its offsets
abbrev pub itself : ℕ → ℕ → Option Found
itself = found

-- f in a span
abbrev pub seen : (ℕ → Option Found) → AddressSpan → ℕ → Option Found
seen f at = in_span f at.first.0 at.offset.0 at.end.0

abbrev pub piece_shows : Piece → ℕ → Option Found
piece_shows p = in_span (itself p.region) p.first.0 p.offset.0 p.end.0

abbrev pub piece_gives : PieceTable → ℕ → ℕ → Option Found
piece_gives w i = piece_shows (piece w i)

-- what the first k pieces give an address
unfoldable pub given : PieceTable → ℕ → ℕ → Option Found
given w zero a = None
given w (suc k) a = or_else (given w k a) (piece_gives w k a)

abbrev pub shown : PieceTable → ℕ → Option Found
shown w a = given w w.count a

-- a table whose pieces ascend without overlap, from its start on
pub record Pieces (w : PieceTable) : Type 0 where
  pub size : length w.pieces ≡ most_pieces
  pub few : w.count ≤ most_pieces
  pub ahead : w.start.0 < w.horizon.0
  pub far : w.horizon.0 ≤ limit
  pub from : (i : ℕ) → i < w.count → w.start.0 ≤ piece_first w i
  pub near : (i : ℕ) → i < w.count → piece_first w i < w.horizon.0
  pub order : (i : ℕ) → i < w.count → piece_first w i < piece_end w i
  pub apart : (i j : ℕ) → i < j → j < w.count → piece_end w i ≤ piece_first w j
  pub ends : (i : ℕ) → i < w.count → piece_end w i ≤ limit
  pub regions : (i : ℕ) → i < w.count → piece_region w i < most_regions

-- an empty table for the addresses from `start` up to `end`
pub record BegunTable (start end : ℕ) (w : PieceTable) : Type 0 where
  pub kept : Pieces w
  pub none : w.count ≡ 0
  pub first : w.start.0 ≡ start
  pub horizon : w.horizon.0 ≡ end

-- a table and a span that can be put behind it
pub record SpanFits (w : PieceTable) (at : AddressSpan) : Type 0 where
  pub kept : Pieces w
  pub from : w.start.0 ≤ at.first.0
  pub to : at.end.0 ≤ limit
  pub offset : at.offset.0 ≤ 2 ^ 49

-- v is the table w with f put behind it: below v's horizon, what w shows, and where that is nothing what f gives
pub record Behind (w : PieceTable) (f : ℕ → Option Found) (v : PieceTable) : Type 0 where
  pub kept : Pieces v
  pub start : v.start.0 ≡ w.start.0
  pub within : v.horizon.0 ≤ w.horizon.0
  pub gives : (a : ℕ) → a < v.horizon.0 → shown v a ≡ or_else (shown w a) (f a)

-- the place of an address among the pieces: those before it end at or before the address, and it ends after
pub record PieceSpot (w : PieceTable) (a i : ℕ) : Type 0 where
  pub bound : i ≤ w.count
  pub before : (j : ℕ) → j < i → piece_end w j ≤ a
  pub after : i < w.count → a < piece_end w i

-- a piece that goes between its neighbours at place i
pub record Fits (w : PieceTable) (i : ℕ) (p : Piece) : Type 0 where
  pub place : i ≤ w.count
  pub room : i < most_pieces
  pub some : p.first.0 < p.end.0
  pub from : w.start.0 ≤ p.first.0
  pub near : p.first.0 < w.horizon.0
  pub far : p.end.0 ≤ limit
  pub region : p.region < most_regions
  pub before : (j : ℕ) → j < i → piece_end w j ≤ p.first.0
  pub after : i < w.count → p.end.0 ≤ piece_first w i

-- the addresses from a up to r are free, and r is past them: the end, or where piece i begins
pub record Free (w : PieceTable) (i a end r : ℕ) : Type 0 where
  pub low : a ≤ r
  pub high : r ≤ end
  pub taken : r ≡ a → a < end → (i < w.count) × (piece_first w i ≤ a)
  pub gap : a < r → i < w.count → r ≤ piece_first w i
  pub whole : w.count ≤ i → r ≡ end

-- does piece i, which ends after the address, hold it?
abbrev pub is_taken : PieceTable → ℕ → ℕ → Bool
is_taken w i a = ltb i w.count && leb (piece_first w i) a

-- from the first address of piece i up to b, which lies past it and has the place j, all is taken: what is put behind does not show
pub record TakenUpTo (w : PieceTable) (i b j : ℕ) : Type 0 where
  pub past : piece_end w i ≤ b
  pub spot : PieceSpot w b j
  pub taken : (x : ℕ) → piece_first w i ≤ x → x < b → (y : Option Found) → or_else (shown w x) y ≡ shown w x

-- from its start up to its horizon a table shows what f gives
pub record WholeTable (f : ℕ → Option Found) (w : PieceTable) : Type 0 where
  pub gives : (a : ℕ) → w.start.0 ≤ a → a < w.horizon.0 → shown w a ≡ f a
