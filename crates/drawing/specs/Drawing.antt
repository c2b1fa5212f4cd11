-- The drawing of a map, character by character, after source 001's: the address line, a row for each region from the root down, and the flat view below. Assumes nothing: these are definitions.
use Rattle.std.specs.Prelude.{Option, Some, None, cond, ◌||◌, List, [], ◌∷◌, ◌++◌, ℕ, zero, suc, ◌+◌, ◌-◌, ◌*◌, ◌/◌, ◌%◌, ◌<◌, eqb, ltb, get_or}
use Rattle.listing.specs.Text.{hex_text, refused_text}
use Rattle.map_records.specs.Map.{container, ram, mmio, alias, managed, has_memory, region}
use Rattle.map_check.specs.Reply.{if_accepted}
use Rattle.region_map.specs.Walk.{walk_root}
use Rattle.region_map.specs.Flatten.{root_size}
use Rattle.map_records.specs.declared.map.RegionMap.{RegionMap}
use Rattle.map_records.specs.declared.map.Found.{Found}
use Rattle.sheet.specs.Sheet.{SheetOutcome, read_sheet}
use Rattle.drawing.specs.Position.{located}
use Rattle.drawing.specs.declared.position.Position.{Position}
use Rattle.drawing.specs.declared.position.Position.TheVariants.{Aside, Outside, Inside}
use Rattle.drawing.specs.declared.row.Row.{Row}
use Rattle.drawing.specs.declared.row.Row.TheVariants.{Addresses, Ruler, Region, FlatView}

-- ---- the rows

-- row w from the top of the drawing of so many regions: they stand from the root down
abbrev pub row_at : ℕ → ℕ → Row
row_at count w =
    cond (eqb w 0) Addresses
    (cond (eqb w 1) Ruler
    (cond (ltb w (count + 2)) (Region (count + 1 - w)) FlatView))

-- a row's region is in the map
abbrev pub RowIn : RegionMap → Row → Type 0
RowIn m Addresses = Unit {0}
RowIn m Ruler = Unit {0}
RowIn m (Region n) = n < m.count
RowIn m FlatView = Unit {0}

-- ---- words

-- letter i of a word, and a space past its end
abbrev pub letter_of : List ℕ → ℕ → ℕ
letter_of word i = get_or word i 0x20

-- a region's number as one character: `0` to `9`, then `a` for 10 and so on; a map has no region over 31, `v`
abbrev pub digit_of : ℕ → ℕ
digit_of n = cond (ltb n 10) (0x30 + n) (cond (ltb n 36) (0x61 + (n - 10)) 0x3f)

-- ` address`
abbrev pub address_text : List ℕ
address_text = 0x20 ∷ 0x61 ∷ 0x64 ∷ 0x64 ∷ 0x72 ∷ 0x65 ∷ 0x73 ∷ 0x73 ∷ []

-- ` flat view`
abbrev pub flat_text : List ℕ
flat_text = 0x20 ∷ 0x66 ∷ 0x6c ∷ 0x61 ∷ 0x74 ∷ 0x20 ∷ 0x76 ∷ 0x69 ∷ 0x65 ∷ 0x77 ∷ []

-- `not under the root`
abbrev pub aside_text : List ℕ
aside_text = 0x6e ∷ 0x6f ∷ 0x74 ∷ 0x20 ∷ 0x75 ∷ 0x6e ∷ 0x64 ∷ 0x65 ∷ 0x72 ∷ 0x20 ∷ 0x74 ∷ 0x68 ∷ 0x65 ∷ 0x20 ∷ 0x72 ∷ 0x6f ∷ 0x6f ∷ 0x74 ∷ []

-- `container`, `ram`, `mmio`, `alias`, `managed`; no other kind has a name
unfoldable pub kind_text : ℕ → List ℕ
kind_text kind =
    cond (eqb kind container) (0x63 ∷ 0x6f ∷ 0x6e ∷ 0x74 ∷ 0x61 ∷ 0x69 ∷ 0x6e ∷ 0x65 ∷ 0x72 ∷ [])
    (cond (eqb kind ram) (0x72 ∷ 0x61 ∷ 0x6d ∷ [])
    (cond (eqb kind mmio) (0x6d ∷ 0x6d ∷ 0x69 ∷ 0x6f ∷ [])
    (cond (eqb kind alias) (0x61 ∷ 0x6c ∷ 0x69 ∷ 0x61 ∷ 0x73 ∷ [])
    (cond (eqb kind managed) (0x6d ∷ 0x61 ∷ 0x6e ∷ 0x61 ∷ 0x67 ∷ 0x65 ∷ 0x64 ∷ []) []))))

-- ---- the labels, 13 characters

-- a space, the region's number, a space, its kind
unfoldable pub region_label : RegionMap → ℕ → ℕ → ℕ
region_label m n k = cond (eqb k 1) (digit_of n) (cond (ltb k 3) 0x20 (letter_of (kind_text (region m n).kind) (k - 3)))

abbrev pub label : RegionMap → Row → ℕ → ℕ
label m Addresses k = letter_of address_text k
label m Ruler k = 0x20
label m (Region n) k = region_label m n k
label m FlatView k = letter_of flat_text k

-- ---- the cells, 64 columns

-- the address that column c stands for, in a root of `size` bytes
unfoldable pub column_address : ℕ → ℕ → ℕ
column_address size c = size * c / 64

-- an address at columns 0, 16, 32 and 48, in hexadecimal: its digits stand there and to the right
unfoldable pub address_cell : ℕ → ℕ → ℕ
address_cell size c = letter_of (hex_text (column_address size (c / 16 * 16))) (c % 16)

-- `|` at these columns, `-` between them
abbrev pub ruler_cell : ℕ → ℕ
ruler_cell c = cond (eqb (c % 16) 0) 0x7c 0x2d

-- `-` for a container and `=` for an alias, which answer at no address themselves; else the region's own number
abbrev pub kind_fill : ℕ → ℕ → ℕ
kind_fill kind n =
    cond (eqb kind container) 0x2d (cond (eqb kind alias) 0x3d (cond (has_memory kind || eqb kind mmio) (digit_of n) 0x3f))

unfoldable pub fill : RegionMap → ℕ → ℕ
fill m n = kind_fill (region m n).kind n

-- Region n's row, from where the column's address lies and where the addresses up to the next column's lie: filled where the address lies inside n and all regions above it, hidden or not; `+` where only a later address of the column does; else a space. A region that does not stand under the root has these words.
abbrev pub later_cell : Position → ℕ
later_cell Aside = 0x20
later_cell Outside = 0x20
later_cell (Inside first end) = 0x2b

abbrev pub first_cell : RegionMap → ℕ → ℕ → Position → Position → ℕ
first_cell m n c Aside later = letter_of aside_text c
first_cell m n c Outside later = later_cell later
first_cell m n c (Inside first end) later = fill m n

abbrev pub region_cell : RegionMap → ℕ → ℕ → ℕ → ℕ → ℕ
region_cell m n a b c = first_cell m n c (located m n a (a + 1)) (located m n a b)

-- the flat view's row: the region that the column's address leads to, and `.` where it leads to nothing
abbrev pub answer_cell : Option Found → ℕ
answer_cell None = 0x2e
answer_cell (Some x) = digit_of x.region

-- column c of a row, where it stands for a and the next column for b
abbrev pub cell_at : RegionMap → Row → ℕ → ℕ → ℕ → ℕ
cell_at m Addresses a b c = address_cell (root_size m) c
cell_at m Ruler a b c = ruler_cell c
cell_at m (Region n) a b c = region_cell m n a b c
cell_at m FlatView a b c = answer_cell (walk_root m a)

abbrev pub cell : RegionMap → Row → ℕ → ℕ
cell m row c = cell_at m row (column_address (root_size m) c) (column_address (root_size m) (c + 1)) c

-- ---- the text

-- character k of a row: its label, its cells, a bar where the root ends, and the end of the line
unfoldable pub character : RegionMap → Row → ℕ → ℕ
character m row k = cond (ltb k 13) (label m row k) (cond (ltb k 77) (cell m row (k - 13)) (cond (ltb k 78) 0x7c 0x0a))

-- the characters f 0, f 1, .. below n
unfoldable pub characters : (ℕ → ℕ) → ℕ → List ℕ
characters f zero = []
characters f (suc n) = characters f n ++ (f n ∷ [])

unfoldable pub row_text : RegionMap → Row → List ℕ
row_text m row = characters (character m row) 79

-- the first n rows; a drawing of so many regions has three more
unfoldable pub rows_text : RegionMap → ℕ → List ℕ
rows_text m zero = []
rows_text m (suc w) = rows_text m w ++ row_text m (row_at m.count w)

abbrev pub map_drawing : RegionMap → List ℕ
map_drawing m = rows_text m (m.count + 3)

-- what `draw` prints for the sheet s over a memory of so many bytes: the drawing of its map, or `refused N`
abbrev pub sheet_drawing : SheetOutcome → List ℕ
sheet_drawing o = if_accepted o.reply refused_text (map_drawing o.map)

unfoldable pub drawing_text : List ℕ → ℕ → List ℕ
drawing_text s memory = sheet_drawing (read_sheet s memory)
