-- The text that `flatten` prints ('Program: ..'). Assumes nothing: these are definitions.
use Rattle.std.specs.Prelude.{List, [], ◌∷◌, ◌++◌, ℕ}
use Rattle.map_records.specs.View.{entries}
use Rattle.map_records.specs.declared.map.RegionMap.{RegionMap}
use Rattle.map_records.specs.declared.view.FlatRange.{FlatRange}
use Rattle.map_check.specs.Reply.{if_accepted}
use Rattle.region_map.specs.Flatten as flat
use Rattle.sheet.specs.Sheet as sheet
use Rattle.listing.specs.Text.{hex_text, decimal_text, spaced, ended_line, refused_text}

-- 'One line a run: first, last, node, offset; hex in lower case without prefix, the node in decimal, one space between'
unfoldable pub range_text : FlatRange → List ℕ
range_text r = spaced (hex_text r.first.0) ++ spaced (hex_text r.last.0) ++ spaced (decimal_text r.region) ++ ended_line (hex_text r.offset.0)

unfoldable pub ranges_text : List FlatRange → List ℕ
ranges_text [] = []
ranges_text (x ∷ xs) = range_text x ++ ranges_text xs

-- the lines of a flat list, or the refusal of making it
abbrev pub view_text : flat.FlatOutcome → List ℕ
view_text o = if_accepted o.reply refused_text (ranges_text (entries o.view))

-- the map m over a memory of so many bytes: for the map of an accepted sheet, 12 alone is left to refuse it
abbrev pub map_text : ℕ → RegionMap → List ℕ
map_text memory m = view_text (flat.flattened m memory)

-- 'A refused sheet prints `refused N`'
abbrev pub sheet_text : ℕ → sheet.SheetOutcome → List ℕ
sheet_text memory o = if_accepted o.reply refused_text (map_text memory o.map)

-- the text of the sheet s over a memory of so many bytes
unfoldable pub listing_text : List ℕ → ℕ → List ℕ
listing_text s memory = sheet_text memory (sheet.read_sheet s memory)
