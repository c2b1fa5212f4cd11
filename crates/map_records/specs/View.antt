-- Readings of the records of a flat view. Assumes nothing: these are definitions.
use Rattle.std.specs.Prelude.{List, ℕ, ◌+◌, ◌-◌, get_or, take}
use Rattle.map_records.specs.declared.view.FlatRange.{FlatRange}
use Rattle.map_records.specs.declared.view.FlatView.{FlatView}

abbrev pub no_range : FlatRange
no_range = record { first = record { 0 = 0 }; last = record { 0 = 0 }; region = 0; offset = record { 0 = 0 }; kind = 0; base = 0 }

-- range k of a view
abbrev pub range_of : FlatView → ℕ → FlatRange
range_of v k = get_or v.ranges k no_range

-- the list that a view holds
abbrev pub entries : FlatView → List FlatRange
entries v = take v.count v.ranges

-- 'A list gives an address a in an entry (first to last) the entry's node at offset + a - first'
abbrev pub offset_in : FlatRange → ℕ → ℕ
offset_in r a = r.offset.0 + (a - r.first.0)

-- the offset at a range's last address
abbrev pub last_offset : FlatRange → ℕ
last_offset r = offset_in r r.last.0
