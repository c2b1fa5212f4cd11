-- One region of a sheet: 'kind, parent + 1 (0 for none), offset, size, priority field; then by kind: RAM and managed memory start; MMIO port; alias target, alias offset; container nothing'. Assumes nothing: these are definitions.
use Rattle.std.specs.Prelude.{cond, List, [], ◌∷◌, ℕ}
use Rattle.map_records.specs.Map.{has, with_value}
use Rattle.map_check.specs.Fault.{kind_fault}
use Rattle.map_check.specs.Reply.{place}
use Rattle.map_records.specs.Refusal as refusal
use Rattle.map_records.specs.declared.map.Region.{Region}
use Rattle.map_records.specs.declared.map.Field.{Field}
use Rattle.map_records.specs.declared.map.Field.TheVariants.{Parent, Offset, Size, Priority, MemoryStart, Port, Target, AliasOffset}
use Rattle.sheet.specs.Answer.{Read, got, refused, next}
use Rattle.sheet.specs.Number.{sheet_number}

-- the fields after the kind, in the order of the sheet; a region has those that its kind has
abbrev pub sheet_fields : List Field
sheet_fields = Parent ∷ Offset ∷ Size ∷ Priority ∷ MemoryStart ∷ Port ∷ Target ∷ AliasOffset ∷ []

-- the field f of the region r, where its kind has it, at a place
unfoldable pub field_at : List ℕ → Field → Region → ℕ → Read Region
field_at s f r at = cond (has r.kind f) (next (sheet_number s at) (λ v then. got (with_value f v r) then)) (got r at)

-- the fields fs of the region r, one after the other, from a place on
unfoldable pub fields_from : List ℕ → List Field → Region → ℕ → Read Region
fields_from s [] r at = got r at
fields_from s (f ∷ fs) r at = next (field_at s f r at) (λ known then. fields_from s fs known then)

-- a region of which the kind alone is known
abbrev pub of_kind : ℕ → Region
of_kind k = record { kind = k; parent = 0; offset = 0; size = 0; priority = 0; memory_start = 0; port = 0; target = 0; alias_offset = 0 }

-- a region at a place: 4 at the kind's first byte, at once
unfoldable pub sheet_region : List ℕ → ℕ → Read Region
sheet_region s at = next (sheet_number s at) (λ k then. cond (kind_fault k) (refused (place refusal.KIND at)) (fields_from s sheet_fields (of_kind k) then))
