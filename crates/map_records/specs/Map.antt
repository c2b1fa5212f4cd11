-- Readings of the records of a region map. Assumes nothing: these are definitions.
use Rattle.std.specs.Prelude.{◌≡◌, ◌<◌, Bool, true, Result, MatchResult, ◌||◌, ℕ, eqb, leb, get_or, replicate}
use Rattle.map_records.specs.Limits.{most_regions}
use Rattle.map_records.specs.declared.kind.Kind.{Kind}
use Rattle.map_records.specs.declared.kind.Kind.TheVariants as kind
use Rattle.map_records.specs.declared.kind.UnknownKind.{UnknownKind}
use Rattle.map_records.specs.declared.map.Region.{Region}
use Rattle.map_records.specs.declared.map.RegionMap.{RegionMap}
use Rattle.map_records.specs.declared.map.Field.{Field}
use Rattle.map_records.specs.declared.map.Field.TheVariants.{Parent, Offset, Size, Priority, MemoryStart, Port, Target, AliasOffset}

-- document 01's kinds
abbrev pub container : ℕ
container = 0

abbrev pub ram : ℕ
ram = 1

abbrev pub mmio : ℕ
mmio = 2

abbrev pub alias : ℕ
alias = 3

abbrev pub managed : ℕ
managed = 4

-- one of them: 4 is given from the next number on
abbrev pub is_kind : ℕ → Bool
is_kind kind = leb kind managed

-- the kinds whose bytes lie in guest memory
abbrev pub has_memory : ℕ → Bool
has_memory kind = eqb kind ram || eqb kind managed

-- the number of each kind, and which numbers decode to which
abbrev pub kind_number : Kind → ℕ
kind_number kind.Container = container
kind_number kind.Ram = ram
kind_number kind.Mmio = mmio
kind_number kind.Alias = alias
kind_number kind.Managed = managed

abbrev pub Decodes : ℕ → Result Kind UnknownKind → Type 0
Decodes n r = MatchResult r (λ k. n ≡ kind_number k) (λ e. managed < n)

abbrev pub kind_has_memory : Kind → Bool
kind_has_memory k = has_memory (kind_number k)

abbrev pub no_region : Region
no_region = record { kind = 0; parent = 0; offset = 0; size = 0; priority = 0; memory_start = 0; port = 0; target = 0; alias_offset = 0 }

-- region n of a map
abbrev pub region : RegionMap → ℕ → Region
region m n = get_or m.regions n no_region

-- a map of n regions of which nothing is known
abbrev pub blank_map : ℕ → RegionMap
blank_map n = record { count = n; regions = replicate most_regions no_region }

-- 'The tree' and 'The sheet': RAM and managed nodes have a memory start, MMIO a port, an alias its target and alias offset; every node has the rest.
abbrev pub has : ℕ → Field → Bool
has kind Parent = true
has kind Offset = true
has kind Size = true
has kind Priority = true
has kind MemoryStart = has_memory kind
has kind Port = eqb kind mmio
has kind Target = eqb kind alias
has kind AliasOffset = eqb kind alias

abbrev pub value_of : Field → Region → ℕ
value_of Parent r = r.parent
value_of Offset r = r.offset
value_of Size r = r.size
value_of Priority r = r.priority
value_of MemoryStart r = r.memory_start
value_of Port r = r.port
value_of Target r = r.target
value_of AliasOffset r = r.alias_offset

abbrev pub with_value : Field → ℕ → Region → Region
with_value Parent v r = record { kind = r.kind; parent = v; offset = r.offset; size = r.size; priority = r.priority; memory_start = r.memory_start; port = r.port; target = r.target; alias_offset = r.alias_offset }
with_value Offset v r = record { kind = r.kind; parent = r.parent; offset = v; size = r.size; priority = r.priority; memory_start = r.memory_start; port = r.port; target = r.target; alias_offset = r.alias_offset }
with_value Size v r = record { kind = r.kind; parent = r.parent; offset = r.offset; size = v; priority = r.priority; memory_start = r.memory_start; port = r.port; target = r.target; alias_offset = r.alias_offset }
with_value Priority v r = record { kind = r.kind; parent = r.parent; offset = r.offset; size = r.size; priority = v; memory_start = r.memory_start; port = r.port; target = r.target; alias_offset = r.alias_offset }
with_value MemoryStart v r = record { kind = r.kind; parent = r.parent; offset = r.offset; size = r.size; priority = r.priority; memory_start = v; port = r.port; target = r.target; alias_offset = r.alias_offset }
with_value Port v r = record { kind = r.kind; parent = r.parent; offset = r.offset; size = r.size; priority = r.priority; memory_start = r.memory_start; port = v; target = r.target; alias_offset = r.alias_offset }
with_value Target v r = record { kind = r.kind; parent = r.parent; offset = r.offset; size = r.size; priority = r.priority; memory_start = r.memory_start; port = r.port; target = v; alias_offset = r.alias_offset }
with_value AliasOffset v r = record { kind = r.kind; parent = r.parent; offset = r.offset; size = r.size; priority = r.priority; memory_start = r.memory_start; port = r.port; target = r.target; alias_offset = v }
