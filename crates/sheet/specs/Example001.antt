-- Document 01's example, the map of source 001 (D, E, B, C, A as regions 0 to 4): its sheet and its regions. Assumes nothing: these are definitions.
use Rattle.std.specs.Prelude.{List, [], ◌∷◌, ℕ, replicate}
use Rattle.map_records.specs.Map.{container, mmio, no_region}
use Rattle.map_records.specs.declared.map.Region.{Region}
use Rattle.map_records.specs.declared.map.RegionMap.{RegionMap}

-- the 41 bytes
unfoldable pub sheet001 : List ℕ
sheet001 =
    0x05 ∷ 0x02 ∷ 0x03 ∷ 0x00 ∷ 0x80 ∷ 0x20 ∷ 0x00 ∷ 0x04 ∷ 0x02 ∷ 0x03 ∷ 0x80 ∷ 0x40 ∷ 0x80 ∷ 0x20 ∷ 0x00 ∷ 0x05
    ∷ 0x00 ∷ 0x05 ∷ 0x80 ∷ 0x40 ∷ 0x80 ∷ 0x80 ∷ 0x01 ∷ 0x82 ∷ 0x01 ∷ 0x02 ∷ 0x05 ∷ 0x00 ∷ 0x80 ∷ 0xc0 ∷ 0x01 ∷ 0x81
    ∷ 0x01 ∷ 0x06 ∷ 0x00 ∷ 0x00 ∷ 0x00 ∷ 0x80 ∷ 0x80 ∷ 0x02 ∷ 0x00 ∷ []

-- a window, and a container; a priority field f stands for f - 128, and 0 for the kind's default: -1 for a window, 0 for a container
abbrev pub window : ℕ → ℕ → ℕ → ℕ → ℕ → Region
window parent offset size priority port =
    record { kind = mmio; parent = parent; offset = offset; size = size; priority = priority; memory_start = 0; port = port; target = 0; alias_offset = 0 }

abbrev pub box : ℕ → ℕ → ℕ → ℕ → Region
box parent offset size priority =
    record { kind = container; parent = parent; offset = offset; size = size; priority = priority; memory_start = 0; port = 0; target = 0; alias_offset = 0 }

-- D and E in B, B and C in A; each parent is written one higher
unfoldable pub map001 : RegionMap
map001 =
    record {
      count = 5;
      regions =
          window 3 0 0x1000 0 4 ∷ window 3 0x2000 0x1000 0 5 ∷ box 5 0x2000 0x4000 130 ∷ window 5 0 0x6000 129 6 ∷ box 0 0 0x8000 0
          ∷ replicate 27 no_region;
    }
