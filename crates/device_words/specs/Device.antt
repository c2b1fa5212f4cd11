-- The device's record, where a block is pinned, and the rules: SETUP's (13) and 27's. Assumes nothing: these are definitions.
use Rattle.std.specs.Prelude.{Bool, false, ◌&&◌, ◌||◌, not, List, ℕ, zero, suc, ◌+◌, ◌*◌, ◌/◌, ◌%◌, ◌^◌, eqb, leb, replicate}
use Rattle.map_records.specs.Limits.{limit}
use Rattle.device_words.specs.Table.{bit_at, turned, set_in, any_below, only, implies, most_blocks, table_length}
use Rattle.device_words.specs.declared.words.Sizes.{Sizes}

-- the memory device. Block b is plugged, or pinned, where bit b % 64 of word b / 64 is set
pub record MemoryDevice : Type 0 where
  pub block_size : ℕ
  pub addr : ℕ
  pub region_size : ℕ
  pub usable_size : ℕ
  pub requested_size : ℕ
  pub plugged : List ℕ
  pub pinned : List ℕ

-- the block is pinned: every definition that speaks of a pin goes through this one
abbrev pub pinned_in : List ℕ → ℕ → Bool
pinned_in pins b = bit_at pins b

abbrev pub is_pinned : MemoryDevice → ℕ → Bool
is_pinned d b = pinned_in d.pinned b

-- one of the n blocks from `from` on is pinned
abbrev pub any_pinned_in : List ℕ → ℕ → ℕ → Bool
any_pinned_in pins from n = any_below (λ i. pinned_in pins (from + i)) n

abbrev pub any_pinned : MemoryDevice → ℕ → ℕ → Bool
any_pinned d from n = any_pinned_in d.pinned from n

-- the sizes and the address by which requests are answered
abbrev pub sizes_of : MemoryDevice → Sizes
sizes_of d = record { block_size = d.block_size; addr = record { 0 = d.addr }; usable_size = d.usable_size; requested_size = d.requested_size }

-- b is one of 2^12, 2^13, .. below 2^(12 + n)
unfoldable pub power_below : ℕ → ℕ → Bool
power_below b zero = false
power_below b (suc n) = power_below b n || eqb b (2 ^ (12 + n))

-- the ends of 'a power of two, 4,096 to 2^30', and how many such numbers there are
abbrev pub smallest_block : ℕ
smallest_block = 4096

abbrev pub largest_block : ℕ
largest_block = 2 ^ 30

abbrev pub block_sizes : ℕ
block_sizes = 19

-- 'Block size a power of two, 4,096 to 2^30'
abbrev pub block_ok : ℕ → Bool
block_ok b = power_below b block_sizes

-- 'region = managed node's size, a multiple, at most 1,024 blocks': a region's size is never 0
abbrev pub region_ok : ℕ → ℕ → Bool
region_ok b region = not (eqb region 0) && eqb (region % b) 0 && leb region (most_blocks * b)

-- 'addr a multiple, addr + region at most 2^48'
abbrev pub addr_ok : ℕ → ℕ → ℕ → Bool
addr_ok b addr region = eqb (addr % b) 0 && leb (addr + region) limit

-- 'requested <= usable <= region, multiples'
abbrev pub sizes_ok : ℕ → ℕ → ℕ → ℕ → Bool
sizes_ok b region usable requested = leb requested usable && leb usable region && eqb (usable % b) 0 && eqb (requested % b) 0

-- SETUP's rules
unfoldable pub setup_ok : ℕ → ℕ → ℕ → ℕ → ℕ → Bool
setup_ok b addr region usable requested = block_ok b && (region_ok b region && (addr_ok b addr region && sizes_ok b region usable requested))

abbrev pub setup_kept : MemoryDevice → Bool
setup_kept d = setup_ok d.block_size d.addr d.region_size d.usable_size d.requested_size

-- 27 for the device: 'a plugged or pinned block outside the region, a plugged one outside the usable part, a pinned one not plugged'
unfoldable pub tables_ok : MemoryDevice → Bool
tables_ok d =
    only (bit_at d.plugged) (d.region_size / d.block_size) && only (is_pinned d) (d.region_size / d.block_size)
    && only (bit_at d.plugged) (d.usable_size / d.block_size) && implies (is_pinned d) (bit_at d.plugged)

unfoldable pub device_ok : MemoryDevice → Bool
device_ok d = setup_kept d && tables_ok d

-- 'Fresh: nothing plugged or pinned'
abbrev pub no_plugs : List ℕ
no_plugs = replicate table_length 0

abbrev pub no_pins : List ℕ
no_pins = replicate table_length 0

abbrev pub with_tables : MemoryDevice → List ℕ → List ℕ → MemoryDevice
with_tables d plugged pinned =
    record {
      block_size = d.block_size;
      addr = d.addr;
      region_size = d.region_size;
      usable_size = d.usable_size;
      requested_size = d.requested_size;
      plugged = plugged;
      pinned = pinned;
    }

abbrev pub with_plugged : MemoryDevice → List ℕ → MemoryDevice
with_plugged d plugged = with_tables d plugged d.pinned

abbrev pub with_pins : MemoryDevice → List ℕ → MemoryDevice
with_pins d pins = with_tables d d.plugged pins

-- the pins with one block's set or not
abbrev pub with_pin : List ℕ → ℕ → Bool → List ℕ
with_pin pins b on = turned pins b 1 on

abbrev pub fresh : MemoryDevice → MemoryDevice
fresh d = with_tables d no_plugs no_pins

-- the record of zeros, which 27 refuses
abbrev pub no_device : MemoryDevice
no_device =
    record { block_size = 0; addr = 0; region_size = 0; usable_size = 0; requested_size = 0; plugged = no_plugs; pinned = no_pins }

-- 'Plugged size = block size times the blocks plugged in the record', by the block size and the plug table
unfoldable pub size_in : ℕ → List ℕ → ℕ
size_in block plugged = block * set_in plugged table_length

abbrev pub plugged_size : MemoryDevice → ℕ
plugged_size d = size_in d.block_size d.plugged

-- 'Block of a byte = its offset in the managed node divided by the block size'
abbrev pub block_of_byte : MemoryDevice → ℕ → ℕ
block_of_byte d o = o / d.block_size

-- is the byte at an offset of the managed region in a plugged block, by the block size and the plug table? A division by 0 gives 0
abbrev pub plugged_in : ℕ → List ℕ → ℕ → Bool
plugged_in block plugged o = bit_at plugged (o / block)

abbrev pub plugged_at : MemoryDevice → ℕ → Bool
plugged_at d = plugged_in d.block_size d.plugged
