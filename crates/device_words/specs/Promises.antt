-- What the functions inside the crate, and those over it, promise each other. Assumes nothing: these are definitions.
use Rattle.std.specs.Prelude.{Bool, true, ◌&&◌, ◌||◌, List, ◌≡◌, ℕ, ◌+◌, ◌*◌, ◌/◌, ◌%◌, ◌≤◌, ◌<◌, eqb, leb, length}
use Rattle.map_records.specs.Limits.{limit}
use Rattle.device_words.specs.Table.{most_blocks, bit_at, only, implies}
use Rattle.device_words.specs.Bytes.{response_bytes}
use Rattle.device_words.specs.Device.{MemoryDevice, smallest_block, largest_block, is_pinned, with_pins, with_pin}
use Rattle.device_words.specs.Request.{request_of, unplug_type, unplug_all_type, state_type, in_range, asked_from, asked_count, type_of, state_of, nothing_further, answered_by, table_by, carried_out}
use Rattle.device_words.specs.Words.{device_at, device_of, device_words, device_length}
use Rattle.device_words.specs.declared.words.Sizes.{Sizes}
use Rattle.device_words.specs.declared.request.Request.{Request}

-- every block that is set is below n; is set in the other table too
abbrev pub only_below : List ℕ → ℕ → Bool
only_below t n = only (bit_at t) n

abbrev pub part_of : List ℕ → List ℕ → Bool
part_of t whole = implies (bit_at t) (bit_at whole)

-- what a valid record is to those who use it
pub record Valid (d : MemoryDevice) : Type 0 where
  pub least : smallest_block ≤ d.block_size
  pub most : d.block_size ≤ largest_block
  pub some : 0 < d.region_size
  pub region : d.region_size % d.block_size ≡ 0
  pub blocks : d.region_size ≤ most_blocks * d.block_size
  pub aligned : d.addr % d.block_size ≡ 0
  pub end : d.addr + d.region_size ≤ limit
  pub requested : d.requested_size ≤ d.usable_size
  pub usable : d.usable_size ≤ d.region_size
  pub whole_usable : d.usable_size % d.block_size ≡ 0
  pub whole_requested : d.requested_size % d.block_size ≡ 0
  pub inside : (b : ℕ) → b < most_blocks → bit_at d.plugged b ≡ true → b < d.usable_size / d.block_size
  pub held : (b : ℕ) → b < most_blocks → is_pinned d b ≡ true → bit_at d.plugged b ≡ true

-- what carrying out a request needs of the sizes
pub record Sized (s : Sizes) : Type 0 where
  pub some : 0 < s.block_size
  pub most : s.block_size ≤ largest_block
  pub aligned : s.addr.0 % s.block_size ≡ 0
  pub room : s.usable_size ≤ most_blocks * s.block_size

-- the words of a valid record
pub record ValidWords (w : List ℕ) : Type 0 where
  pub size : length w ≡ device_length
  pub valid : Valid (device_at w)

-- a request has an answer other than ERROR by its type and range
abbrev pub answerable : Sizes → Request → Bool
answerable s r = eqb r.kind unplug_all_type || (leb r.kind state_type && in_range s r)

-- the n blocks from b on are those that a request asks for, and lie in the table
pub record RunOf (s : Sizes) (r : Request) (b n : ℕ) : Type 0 where
  pub answers : answerable s r ≡ true
  pub first : b ≡ asked_from s r
  pub count : n ≡ asked_count r
  pub room : b + n ≤ most_blocks

-- pins matter to an UNPLUG and an UNPLUG ALL
abbrev pub unplugs : ℕ → Bool
unplugs kind = eqb kind unplug_type || eqb kind unplug_all_type

-- what is left of a device's words where a block is pinned or not
abbrev pub pin_words : List ℕ → ℕ → Bool → List ℕ
pin_words w b on = device_words (with_pins (device_at w) (with_pin (device_at w).pinned b on))

-- the response x to a request, and the table t' that it leaves of t
abbrev pub CarriesTable : Sizes → Bool → List ℕ → Request → List ℕ → List ℕ → Type 0
CarriesTable s held t r x t' =
    (x ≡ response_bytes (type_of (answered_by nothing_further s held t r)) (state_of (answered_by nothing_further s held t r)))
    × (t' ≡ table_by s t r (answered_by nothing_further s held t r))

-- the response x to a request's bytes s, and the words w' that it leaves of w
abbrev pub Responds : List ℕ → List ℕ → List ℕ → List ℕ → Type 0
Responds w s x w' = (x ≡ (carried_out (device_of w) (request_of s)).response) × (w' ≡ device_words (carried_out (device_of w) (request_of s)).device)
