-- The device's words where they lie: five numbers, the words of the plug table, those of the pins. Assumes nothing: these are definitions.
use Rattle.std.specs.Prelude.{Bool, cond, List, ◌∷◌, ◌++◌, ℕ, eqb, length, get_or, take, drop}
use Rattle.device_words.specs.Device.{MemoryDevice, no_device}
use Rattle.device_words.specs.Table.{table_length}

-- how many there are, and where the two tables begin
abbrev pub device_length : ℕ
device_length = 37

abbrev pub plugged_from : ℕ
plugged_from = 5

abbrev pub pinned_from : ℕ
pinned_from = 21

abbrev pub is_device : List ℕ → Bool
is_device w = eqb (length w) device_length

-- the record in as many words
abbrev pub device_at : List ℕ → MemoryDevice
device_at w =
    record {
      block_size = get_or w 0 0;
      addr = get_or w 1 0;
      region_size = get_or w 2 0;
      usable_size = get_or w 3 0;
      requested_size = get_or w 4 0;
      plugged = take table_length (drop plugged_from w);
      pinned = take table_length (drop pinned_from w);
    }

-- the record that words stand for: words of another number are a record of zeros, which 27 refuses
unfoldable pub device_of : List ℕ → MemoryDevice
device_of w = cond (is_device w) (device_at w) no_device

-- the words of a record
unfoldable pub device_words : MemoryDevice → List ℕ
device_words d =
    d.block_size ∷ d.addr ∷ d.region_size ∷ d.usable_size ∷ d.requested_size ∷ (d.plugged ++ d.pinned)
