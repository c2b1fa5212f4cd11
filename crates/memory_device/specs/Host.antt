-- The host's calls: requested size, pins, system reset, configuration. Assumes nothing: these are definitions.
use Rattle.std.specs.Prelude.{Bool, true, false, cond, ◌&&◌, ◌||◌, not, List, ℕ, ◌/◌, ◌%◌, max, eqb, ltb, length, replicate, Result, Ok, Err, Option, Some, None}
use Rattle.map_check.specs.Reply.{Reply, accepted, plain}
use Rattle.device_words.specs.Bytes.{configuration_bytes, configuration_length}
use Rattle.device_words.specs.Table.{bit_at}
use Rattle.device_words.specs.Device.{MemoryDevice, is_pinned, with_pins, with_pin, fresh, plugged_size, block_of_byte, device_ok}
use Rattle.memory_device.specs.Record.{HostOutcome, record_fault_reply}
use Rattle.memory_device.specs.Refused.{value_reply, value_given}
use Rattle.memory_device.specs.declared.refused.Refused.{Refused}
use Rattle.map_records.specs.Refusal as refusal
use Rattle.map_check.specs.declared.answer.RecordFault.{RecordFault}
use Rattle.device_words.specs.declared.block.BlockNumber.{BlockNumber}

-- a refusal gives the state back as it was
abbrev pub host_refusal : ℕ → MemoryDevice → HostOutcome
host_refusal k d = record { reply = plain k; device = d }

abbrev pub done : MemoryDevice → HostOutcome
done d = record { reply = accepted; device = d }

-- '27 comes first wherever such a record is given'
abbrev pub if_ok : MemoryDevice → HostOutcome → HostOutcome
if_ok d o = cond (device_ok d) o (host_refusal refusal.RECORD d)

-- 14: 'new requested size not a multiple of the block size, or over the region'
abbrev pub size_fault : MemoryDevice → ℕ → Bool
size_fault d size = not (eqb (size % d.block_size) 0) || ltb d.region_size size

-- 'Setting the requested size raises usable to it if lower'
abbrev pub with_requested : MemoryDevice → ℕ → MemoryDevice
with_requested d size =
    record {
      block_size = d.block_size;
      addr = d.addr;
      region_size = d.region_size;
      usable_size = max d.usable_size size;
      requested_size = size;
      plugged = d.plugged;
      pinned = d.pinned;
    }

unfoldable pub resized : MemoryDevice → ℕ → HostOutcome
resized d size = if_ok d (cond (size_fault d size) (host_refusal refusal.SIZE d) (done (with_requested d size)))

-- 15: 'pin of a block outside the region, unplugged or pinned'
abbrev pub pin_fault : MemoryDevice → ℕ → Bool
pin_fault d b = not (ltb b (d.region_size / d.block_size)) || not (bit_at d.plugged b) || is_pinned d b

unfoldable pub pin_block : MemoryDevice → ℕ → HostOutcome
pin_block d b = if_ok d (cond (pin_fault d b) (host_refusal refusal.PIN d) (done (with_pins d (with_pin d.pinned b true))))

-- 15: 'unpin of one not pinned'
unfoldable pub unpin_block : MemoryDevice → ℕ → HostOutcome
unpin_block d b = if_ok d (cond (not (is_pinned d b)) (host_refusal refusal.PIN d) (done (with_pins d (with_pin d.pinned b false))))

-- both as one: a block is pinned, or let go
abbrev pub turn_fault : MemoryDevice → ℕ → Bool → Bool
turn_fault d b on = cond on (pin_fault d b) (not (is_pinned d b))

unfoldable pub turn_pin : MemoryDevice → ℕ → Bool → HostOutcome
turn_pin d b on = if_ok d (cond (turn_fault d b on) (host_refusal refusal.PIN d) (done (with_pins d (with_pin d.pinned b on))))

-- 'A system reset gives the fresh state back; sizes and addr stay'
unfoldable pub system_reset : MemoryDevice → HostOutcome
system_reset d = if_ok d (done (fresh d))

-- 'The configuration is 56 bytes'
abbrev pub configuration_of : MemoryDevice → List ℕ
configuration_of d =
    configuration_bytes d.block_size d.addr d.region_size d.usable_size (plugged_size d) d.requested_size

pub record ConfigurationRead : Type 0 where
  pub reply : Reply
  pub bytes : List ℕ

-- into bytes that are lent: with a refusal they stay as they were, and any other number of them is refused
unfoldable pub configured_into : MemoryDevice → List ℕ → ConfigurationRead
configured_into d bytes =
    cond (eqb (length bytes) configuration_length && device_ok d) (record { reply = accepted; bytes = configuration_of d }) (record { reply = plain refusal.RECORD; bytes = bytes })

-- by value: zeros, where the record is refused
abbrev pub configured : MemoryDevice → ConfigurationRead
configured d = configured_into d (replicate configuration_length 0)

abbrev pub read_of : Result (List ℕ) (Refused RecordFault (List ℕ)) → ConfigurationRead
read_of a = record { reply = value_reply record_fault_reply a; bytes = value_given a }

-- the block of a byte of the region, or that the byte lies outside it, or 27
pub data ByteIn : Type 0 where
  block : ℕ → ByteIn
  outside : ByteIn
  refused : Reply → ByteIn

unfoldable pub byte_block : MemoryDevice → ℕ → ByteIn
byte_block d o = cond (device_ok d) (cond (ltb o d.region_size) (block (block_of_byte d o)) outside) (refused (plain refusal.RECORD))

abbrev pub byte_of : Result (Option BlockNumber) RecordFault → ByteIn
byte_of (Ok (Some b)) = block b.0
byte_of (Ok None) = outside
byte_of (Err e) = refused (record_fault_reply e)
