-- The device's record by value, and what a call of the host answers. Assumes nothing: these are definitions.
use Rattle.std.specs.Prelude.{Result}
use Rattle.map_check.specs.Reply.{Reply, plain, reply_by}
use Rattle.map_check.specs.declared.answer.RecordFault.{RecordFault}
use Rattle.device_words.specs.Device.{MemoryDevice}
use Rattle.map_records.specs.Refusal as refusal
use Rattle.memory_device.specs.Refused.{value_reply, value_given}
use Rattle.memory_device.specs.declared.device.MemoryDevice as value
use Rattle.memory_device.specs.declared.device.HostFault.{HostFault}
use Rattle.memory_device.specs.declared.device.HostFault.TheVariants as fault
use Rattle.memory_device.specs.declared.refused.Refused.{Refused}

-- the record that a value of the code is, field by field
abbrev pub record_of : value.MemoryDevice → MemoryDevice
record_of d =
    record {
      block_size = d.block_size;
      addr = d.addr.0;
      region_size = d.region_size;
      usable_size = d.usable_size;
      requested_size = d.requested_size;
      plugged = d.plugged;
      pinned = d.pinned;
    }

-- document 01's number for each fault of a host call
abbrev pub host_fault_reply : HostFault → Reply
host_fault_reply fault.Size = plain refusal.SIZE
host_fault_reply fault.Pin = plain refusal.PIN
host_fault_reply fault.Record = plain refusal.RECORD

-- and for each answer of one
abbrev pub host_reply : {A : Type 0} → Result A HostFault → Reply
host_reply = reply_by host_fault_reply

-- the same of a call that is refused with 27 alone
abbrev pub record_fault_reply : RecordFault → Reply
record_fault_reply e = plain refusal.RECORD

abbrev pub record_reply : {A : Type 0} → Result A RecordFault → Reply
record_reply = reply_by record_fault_reply

-- document 01's answer, and the next state
pub record HostOutcome : Type 0 where
  pub reply : Reply
  pub device : MemoryDevice

-- what an answer by value stands for
abbrev pub outcome_by : {E : Type 0} → (E → Reply) → Result value.MemoryDevice (Refused E value.MemoryDevice) → HostOutcome
outcome_by reply a = record { reply = value_reply reply a; device = record_of (value_given a) }

-- of a call of the host, and of one that is refused with 27 alone
abbrev pub host_outcome_of : Result value.MemoryDevice (Refused HostFault value.MemoryDevice) → HostOutcome
host_outcome_of = outcome_by host_fault_reply

abbrev pub record_outcome_of : Result value.MemoryDevice (Refused RecordFault value.MemoryDevice) → HostOutcome
record_outcome_of = outcome_by record_fault_reply
