-- Setting the device up from a given map: 3, 4, 6 to 11, then 13. Assumes nothing: these are definitions.
use Rattle.std.specs.Prelude.{cond, ℕ, zero, suc, eqb, Result}
use Rattle.map_records.specs.Map.{managed, region}
use Rattle.map_check.specs.Reply.{Reply, accepted, plain, reply_by, if_accepted}
use Rattle.map_check.specs.Check.{fault_reply, judged}
use Rattle.map_records.specs.Refusal as refusal
use Rattle.map_records.specs.declared.map.RegionMap.{RegionMap}
use Rattle.device_words.specs.Device.{MemoryDevice, no_plugs, no_pins, no_device, setup_ok}
use Rattle.memory_device.specs.Record.{HostOutcome, outcome_by}
use Rattle.memory_device.specs.declared.setup.DeviceValues.{DeviceValues}
use Rattle.memory_device.specs.declared.device.MemoryDevice as value
use Rattle.memory_device.specs.declared.setup.SetUpFault.{SetUpFault}
use Rattle.memory_device.specs.declared.setup.SetUpFault.TheVariants as fault
use Rattle.memory_device.specs.declared.refused.Refused.{Refused}

-- the size of the managed region among the first n, and 0 where there is none
unfoldable pub managed_in : RegionMap → ℕ → ℕ
managed_in m zero = 0
managed_in m (suc n) = cond (eqb (region m n).kind managed) (region m n).size (managed_in m n)

-- 'region = managed node's size'
abbrev pub region_size : RegionMap → ℕ
region_size m = managed_in m m.count

-- the device record of these values, with nothing plugged or pinned
abbrev pub fresh_device : DeviceValues → ℕ → MemoryDevice
fresh_device v region =
    record {
      block_size = v.block_size;
      addr = v.addr.0;
      region_size = region;
      usable_size = v.usable_size;
      requested_size = v.requested_size;
      plugged = no_plugs;
      pinned = no_pins;
    }

-- a refusal has the record of zeros
abbrev pub set_up_refusal : Reply → HostOutcome
set_up_refusal r = record { reply = r; device = no_device }

-- 13: 'device values break the rules below, or no managed node': without one the region is 0, which breaks them
abbrev pub valued : DeviceValues → ℕ → HostOutcome
valued v region =
    cond (setup_ok v.block_size v.addr.0 region v.usable_size v.requested_size)
    (record { reply = accepted; device = fresh_device v region }) (set_up_refusal (plain refusal.SETUP))

-- the map is judged first
unfoldable pub set_up : RegionMap → ℕ → DeviceValues → HostOutcome
set_up m memory v = if_accepted (judged m memory) set_up_refusal (valued v (region_size m))

-- document 01's number and nodes for each fault
abbrev pub set_up_fault_reply : SetUpFault → Reply
set_up_fault_reply (fault.Map e) = fault_reply e
set_up_fault_reply fault.Values = plain refusal.SETUP

-- and for each answer
abbrev pub set_up_reply : {A : Type 0} → Result A SetUpFault → Reply
set_up_reply = reply_by set_up_fault_reply

abbrev pub set_up_outcome_of : Result value.MemoryDevice (Refused SetUpFault value.MemoryDevice) → HostOutcome
set_up_outcome_of = outcome_by set_up_fault_reply
