-- Sequences of host calls and requests, and the blocks that they acknowledged in and out. `virtqueue`'s Calls adds the queue's steps and runs. Assumes nothing: these are definitions.
use Rattle.std.specs.Prelude.{Bool, true, false, cond, ◌&&◌, List, [], ◌∷◌, ℕ, eqb}
use Rattle.map_check.specs.Reply.{passes}
use Rattle.device_words.specs.Bytes.{le_number}
use Rattle.device_words.specs.Table.{within}
use Rattle.device_words.specs.Device.{MemoryDevice, sizes_of, device_ok}
use Rattle.device_words.specs.Request.{RequestOutcome, plug_type, unplug_type, unplug_all_type, request_of, block_of}
use Rattle.device_words.specs.declared.request.Request.{Request}
use Rattle.memory_device.specs.Host.{resized, pin_block, unpin_block, system_reset}
use Rattle.memory_device.specs.Request.{carried}

-- a call of the host or a request of the guest
pub data Call : Type 0 where
  request : List ℕ → Call
  resize : ℕ → Call
  pin : ℕ → Call
  unpin : ℕ → Call
  reset : Call

-- the state after a call
abbrev pub called : MemoryDevice → Call → MemoryDevice
called d (request s) = (carried d s).device
called d (resize n) = (resized d n).device
called d (pin b) = (pin_block d b).device
called d (unpin b) = (unpin_block d b).device
called d reset = (system_reset d).device

-- the response says ACK, 0, in its first two bytes; a refusal (27) says nothing
abbrev pub acknowledges : RequestOutcome → Bool
acknowledges o = passes o.reply && eqb (le_number o.response 0 2) 0

-- the blocks held after an acknowledged request, where `had` were held before
abbrev pub after_ack : MemoryDevice → Request → (ℕ → Bool) → ℕ → Bool
after_ack d r had b =
    cond (eqb r.kind plug_type) (cond (within (block_of (sizes_of d) r.addr.0) r.blocks b) true (had b))
    (cond (eqb r.kind unplug_type) (cond (within (block_of (sizes_of d) r.addr.0) r.blocks b) false (had b)) (cond (eqb r.kind unplug_all_type) false (had b)))

-- the blocks acknowledged in less those acknowledged out, one call further; a system reset gives all back
abbrev pub ledger_after : MemoryDevice → (ℕ → Bool) → Call → ℕ → Bool
ledger_after d had (request s) b = cond (acknowledges (carried d s)) (after_ack d (request_of s) had b) (had b)
ledger_after d had (resize n) b = had b
ledger_after d had (pin c) b = had b
ledger_after d had (unpin c) b = had b
ledger_after d had reset b = cond (device_ok d) false (had b)

-- the state, and the ledger, after a sequence of calls
unfoldable pub after : MemoryDevice → List Call → MemoryDevice
after d [] = d
after d (c ∷ cs) = after (called d c) cs

unfoldable pub ledger : MemoryDevice → (ℕ → Bool) → List Call → ℕ → Bool
ledger d had [] = had
ledger d had (c ∷ cs) = ledger (called d c) (ledger_after d had c) cs
