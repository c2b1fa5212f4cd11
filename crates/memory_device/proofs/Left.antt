-- What a refused call by value leaves: the record that was passed, or zeros. Each definition says it of every refusal, so that a caller who keeps the fault alone loses nothing. Assumes nothing.
use mathlib.Core.Path.{◌≡◌, refl, sym, ap, ◌∙◌}
use mathlib.Core.Bool.{Bool, true, false, cond, not}
use mathlib.Core.List.{List}
use Prim.Native.Nat.{ℕ}
use lib.ListN.{replicate}
use Rattle.std.specs.Prelude.{Err}
use Rattle.map_check.specs.Reply.{Reply, accepted, nodes, place, plain, passes, if_accepted}
use Rattle.map_check.specs.Check.{judged}
use Rattle.map_check.specs.declared.answer.RecordFault.{RecordFault}
use Rattle.map_check.proofs.Bools.{never}
use Rattle.map_records.specs.declared.map.RegionMap.{RegionMap}
use Rattle.device_words.specs.Bytes.{response_length, configuration_length}
use Rattle.device_words.specs.Device.{MemoryDevice, is_pinned, with_pins, with_pin, fresh, no_device, setup_ok}
use Rattle.device_words.specs.Request.{RequestOutcome}
use Rattle.memory_device.specs.Host.{if_ok, host_refusal, done, with_requested, size_fault, pin_fault, resized, pin_block, unpin_block, system_reset, ConfigurationRead, configured, read_of}
use Rattle.memory_device.specs.Record.{record_of, HostOutcome, outcome_by, host_fault_reply, record_fault_reply, host_outcome_of, record_outcome_of}
use Rattle.memory_device.specs.Request.{carried, request_outcome_of}
use Rattle.memory_device.specs.SetUp.{set_up, set_up_refusal, set_up_fault_reply, set_up_outcome_of, fresh_device, region_size}
use Rattle.memory_device.specs.declared.device.HostFault.{HostFault}
use Rattle.memory_device.specs.declared.device.MemoryDevice as value
use Rattle.memory_device.specs.declared.refused.Refused.{Refused}
use Rattle.memory_device.specs.declared.request.Carried as value-carried
use Rattle.memory_device.specs.declared.setup.DeviceValues.{DeviceValues}
use Rattle.memory_device.specs.declared.setup.SetUpFault.{SetUpFault}
use Rattle.memory_device.proofs.Answers.{set_up_refuses}
use Rattle.memory_device.proofs.CallLaws.{host_refuses, given_back, gives, configured_refused, carried_refused}

-- ---- the record d: the one that was passed, or of a set-up that of no device
module _ (d : MemoryDevice) where
  abbrev Keeps : HostOutcome → Type 0
  Keeps o = passes o.reply ≡ false → o.device ≡ d

  left : {E : Type 0} (reply : E → Reply) (o : HostOutcome) → Keeps o → (e : Refused E value.MemoryDevice) → passes (reply e.fault) ≡ false → outcome_by reply (Err e) ≡ o
      → record_of e.left ≡ d
  left reply o h e r p = ap (λ (o : HostOutcome). o.device) p ∙ h (sym (ap (λ (o : HostOutcome). passes o.reply) p) ∙ r)

  -- of a call of the host
  kept : {E : Type 0} (reply : E → Reply) (fault : Bool) (k : ℕ) (next : MemoryDevice) (e : Refused E value.MemoryDevice) → passes (reply e.fault) ≡ false
      → outcome_by reply (Err e) ≡ if_ok d (cond fault (host_refusal k d) (done next)) → record_of e.left ≡ d
  kept reply fault k next = left reply (if_ok d (cond fault (host_refusal k d) (done next))) (given_back (λ _. Unit) d _ _ (gives (λ _. Unit) d fault k next tt))

  pub resized_left : (size : ℕ) (e : Refused HostFault value.MemoryDevice) → host_outcome_of (Err e) ≡ resized d size → record_of e.left ≡ d
  unfolding resized
  resized_left size e = kept host_fault_reply (size_fault d size) 14 (with_requested d size) e (host_refuses e.fault)

  pub pin_left : (b : ℕ) (e : Refused HostFault value.MemoryDevice) → host_outcome_of (Err e) ≡ pin_block d b → record_of e.left ≡ d
  unfolding pin_block
  pin_left b e = kept host_fault_reply (pin_fault d b) 15 (with_pins d (with_pin d.pinned b true)) e (host_refuses e.fault)

  pub unpin_left : (b : ℕ) (e : Refused HostFault value.MemoryDevice) → host_outcome_of (Err e) ≡ unpin_block d b → record_of e.left ≡ d
  unfolding unpin_block
  unpin_left b e = kept host_fault_reply (not (is_pinned d b)) 15 (with_pins d (with_pin d.pinned b false)) e (host_refuses e.fault)

  pub system_reset_left : (e : Refused RecordFault value.MemoryDevice) → record_outcome_of (Err e) ≡ system_reset d → record_of e.left ≡ d
  unfolding system_reset
  system_reset_left e = kept record_fault_reply false 27 (fresh d) e refl

pub set_up_left : (m : RegionMap) (memory : ℕ) (v : DeviceValues) (e : Refused SetUpFault value.MemoryDevice) → set_up_outcome_of (Err e) ≡ set_up m memory v → record_of e.left ≡ no_device
unfolding set_up
set_up_left m memory v e = left no_device set_up_fault_reply (set_up m memory v) (go (judged m memory) (setup_ok v.block_size v.addr.0 (region_size m) v.usable_size v.requested_size)) e (set_up_refuses e.fault)
  where
    go : (r : Reply) (x : Bool) → Keeps no_device (if_accepted r set_up_refusal (cond x (record { reply = accepted; device = fresh_device v (region_size m) }) (set_up_refusal (plain 13))))
    go accepted true f = absurd (never f)
    go accepted false f = refl
    go (nodes k i j) x f = refl
    go (place k q) x f = refl
    go (plain k) x f = refl

-- ---- zeros, and of a request the record too
pub configured_left : (d : MemoryDevice) (e : Refused RecordFault (List ℕ)) → read_of (Err e) ≡ configured d → e.left ≡ replicate configuration_length 0
configured_left d e p = ap (λ (o : ConfigurationRead). o.bytes) (p ∙ sym (configured_refused d (replicate configuration_length 0) (ap (λ (o : ConfigurationRead). o.reply) p)))

pub carried_left : (d : MemoryDevice) (s : List ℕ) (e : Refused RecordFault value-carried.Carried) → request_outcome_of (Err e) ≡ carried d s
    → (e.left.response ≡ replicate response_length 0) × (record_of e.left.device ≡ d)
carried_left d s e p =
    let same : request_outcome_of (Err e) ≡ record { reply = plain 27; response = replicate response_length 0; device = d } =
    p ∙ sym (carried_refused d s (replicate response_length 0) (ap (λ (o : RequestOutcome). o.reply) p)) in
    (ap (λ (o : RequestOutcome). o.response) same, ap (λ (o : RequestOutcome). o.device) same)
