-- Over any sequence of host calls and requests the plugged blocks are those of the ledger, and the record stays valid; `virtqueue` states it with the queue's steps and runs. Assumes nothing.
use mathlib.Core.Path.{◌≡◌, refl, sym, ap, ◌∙◌}
use mathlib.Core.Bool.{Bool, true, false, cond, not}
use mathlib.Core.List.{List, [], ◌∷◌}
use Prim.Native.Nat.{ℕ, ◌<◌}
use lib.Dec.{eqb, ltb}
use Rattle.map_check.proofs.Bools.{never}
use Rattle.device_words.specs.Bytes.{le, le_number, number_by, response_bytes}
use Rattle.device_words.specs.Table.{bit_at, within, held_in}
use Rattle.device_words.specs.Device.{MemoryDevice, is_pinned, sizes_of, no_plugs, with_pins, with_pin, device_ok}
use Rattle.device_words.specs.Request.{request_of, type_of, state_of, block_of, in_range, already_plugged, over_requested, plug_answer, unplug_answer, unplug_all_answer, state_answer, ranged, pin_met, answered_by, answered, with_run, table_after_ack, table_by, changed_by}
use Rattle.device_words.specs.declared.request.Request.{Request}
use Rattle.device_words.specs.declared.request.Response.{Response}
use Rattle.device_words.specs.declared.request.Response.TheVariants.{Ack, Nack, Busy, Error, Plugged, Unplugged, Mixed}
use Rattle.device_words.proofs.TableLaws.{table_bit, zero_bit}
use Rattle.memory_device.specs.Host.{host_refusal, done, if_ok, size_fault, with_requested, resized, pin_fault, pin_block, unpin_block, system_reset}
use Rattle.memory_device.specs.Request.{carried_into, carried}
use Rattle.memory_device.specs.Calls.{Call, request, resize, pin, unpin, reset, called, after_ack, ledger_after, after, ledger}
use Rattle.memory_device.proofs.Kept.{reset_kept, pin_kept, unpin_kept, resize_kept, carry_kept}

-- the table after an acknowledged request, block by block
acknowledged_bit : (d : MemoryDevice) (r : Request) (had : ℕ → Bool) (b : ℕ) → b < 1024 → bit_at d.plugged b ≡ had b → bit_at (table_after_ack (sizes_of d) d.plugged r) b ≡ after_ack d r had b
acknowledged_bit d r had b l e = go (eqb r.kind 0) (eqb r.kind 1) (eqb r.kind 2)
  where
    run : Bool → ℕ → Bool
    run on c = cond (within (block_of (sizes_of d) r.addr.0) r.blocks c) on (bit_at d.plugged c)

    set_bit : (on : Bool) → bit_at (with_run (sizes_of d) d.plugged r on) b ≡ cond (within (block_of (sizes_of d) r.addr.0) r.blocks b) on (had b)
    set_bit on = table_bit (run on) b l ∙ ap (λ (x : Bool). cond (within (block_of (sizes_of d) r.addr.0) r.blocks b) on x) e

    go : (x y z : Bool)
        → bit_at (cond x (with_run (sizes_of d) d.plugged r true) (cond y (with_run (sizes_of d) d.plugged r false) (cond z no_plugs d.plugged))) b
        ≡ cond x (cond (within (block_of (sizes_of d) r.addr.0) r.blocks b) true (had b)) (cond y (cond (within (block_of (sizes_of d) r.addr.0) r.blocks b) false (had b)) (cond z false (had b)))
    go true y z = set_bit true
    go false true z = set_bit false
    go false false true = zero_bit b
    go false false false = e

-- only a STATE is answered with a state, and it takes no block in or out
abbrev is_state : Response → Bool
is_state Ack = false
is_state Nack = false
is_state Busy = false
is_state Error = false
is_state Plugged = true
is_state Unplugged = true
is_state Mixed = true

state_takes_none : (d : MemoryDevice) (r : Request) (had : ℕ → Bool) (b : ℕ) → is_state (answered d r) ≡ true → after_ack d r had b ≡ had b
unfolding answered_by
state_takes_none d r had b h = go (eqb r.kind 0) (eqb r.kind 1) (eqb r.kind 2) h
  where
    run : Bool → Bool
    run on = cond (within (block_of (sizes_of d) r.addr.0) r.blocks b) on (had b)

    none : (i j k : Bool) (y : Response) → is_state y ≡ false → is_state (cond i (cond j Error (cond k y Ack)) Error) ≡ false
    none true true k y f = refl
    none true false true y f = f
    none true false false y f = refl
    none false j k y f = refl

    go : (x y z : Bool)
        → is_state (cond x (ranged (sizes_of d) r (plug_answer Ack (sizes_of d) d.plugged)) (cond y (ranged (sizes_of d) r (unplug_answer (pin_met d r) d.plugged))
        (cond z (unplug_all_answer (pin_met d r)) (cond (eqb r.kind 3) (ranged (sizes_of d) r (state_answer d.plugged)) Error)))) ≡ true
        → cond x (run true) (cond y (run false) (cond z false (had b))) ≡ had b
    go true y z h = absurd (never (sym h ∙ none (in_range (sizes_of d) r) (already_plugged d.plugged (block_of (sizes_of d) r.addr.0) r.blocks) (over_requested (sizes_of d) d.plugged r.blocks) Nack refl))
    go false true z h =
        absurd (never (sym h ∙ none (in_range (sizes_of d) r) (ltb (held_in d.plugged (block_of (sizes_of d) r.addr.0) r.blocks) r.blocks) (pin_met d r) Busy refl))
    go false false true h = absurd (never (sym h ∙ none true false (pin_met d r) Busy refl))
    go false false false h = refl

-- what a refusal or another answer leaves
module _ (d : MemoryDevice) (had : ℕ → Bool) (b : ℕ) (l : b < 1024) (e : bit_at d.plugged b ≡ had b) where
  kept : (fault : Bool) (k : ℕ) (x : MemoryDevice) → bit_at x.plugged b ≡ had b → bit_at (if_ok d (cond fault (host_refusal k d) (done x))).device.plugged b ≡ had b
  kept fault k x f = go (device_ok d) fault
    where
      go : (y z : Bool) → bit_at (cond y (cond z (host_refusal k d) (done x)) (host_refusal 27 d)).device.plugged b ≡ had b
      go true true = e
      go true false = f
      go false z = e

  -- by the answer: a STATE's is an ACK too, and takes no block in or out
  answer_bit : (r : Request) (x : Response) → (is_state x ≡ true → after_ack d r had b ≡ had b)
      → bit_at (changed_by d r x).plugged b ≡ cond (eqb (le_number (response_bytes (type_of x) (state_of x)) 0 2) 0) (after_ack d r had b) (had b)
  unfolding table_by number_by response_bytes le
  answer_bit r Ack f = acknowledged_bit d r had b l e
  answer_bit r Nack f = e
  answer_bit r Busy f = e
  answer_bit r Error f = e
  answer_bit r Plugged f = e ∙ sym (f refl)
  answer_bit r Unplugged f = e ∙ sym (f refl)
  answer_bit r Mixed f = e ∙ sym (f refl)

  step_request : (s : List ℕ) → bit_at (carried d s).device.plugged b ≡ ledger_after d had (request s) b
  unfolding carried_into
  step_request s = go (device_ok d) refl
    where
      go : (x : Bool) → device_ok d ≡ x → bit_at (carried d s).device.plugged b ≡ ledger_after d had (request s) b
      go true h = rw h (answer_bit (request_of s) (answered d (request_of s)) (state_takes_none d (request_of s) had b))
      go false h = rw h e

  step_reset : bit_at (system_reset d).device.plugged b ≡ ledger_after d had reset b
  unfolding system_reset
  step_reset = go (device_ok d) refl
    where
      go : (x : Bool) → device_ok d ≡ x → bit_at (system_reset d).device.plugged b ≡ cond (device_ok d) false (had b)
      go true h = rw h (zero_bit b)
      go false h = rw h e

  step : (c : Call) → bit_at (called d c).plugged b ≡ ledger_after d had c b
  unfolding resized pin_block unpin_block
  step (request s) = step_request s
  step (resize n) = kept (size_fault d n) 14 (with_requested d n) e
  step (pin c) = kept (pin_fault d c) 15 (with_pins d (with_pin d.pinned c true)) e
  step (unpin c) = kept (not (is_pinned d c)) 15 (with_pins d (with_pin d.pinned c false)) e
  step reset = step_reset

-- over any sequence
pub plugged_is : (d : MemoryDevice) (had : ℕ → Bool) (cs : List Call) → ((b : ℕ) → b < 1024 → bit_at d.plugged b ≡ had b) → (b : ℕ) → b < 1024 → bit_at (after d cs).plugged b ≡ ledger d had cs b
unfolding after ledger
plugged_is d had [] h b l = h b l
plugged_is d had (c ∷ cs) h b l = plugged_is (called d c) (ledger_after d had c) cs (λ a m. step d had a m (h a m) c) b l

-- and the record stays valid
valid_after : (d : MemoryDevice) (c : Call) → device_ok d ≡ true → device_ok (called d c) ≡ true
valid_after d (request s) h = carry_kept d s h
valid_after d (resize n) h = resize_kept d n h
valid_after d (pin b) h = pin_kept d b h
valid_after d (unpin b) h = unpin_kept d b h
valid_after d reset h = reset_kept d h

pub valid_all : (d : MemoryDevice) (cs : List Call) → device_ok d ≡ true → device_ok (after d cs) ≡ true
unfolding after
valid_all d [] h = h
valid_all d (c ∷ cs) h = valid_all (called d c) cs (valid_after d c h)
