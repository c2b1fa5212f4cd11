-- Laws of setting the device up. Assumes nothing.
use mathlib.Core.Path.{◌≡◌, refl, ◌∙◌}
use mathlib.Core.Bool.{true, false}
use Prim.Native.Nat.{ℕ, ◌+◌}
use native.Mathlib.Numerals.{add-one}
use borrow.Author.Tests.{eq-eqb, ne_eqb}
use Rattle.map_records.specs.Map.{managed, region}
use Rattle.map_check.specs.Reply.{accepted, plain, passes}
use Rattle.map_check.specs.Check.{fault_reply, reply, judged, Accepted}
use Rattle.map_check.specs.declared.check.MapFault.{MapFault}
use Rattle.map_check.proofs.Answers.{fault_form}
use Rattle.std.specs.Prelude.{Result, Ok, Err}
use Rattle.std.specs.Result.{IsErrAnd, MatchResult}
use Rattle.map_records.specs.declared.map.RegionMap.{RegionMap}
use Rattle.map_check.proofs.Replies.{refused_first}
use Rattle.device_words.specs.Device.{no_device, setup_ok}
use Rattle.memory_device.specs.Record.{record_of}
use Rattle.memory_device.specs.SetUp.{managed_in, region_size, fresh_device, set_up_refusal, set_up_fault_reply, valued, set_up, set_up_outcome_of}
use Rattle.memory_device.specs.declared.device.MemoryDevice as value
use Rattle.memory_device.specs.declared.refused.Refused.{Refused}
use Rattle.memory_device.specs.declared.setup.SetUpFault.{SetUpFault}
use Rattle.memory_device.specs.declared.setup.SetUpFault.TheVariants.{Map}
use Rattle.memory_device.specs.declared.setup.DeviceValues.{DeviceValues}

pub managed_here : (m : RegionMap) (n : ℕ) → (region m n).kind ≡ managed → managed_in m (n + 1) ≡ (region m n).size
unfolding managed_in
managed_here m n h = rw (add-one, eq-eqb (region m n).kind managed h)

pub managed_not : (m : RegionMap) (n : ℕ) → ((region m n).kind ≡ managed → ⊥) → managed_in m (n + 1) ≡ managed_in m n
unfolding managed_in
managed_not m n h = rw (add-one, ne_eqb (region m n).kind managed h)

module _ (m : RegionMap) (length : ℕ) (v : DeviceValues) where
  pub set_up_done : Accepted m length → setup_ok v.block_size v.addr.0 (region_size m) v.usable_size v.requested_size ≡ true
      → record { reply = accepted; device = fresh_device v (region_size m) } ≡ set_up m length v
  unfolding set_up Accepted
  set_up_done ok h = rw (ok, h)

  pub set_up_values : Accepted m length → setup_ok v.block_size v.addr.0 (region_size m) v.usable_size v.requested_size ≡ false
      → set_up_refusal (plain 13) ≡ set_up m length v
  unfolding set_up Accepted
  set_up_values ok h = rw (ok, h)

  -- what `?` passes on is the check's refusal, with the record of zeros
  pub set_up_fault : {A : Type 0} (a : Result A MapFault) (r : Result value.MemoryDevice (Refused SetUpFault value.MemoryDevice))
      → MatchResult a (λ x. ⊥) (λ e. IsErrAnd r (λ f. (f.fault ≡ Map e) × (record_of f.left ≡ no_device))) → reply a ≡ judged m length → set_up_outcome_of r ≡ set_up m length v
  unfolding set_up
  set_up_fault (Ok _) r h p = absurd h
  set_up_fault (Err e) (Ok _) h p = absurd h
  set_up_fault (Err e) (Err f) h p =
      (λ i. record { reply = set_up_fault_reply (h.0 i); device = h.1 i })
      ∙ refused_first set_up_refusal (valued v (region_size m)) (fault_reply e) (judged m length) p (fault_form (λ r. passes r ≡ false) (λ k i j. refl) e)
