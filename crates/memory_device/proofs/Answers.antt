-- The promises fix the answers: two answers that stand for the same one are equal. Assumes nothing.
use mathlib.Core.Path.{◌≡◌, refl, ap, ◌∙◌}
use mathlib.Core.Bool.{false, cond}
use mathlib.Core.List.{List}
use Prim.Native.Nat.{ℕ}
use lib.Dec.{eqb}
use Rattle.std.specs.Prelude.{Result, Ok, Err, Option, Some, None}
use Rattle.map_check.specs.Reply.{Reply, accepted, nodes, place, plain, reply_by, passes}
use Rattle.map_check.specs.declared.answer.RecordFault.{RecordFault}
use Rattle.map_check.specs.declared.check.MapFault.{MapFault}
use Rattle.map_check.proofs.Answers.{injective, answer_of, reply_back, fault_form}
use Rattle.map_check.proofs.Bools.{never}
use Rattle.device_words.specs.Device.{MemoryDevice}
use Rattle.device_words.specs.declared.block.BlockNumber.{BlockNumber}
use Rattle.device_words.specs.Request as carry
use Rattle.memory_device.specs.Record as host
use Rattle.memory_device.specs.Record.{host_fault_reply, host_reply, record_fault_reply, record_reply, record_of, outcome_by}
use Rattle.memory_device.specs.Refused.{value_reply, value_given}
use Rattle.memory_device.specs.Request as request-of
use Rattle.memory_device.specs.Host as byte
use Rattle.memory_device.specs.SetUp.{set_up_fault_reply, set_up_reply}
use Rattle.memory_device.specs.SetUp as set-up-of
use Rattle.memory_device.specs.declared.device.HostFault.{HostFault}
use Rattle.memory_device.specs.declared.device.HostFault.TheVariants.{Size, Pin, Record}
use Rattle.memory_device.specs.declared.device.MemoryDevice as value
use Rattle.memory_device.specs.declared.refused.Refused.{Refused}
use Rattle.memory_device.specs.declared.request.Carried.{Carried}
use Rattle.memory_device.specs.declared.setup.SetUpFault.{SetUpFault}
use Rattle.memory_device.specs.declared.setup.SetUpFault.TheVariants.{Map, Values}

-- the answer of a reply: the value x, or the fault that f reads
abbrev answer_by : {A E : Type 0} → (Reply → E) → A → Reply → Result A E
answer_by f x accepted = Ok x
answer_by f x (nodes k i j) = Err (f (nodes k i j))
answer_by f x (place k p) = Err (f (place k p))
answer_by f x (plain k) = Err (f (plain k))

-- a fault has a number above 0, by which it is read back
pub record Read {E : Type 0} (reply : E → Reply) (f : Reply → E) : Type 0 where
  pub refuses : (e : E) → passes (reply e) ≡ false
  pub back : (e : E) → f (reply e) ≡ e

-- a reply that refuses is that of a fault
by_fault : {A E : Type 0} (f : Reply → E) (x : A) (q : Reply) → passes q ≡ false → answer_by f x q ≡ Err (f q)
by_fault f x accepted p = absurd (never p)
by_fault f x (nodes k i j) p = refl
by_fault f x (place k q) p = refl
by_fault f x (plain k) p = refl

fault_back : {A E : Type 0} (reply : E → Reply) (f : Reply → E) → Read reply f → (x : A) (e : E) → answer_by f x (reply e) ≡ Err e
fault_back reply f r x e = by_fault f x (reply e) (r.refuses e) ∙ ap Err (r.back e)

abbrev host_fault_of : Reply → HostFault
host_fault_of accepted = Record
host_fault_of (nodes k i j) = Record
host_fault_of (place k p) = Record
host_fault_of (plain k) = cond (eqb k 14) Size (cond (eqb k 15) Pin Record)

host_read : Read host_fault_reply host_fault_of
host_read = record { refuses = refuses; back = back }
  where
    refuses : (e : HostFault) → passes (host_fault_reply e) ≡ false
    refuses Size = refl
    refuses Pin = refl
    refuses Record = refl

    back : (e : HostFault) → host_fault_of (host_fault_reply e) ≡ e
    back Size = refl
    back Pin = refl
    back Record = refl

pub record_read : Read record_fault_reply (λ _. record {})
record_read = record { refuses = λ e. refl; back = λ e. refl }

-- ---- an answer alone
unit_back : {E : Type 0} (reply : E → Reply) (f : Reply → E) → Read reply f → (a : Result Unit E) → answer_by f tt (reply_by reply a) ≡ a
unit_back reply f r (Ok _) = refl
unit_back reply f r (Err e) = fault_back reply f r tt e

pub host_reply_injective : (a b : Result Unit HostFault) → host_reply a ≡ host_reply b → a ≡ b
host_reply_injective = injective host_reply (answer_by host_fault_of tt) (unit_back host_fault_reply host_fault_of host_read)

pub record_reply_injective : (a b : Result Unit RecordFault) → record_reply a ≡ record_reply b → a ≡ b
record_reply_injective = injective record_reply (answer_by (λ _. record {}) tt) (unit_back record_fault_reply (λ _. record {}) record_read)

-- of a set-up
abbrev map_fault_in : Result Unit MapFault → SetUpFault
map_fault_in (Ok _) = Values
map_fault_in (Err e) = Map e

abbrev set_up_fault_of : Reply → SetUpFault
set_up_fault_of r = map_fault_in (answer_of r)

pub set_up_refuses : (e : SetUpFault) → passes (set_up_fault_reply e) ≡ false
set_up_refuses (Map e) = fault_form (λ r. passes r ≡ false) (λ k i j. refl) e
set_up_refuses Values = refl

set_up_read : Read set_up_fault_reply set_up_fault_of
set_up_read = record { refuses = set_up_refuses; back = back }
  where
    back : (e : SetUpFault) → set_up_fault_of (set_up_fault_reply e) ≡ e
    back (Map e) = ap map_fault_in (reply_back (Err e))
    back Values = refl

pub set_up_reply_injective : (a b : Result Unit SetUpFault) → set_up_reply a ≡ set_up_reply b → a ≡ b
set_up_reply_injective = injective set_up_reply (answer_by set_up_fault_of tt) (unit_back set_up_fault_reply set_up_fault_of set_up_read)

-- ---- a block
byte_block_of : byte.ByteIn → Result (Option BlockNumber) RecordFault
byte_block_of (byte.block b) = Ok (Some (record { 0 = b }))
byte_block_of byte.outside = Ok None
byte_block_of (byte.refused r) = Err (record {})

byte_back : (a : Result (Option BlockNumber) RecordFault) → byte_block_of (byte.byte_of a) ≡ a
unfolding byte_block_of
byte_back (Ok (Some b)) = refl
byte_back (Ok None) = refl
byte_back (Err e) = refl

pub byte_block_injective : (a b : Result (Option BlockNumber) RecordFault) → byte.byte_of a ≡ byte.byte_of b → a ≡ b
byte_block_injective = injective byte.byte_of byte_block_of byte_back

-- ---- the record by value
value_of : MemoryDevice → value.MemoryDevice
value_of d =
    record {
      block_size = d.block_size;
      addr = record { 0 = d.addr };
      region_size = d.region_size;
      usable_size = d.usable_size;
      requested_size = d.requested_size;
      plugged = d.plugged;
      pinned = d.pinned;
    }

value_back : (d : value.MemoryDevice) → value_of (record_of d) ≡ d
unfolding value_of
value_back d = refl

pub record_injective : (a b : value.MemoryDevice) → record_of a ≡ record_of b → a ≡ b
record_injective = injective record_of value_of value_back

-- ---- with a value, in a refusal too
-- the answer of a reply and a value: the value, or the fault that f reads with it
abbrev pub answer_given : {E V : Type 0} → (Reply → E) → V → Reply → Result V (Refused E V)
answer_given f v = answer_by (λ r. record { fault = f r; left = v }) v

pub given_back : {E V : Type 0} (reply : E → Reply) (f : Reply → E) → Read reply f → (a : Result V (Refused E V)) → answer_given f (value_given a) (value_reply reply a) ≡ a
given_back reply f r (Ok v) = refl
given_back reply f r (Err e) = by_fault (λ q. record { fault = f q; left = e.left }) e.left (reply e.fault) (r.refuses e.fault) ∙ ap (λ x. Err (record { fault = x; left = e.left })) (r.back e.fault)

-- the next state
module _ {E : Type 0} (reply : E → Reply) (f : Reply → E) (r : Read reply f) where
  outcome_answer : host.HostOutcome → Result value.MemoryDevice (Refused E value.MemoryDevice)
  outcome_answer o = answer_given f (value_of o.device) o.reply

  outcome_back : (a : Result value.MemoryDevice (Refused E value.MemoryDevice)) → outcome_answer (outcome_by reply a) ≡ a
  unfolding outcome_answer value_of
  outcome_back = given_back reply f r

  outcome_injective : (a b : Result value.MemoryDevice (Refused E value.MemoryDevice)) → outcome_by reply a ≡ outcome_by reply b → a ≡ b
  outcome_injective = injective (outcome_by reply) outcome_answer outcome_back

pub changed_injective : (a b : Result value.MemoryDevice (Refused HostFault value.MemoryDevice)) → host.host_outcome_of a ≡ host.host_outcome_of b → a ≡ b
changed_injective = outcome_injective host_fault_reply host_fault_of host_read

pub reset_injective : (a b : Result value.MemoryDevice (Refused RecordFault value.MemoryDevice)) → host.record_outcome_of a ≡ host.record_outcome_of b → a ≡ b
reset_injective = outcome_injective record_fault_reply (λ _. record {}) record_read

pub set_up_injective : (a b : Result value.MemoryDevice (Refused SetUpFault value.MemoryDevice)) → set-up-of.set_up_outcome_of a ≡ set-up-of.set_up_outcome_of b → a ≡ b
set_up_injective = outcome_injective set_up_fault_reply set_up_fault_of set_up_read

-- the response too
carried_of : carry.RequestOutcome → Result Carried (Refused RecordFault Carried)
carried_of o = answer_given (λ _. record {}) (record { response = o.response; device = value_of o.device }) o.reply

carried_back : (a : Result Carried (Refused RecordFault Carried)) → carried_of (request-of.request_outcome_of a) ≡ a
unfolding carried_of value_of
carried_back = given_back record_fault_reply (λ _. record {}) record_read

pub carried_injective : (a b : Result Carried (Refused RecordFault Carried)) → request-of.request_outcome_of a ≡ request-of.request_outcome_of b → a ≡ b
carried_injective = injective request-of.request_outcome_of carried_of carried_back

-- the configuration's bytes
configuration_of : byte.ConfigurationRead → Result (List ℕ) (Refused RecordFault (List ℕ))
configuration_of r = answer_given (λ _. record {}) r.bytes r.reply

configuration_back : (a : Result (List ℕ) (Refused RecordFault (List ℕ))) → configuration_of (byte.read_of a) ≡ a
unfolding configuration_of
configuration_back = given_back record_fault_reply (λ _. record {}) record_read

pub configuration_injective : (a b : Result (List ℕ) (Refused RecordFault (List ℕ))) → byte.read_of a ≡ byte.read_of b → a ≡ b
configuration_injective = injective byte.read_of configuration_of configuration_back
