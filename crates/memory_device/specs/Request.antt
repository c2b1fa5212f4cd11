-- A request carried out on a given record: '27 comes first'. Assumes nothing: these are definitions.
use Rattle.std.specs.Prelude.{cond, ◌&&◌, List, ℕ, eqb, length, replicate, Result}
use Rattle.map_check.specs.Reply.{plain}
use Rattle.map_check.specs.declared.answer.RecordFault.{RecordFault}
use Rattle.device_words.specs.Device.{MemoryDevice, device_ok}
use Rattle.device_words.specs.Request.{RequestOutcome, request_of, carried_out}
use Rattle.memory_device.specs.Record.{record_of, record_fault_reply}
use Rattle.memory_device.specs.Refused.{value_reply, value_given}
use Rattle.memory_device.specs.declared.refused.Refused.{Refused}
use Rattle.map_records.specs.Refusal as refusal
use Rattle.device_words.specs.Bytes.{response_length}
use Rattle.memory_device.specs.declared.request.Carried.{Carried}

-- the response goes into ten bytes that are lent: with a refusal they stay as they were, and any other number of them is refused
unfoldable pub carried_into : MemoryDevice → List ℕ → List ℕ → RequestOutcome
carried_into d s bytes =
    cond (eqb (length bytes) response_length && device_ok d) (carried_out d (request_of s)) (record { reply = plain refusal.RECORD; response = bytes; device = d })

-- by value: zeros for the response on a refusal, and the state as it was
abbrev pub carried : MemoryDevice → List ℕ → RequestOutcome
carried d s = carried_into d s (replicate response_length 0)

-- what the answer to a request stands for
abbrev pub request_outcome_of : Result Carried (Refused RecordFault Carried) → RequestOutcome
request_outcome_of a = record { reply = value_reply record_fault_reply a; response = (value_given a).response; device = record_of (value_given a).device }
