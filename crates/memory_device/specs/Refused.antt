-- What a call by value answers: a value, or a fault and the value that is left. Assumes nothing: these are definitions.
use Rattle.std.specs.Prelude.{Result, Ok, Err}
use Rattle.map_check.specs.Reply.{Reply, reply_by}
use Rattle.memory_device.specs.declared.refused.Refused.{Refused}

-- document 01's number for a refusal is its fault's
abbrev pub refused_reply : {E V : Type 0} → (E → Reply) → Refused E V → Reply
refused_reply reply r = reply r.fault

-- and for an answer
abbrev pub value_reply : {E V : Type 0} → (E → Reply) → Result V (Refused E V) → Reply
value_reply reply = reply_by (refused_reply reply)

-- the value that an answer gives, with a refusal too
abbrev pub value_given : {E V : Type 0} → Result V (Refused E V) → V
value_given (Ok v) = v
value_given (Err r) = r.left
