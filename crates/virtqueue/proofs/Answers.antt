-- A promise fixes the code's answer: two answers of the code that stand for one of document 01's are equal. Assumes nothing.
use Rattle.std.proofs.Common.{◌≡◌, ℕ, cond, eqb, refl, ap, arith}
use Rattle.std.specs.Prelude.{Option, Some, None, Result, Ok, Err}
use Rattle.map_check.specs.Reply.{Reply, number_of, passes, reply_by}
use Rattle.map_check.specs.declared.answer.RecordFault.{RecordFault}
use Rattle.map_check.proofs.Answers.{injective}
use Rattle.memory_device.specs.Record.{record_fault_reply, record_reply}
use Rattle.memory_device.specs.declared.refused.Refused.{Refused}
use Rattle.memory_device.proofs.Answers.{Read, record_read, answer_given, given_back}
use Rattle.virtqueue.specs.Queue.{queue_fault_reply, queue_reply, stop_number, stop_reply, given_by}
use Rattle.virtqueue.specs.Step as step
use Rattle.virtqueue.specs.Does.{step_fault, step_fault_reply, answer_of}
use Rattle.virtqueue.specs.Run as run
use Rattle.virtqueue.specs.declared.queue.QueueFault.{QueueFault}
use Rattle.virtqueue.specs.declared.queue.QueueStop.{QueueStop}
use Rattle.virtqueue.specs.declared.queue.QueueStop.TheVariants as stops
use Rattle.virtqueue.specs.declared.queue.SplitQueue.{SplitQueue}
use Rattle.virtqueue.specs.declared.run.RunEnd.{RunEnd}
use Rattle.virtqueue.specs.declared.run.RunEnd.TheVariants as end
use Rattle.virtqueue.specs.declared.step.Served.{Served}
use Rattle.virtqueue.specs.declared.step.StepFault.{StepFault}
use Rattle.virtqueue.specs.declared.step.StepFault.TheVariants as fault

-- what a number stops a queue with
stop_by : ℕ → QueueStop
stop_by n =
    cond (eqb n 17) stops.Ring (cond (eqb n 18) stops.Ahead (cond (eqb n 19) stops.Head (cond (eqb n 20) stops.Chain (cond (eqb n 21) stops.Reach stops.Shape))))

fault_by : ℕ → StepFault
fault_by n = cond (eqb n 27) fault.Record (fault.Stopped (stop_by n))

fault_back : (f : StepFault) → fault_by (step_fault f) ≡ f
unfolding fault_by stop_by
fault_back (fault.Stopped stops.Ring) = refl
fault_back (fault.Stopped stops.Ahead) = refl
fault_back (fault.Stopped stops.Head) = refl
fault_back (fault.Stopped stops.Chain) = refl
fault_back (fault.Stopped stops.Reach) = refl
fault_back (fault.Stopped stops.Shape) = refl
fault_back fault.Record = refl

pub step_fault_injective : (a b : StepFault) → step_fault a ≡ step_fault b → a ≡ b
step_fault_injective = injective step_fault fault_by fault_back

outcome_of : step.Answer → Result (Option Served) StepFault
outcome_of (step.refused n) = Err (fault_by n)
outcome_of step.idle = Ok None
outcome_of (step.served notify) = Ok (Some (record { notify = notify }))

outcome_back : (a : Result (Option Served) StepFault) → outcome_of (answer_of a) ≡ a
unfolding outcome_of
outcome_back (Err f) = ap (λ (x : StepFault). Err x) (fault_back f)
outcome_back (Ok None) = refl
outcome_back (Ok (Some s)) = refl

pub step_answer_injective : (a b : Result (Option Served) StepFault) → answer_of a ≡ answer_of b → a ≡ b
step_answer_injective = injective answer_of outcome_of outcome_back

end_by : run.End → Result RunEnd StepFault
end_by run.all_done = Ok end.AllDone
end_by run.went_idle = Ok end.Idle
end_by (run.refused_by n) = Err (fault_by n)

end_back : (e : Result RunEnd StepFault) → end_by (run.run_end_of e) ≡ e
unfolding end_by
end_back (Ok end.AllDone) = refl
end_back (Ok end.Idle) = refl
end_back (Err f) = ap (λ (x : StepFault). Err x) (fault_back f)

pub run_end_injective : (a b : Result RunEnd StepFault) → run.run_end_of a ≡ run.run_end_of b → a ≡ b
run_end_injective = injective run.run_end_of end_by end_back

-- the numbers of a step's and a run's answer are those of their faults
pub step_replies : (a : Result (Option Served) StepFault) → step.step_reply (answer_of a) ≡ reply_by step_fault_reply a
step_replies (Err f) = refl
step_replies (Ok None) = refl
step_replies (Ok (Some s)) = refl

pub run_replies : (e : Result RunEnd StepFault) → run.end_reply (run.run_end_of e) ≡ reply_by step_fault_reply e
run_replies (Ok end.AllDone) = refl
run_replies (Ok end.Idle) = refl
run_replies (Err f) = refl

-- of making a queue, and of a reset (`record_reply_injective` of `memory_device`): the answer alone is determined by its reply
queue_answer_of : Reply → Result Unit QueueFault
queue_answer_of r = cond (passes r) (Ok tt) (Err (record {}))

queue_back : (a : Result Unit QueueFault) → queue_answer_of (queue_reply a) ≡ a
unfolding queue_answer_of
queue_back (Ok _) = refl
queue_back (Err f) = refl

pub queue_reply_injective : (a b : Result Unit QueueFault) → queue_reply a ≡ queue_reply b → a ≡ b
queue_reply_injective = injective queue_reply queue_answer_of queue_back

-- and one of the two calls is answered as the other only where neither is refused
pub queue_replies_apart : (a : Result Unit QueueFault) (b : Result Unit RecordFault) → queue_reply a ≡ record_reply b → (a ≡ Ok tt) × (b ≡ Ok tt)
queue_replies_apart (Ok _) (Ok _) e = (refl, refl)
queue_replies_apart (Ok _) (Err f) e = absurd (omega (arith, ap number_of e))
queue_replies_apart (Err f) (Ok _) e = absurd (omega (arith, ap number_of e))
queue_replies_apart (Err f) (Err g) e = absurd (omega (arith, ap number_of e))

-- the record too: with the one of a refusal, the answer determines what was returned
pub queue_given_injective : {E : Type 0} (fault : E → Reply) (f : Reply → E) → Read fault f → (a b : Result SplitQueue (Refused E SplitQueue)) → given_by fault a ≡ given_by fault b → a ≡ b
queue_given_injective fault f r = injective (given_by fault) (λ g. answer_given f g.queue g.reply) (given_back fault f r)

pub made_injective : (a b : Result SplitQueue (Refused QueueFault SplitQueue)) → given_by queue_fault_reply a ≡ given_by queue_fault_reply b → a ≡ b
made_injective = queue_given_injective queue_fault_reply (λ _. record {}) (record { refuses = λ e. refl; back = λ e. refl })

pub reset_injective : (a b : Result SplitQueue (Refused RecordFault SplitQueue)) → given_by record_fault_reply a ≡ given_by record_fault_reply b → a ≡ b
reset_injective = queue_given_injective record_fault_reply (λ _. record {}) record_read

-- and what stops a queue is determined by its reply
pub stop_reply_injective : (a b : QueueStop) → stop_reply a ≡ stop_reply b → a ≡ b
stop_reply_injective a b e =
    let n : stop_number a ≡ stop_number b = ap number_of e in
    let f : fault.Stopped a ≡ fault.Stopped b = step_fault_injective (fault.Stopped a) (fault.Stopped b) n in
    cc
