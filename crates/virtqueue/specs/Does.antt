-- What a step does over records as a caller keeps them: by value, the queue where it lies, or the device's words where they lie. Assumes nothing: these are definitions.
use Rattle.std.specs.Prelude.{◌≡◌, ℕ, cond, List, Option, Some, None, Result, Ok, Err}
use Rattle.map_check.specs.Reply.{Reply, plain}
use Rattle.map_records.specs.Refusal as refusal
use Rattle.device_words.specs.Device.{MemoryDevice}
use Rattle.device_words.specs.Words.{is_device, device_words}
use Rattle.memory_device.specs.Record.{record_of}
use Rattle.virtqueue.specs.Queue.{stop_number}
use Rattle.virtqueue.specs.Step.{Answer, refused, idle, served, Effect}
use Rattle.virtqueue.specs.declared.queue.SplitQueue.{SplitQueue}
use Rattle.virtqueue.specs.declared.step.Served.{Served}
use Rattle.virtqueue.specs.declared.step.StepFault.{StepFault}
use Rattle.virtqueue.specs.declared.step.StepFault.TheVariants as fault
use Rattle.virtqueue.specs.declared.step.Moved.{Moved}
use Rattle.virtqueue.specs.declared.step.Stepped.{Stepped}
use Rattle.virtqueue.specs.declared.thin.Advanced.{Advanced}

-- document 01's number for each fault of a step
abbrev pub step_fault : StepFault → ℕ
step_fault (fault.Stopped s) = stop_number s
step_fault fault.Record = refusal.RECORD

abbrev pub step_fault_reply : StepFault → Reply
step_fault_reply f = plain (step_fault f)

-- and its answer for each outcome of the code
abbrev pub answer_of : Result (Option Served) StepFault → Answer
answer_of (Ok (Some s)) = served s.notify
answer_of (Ok None) = idle
answer_of (Err f) = refused (step_fault f)

-- a step with its records by value returned r and left this memory, as e says
abbrev pub Does : Effect MemoryDevice → Stepped → List ℕ → Type 0
Does e r memory =
    (answer_of r.outcome ≡ e.answer) × (record_of r.device ≡ e.device) × (r.queue ≡ e.queue) × (memory ≡ e.memory)

-- the same with the queue record left where it lies
abbrev pub Advances : Effect MemoryDevice → Advanced → SplitQueue → List ℕ → Type 0
Advances e r queue memory = Does e (record { outcome = r.outcome; device = r.device; queue = queue }) memory

-- a device laid into words; words of another number stand for none, and stay
abbrev pub laid : List ℕ → MemoryDevice → List ℕ
laid w d = cond (is_device w) (device_words d) w

-- the same over a device in the words w, which are left as `device`
abbrev pub DoesIn : List ℕ → Effect MemoryDevice → Moved → List ℕ → List ℕ → Type 0
DoesIn w e r device memory =
    (answer_of r.outcome ≡ e.answer) × (r.queue ≡ e.queue) × (device ≡ laid w e.device) × (memory ≡ e.memory)
