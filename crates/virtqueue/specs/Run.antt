-- A run of k steps. Assumes nothing: these are definitions.
use Rattle.std.specs.Prelude.{◌≡◌, ℕ, zero, suc, ◌+◌, min, Bool, false, cond, ◌||◌, List, length, Result, Ok, Err}
use Rattle.map_records.specs.Refusal as refusal
use Rattle.map_records.specs.declared.view.FlatView.{FlatView}
use Rattle.map_check.specs.Reply.{Reply, accepted, plain}
use Rattle.device_words.specs.Device.{MemoryDevice}
use Rattle.guest_view.specs.Guest.{by_view}
use Rattle.virtqueue.specs.Step.{Answer, refused, served, Effect, stepped_by, records_ok, stepped}
use Rattle.virtqueue.specs.Step as step
use Rattle.virtqueue.specs.Does.{step_fault, laid}
use Rattle.virtqueue.specs.declared.queue.SplitQueue.{SplitQueue}
use Rattle.virtqueue.specs.declared.step.StepFault.{StepFault}
use Rattle.virtqueue.specs.declared.run.RunEnd.{RunEnd}
use Rattle.virtqueue.specs.declared.run.RunEnd.TheVariants as end
use Rattle.virtqueue.specs.declared.run.Ran.{Ran}

-- 'its end: all done, idle, or the stop's number'
pub data End : Type 0 where
  all_done : End
  went_idle : End
  refused_by : ℕ → End

-- document 01's number
abbrev pub end_reply : End → Reply
end_reply all_done = accepted
end_reply went_idle = accepted
end_reply (refused_by n) = plain n

-- 'it returns the count of served ones, whether one of its steps notified, and its end'; with the next states and memory
pub record RunEffect : Type 0 where
  pub served : ℕ
  pub notified : Bool
  pub end : End
  pub device : MemoryDevice
  pub queue : SplitQueue
  pub memory : List ℕ

abbrev pub run_ends : ℕ → Bool → End → MemoryDevice → SplitQueue → List ℕ → RunEffect
run_ends count notified e d q memory = record { served = count; notified = notified; end = e; device = d; queue = q; memory = memory }

-- after one step: a run ends with the first idle or stop, else `rest` goes on
abbrev pub goes_on : ℕ → Bool → (ℕ → Bool → MemoryDevice → SplitQueue → List ℕ → RunEffect) → Effect MemoryDevice → Answer → RunEffect
goes_on count notified rest e (refused n) = run_ends count notified (refused_by n) e.device e.queue e.memory
goes_on count notified rest e step.idle = run_ends count notified went_idle e.device e.queue e.memory
goes_on count notified rest e (served b) = rest (count + 1) (notified || b) e.device e.queue e.memory

-- k more steps up to the first idle or stop, after `count` that were served; `one` gives a single step
unfoldable pub steps_by : (MemoryDevice → SplitQueue → List ℕ → Effect MemoryDevice) → ℕ → ℕ → Bool → MemoryDevice → SplitQueue → List ℕ → RunEffect
steps_by one zero count notified d q memory = run_ends count notified all_done d q memory
steps_by one (suc k) count notified d q memory = goes_on count notified (steps_by one k) (one d q memory) (one d q memory).answer

-- 'equals k single steps up to the first idle or stop': steps of the public kind, each of which judges its records
abbrev pub single_steps : FlatView → ℕ → MemoryDevice → SplitQueue → List ℕ → RunEffect
single_steps v k d q memory = steps_by (stepped v) k 0 false d q memory

-- 'a k over 256 counts as 256'
abbrev pub most_steps : ℕ
most_steps = 256

-- 'a k over 256 counts as 256; 0 changes nothing'; '27 comes first wherever such a record is given', for a k of 0 too
unfoldable pub ran : FlatView → MemoryDevice → SplitQueue → List ℕ → ℕ → RunEffect
ran v d q memory k = cond (records_ok v d q (length memory)) (single_steps v (min k most_steps) d q memory) (run_ends 0 false (refused_by refusal.RECORD) d q memory)

-- one step on records that were judged before: what a run that judges once is made of
abbrev pub judged_step : FlatView → MemoryDevice → SplitQueue → List ℕ → Effect MemoryDevice
judged_step v d q memory = stepped_by (by_view v d) d q memory

-- document 01's end for each end of the code
abbrev pub run_end_of : Result RunEnd StepFault → End
run_end_of (Ok end.AllDone) = all_done
run_end_of (Ok end.Idle) = went_idle
run_end_of (Err f) = refused_by (step_fault f)

-- a run over a device in the words w returned r, and left the words `device` and memory, as e says
abbrev pub RunDoes : List ℕ → RunEffect → Ran → List ℕ → List ℕ → Type 0
RunDoes w e r device memory =
    (r.served ≡ e.served) × (r.notified ≡ e.notified) × (run_end_of r.end ≡ e.end) × (r.queue ≡ e.queue) × (device ≡ laid w e.device) × (memory ≡ e.memory)
