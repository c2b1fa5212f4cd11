-- The calls over queues: making and reset, one step, a run of k. Assumes nothing: these are definitions.
use Rattle.std.specs.Prelude.{◌≡◌, Bool, cond, ◌&&◌, List, [], ◌∷◌, ℕ, ◌≤◌, eqb, leb, length, get_or}
use Rattle.map_records.specs.Words.{view_of}
use Rattle.map_check.specs.Reply.{number_of, left_words}
use Rattle.map_records.specs.Limits.{is_view}
use Rattle.device_words.specs.Words.{is_device, device_of, device_words}
use Rattle.device_words.specs.Device.{MemoryDevice}
use Rattle.virtqueue.specs.Queue.{Given, made, was_reset}
use Rattle.virtqueue.specs.Step.{Answer, Effect, step_reply, stepped}
use Rattle.virtqueue.specs.Step as step
use Rattle.virtqueue.specs.Run.{End, RunEffect, end_reply, ran}
use Rattle.virtqueue.specs.Run as run
use Rattle.map_records.specs.Refusal as refusal
use Rattle.virtqueue.specs.declared.queue.SplitQueue.{SplitQueue}
use Rattle.wicktumble.specs.Result.{Report, Returns, report_of, length_refused, is_result}
use Rattle.wicktumble.specs.Devices.{WordsReport}

-- ---- a queue as words

abbrev pub queue_length : ℕ
queue_length = 7

abbrev pub is_queue : List ℕ → Bool
is_queue w = eqb (length w) queue_length

-- so many words, none wider than its field
unfoldable pub queue_fits : List ℕ → Bool
queue_fits w =
    is_queue w && (leb (get_or w 0 0) 65535 && (leb (get_or w 4 0) 65535 && (leb (get_or w 5 0) 65535 && leb (get_or w 6 0) 255)))

-- what that says of each word
pub record QueueWidths (w : List ℕ) : Type 0 where
  pub seven : length w ≡ queue_length
  pub size : get_or w 0 0 ≤ 65535
  pub available : get_or w 4 0 ≤ 65535
  pub used : get_or w 5 0 ≤ 65535
  pub stop : get_or w 6 0 ≤ 255

unfoldable pub queue_of : List ℕ → SplitQueue
queue_of w =
    record {
      size = get_or w 0 0;
      descriptors = record { 0 = get_or w 1 0 };
      available = record { 0 = get_or w 2 0 };
      used = record { 0 = get_or w 3 0 };
      next_available = get_or w 4 0;
      next_used = get_or w 5 0;
      stop = get_or w 6 0;
    }

unfoldable pub queue_words : SplitQueue → List ℕ
queue_words q =
    q.size ∷ q.descriptors.0 ∷ q.available.0 ∷ q.used.0 ∷ q.next_available ∷ q.next_used ∷ q.stop ∷ []

-- ---- making and reset: the words of the queue that is given, or on a refusal those that were there

abbrev pub gives : Given → List ℕ → WordsReport
gives g w = record { number = number_of g.reply; words = left_words g.reply (queue_words g.queue) w }

abbrev pub ungiven : List ℕ → WordsReport
ungiven w = record { number = refusal.RECORD; words = w }

unfoldable pub make_call : ℕ → ℕ → ℕ → ℕ → List ℕ → WordsReport
make_call size descriptors available used w = cond (is_queue w) (gives (made size descriptors available used) w) (ungiven w)

unfoldable pub reset_queue_call : List ℕ → WordsReport
reset_queue_call w = cond (queue_fits w) (gives (was_reset (queue_of w)) w) (ungiven w)

-- ---- what a step or a run leaves in the lent words and in memory, and what it tells

pub record StepReport : Type 0 where
  pub device : List ℕ
  pub queue : List ℕ
  pub memory : List ℕ
  pub told : Report

-- the number n, and d, q, m and x left in the device's, the queue's, memory's and the result's, are what c says
abbrev pub ReturnsStep : StepReport → ℕ → List ℕ → List ℕ → List ℕ → List ℕ → Type 0
ReturnsStep c n d q m x = (d ≡ c.device) × (q ≡ c.queue) × (m ≡ c.memory) × Returns c.told n x

abbrev pub untouched : List ℕ → List ℕ → List ℕ → List ℕ → StepReport
untouched device queue memory result = record { device = device; queue = queue; memory = memory; told = length_refused result }

-- the lengths of the records and the widths of the queue's fields
abbrev pub records_fit : List ℕ → List ℕ → List ℕ → List ℕ → Bool
records_fit view device queue result = is_view view && (is_device device && (queue_fits queue && is_result result))

abbrev pub flag : Bool → ℕ
flag b = cond b 1 0

-- the number, and then 1 where a chain was served, and 1 where the guest is to be notified
abbrev pub served_one : Answer → ℕ
served_one (step.refused n) = 0
served_one step.idle = 0
served_one (step.served notify) = 1

abbrev pub notified_one : Answer → ℕ
notified_one (step.refused n) = 0
notified_one step.idle = 0
notified_one (step.served notify) = flag notify

abbrev pub step_result : Answer → Report
step_result a = report_of (number_of (step_reply a)) (served_one a ∷ notified_one a ∷ [])

abbrev pub step_left : Effect MemoryDevice → StepReport
step_left e = record { device = device_words e.device; queue = queue_words e.queue; memory = e.memory; told = step_result e.answer }

unfoldable pub step_call : List ℕ → List ℕ → List ℕ → List ℕ → List ℕ → StepReport
step_call view device queue memory result =
    cond (records_fit view device queue result) (step_left (stepped (view_of view) (device_of device) (queue_of queue) memory))
    (untouched device queue memory result)

-- the number, steps served, whether one notified, whether the end was idle
abbrev pub idle_end : End → ℕ
idle_end run.all_done = 0
idle_end run.went_idle = 1
idle_end (run.refused_by n) = 0

abbrev pub run_result : ℕ → Bool → End → Report
run_result served notified e = report_of (number_of (end_reply e)) (served ∷ flag notified ∷ idle_end e ∷ [])

abbrev pub run_left : RunEffect → StepReport
run_left e =
    record { device = device_words e.device; queue = queue_words e.queue; memory = e.memory; told = run_result e.served e.notified e.end }

unfoldable pub run_call : List ℕ → List ℕ → List ℕ → List ℕ → ℕ → List ℕ → StepReport
run_call view device queue memory k result =
    cond (records_fit view device queue result) (run_left (ran (view_of view) (device_of device) (queue_of queue) memory k))
    (untouched device queue memory result)
