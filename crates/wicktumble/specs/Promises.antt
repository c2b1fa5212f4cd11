-- What the functions inside the crate promise each other. Assumes nothing: these are definitions.
use Rattle.std.specs.Prelude.{cond, ◌&&◌, List, [], ◌∷◌, ℕ, Option, Some, None, Result, Ok, Err}
use Rattle.map_records.specs.Limits.{is_view}
use Rattle.map_check.specs.Reply.{Reply, number_of}
use Rattle.device_words.specs.Device.{MemoryDevice}
use Rattle.device_words.specs.Words.{is_device, device_of}
use Rattle.device_words.specs.declared.block.BlockNumber.{BlockNumber}
use Rattle.routing.specs.declared.answer.Route.{Route}
use Rattle.routing.specs.declared.answer.Route.TheVariants.{Memory, Port}
use Rattle.virtqueue.specs.declared.queue.SplitQueue.{SplitQueue}
use Rattle.virtqueue.specs.Run.{run_end_of}
use Rattle.virtqueue.specs.declared.run.Ran.{Ran}
use Rattle.virtqueue.specs.declared.step.Served.{Served}
use Rattle.wicktumble.specs.Result.{Report, report_of}
use Rattle.wicktumble.specs.Routes.{is_none}
use Rattle.wicktumble.specs.Queues.{queue_fits, queue_of, flag, idle_end}

-- what an answer tells: its words, or the refusal's number and the words that the fault has
abbrev pub told_by : {A E : Type 0} → (A → List ℕ) → (E → List ℕ) → (E → Reply) → Result A E → Report
told_by told places fault (Ok a) = report_of 0 (told a)
told_by told places fault (Err e) = report_of (number_of (fault e)) (places e)

-- 1 and the block of a byte, or zeros
abbrev pub block_words : Option BlockNumber → List ℕ
block_words None = []
block_words (Some b) = 1 ∷ b.0 ∷ []

-- 1 where a chain was served, and 1 where the guest is to be notified
abbrev pub served_words : Option Served → List ℕ
served_words None = []
served_words (Some s) = 1 ∷ flag s.notify ∷ []

-- the steps served, 1 where one notified, and 1 where the end was idle
abbrev pub run_words : Ran → List ℕ
run_words r = r.served ∷ flag r.notified ∷ idle_end (run_end_of r.end) ∷ []

-- the queue of words that fit
unfoldable pub queue_read : List ℕ → Option SplitQueue
queue_read w = cond (queue_fits w) (Some (queue_of w)) None

-- the queue of a step or a run, beside a view and a device
abbrev pub queue_lent : List ℕ → List ℕ → List ℕ → Option SplitQueue
queue_lent view device queue = cond (is_view view && is_device device) (queue_read queue) None

-- 1 and the memory place, or 2, the port and the offset
abbrev pub route_words : Route → List ℕ
route_words (Memory p) = 1 ∷ p ∷ []
route_words (Port p o) = 2 ∷ p ∷ o.0 ∷ []

-- the device of an access: none of no words
abbrev pub device_given : List ℕ → Option MemoryDevice
device_given w = cond (is_none w) None (Some (device_of w))
