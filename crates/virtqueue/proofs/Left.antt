-- What a refused call by value leaves: no queue, or the one that was passed. Each definition says it of every refusal, so that a caller who keeps the fault alone loses nothing. Assumes nothing.
use mathlib.Core.Path.{◌≡◌, sym, ap}
use mathlib.Core.Bool.{Bool, true, false, cond}
use Prim.Native.Nat.{ℕ}
use Rattle.std.specs.Prelude.{Err}
use Rattle.map_check.specs.Reply.{accepted, plain, passes}
use Rattle.map_check.specs.declared.answer.RecordFault.{RecordFault}
use Rattle.map_check.proofs.Bools.{never}
use Rattle.memory_device.specs.Record.{record_fault_reply}
use Rattle.memory_device.specs.declared.refused.Refused.{Refused}
use Rattle.virtqueue.specs.Queue.{Given, areas_ok, queue_ok, no_queue, cleared, made, was_reset, queue_fault_reply, given_by}
use Rattle.virtqueue.specs.declared.queue.QueueFault.{QueueFault}
use Rattle.virtqueue.specs.declared.queue.SplitQueue.{SplitQueue}

kept : {E : Type 0} (k : ℕ) (made left : SplitQueue) (ok : Bool) (e : Refused E SplitQueue) → given_by (λ (f : E). plain k) (Err e) ≡ cond {A = Given} ok (record { reply = accepted; queue = made }) (record { reply = plain k; queue = left })
    → e.left ≡ left
kept k made left true e p = absurd (never (sym (ap (λ (g : Given). passes g.reply) p)))
kept k made left false e p = ap (λ (g : Given). g.queue) p

pub made_left : (size descriptors available used : ℕ) (e : Refused QueueFault SplitQueue) → given_by queue_fault_reply (Err e) ≡ made size descriptors available used → e.left ≡ no_queue
unfolding made
made_left size descriptors available used = kept 16 _ no_queue (areas_ok size descriptors available used)

pub reset_left : (q : SplitQueue) (e : Refused RecordFault SplitQueue) → given_by record_fault_reply (Err e) ≡ was_reset q → e.left ≡ q
unfolding was_reset
reset_left q = kept 27 (cleared q) q (queue_ok q)
