-- Document 01's worked values P1 to P12: the table, and what the public definitions, which judge their records (27), answer to its rows. Assumes nothing: these are definitions.
use Rattle.std.specs.Prelude.{ℕ, cond, List, [], ◌∷◌, ◌++◌, replicate}
use Rattle.map_records.specs.Map.{ram}
use Rattle.map_records.specs.Refusal as refusal
use Rattle.map_records.specs.declared.view.FlatView.{FlatView}
use Rattle.map_check.specs.Reply.{passes, number_of}
use Rattle.device_words.specs.Bytes.{le}
use Rattle.device_words.specs.Device.{MemoryDevice}
use Rattle.device_words.specs.Request.{RequestOutcome, bytes_of, for_run}
use Rattle.memory_device.specs.Request.{carried}
use Rattle.memory_device.specs.SetUp.{valued}
use Rattle.memory_device.specs.Calls as device
use Rattle.virtqueue.specs.Run.{End, refused_by, went_idle, RunEffect, most_steps, ran}
use Rattle.virtqueue.specs.declared.queue.SplitQueue.{SplitQueue}

-- the 24 bytes of a request, after some calls on the device that was set up; or a queue of so many entries, by the count seen and the available idx
pub data Question : Type 0 where
  request : List device.Call → List ℕ → Question
  ring : ℕ → ℕ → ℕ → Question

-- the ten bytes of a response; a refusal number; so many steps served, and the end of the run
pub data Expected : Type 0 where
  response : List ℕ → Expected
  refused : ℕ → Expected
  served : ℕ → End → Expected

pub record Row : Type 0 where
  pub question : Question
  pub answer : Expected

abbrev pub row : Question → Expected → Row
row q x = record { question = q; answer = x }

-- the 24 bytes of a request. 'Types PLUG 0, UNPLUG 1, UNPLUG ALL 2, STATE 3'
abbrev pub sent : ℕ → ℕ → ℕ → List ℕ
sent kind addr blocks = bytes_of (for_run kind addr blocks)

abbrev pub plug : ℕ → ℕ → List ℕ
plug = sent 0

abbrev pub unplug : ℕ → ℕ → List ℕ
unplug = sent 1

abbrev pub state : ℕ → ℕ → List ℕ
state = sent 3

-- 'responses 10': type, padding, state. 'ACK 0, NACK 1, BUSY 2, ERROR 3'
abbrev pub ten : ℕ → ℕ → Expected
ten kind state = response (kind ∷ 0 ∷ 0 ∷ 0 ∷ 0 ∷ 0 ∷ 0 ∷ 0 ∷ state ∷ 0 ∷ [])

abbrev pub ack : Expected
ack = ten 0 0

abbrev pub nack : Expected
nack = ten 1 0

abbrev pub busy : Expected
busy = ten 2 0

abbrev pub error : Expected
error = ten 3 0

-- 'after P1'; 'With blocks 0 and 1 plugged'; 'With 1 pinned too'
abbrev pub after_p1 : List device.Call
after_p1 = device.request (plug 0x10000 4) ∷ []

abbrev pub two_plugged : List device.Call
two_plugged = device.request (plug 0x10000 2) ∷ []

abbrev pub one_pinned : List device.Call
one_pinned = device.request (plug 0x10000 2) ∷ device.pin 1 ∷ []

-- P1 to P11 a row each, and P12's three
unfoldable pub rows : List Row
rows =
    row (request [] (plug 0x10000 4)) ack
    ∷ row (request [] (plug 0x10000 5)) nack
    ∷ row (request [] (plug 0x15000 1)) ack
    ∷ row (request [] (plug 0x15000 2)) error
    ∷ row (request [] (plug 0x10800 1)) error
    ∷ row (request [] (plug 0x10000 0)) error
    ∷ row (request after_p1 (plug 0x10000 1)) error
    ∷ row (request two_plugged (state 0x10000 2)) (ten 0 0)
    ∷ row (request two_plugged (state 0x10000 3)) (ten 0 2)
    ∷ row (request one_pinned (unplug 0x10000 2)) busy
    ∷ row (request one_pinned (unplug 0x10000 3)) error
    ∷ row (ring 4 0 5) (served 0 (refused_by refusal.AHEAD))
    ∷ row (ring 4 0 4) (served 4 went_idle)
    ∷ row (ring 4 65535 1) (served 2 went_idle)
    ∷ []

-- 'Block 4,096, addr 0x10000, region 8 blocks, usable 6, requested 4', set up over a region of that size
unfoldable pub device₀ : MemoryDevice
device₀ = (valued (record { block_size = 4096; addr = record { 0 = 0x10000 }; usable_size = 0x6000; requested_size = 0x4000 }) 0x8000).device

-- a guest of 160 bytes of RAM: descriptors at 0, available ring at 64, used ring at 80
unfoldable pub view : FlatView
view = record { count = 1; ranges = record { first = record { 0 = 0 }; last = record { 0 = 159 }; region = 0; offset = record { 0 = 0 }; kind = ram; base = 0 } ∷ [] }

unfoldable pub queue : ℕ → ℕ → SplitQueue
queue n seen =
    record { size = n; descriptors = record { 0 = 0 }; available = record { 0 = 64 }; used = record { 0 = 80 }; next_available = seen; next_used = seen; stop = 0 }

-- descriptor 0 has the 24 readable bytes at 120 and goes on to 1, which has the ten writable bytes at 144; each ring entry is 0, their head
unfoldable pub memory : ℕ → List ℕ
memory idx =
    le 8 120 ++ le 4 24 ++ le 2 1 ++ le 2 1 ++ le 8 144 ++ le 4 10 ++ le 2 2 ++ le 2 0 ++ replicate 32 0 ++ le 2 0 ++ le 2 idx ++ replicate 92 0

abbrev pub carried_as : RequestOutcome → Expected
carried_as o = cond (passes o.reply) (response o.response) (refused (number_of o.reply))

abbrev pub ran_as : RunEffect → Expected
ran_as r = served r.served r.end

-- what the definitions answer; a queue is run to its end
unfoldable pub answer_to : Question → Expected
answer_to (request before bytes) = carried_as (carried (device.after device₀ before) bytes)
answer_to (ring n seen idx) = ran_as (ran view device₀ (queue n seen) (memory idx) most_steps)
