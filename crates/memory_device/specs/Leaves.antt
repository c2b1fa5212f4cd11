-- What a call leaves of a device's words. Assumes nothing: these are definitions.
use Rattle.std.specs.Prelude.{List, ◌≡◌, ℕ, Result, Ok, Err}
use Rattle.map_check.specs.Reply.{Reply, left_words}
use Rattle.device_words.specs.Device.{MemoryDevice}
use Rattle.device_words.specs.Words.{device_of, device_words}
use Rattle.device_words.specs.Request as request
use Rattle.memory_device.specs.Record.{HostOutcome, record_of}
use Rattle.memory_device.specs.declared.device.MemoryDevice as value
use Rattle.memory_device.specs.declared.refused.Refused.{Refused}
use Rattle.memory_device.specs.Host.{ConfigurationRead}

-- the words of the next state, or on a refusal those that were given
abbrev pub words_left : Reply → MemoryDevice → List ℕ → List ℕ
words_left reply d w = left_words reply (device_words d) w

-- a call on the words w replies r and leaves w', as its outcome says
pub record LeavesDevice (o : HostOutcome) (w : List ℕ) (r : Reply) (w' : List ℕ) : Type 0 where
  pub reply : r ≡ o.reply
  pub words : w' ≡ words_left o.reply o.device w

-- a request on the words w is replied to with r, and leaves x in the response and w' in the words
abbrev pub Carries : request.RequestOutcome → List ℕ → Reply → List ℕ → List ℕ → Type 0
Carries o w r x w' = (r ≡ o.reply) × (x ≡ o.response) × (w' ≡ words_left o.reply o.device w)

-- a reading of the configuration is replied to with r, and leaves x in the bytes
abbrev pub ReadsConfiguration : ConfigurationRead → Reply → List ℕ → Type 0
ReadsConfiguration o r x = (r ≡ o.reply) × (x ≡ o.bytes)

-- what a call on the words of the record d answers and leaves in them, by value: the record that they then are, or its fault and d
abbrev pub ByValue : {E : Type 0} → MemoryDevice → Result Unit E → List ℕ → Result value.MemoryDevice (Refused E value.MemoryDevice) → Type 0
ByValue d (Ok _) w (Ok next) = record_of next ≡ device_of w
ByValue d (Ok _) w (Err r) = ⊥
ByValue d (Err f) w (Ok next) = ⊥
ByValue d (Err f) w (Err r) = (r.fault ≡ f) × (record_of r.left ≡ d)

-- the record d by value, changed by a call on its words, of which `left` says what it may answer and leave
pub record Changes {E : Type 0} (d : MemoryDevice) (left : Result Unit E → List ℕ → Type 0) (r : Result value.MemoryDevice (Refused E value.MemoryDevice)) : Type 0 where
  pub answer : Result Unit E
  pub words : List ℕ
  pub call : left answer words
  pub value : ByValue d answer words r
