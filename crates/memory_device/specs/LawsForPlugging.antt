-- Req 09: what the two laws for plugging say of the outcomes of requests. Assumes nothing: these are definitions.
use Rattle.std.specs.Prelude.{true, ◌≡◌, ℕ, ◌+◌, ◌*◌, ◌%◌, ◌^◌}
use Rattle.device_words.specs.Bytes.{response_bytes}
use Rattle.device_words.specs.Device.{MemoryDevice}
use Rattle.device_words.specs.Request.{RequestOutcome}
use Rattle.memory_device.specs.Calls.{acknowledges}

-- 'the m blocks that follow' n blocks begin at address + n times the block size; from 2^64 on, at what a request's eight bytes keep of that sum
abbrev pub behind : MemoryDevice → ℕ → ℕ → ℕ
behind d a n = (a + n * d.block_size) % 2 ^ 64

-- a request is acknowledged: 27 let the record pass, and the response says ACK
abbrev pub Acknowledged : RequestOutcome → Type 0
Acknowledged o = acknowledges o ≡ true

-- the same as a guest sees it: the ten bytes of the response are an ACK's, type, padding and state 0
abbrev pub AckSeen : RequestOutcome → Type 0
AckSeen o = o.response ≡ response_bytes 0 0

-- the first law: 'both acknowledged exactly when one PLUG of n + m is, and then the states are equal'; `acked` says what acknowledged means
pub record AsOne (acked : RequestOutcome → Type 0) (first second one : RequestOutcome) : Type 0 where
  pub whole : acked first → acked second → acked one
  pub parts : acked one → acked first × acked second
  pub device : acked one → second.device ≡ one.device

-- the second law: 'is acknowledged and gives the device state back'
pub record GivesBack (acked : RequestOutcome → Type 0) (d : MemoryDevice) (o : RequestOutcome) : Type 0 where
  pub answer : acked o
  pub device : o.device ≡ d
