-- The calls over devices. Words of another number than a device's stand for a record that 27 refuses. Assumes nothing: these are definitions.
use Rattle.std.specs.Prelude.{◌≡◌, cond, ◌&&◌, List, [], ◌∷◌, ℕ, eqb, length}
use Rattle.map_records.specs.Words.{map_of}
use Rattle.map_check.specs.Reply.{number_of}
use Rattle.map_records.specs.Limits.{is_map}
use Rattle.device_words.specs.Request as request
use Rattle.device_words.specs.Words.{is_device, device_of}
use Rattle.memory_device.specs.Record.{HostOutcome}
use Rattle.memory_device.specs.SetUp.{set_up}
use Rattle.memory_device.specs.Host.{ConfigurationRead, resized, pin_block, unpin_block, system_reset, configured_into, ByteIn, byte_block}
use Rattle.memory_device.specs.Host as host
use Rattle.memory_device.specs.Request.{carried_into}
use Rattle.memory_device.specs.Leaves.{words_left}
use Rattle.map_records.specs.Refusal as refusal
use Rattle.device_words.specs.Bytes.{request_length}
use Rattle.memory_device.specs.declared.setup.DeviceValues.{DeviceValues}
use Rattle.wicktumble.specs.Result.{Report, report_of, reply_report, length_refused, is_result}
use Rattle.wicktumble.specs.Maps.{RecordReport, made_record, unmade_record}

abbrev pub values_of : ℕ → ℕ → ℕ → ℕ → DeviceValues
values_of block addr usable requested =
    record { block_size = block; addr = record { 0 = addr }; usable_size = usable; requested_size = requested }

-- the words of the fresh device, or on a refusal those that were given
abbrev pub sets_up : HostOutcome → List ℕ → RecordReport
sets_up o w = made_record (words_left o.reply o.device w) o.reply

unfoldable pub set_up_call : List ℕ → ℕ → DeviceValues → List ℕ → List ℕ → RecordReport
set_up_call map memory values device result =
    cond (is_map map && (is_device device && is_result result)) (sets_up (set_up (map_of map) memory values) device)
    (unmade_record device result)

-- a number, and the words or the bytes that a call leaves
pub record WordsReport : Type 0 where
  pub number : ℕ
  pub words : List ℕ

-- the number n, and w left in the words, are what c says
abbrev pub ReturnsWords : WordsReport → ℕ → List ℕ → Type 0
ReturnsWords c n w = (n ≡ c.number) × (w ≡ c.words)

-- what a host call gives: a refusal has the words as they were
abbrev pub host_report : HostOutcome → List ℕ → WordsReport
host_report o w = record { number = number_of o.reply; words = words_left o.reply o.device w }

abbrev pub resize_call : List ℕ → ℕ → WordsReport
resize_call w size = host_report (resized (device_of w) size) w

abbrev pub pin_call : List ℕ → ℕ → WordsReport
pin_call w block = host_report (pin_block (device_of w) block) w

abbrev pub unpin_call : List ℕ → ℕ → WordsReport
unpin_call w block = host_report (unpin_block (device_of w) block) w

abbrev pub reset_call : List ℕ → WordsReport
reset_call w = host_report (system_reset (device_of w)) w

-- 56 bytes; with a refusal they stay as they were
abbrev pub configuration_report : ConfigurationRead → WordsReport
configuration_report r = record { number = number_of r.reply; words = r.bytes }

abbrev pub configuration_call : List ℕ → List ℕ → WordsReport
configuration_call w bytes = configuration_report (configured_into (device_of w) bytes)

-- a request's 24 bytes carried out: the device's words, and the ten bytes of the response; with a refusal both stay as they were
pub record RequestReport : Type 0 where
  pub number : ℕ
  pub device : List ℕ
  pub response : List ℕ

abbrev pub ReturnsRequest : RequestReport → ℕ → List ℕ → List ℕ → Type 0
ReturnsRequest c n w x = (n ≡ c.number) × (w ≡ c.device) × (x ≡ c.response)

abbrev pub answered_request : request.RequestOutcome → List ℕ → RequestReport
answered_request o w = record { number = number_of o.reply; device = words_left o.reply o.device w; response = o.response }

unfoldable pub request_call : List ℕ → List ℕ → List ℕ → RequestReport
request_call w bytes response =
    cond (eqb (length bytes) request_length) (answered_request (carried_into (device_of w) bytes response) w)
    (record { number = refusal.RECORD; device = w; response = response })

-- 1 and the block of a byte, or zeros for a byte outside the region
abbrev pub in_block : ByteIn → Report
in_block (host.block b) = report_of 0 (1 ∷ b ∷ [])
in_block host.outside = report_of 0 []
in_block (host.refused r) = reply_report r

unfoldable pub block_call : List ℕ → ℕ → List ℕ → Report
block_call w o result = cond (is_device w && is_result result) (in_block (byte_block (device_of w) o)) (length_refused result)
