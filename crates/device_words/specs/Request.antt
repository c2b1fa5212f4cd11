-- The guest's requests: the range rule, the order of the checks, and the change of the table, each by itself. Assumes nothing: these are definitions.
use Rattle.std.specs.Prelude.{◌≡◌, ◌<◌, Result, MatchResult, Bool, true, false, cond, ◌&&◌, List, ◌++◌, ℕ, ◌+◌, ◌-◌, ◌*◌, ◌/◌, ◌%◌, eqb, leb, ltb, replicate}
use Rattle.map_check.specs.Reply.{Reply, accepted}
use Rattle.device_words.specs.Bytes.{le, le_number, response_bytes}
use Rattle.device_words.specs.Table.{turned, held_in, most_blocks}
use Rattle.device_words.specs.Device.{MemoryDevice, any_pinned, no_plugs, sizes_of, with_plugged, size_in}
use Rattle.device_words.specs.declared.words.Sizes.{Sizes}
use Rattle.device_words.specs.declared.request.RequestKind.{RequestKind}
use Rattle.device_words.specs.declared.request.RequestKind.TheVariants as kind
use Rattle.device_words.specs.declared.request.UnknownRequest.{UnknownRequest}
use Rattle.device_words.specs.declared.request.Request.{Request}
use Rattle.device_words.specs.declared.request.Response.{Response}
use Rattle.device_words.specs.declared.request.Response.TheVariants as response

-- 'Types PLUG 0, UNPLUG 1, UNPLUG ALL 2, STATE 3'
abbrev pub plug_type : ℕ
plug_type = 0

abbrev pub unplug_type : ℕ
unplug_type = 1

abbrev pub unplug_all_type : ℕ
unplug_all_type = 2

abbrev pub state_type : ℕ
state_type = 3

-- the number of each type, and which numbers decode to which
abbrev pub type_number : RequestKind → ℕ
type_number kind.Plug = plug_type
type_number kind.Unplug = unplug_type
type_number kind.UnplugAll = unplug_all_type
type_number kind.State = state_type

abbrev pub Decodes : ℕ → Result RequestKind UnknownRequest → Type 0
Decodes n r = MatchResult r (λ k. n ≡ type_number k) (λ e. state_type < n)

-- 'Requests: 24 bytes .. little-endian; padding is ignored in': source 000's layout
abbrev pub request_of : List ℕ → Request
request_of s = record { kind = le_number s 0 2; addr = record { 0 = le_number s 8 8 }; blocks = le_number s 16 2 }

-- the same layout written: type, padding 0, address, number of blocks, padding 0; of each number as many of its low bytes as its field has
unfoldable pub bytes_of : Request → List ℕ
bytes_of r = le 2 r.kind ++ replicate 6 0 ++ le 8 r.addr.0 ++ le 2 r.blocks ++ replicate 6 0

-- a request of a type for the run of n blocks from an address on; a PLUG, and an UNPLUG, of that run
abbrev pub for_run : ℕ → ℕ → ℕ → Request
for_run kind a n = record { kind = kind; addr = record { 0 = a }; blocks = n }

abbrev pub plug_run : ℕ → ℕ → Request
plug_run = for_run plug_type

abbrev pub unplug_run : ℕ → ℕ → Request
unplug_run = for_run unplug_type

-- 'ACK 0, NACK 1, BUSY 2, ERROR 3', and the state: 'zero except in an acknowledged STATE', 0 all plugged, 1 all unplugged, 2 mixed
abbrev pub type_of : Response → ℕ
type_of response.Ack = 0
type_of response.Nack = 1
type_of response.Busy = 2
type_of response.Error = 3
type_of response.Plugged = 0
type_of response.Unplugged = 0
type_of response.Mixed = 0

abbrev pub state_of : Response → ℕ
state_of response.Ack = 0
state_of response.Nack = 0
state_of response.Busy = 0
state_of response.Error = 0
state_of response.Plugged = 0
state_of response.Unplugged = 1
state_of response.Mixed = 2

-- ---- A request is answered by the sizes s, by the plug table t and by what was asked of the pins: `held` says whether one of its blocks is pinned. A device's own sizes, table and pins come last.

-- 'block of a request's address = (address - addr) divided by the block size'
abbrev pub block_of : Sizes → ℕ → ℕ
block_of s a = (a - s.addr.0) / s.block_size

-- 'Range (all but UNPLUG ALL): addr aligned, at least 1 block, all blocks in the usable part; else ERROR'
abbrev pub in_range : Sizes → Request → Bool
in_range s r =
    eqb (r.addr.0 % s.block_size) 0 && leb 1 r.blocks && leb s.addr.0 r.addr.0
    && leb (r.addr.0 - s.addr.0 + r.blocks * s.block_size) s.usable_size

-- of the n blocks from b on: 'a block already plugged'; 'plugged size + new over requested'
abbrev pub already_plugged : List ℕ → ℕ → ℕ → Bool
already_plugged t b n = ltb 0 (held_in t b n)

abbrev pub over_requested : Sizes → List ℕ → ℕ → Bool
over_requested s t n = ltb s.requested_size (size_in s.block_size t + n * s.block_size)

-- 'PLUG: a block already plugged ERROR; plugged size + new over requested NACK; else ACK', or what is asked further
abbrev pub plug_answer : Response → Sizes → List ℕ → ℕ → ℕ → Response
plug_answer further s t b n = cond (already_plugged t b n) response.Error (cond (over_requested s t n) response.Nack further)

-- 'UNPLUG: a block unplugged ERROR; one pinned BUSY; else ACK'
abbrev pub unplug_answer : Bool → List ℕ → ℕ → ℕ → Response
unplug_answer held t b n = cond (ltb (held_in t b n) n) response.Error (cond held response.Busy response.Ack)

-- 'UNPLUG ALL: any pin BUSY; else ACK'
abbrev pub unplug_all_answer : Bool → Response
unplug_all_answer held = cond held response.Busy response.Ack

-- 'STATE: ACK with 0 all plugged, 1 all unplugged, 2 mixed'
abbrev pub state_answer : List ℕ → ℕ → ℕ → Response
state_answer t b n = cond (eqb (held_in t b n) n) response.Plugged (cond (eqb (held_in t b n) 0) response.Unplugged response.Mixed)

-- the answer to a request of a type for the n blocks from b on, which it may ask for
abbrev pub asked_answer : Sizes → Bool → List ℕ → RequestKind → ℕ → ℕ → Response
asked_answer s held t kind.Plug b n = plug_answer response.Ack s t b n
asked_answer s held t kind.Unplug b n = unplug_answer held t b n
asked_answer s held t kind.UnplugAll b n = unplug_all_answer held
asked_answer s held t kind.State b n = state_answer t b n

-- an answer for the blocks of a request in range
abbrev pub ranged : Sizes → Request → (ℕ → ℕ → Response) → Response
ranged s r f = cond (in_range s r) (f (block_of s r.addr.0) r.blocks) response.Error

-- the answer to a request; 'any other ERROR'. `further` is what a PLUG is asked after its own checks.
unfoldable pub answered_by : (Request → Response) → Sizes → Bool → List ℕ → Request → Response
answered_by further s held t r =
    cond (eqb r.kind plug_type) (ranged s r (plug_answer (further r) s t))
    (cond (eqb r.kind unplug_type) (ranged s r (unplug_answer held t))
    (cond (eqb r.kind unplug_all_type) (unplug_all_answer held) (cond (eqb r.kind state_type) (ranged s r (state_answer t)) response.Error)))

-- the plug table with a request's blocks set or not
abbrev pub with_run : Sizes → List ℕ → Request → Bool → List ℕ
with_run s t r on = turned t (block_of s r.addr.0) r.blocks on

-- the plug table after an acknowledged request
abbrev pub table_after_ack : Sizes → List ℕ → Request → List ℕ
table_after_ack s t r =
    cond (eqb r.kind plug_type) (with_run s t r true) (cond (eqb r.kind unplug_type) (with_run s t r false) (cond (eqb r.kind unplug_all_type) no_plugs t))

-- an acknowledgement of PLUG, UNPLUG or UNPLUG ALL
abbrev pub is_ack : Response → Bool
is_ack response.Ack = true
is_ack response.Nack = false
is_ack response.Busy = false
is_ack response.Error = false
is_ack response.Plugged = false
is_ack response.Unplugged = false
is_ack response.Mixed = false

-- only an acknowledgement changes the table
unfoldable pub table_by : Sizes → List ℕ → Request → Response → List ℕ
table_by s t r x = cond (is_ack x) (table_after_ack s t r) t

-- the table after the answer x to a request of a type for the n blocks from b on: an acknowledged one is a PLUG, or clears them
abbrev pub asked_table : List ℕ → RequestKind → ℕ → ℕ → Response → List ℕ
asked_table t k b n x = cond (is_ack x) (turned t b n (eqb (type_number k) plug_type)) t

-- ---- of a device

-- the blocks that a request asks for: all, of an UNPLUG ALL, or its run
abbrev pub asked_from : Sizes → Request → ℕ
asked_from s r = cond (eqb r.kind unplug_all_type) 0 (block_of s r.addr.0)

abbrev pub asked_count : Request → ℕ
asked_count r = cond (eqb r.kind unplug_all_type) most_blocks r.blocks

-- one of them is pinned
abbrev pub pin_met : MemoryDevice → Request → Bool
pin_met d r = any_pinned d (asked_from (sizes_of d) r) (asked_count r)

-- a PLUG of the device by itself is asked nothing further
abbrev pub nothing_further : Request → Response
nothing_further r = response.Ack

abbrev pub answered : MemoryDevice → Request → Response
answered d r = answered_by nothing_further (sizes_of d) (pin_met d r) d.plugged r

abbrev pub changed_by : MemoryDevice → Request → Response → MemoryDevice
changed_by d r x = with_plugged d (table_by (sizes_of d) d.plugged r x)

-- document 01's answer, the ten bytes of the response, and the next state
pub record RequestOutcome : Type 0 where
  pub reply : Reply
  pub response : List ℕ
  pub device : MemoryDevice

-- a request carried out on a valid record
abbrev pub carried_out : MemoryDevice → Request → RequestOutcome
carried_out d r =
    record { reply = accepted; response = response_bytes (type_of (answered d r)) (state_of (answered d r)); device = changed_by d r (answered d r) }
