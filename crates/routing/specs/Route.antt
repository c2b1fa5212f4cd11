-- Routing of guest accesses, one and many: 23 to 26, and 27 first. Assumes nothing: these are definitions.
use Rattle.std.specs.Prelude.{Bool, true, false, cond, ◌&&◌, ◌||◌, not, List, [], ◌∷◌, ◌++◌, ◌≡◌, Option, None, Some, Result, Ok, Err, ℕ, zero, suc, ◌+◌, ◌*◌, ◌/◌, ◌%◌, eqb, length, get_or}
use Rattle.map_records.specs.Map.{mmio, managed, has_memory}
use Rattle.map_records.specs.View.{entries}
use Rattle.map_check.specs.Reply.{Reply, accepted, plain, number_of, reply_by}
use Rattle.map_records.specs.Refusal as refusal
use Rattle.map_records.specs.declared.view.FlatView.{FlatView}
use Rattle.device_words.specs.Table.{all_below}
use Rattle.device_words.specs.Device.{MemoryDevice, device_ok, plugged_at}
use Rattle.guest_view.specs.Guest.{Leaf, nowhere, leaf, leaf_at, place_of}
use Rattle.guest_view.specs.View.{view_ok, no_region_bound}
use Rattle.map_check.specs.declared.answer.RecordFault.{RecordFault}
use Rattle.routing.specs.declared.answer.Route.{Route}
use Rattle.routing.specs.declared.answer.Route.TheVariants.{Memory, Port}
use Rattle.routing.specs.declared.answer.RouteFault.{RouteFault}
use Rattle.routing.specs.declared.answer.RouteFault.TheVariants as fault

-- What an access is answered: a refusal's number, a memory place, or a port and the offset in its region.
pub data Routed : Type 0 where
  refused : ℕ → Routed
  to_memory : ℕ → Routed
  to_port : ℕ → ℕ → Routed

-- document 01's number for each refusal of an access
abbrev pub fault_number : RouteFault → ℕ
fault_number fault.Width = refusal.WIDTH
fault_number fault.Hole = refusal.HOLE
fault_number fault.Split = refusal.SPLIT
fault_number fault.Unplugged = refusal.UNPLUGGED
fault_number fault.Record = refusal.RECORD

abbrev pub fault_reply : RouteFault → Reply
fault_reply f = plain (fault_number f)

-- document 01's answer for each answer of the code
abbrev pub routed_by : Result Route RouteFault → Routed
routed_by (Ok (Memory p)) = to_memory p
routed_by (Ok (Port p o)) = to_port p o.0
routed_by (Err f) = refused (fault_number f)

-- document 01's number
abbrev pub route_reply : Routed → Reply
route_reply (refused n) = plain n
route_reply (to_memory p) = accepted
route_reply (to_port p o) = accepted

-- 23: 'access width not 1, 2, 4, 8'
abbrev pub width_ok : ℕ → Bool
width_ok w = eqb w 1 || eqb w 2 || eqb w 4 || eqb w 8

-- 24: 'first byte answers nothing'
abbrev pub is_nowhere : Leaf → Bool
is_nowhere nowhere = true
is_nowhere (leaf n kind base o) = false

-- 25: 'a later byte is not the same node at the next offset': byte i is the first byte's node, i offsets on
abbrev pub follows : Leaf → ℕ → Leaf → Bool
follows nowhere i y = false
follows (leaf n kind base o) i nowhere = false
follows (leaf n kind base o) i (leaf n₂ kind₂ base₂ o₂) = eqb n₂ n && eqb o₂ (o + i)

-- 26: 'a byte lies in an unplugged block'
abbrev pub is_open : (ℕ → Bool) → Leaf → Bool
is_open plugged nowhere = true
is_open plugged (leaf n kind base o) = not (eqb kind managed) || plugged o

-- 'An access is routed whole, to memory place or port and offset', by its node's kind. No other kind answers: 27 has refused a list with one ('a kind not 1, 2 or 4')
abbrev pub target : Leaf → Routed
target nowhere = refused refusal.HOLE
target (leaf n kind base o) =
    cond (has_memory kind) (to_memory (place_of base o)) (cond (eqb kind mmio) (to_port base o) (refused refusal.RECORD))

-- 'or refused by the first of 23 to 26 that holds'
unfoldable pub routed : (ℕ → Leaf) → (ℕ → Bool) → ℕ → ℕ → Routed
routed answers plugged a w =
    cond (width_ok w)
    (cond (is_nowhere (answers a)) (refused refusal.HOLE)
    (cond (all_below (λ i. follows (answers a) i (answers (a + i))) w)
    (cond (all_below (λ i. is_open plugged (answers (a + i))) w) (target (answers a)) (refused refusal.UNPLUGGED))
    (refused refusal.SPLIT)))
    (refused refusal.WIDTH)

-- '27 comes first', with a device
unfoldable pub routed_with : FlatView → ℕ → MemoryDevice → ℕ → ℕ → Routed
routed_with v memory d a w =
    cond (view_ok v memory d.region_size && device_ok d) (routed (leaf_at (entries v)) (plugged_at d) a w) (refused refusal.RECORD)

-- 'Given no device, every block counts as unplugged and 27 judges no region'
unfoldable pub routed_without : FlatView → ℕ → ℕ → ℕ → Routed
routed_without v memory a w = cond (view_ok v memory no_region_bound) (routed (leaf_at (entries v)) (λ o. false) a w) (refused refusal.RECORD)

-- with a device or without one
abbrev pub routed_given : FlatView → ℕ → Option MemoryDevice → ℕ → ℕ → Routed
routed_given v memory None = routed_without v memory
routed_given v memory (Some d) = routed_with v memory d

-- Many accesses at once, each of two words: its address and its width. An answer is four words: document 01's number, or 0 and then 1 and the memory place, or 2, the port and the offset.
abbrev pub answer_words : Routed → List ℕ
answer_words (refused n) = n ∷ 0 ∷ 0 ∷ 0 ∷ []
answer_words (to_memory p) = 0 ∷ 1 ∷ p ∷ 0 ∷ []
answer_words (to_port p o) = 0 ∷ 2 ∷ p ∷ o ∷ []

-- n accesses from number i on, each answered by f
unfoldable pub answers_to : (ℕ → ℕ → Routed) → List ℕ → ℕ → ℕ → List ℕ
answers_to f accesses i zero = []
answers_to f accesses i (suc n) =
    answer_words (f (get_or accesses (2 * i) 0) (get_or accesses (2 * i + 1) 0)) ++ answers_to f accesses (suc i) n

-- all of them
abbrev pub answers_of : (ℕ → ℕ → Routed) → List ℕ → List ℕ
answers_of f accesses = answers_to f accesses 0 (length accesses / 2)

-- four words for each two
abbrev pub answers_fit : List ℕ → List ℕ → Bool
answers_fit accesses answers = eqb (length accesses % 2) 0 && eqb (length answers) (2 * length accesses)

pub record RoutedAll : Type 0 where
  pub number : ℕ
  pub answers : List ℕ

-- each access as one access is routed; words that do not fit are 27, as a record that breaks its rules
unfoldable pub all_routed : Bool → (ℕ → ℕ → Routed) → List ℕ → List ℕ → RoutedAll
all_routed ok f accesses answers =
    cond (ok && answers_fit accesses answers)
    (record { number = 0; answers = answers_of f accesses })
    (record { number = refusal.RECORD; answers = answers })

abbrev pub all_with : FlatView → ℕ → MemoryDevice → List ℕ → List ℕ → RoutedAll
all_with v memory d = all_routed (view_ok v memory d.region_size && device_ok d) (routed_with v memory d)

abbrev pub all_without : FlatView → ℕ → List ℕ → List ℕ → RoutedAll
all_without v memory = all_routed (view_ok v memory no_region_bound) (routed_without v memory)

abbrev pub all_given : FlatView → ℕ → Option MemoryDevice → List ℕ → List ℕ → RoutedAll
all_given v memory None = all_without v memory
all_given v memory (Some d) = all_with v memory d

-- document 01's number for each answer of the code over many accesses
abbrev pub all_number : Result Unit RecordFault → ℕ
all_number r = number_of (reply_by (λ _. plain refusal.RECORD) r)

-- the number n, and x left in the words of the answers, are what c says
abbrev pub RoutesAll : RoutedAll → ℕ → List ℕ → Type 0
RoutesAll c n x = (n ≡ c.number) × (x ≡ c.answers)
