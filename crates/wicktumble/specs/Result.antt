-- What a call says: its number, and the words of its result. Assumes nothing: these are definitions.
use Rattle.std.specs.Prelude.{◌≡◌, Bool, List, [], ◌∷◌, ◌++◌, ℕ, ◌-◌, eqb, length, replicate}
use Rattle.map_check.specs.Reply.{Reply, accepted, nodes, place, plain, number_of}
use Rattle.map_records.specs.Refusal as refusal

pub record Report : Type 0 where
  pub number : ℕ
  pub result : List ℕ

-- the number n, and x left in the result's words, are what c tells
abbrev pub Returns : Report → ℕ → List ℕ → Type 0
Returns c n x = (n ≡ c.number) × (x ≡ c.result)

abbrev pub result_length : ℕ
result_length = 3

-- the words that a call has, and 0 for each that it has not
abbrev pub padded : List ℕ → List ℕ
padded words = words ++ replicate (result_length - length words) 0

abbrev pub report_of : ℕ → List ℕ → Report
report_of n words = record { number = n; result = padded words }

-- places and nodes: a reply's byte place, or its first node, and its second node
abbrev pub first_of : Reply → ℕ
first_of accepted = 0
first_of (nodes k i j) = i
first_of (place k p) = p
first_of (plain k) = 0

abbrev pub second_of : Reply → ℕ
second_of accepted = 0
second_of (nodes k i j) = j
second_of (place k p) = 0
second_of (plain k) = 0

abbrev pub places : Reply → List ℕ
places r = first_of r ∷ second_of r ∷ []

abbrev pub reply_report : Reply → Report
reply_report r = report_of (number_of r) (places r)

-- 27 for a wrong length: nothing is written
abbrev pub length_refused : List ℕ → Report
length_refused result = record { number = refusal.RECORD; result = result }

-- a length that is as the header says
abbrev pub is_result : List ℕ → Bool
is_result w = eqb (length w) result_length
