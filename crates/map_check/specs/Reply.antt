-- What a call answers in document 01's terms, and the first refusal of several. Assumes nothing: these are definitions.
use Rattle.std.specs.Prelude.{Bool, true, false, cond, ◌&&◌, List, ℕ, zero, suc, ltb, Result, Ok, Err}

-- 'Refusal numbers': nothing refused, or a number with two nodes, with a byte place, or alone
pub data Reply : Type 0 where
  accepted : Reply
  nodes : ℕ → ℕ → ℕ → Reply
  place : ℕ → ℕ → Reply
  plain : ℕ → Reply

-- the reply of an answer: nothing refused, or that of its fault
abbrev pub reply_by : {A E : Type 0} → (E → Reply) → Result A E → Reply
reply_by fault (Ok a) = accepted
reply_by fault (Err e) = fault e

infixl 20 ◌then◌
-- the first of two that refuses
abbrev pub ◌then◌ : Reply → Reply → Reply
accepted then b = b
nodes k i j then b = nodes k i j
place k p then b = place k p
plain k then b = plain k

-- what follows where nothing is refused, else what a refusal gives
abbrev pub if_accepted : {A : Type 0} → Reply → (Reply → A) → A → A
if_accepted accepted refusal x = x
if_accepted (nodes k i j) refusal x = refusal (nodes k i j)
if_accepted (place k p) refusal x = refusal (place k p)
if_accepted (plain k) refusal x = refusal (plain k)

-- the first refusal of f 0, f 1, .. below n
unfoldable pub first : (ℕ → Reply) → ℕ → Reply
first f zero = accepted
first f (suc n) = first f n then f n

-- 'the lowest node at fault twice', of the nodes below n
unfoldable pub lowest : ℕ → (ℕ → Bool) → ℕ → Reply
lowest k fault n = first (λ i. cond (fault i) (nodes k i i) accepted) n

-- 'the first clashing pair in ascending order, lower number first': the pairs of i, with the nodes above it and below n
unfoldable pub pairs_of : ℕ → (ℕ → ℕ → Bool) → ℕ → ℕ → Reply
pairs_of k clash n i = first (λ j. cond (ltb i j && clash i j) (nodes k i j) accepted) n

unfoldable pub first_pair : ℕ → (ℕ → ℕ → Bool) → ℕ → Reply
first_pair k clash n = first (pairs_of k clash n) n

-- nothing is refused
abbrev pub passes : Reply → Bool
passes accepted = true
passes (nodes k i j) = false
passes (place k p) = false
passes (plain k) = false

-- the refusal number, and 0 where nothing is refused
abbrev pub number_of : Reply → ℕ
number_of accepted = 0
number_of (nodes k i j) = k
number_of (place k p) = k
number_of (plain k) = k

-- what a call that makes a record leaves in the lent words: the record's or, on a refusal, those that were there
abbrev pub left_words : Reply → List ℕ → List ℕ → List ℕ
left_words r made old = cond (passes r) made old

pub record Laid : Type 0 where
  pub reply : Reply
  pub words : List ℕ

abbrev pub laid_into : Reply → List ℕ → List ℕ → Laid
laid_into r made old = record { reply = r; words = left_words r made old }
