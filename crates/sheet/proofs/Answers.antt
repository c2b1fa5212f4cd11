-- The promises of the readers fix their answers: two answers that stand for the same one are equal. Assumes nothing.
use mathlib.Core.Path.{◌≡◌, refl, ap, ◌∙◌}
use mathlib.Core.Bool.{cond}
use Prim.Native.Nat.{ℕ}
use lib.Dec.{eqb}
use Rattle.map_check.specs.Reply.{Reply, accepted, nodes, place, plain}
use Rattle.map_check.specs.declared.check.MapFault.{MapFault}
use Rattle.map_check.proofs.Answers.{injective, answer_of, reply_back, fault_form}
use Rattle.std.specs.Prelude.{Result, Ok, Err}
use Rattle.sheet.specs.Answer.{sheet_fault_reply, sheet_reply, Read, got, refused, read_by}
use Rattle.sheet.specs.declared.answer.Cursor.{Cursor}
use Rattle.sheet.specs.declared.answer.SheetFault.{SheetFault}
use Rattle.sheet.specs.declared.answer.SheetFault.TheVariants as fault

-- the fault of a map's answer
abbrev map_fault_of : Result Unit MapFault → SheetFault
map_fault_of (Ok x) = fault.Record
map_fault_of (Err f) = fault.Map f

-- the fault of a number with its place or nodes
abbrev sheet_fault_of : Reply → SheetFault
sheet_fault_of accepted = fault.Record
sheet_fault_of (nodes k i j) = map_fault_of (answer_of (nodes k i j))
sheet_fault_of (plain k) = fault.Record
sheet_fault_of (place k p) =
    cond (eqb k 1) (fault.Short p) (cond (eqb k 2) (fault.Number p) (cond (eqb k 3) (fault.Count p) (cond (eqb k 4) (fault.Kind p) (fault.Tail p))))

back : (f : SheetFault) → sheet_fault_of (sheet_fault_reply f) ≡ f
back (fault.Short p) = refl
back (fault.Number p) = refl
back (fault.Count p) = refl
back (fault.Kind p) = refl
back (fault.Tail p) = refl
back fault.Record = refl
back (fault.Map f) = fault_form (λ r. sheet_fault_of r ≡ map_fault_of (answer_of r)) (λ k i j. refl) f ∙ ap map_fault_of (reply_back (Err f))

pub sheet_fault_injective : (f g : SheetFault) → sheet_fault_reply f ≡ sheet_fault_reply g → f ≡ g
sheet_fault_injective = injective sheet_fault_reply sheet_fault_of back

-- the answer of a number with its place or nodes
abbrev sheet_answer_of : Reply → Result Unit SheetFault
sheet_answer_of accepted = Ok tt
sheet_answer_of (nodes k i j) = Err (sheet_fault_of (nodes k i j))
sheet_answer_of (place k p) = Err (sheet_fault_of (place k p))
sheet_answer_of (plain k) = Err (sheet_fault_of (plain k))

answer_back : (a : Result Unit SheetFault) → sheet_answer_of (sheet_reply a) ≡ a
answer_back (Ok x) = refl
answer_back (Err (fault.Short p)) = refl
answer_back (Err (fault.Number p)) = refl
answer_back (Err (fault.Count p)) = refl
answer_back (Err (fault.Kind p)) = refl
answer_back (Err (fault.Tail p)) = refl
answer_back (Err fault.Record) = refl
answer_back (Err (fault.Map f)) = fault_form (λ r. sheet_answer_of r ≡ Err (sheet_fault_of r)) (λ k i j. refl) f ∙ ap (λ (x : SheetFault). Err x) (back (fault.Map f))

pub sheet_reply_injective : (a b : Result Unit SheetFault) → sheet_reply a ≡ sheet_reply b → a ≡ b
sheet_reply_injective = injective sheet_reply sheet_answer_of answer_back

-- what was read of a value with the place past it, or of a refusal
read_of : {A : Type 0} → Read A → Result (A × Cursor) SheetFault
read_of (got v at) = Ok (v, record { at = at })
read_of (refused r) = Err (sheet_fault_of r)

read_back : {A : Type 0} (a : Result (A × Cursor) SheetFault) → read_of (read_by a) ≡ a
unfolding read_of
read_back (Ok x) = refl
read_back (Err f) = ap Err (back f)

pub read_injective : {A : Type 0} (a b : Result (A × Cursor) SheetFault) → read_by a ≡ read_by b → a ≡ b
read_injective = injective read_by read_of read_back

pub number_read_injective : (a b : Result (ℕ × Cursor) SheetFault) → read_by a ≡ read_by b → a ≡ b
number_read_injective = read_injective
