-- A promise over document 01's numbers fixes the check's answer: two answers with one number and the same nodes are equal. Assumes nothing.
use mathlib.Core.Path.{◌≡◌, refl, sym, ap, ◌∙◌}
use mathlib.Core.Bool.{cond}
use Prim.Native.Nat.{ℕ, suc}
use native.Mathlib.Omega.{arith}
use lib.Dec.{eqb}
use borrow.Author.Tests.{ne_eqb}
use Rattle.map_check.specs.Reply.{Reply, accepted, nodes, place, plain, passes, number_of}
use Rattle.std.specs.Prelude.{Result, Ok, Err}
use Rattle.map_check.specs.Check.{fault_reply, reply}
use Rattle.map_check.specs.declared.check.MapFault.{MapFault}
use Rattle.map_check.specs.declared.check.MapFault.TheVariants as fault

-- what has a way back is injective
pub injective : {A B : Type 0} (f : A → B) (g : B → A) → ((a : A) → g (f a) ≡ a) → (a b : A) → f a ≡ f b → a ≡ b
injective f g back a b e = sym (back a) ∙ ap g e ∙ back b

-- the answer of a number with its nodes
abbrev pub answer_of : Reply → Result Unit MapFault
answer_of accepted = Ok tt
answer_of (nodes k i j) =
    Err (cond (eqb k 3) fault.Count
    (cond (eqb k 4) (fault.Kind i)
    (cond (eqb k 6) (fault.Field i)
    (cond (eqb k 7) (fault.Link i)
    (cond (eqb k 8) (fault.Memory i j)
    (cond (eqb k 9) (fault.Managed i j) (cond (eqb k 10) (fault.Port i j) (fault.Overlap i j))))))))
answer_of (place k p) = Ok tt
answer_of (plain k) = Ok tt

pub reply_back : (a : Result Unit MapFault) → answer_of (reply a) ≡ a
reply_back (Ok _) = refl
reply_back (Err fault.Count) = refl
reply_back (Err (fault.Kind n)) = refl
reply_back (Err (fault.Field n)) = refl
reply_back (Err (fault.Link n)) = refl
reply_back (Err (fault.Memory i j)) = refl
reply_back (Err (fault.Managed i j)) = refl
reply_back (Err (fault.Port i j)) = refl
reply_back (Err (fault.Overlap i j)) = refl

pub reply_injective : (a b : Result Unit MapFault) → reply a ≡ reply b → a ≡ b
reply_injective = injective reply answer_of reply_back

-- a fault has a number above 0 with two nodes: what holds of each such holds of its reply
pub fault_form : (P : Reply → Type 0) → ((k i j : ℕ) → P (nodes (suc k) i j)) → (f : MapFault) → P (fault_reply f)
fault_form P x fault.Count = x 2 0 0
fault_form P x (fault.Kind n) = x 3 n n
fault_form P x (fault.Field n) = x 5 n n
fault_form P x (fault.Link n) = x 6 n n
fault_form P x (fault.Memory i j) = x 7 i j
fault_form P x (fault.Managed i j) = x 8 i j
fault_form P x (fault.Port i j) = x 9 i j
fault_form P x (fault.Overlap i j) = x 10 i j

-- the check accepts, or gives a number above 0 with two nodes: what holds of both holds of its answer
pub reply_form : (P : Reply → Type 0) → P accepted → ((k i j : ℕ) → P (nodes (suc k) i j)) → {A : Type 0} (a : Result A MapFault) → P (reply a)
reply_form P x f (Ok _) = x
reply_form P x f (Err e) = fault_form P f e

-- a number is 0 where nothing is refused, and only there
pub map_zero : {A : Type 0} (a : Result A MapFault) → eqb (number_of (reply a)) 0 ≡ passes (reply a)
map_zero = reply_form (λ r. eqb (number_of r) 0 ≡ passes r) refl (λ k i j. ne_eqb (suc k) 0 (λ (e : suc k ≡ 0). omega arith))
