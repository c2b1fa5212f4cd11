-- A promise over document 01's numbers fixes the answer of making the view and of the walk: two answers that stand for the same one are equal. Assumes nothing.
use mathlib.Core.Path.{◌≡◌, refl, ap, ◌∙◌}
use mathlib.Core.Bool.{cond}
use lib.Dec.{eqb}
use Rattle.map_check.specs.Reply.{Reply, accepted, nodes, place, plain}
use Rattle.map_check.proofs.Answers.{injective, answer_of, reply_back, fault_form}
use Rattle.region_map.specs.Flatten.{flat_reply}
use Rattle.region_map.specs.Resolve.{WalkAnswer, refused, leads, led_by}
use Rattle.std.specs.Prelude.{Option, None, Result, Ok, Err}
use Rattle.map_records.specs.Refusal.{RUNS}
use Rattle.map_records.specs.declared.map.Found.{Found}
use Rattle.map_check.specs.declared.check.MapFault.{MapFault}
use Rattle.region_map.specs.declared.view.FlatFault.{FlatFault}
use Rattle.region_map.specs.declared.view.FlatFault.TheVariants as fault

-- the map's fault of an answer of the check, which in a view's answer is one of three
abbrev in_view : Result Unit MapFault → Result Unit FlatFault
in_view (Ok _) = Ok tt
in_view (Err f) = Err (fault.Map f)

abbrev flat_answer_of : Reply → Result Unit FlatFault
flat_answer_of accepted = Ok tt
flat_answer_of (nodes k i j) = in_view (answer_of (nodes k i j))
flat_answer_of (place k p) = Err fault.Record
flat_answer_of (plain k) = Err (cond (eqb k RUNS) fault.TooMany fault.Record)

flat_back : (a : Result Unit FlatFault) → flat_answer_of (flat_reply a) ≡ a
flat_back (Ok _) = refl
flat_back (Err (fault.Map f)) = fault_form (λ r. flat_answer_of r ≡ in_view (answer_of r)) (λ k i j. refl) f ∙ ap in_view (reply_back (Err f))
flat_back (Err fault.TooMany) = refl
flat_back (Err fault.Record) = refl

pub flat_reply_injective : (a b : Result Unit FlatFault) → flat_reply a ≡ flat_reply b → a ≡ b
flat_reply_injective = injective flat_reply flat_answer_of flat_back

-- what is led to, or the map's fault
abbrev refused_by : Result Unit MapFault → Result (Option Found) MapFault
refused_by (Ok _) = Ok None
refused_by (Err f) = Err f

abbrev walk_answer_of : WalkAnswer → Result (Option Found) MapFault
walk_answer_of (refused r) = refused_by (answer_of r)
walk_answer_of (leads x) = Ok x

led_back : (a : Result (Option Found) MapFault) → walk_answer_of (led_by a) ≡ a
led_back (Ok x) = refl
led_back (Err f) = ap refused_by (reply_back (Err f))

pub walk_answer_injective : (a b : Result (Option Found) MapFault) → led_by a ≡ led_by b → a ≡ b
walk_answer_injective = injective led_by walk_answer_of led_back
