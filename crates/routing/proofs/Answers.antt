-- A promise fixes the code's answer: two answers of the code that stand for one of document 01's are equal. Assumes nothing.
use mathlib.Core.Path.{◌≡◌, refl}
use mathlib.Core.Bool.{cond}
use Prim.Native.Nat.{ℕ}
use lib.Dec.{eqb}
use Rattle.std.specs.Prelude.{Option, Result, Ok, Err}
use Rattle.map_records.specs.declared.map.Found.{Found}
use Rattle.map_check.proofs.Answers.{injective}
use Rattle.map_check.specs.Reply.{reply_by}
use Rattle.map_check.specs.declared.answer.RecordFault.{RecordFault}
use Rattle.region_map.specs.Resolve as look
use Rattle.routing.specs.Look.{looked_by}
use Rattle.routing.specs.Route.{Routed, refused, to_memory, to_port, routed_by, route_reply, fault_reply}
use Rattle.routing.specs.declared.answer.Route.{Route}
use Rattle.routing.specs.declared.answer.Route.TheVariants.{Memory, Port}
use Rattle.routing.specs.declared.answer.RouteFault.{RouteFault}
use Rattle.routing.specs.declared.answer.RouteFault.TheVariants as fault

fault_of : ℕ → RouteFault
fault_of n = cond (eqb n 23) fault.Width (cond (eqb n 24) fault.Hole (cond (eqb n 25) fault.Split (cond (eqb n 26) fault.Unplugged fault.Record)))

route_of : Routed → Result Route RouteFault
route_of (refused n) = Err (fault_of n)
route_of (to_memory p) = Ok (Memory p)
route_of (to_port p o) = Ok (Port p (record { 0 = o }))

route_back : (a : Result Route RouteFault) → route_of (routed_by a) ≡ a
unfolding route_of fault_of
route_back (Err fault.Width) = refl
route_back (Err fault.Hole) = refl
route_back (Err fault.Split) = refl
route_back (Err fault.Unplugged) = refl
route_back (Err fault.Record) = refl
route_back (Ok (Memory p)) = refl
route_back (Ok (Port p o)) = refl

pub route_answer_injective : (a b : Result Route RouteFault) → routed_by a ≡ routed_by b → a ≡ b
route_answer_injective = injective routed_by route_of route_back

-- the reply of an answer is that of document 01's answer
pub route_replies : (a : Result Route RouteFault) → reply_by fault_reply a ≡ route_reply (routed_by a)
route_replies (Err f) = refl
route_replies (Ok (Memory p)) = refl
route_replies (Ok (Port p o)) = refl

look_up_of : look.WalkAnswer → Result (Option Found) RecordFault
look_up_of (look.refused r) = Err (record {})
look_up_of (look.leads x) = Ok x

look_back : (a : Result (Option Found) RecordFault) → look_up_of (looked_by a) ≡ a
unfolding look_up_of
look_back (Ok x) = refl
look_back (Err e) = refl

pub look_up_injective : (a b : Result (Option Found) RecordFault) → looked_by a ≡ looked_by b → a ≡ b
look_up_injective = injective looked_by look_up_of look_back
