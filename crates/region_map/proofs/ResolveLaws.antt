-- Laws of the public walk, and of an answer of the check. Assumes nothing.
use mathlib.Core.Path.{◌≡◌, refl, sym, ap, ◌∙◌}
use mathlib.Core.Bool.{false}
use Prim.Native.Nat.{ℕ}
use Rattle.std.specs.Prelude.{Option, Result, Ok}
use Rattle.map_check.specs.Check.{fault_reply, reply, judged, Accepted}
use Rattle.map_check.specs.Reply.{passes}
use Rattle.map_check.proofs.Answers.{fault_form}
use Rattle.map_check.proofs.Replies.{refused_first}
use Rattle.region_map.specs.Walk.{walk_root}
use Rattle.region_map.specs.Resolve.{refused, leads, resolved}
use Rattle.map_records.specs.declared.map.RegionMap.{RegionMap}
use Rattle.map_records.specs.declared.map.Found.{Found}
use Rattle.map_check.specs.declared.check.MapFault.{MapFault}

-- what a caller of the check knows where it lets the map pass
pub accepted_by : {a : Result Unit MapFault} {u : Unit {0}} (m : RegionMap) (memory : ℕ) → a ≡ Ok u → reply a ≡ judged m memory → Accepted m memory
unfolding Accepted
accepted_by m memory is e = sym e ∙ ap reply is

-- and a fault is a refusal
pub fault_refuses : (f : MapFault) → passes (fault_reply f) ≡ false
fault_refuses = fault_form (λ r. passes r ≡ false) (λ k i j. refl)

pub led : (m : RegionMap) (memory a : ℕ) (x : Option Found) → Accepted m memory → x ≡ walk_root m a → leads x ≡ resolved m memory a
unfolding resolved Accepted
led m memory a x ok e = rw (ok, e)

pub not_led : (m : RegionMap) (memory a : ℕ) (f : MapFault) → fault_reply f ≡ judged m memory → refused (fault_reply f) ≡ resolved m memory a
unfolding resolved
not_led m memory a f e = refused_first refused (leads (walk_root m a)) (fault_reply f) (judged m memory) e (fault_refuses f)
