-- The walk of a given map at a guest address. Assumes nothing: these are definitions.
use Rattle.map_check.specs.Reply.{Reply, if_accepted}
use Rattle.map_check.specs.Check.{fault_reply, judged}
use Rattle.region_map.specs.Walk.{walk_root}
use Rattle.map_records.specs.declared.map.RegionMap.{RegionMap}
use Rattle.std.specs.Prelude.{ℕ, Option, Result, Ok, Err}
use Rattle.map_records.specs.declared.map.Found.{Found}
use Rattle.map_check.specs.declared.check.MapFault.{MapFault}

-- a refusal of the map, or what the tree answers
pub data WalkAnswer : Type 0 where
  refused : Reply → WalkAnswer
  leads : Option Found → WalkAnswer

-- the given map m over a guest memory of so many bytes, at the guest address a
unfoldable pub resolved : RegionMap → ℕ → ℕ → WalkAnswer
resolved m memory a = if_accepted (judged m memory) refused (leads (walk_root m a))

-- what the public walk answers
abbrev pub led_by : Result (Option Found) MapFault → WalkAnswer
led_by (Ok x) = leads x
led_by (Err e) = refused (fault_reply e)
