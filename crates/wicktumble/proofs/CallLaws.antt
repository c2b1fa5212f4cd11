-- What the calls over words say, from what the calls inside them give. Assumes nothing.
use mathlib.Core.Path.{◌≡◌, refl, ap, ◌∙◌}
use mathlib.Core.Bool.{Bool, true, false, cond}
use mathlib.Core.List.{List, []}
use Prim.Native.Nat.{ℕ}
use Rattle.std.proofs.Common.{Result, Ok, Err, Option, Some, None}
use Rattle.map_check.specs.Reply.{Reply, plain, reply_by}
use Rattle.map_check.specs.Check.{fault_reply}
use Rattle.map_check.specs.declared.answer.RecordFault.{RecordFault}
use Rattle.map_check.specs.declared.check.MapFault.{MapFault}
use Rattle.map_records.specs.Refusal as refusal
use Rattle.map_records.specs.declared.map.Found.{Found}
use Rattle.map_records.specs.declared.view.FlatView.{FlatView}
use Rattle.region_map.specs.Resolve.{led_by}
use Rattle.device_words.specs.Device.{MemoryDevice}
use Rattle.device_words.specs.declared.block.BlockNumber.{BlockNumber}
use Rattle.memory_device.specs.Host.{byte_of}
use Rattle.routing.specs.Look.{looked_by}
use Rattle.routing.specs.Route as route
use Rattle.routing.specs.Route.{routed_by, routed_given, routed_with, routed_without, all_given, all_with, all_without}
use Rattle.routing.specs.declared.answer.Route.{Route}
use Rattle.routing.specs.declared.answer.Route.TheVariants.{Memory, Port}
use Rattle.routing.specs.declared.answer.RouteFault.{RouteFault}
use Rattle.wicktumble.specs.Result.{Report, Returns, places, reply_report}
use Rattle.wicktumble.specs.Maps.{found_words, walk_result}
use Rattle.wicktumble.specs.Devices.{in_block}
use Rattle.wicktumble.specs.Routes.{route_result}
use Rattle.wicktumble.specs.Promises.{told_by, block_words, route_words}

-- ---- a number and a result
pub told_as : {c c' : Report} {n : ℕ} {x : List ℕ} → Returns c n x → c ≡ c' → Returns c' n x
told_as (n, x) e = (n ∙ ap (λ (y : Report). y.number) e, x ∙ ap (λ (y : Report). y.result) e)

-- ---- what each kind of answer tells
pub reply_told : {E : Type 0} (fault : E → Reply) (a : Result Unit E) → told_by (λ _. []) (λ e. places (fault e)) fault a ≡ reply_report (reply_by fault a)
reply_told fault (Ok a) = refl
reply_told fault (Err e) = refl

pub walk_told : (a : Result (Option Found) MapFault) → told_by found_words (λ e. places (fault_reply e)) fault_reply a ≡ walk_result (led_by a)
walk_told (Ok x) = refl
walk_told (Err e) = refl

pub look_told : (a : Result (Option Found) RecordFault) → told_by found_words (λ _. []) (λ _. plain refusal.RECORD) a ≡ walk_result (looked_by a)
look_told (Ok x) = refl
look_told (Err e) = refl

pub block_told : (a : Result (Option BlockNumber) RecordFault) → told_by block_words (λ _. []) (λ _. plain refusal.RECORD) a ≡ in_block (byte_of a)
block_told (Ok None) = refl
block_told (Ok (Some b)) = refl
block_told (Err e) = refl

pub route_told : (a : Result Route RouteFault) → told_by route_words (λ _. []) route.fault_reply a ≡ route_result (routed_by a)
route_told (Ok (Memory p)) = refl
route_told (Ok (Port p o)) = refl
route_told (Err e) = refl

-- ---- with a device or without one
pub route_given : (t : Bool) (v : FlatView) (memory : ℕ) (d : MemoryDevice) (a w : ℕ)
    → routed_given v memory (cond t None (Some d)) a w ≡ cond t (routed_without v memory a w) (routed_with v memory d a w)
route_given true v memory d a w = refl
route_given false v memory d a w = refl

pub routes_given : (t : Bool) (v : FlatView) (memory : ℕ) (d : MemoryDevice) (x y : List ℕ)
    → all_given v memory (cond t None (Some d)) x y ≡ cond t (all_without v memory x y) (all_with v memory d x y)
routes_given true v memory d x y = refl
routes_given false v memory d x y = refl
