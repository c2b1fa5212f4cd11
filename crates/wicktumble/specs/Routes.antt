-- The calls that route accesses, and the look-up in a view. Assumes nothing: these are definitions.
use Rattle.std.specs.Prelude.{Bool, cond, ◌&&◌, ◌||◌, List, [], ◌∷◌, ℕ, eqb, length}
use Rattle.map_records.specs.Words.{view_of}
use Rattle.map_records.specs.Limits.{is_view}
use Rattle.device_words.specs.Words.{is_device, device_of}
use Rattle.routing.specs.Route.{Routed, refused, to_memory, to_port, routed_with, routed_without, RoutedAll, all_with, all_without}
use Rattle.routing.specs.Look.{looked_up}
use Rattle.wicktumble.specs.Result.{Report, report_of, length_refused, is_result}
use Rattle.wicktumble.specs.Maps.{walk_result}

-- the number of a refusal, or 1 and the memory place, or 2, the port and the offset
abbrev pub route_result : Routed → Report
route_result (refused n) = report_of n []
route_result (to_memory p) = report_of 0 (1 ∷ p ∷ [])
route_result (to_port p o) = report_of 0 (2 ∷ p ∷ o ∷ [])

-- a device of no words is none: 27 then judges no region, and no block is plugged
abbrev pub is_none : List ℕ → Bool
is_none device = eqb (length device) 0

abbrev pub route_by : List ℕ → ℕ → List ℕ → ℕ → ℕ → Routed
route_by view memory device a w =
    cond (is_none device) (routed_without (view_of view) memory a w) (routed_with (view_of view) memory (device_of device) a w)

abbrev pub device_fits : List ℕ → Bool
device_fits device = is_none device || is_device device

abbrev pub route_fits : List ℕ → List ℕ → List ℕ → Bool
route_fits view device result = is_view view && (device_fits device && is_result result)

unfoldable pub route_call : List ℕ → ℕ → List ℕ → ℕ → ℕ → List ℕ → Report
route_call view memory device a w result = cond (route_fits view device result) (route_result (route_by view memory device a w)) (length_refused result)

-- many accesses at once, two words each, with four words for each answer
unfoldable pub route_all_call : List ℕ → ℕ → List ℕ → List ℕ → List ℕ → RoutedAll
route_all_call view memory device accesses answers =
    cond (is_none device) (all_without (view_of view) memory accesses answers)
    (all_with (view_of view) memory (device_of device) accesses answers)

-- what the list gives an address, told as what the walk gives
unfoldable pub look_up_call : List ℕ → ℕ → ℕ → List ℕ → Report
look_up_call view memory a result = cond (is_view view && is_result result) (walk_result (looked_up (view_of view) memory a)) (length_refused result)
