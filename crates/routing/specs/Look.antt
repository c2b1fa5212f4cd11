-- What a given flat view gives an address. Assumes nothing: these are definitions.
use Rattle.std.specs.Prelude.{cond, Option, Result, Ok, Err, ℕ}
use Rattle.region_map.specs.FlatList.{lookup}
use Rattle.map_check.specs.Reply.{plain}
use Rattle.region_map.specs.Resolve.{WalkAnswer, refused, leads}
use Rattle.map_records.specs.View.{entries}
use Rattle.map_records.specs.Refusal as refusal
use Rattle.map_records.specs.declared.map.Found.{Found}
use Rattle.map_records.specs.declared.view.FlatView.{FlatView}
use Rattle.map_check.specs.declared.answer.RecordFault.{RecordFault}
use Rattle.guest_view.specs.View.{view_ok, no_region_bound}

-- what the list gives, after 27
unfoldable pub looked_up : FlatView → ℕ → ℕ → WalkAnswer
looked_up v memory a = cond (view_ok v memory no_region_bound) (leads (lookup (entries v) a)) (refused (plain refusal.RECORD))

-- document 01's answer for each answer of the code
abbrev pub looked_by : Result (Option Found) RecordFault → WalkAnswer
looked_by (Ok x) = leads x
looked_by (Err e) = refused (plain refusal.RECORD)
