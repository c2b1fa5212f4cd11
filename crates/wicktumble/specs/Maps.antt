-- The calls over maps: sheet, check, walk, flat view. Each gives its number, and what it leaves in the lent words. Assumes nothing: these are definitions.
use Rattle.std.specs.Prelude.{◌≡◌, cond, ◌&&◌, List, [], ◌∷◌, ℕ, Option, Some, None}
use Rattle.map_records.specs.Words.{map_of}
use Rattle.map_check.specs.Reply.{Reply}
use Rattle.map_check.specs.Check.{judged}
use Rattle.region_map.specs.Resolve.{WalkAnswer, refused, leads, resolved}
use Rattle.region_map.specs.Flatten.{flattened_into}
use Rattle.map_records.specs.Limits.{is_view, is_map}
use Rattle.map_records.specs.declared.map.Found.{Found}
use Rattle.sheet.specs.Sheet.{read_into}
use Rattle.wicktumble.specs.Result.{Report, Returns, report_of, reply_report, length_refused, is_result}

-- what is told, beside a record that is written
pub record RecordReport : Type 0 where
  pub words : List ℕ
  pub told : Report

-- the number n, and w and x left in the record's and the result's words, are what c makes
abbrev pub ReturnsRecord : RecordReport → ℕ → List ℕ → List ℕ → Type 0
ReturnsRecord c n w x = (w ≡ c.words) × Returns c.told n x

abbrev pub made_record : List ℕ → Reply → RecordReport
made_record words r = record { words = words; told = reply_report r }

abbrev pub unmade_record : List ℕ → List ℕ → RecordReport
unmade_record words result = record { words = words; told = length_refused result }

unfoldable pub read_call : List ℕ → ℕ → List ℕ → List ℕ → RecordReport
read_call bytes memory map result =
    cond (is_map map && is_result result) (made_record (read_into bytes memory map).words (read_into bytes memory map).reply)
    (unmade_record map result)

unfoldable pub check_call : List ℕ → ℕ → List ℕ → Report
check_call map memory result = cond (is_map map && is_result result) (reply_report (judged (map_of map) memory)) (length_refused result)

-- 1, the region and the offset, or zeros for nothing
abbrev pub found_words : Option Found → List ℕ
found_words None = []
found_words (Some f) = 1 ∷ f.region ∷ f.offset.0 ∷ []

-- a refusal, or what the address leads to
abbrev pub walk_result : WalkAnswer → Report
walk_result (refused r) = reply_report r
walk_result (leads x) = report_of 0 (found_words x)

unfoldable pub walk_call : List ℕ → ℕ → ℕ → List ℕ → Report
walk_call map memory a result = cond (is_map map && is_result result) (walk_result (resolved (map_of map) memory a)) (length_refused result)

unfoldable pub flatten_call : List ℕ → ℕ → List ℕ → List ℕ → RecordReport
flatten_call map memory view result =
    cond (is_map map && (is_view view && is_result result))
    (made_record (flattened_into (map_of map) memory view).words (flattened_into (map_of map) memory view).reply) (unmade_record view result)
