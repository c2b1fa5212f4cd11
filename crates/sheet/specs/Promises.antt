-- What the functions inside the crate promise each other. No promise of an entry point cites these. Assumes nothing: these are definitions.
use Rattle.std.specs.Prelude.{◌≡◌, true, List, ℕ, Result, Ok, Err, length}
use Rattle.map_records.specs.Words.{map_of}
use Rattle.map_check.specs.Reply.{passes}
use Rattle.map_records.specs.Limits.{map_length}
use Rattle.map_records.specs.declared.map.RegionMap.{RegionMap}
use Rattle.sheet.specs.Answer.{Read, got, refused, sheet_fault_reply, sheet_reply}
use Rattle.sheet.specs.Sheet.{SheetOutcome}
use Rattle.sheet.specs.declared.answer.Cursor.{Cursor}
use Rattle.sheet.specs.declared.answer.SheetFault.{SheetFault}

-- what the reader of the regions answers, and the map that it leaves
abbrev pub progress_of : Result Cursor SheetFault → RegionMap → Read RegionMap
progress_of (Ok c) m = got m c.at
progress_of (Err e) m = refused (sheet_fault_reply e)

-- the answer is o's, and where it is accepted the words are its map's
pub record ReadsMap (o : SheetOutcome) (a : Result Unit SheetFault) (w : List ℕ) : Type 0 where
  pub size : length w ≡ map_length
  pub reply : sheet_reply a ≡ o.reply
  pub map : passes (sheet_reply a) ≡ true → map_of w ≡ o.map
