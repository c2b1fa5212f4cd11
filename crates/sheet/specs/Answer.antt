-- What reading a sheet answers in document 01's terms. Assumes nothing: these are definitions.
use Rattle.std.specs.Prelude.{ℕ, Result, Ok, Err}
use Rattle.map_check.specs.Reply.{Reply, place, plain, reply_by}
use Rattle.map_check.specs.Check.{fault_reply}
use Rattle.map_records.specs.Refusal as refusal
use Rattle.sheet.specs.declared.answer.Cursor.{Cursor}
use Rattle.sheet.specs.declared.answer.SheetFault.{SheetFault}
use Rattle.sheet.specs.declared.answer.SheetFault.TheVariants as fault

-- document 01's number and place or nodes for each fault of a sheet
abbrev pub sheet_fault_reply : SheetFault → Reply
sheet_fault_reply (fault.Short p) = place refusal.SHORT p
sheet_fault_reply (fault.Number p) = place refusal.NUMBER p
sheet_fault_reply (fault.Count p) = place refusal.COUNT p
sheet_fault_reply (fault.Kind p) = place refusal.KIND p
sheet_fault_reply (fault.Tail p) = place refusal.TAIL p
sheet_fault_reply fault.Record = plain refusal.RECORD
sheet_fault_reply (fault.Map f) = fault_reply f

-- and for each answer of the reader
abbrev pub sheet_reply : Result Unit SheetFault → Reply
sheet_reply = reply_by sheet_fault_reply

-- a value and the place of the byte after it, or a refusal
pub data Read (A : Type 0) : Type 0 where
  got : A → ℕ → Read A
  refused : Reply → Read A

-- 'left to right': go on after what was read
abbrev pub next : {A B : Type 0} → Read A → (A → ℕ → Read B) → Read B
next (got a at) f = f a at
next (refused r) f = refused r

-- what the readers of one number and of one region answer
abbrev pub read_by : {A : Type 0} → Result (A × Cursor) SheetFault → Read A
read_by (Ok r) = got r.0 r.1.at
read_by (Err e) = refused (sheet_fault_reply e)
