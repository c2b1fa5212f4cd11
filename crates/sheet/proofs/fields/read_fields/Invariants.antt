use Rattle.sheet.specs.Region.{fields_from, sheet_fields}
use lib.ListN.{drop}
use mathlib.Core.Path.{◌≡◌}
use Rattle.sheet.proofs.fields.read_fields.Given as goal

abbrev pub invariant-loop-field : goal.invariant-loop-field
invariant-loop-field l = fields_from l.sheet (drop l.field-index sheet_fields) l.region l.at.at ≡ fields_from l.sheet sheet_fields l.initial.region l.initial.at.at
