-- Document 01's sheet of the map of source 001 reads as its five regions D, E, B, C, A. Assumes nothing.
use mathlib.Core.Path.{◌≡◌, refl}
use Rattle.map_check.specs.Fault.{parent_fault, link_fault}
use Rattle.map_check.specs.Clash.{sibling_clash}
use Rattle.map_check.specs.Reply.{accepted, first, lowest, pairs_of, first_pair}
use Rattle.map_check.specs.Check.{judged_by}
use Rattle.sheet.specs.Number.{groups}
use Rattle.sheet.specs.Region.{field_at, fields_from, sheet_region}
use Rattle.sheet.specs.Sheet.{regions_from, map_at, read_sheet}
use Rattle.sheet.specs.Example001.{sheet001, map001}

pub reads_001 : read_sheet sheet001 65536 ≡ record { reply = accepted; map = map001 }
unfolding sheet001 map001 read_sheet map_at regions_from sheet_region fields_from field_at groups judged_by lowest first_pair pairs_of first link_fault parent_fault sibling_clash
reads_001 = refl
