-- `listing::listing::list_sheet` meets its contract. Assumes nothing.
use mathlib.Core.Path.{◌∙◌}
use Prim.Native.Nat.{ℕ}
use lib.ListN.{length-replicate}
use Rattle.sheet.specs.Sheet.{read_sheet}
use Rattle.sheet.proofs.ReadLaws.{ReadAs, read_as}
use Rattle.listing.specs.Listing.{map_text, listing_text}
use Rattle.listing.proofs.TextLaws.{sheet_refused, sheet_passed}
use Rattle.map_records.specs.Limits.{map_length}
use Rattle.listing.proofs.listing.list_sheet.Goals as goal

pub returns-in-Err-clause-fills : goal.returns-in-Err-clause-fills
unfolding listing_text
returns-in-Err-clause-fills c =
    let told : ReadAs (read_sheet c.args.sheet.now c.args.memory_length) c.read_sheet.result c.read_sheet.new.map = read_as _ _ _ _ c.read_sheet.result (length-replicate {A = ℕ} map_length 0) c.read_sheet.ensures.0 c.read_sheet.ensures.1 in
    sheet_refused told (map_text _) c.in-Err.is (c.from.ensures ∙ c.number.ensures ∙ c.refusal.ensures) c.refuse.ensures.fills

pub returns-clause-fills : goal.returns-clause-fills
unfolding listing_text
returns-clause-fills c =
    let told : ReadAs (read_sheet c.args.sheet.now c.args.memory_length) c.read_sheet.result c.read_sheet.new.map = read_as _ _ _ _ c.read_sheet.result (length-replicate {A = ℕ} map_length 0) c.read_sheet.ensures.0 c.read_sheet.ensures.1 in
    sheet_passed told (map_text _) c.in_default.is c.list_map.ensures.fills
