-- `drawing::drawing::draw_sheet` meets its contract. Assumes nothing.
use mathlib.Core.Path.{ap, sym, subst, ◌∙◌}
use mathlib.Core.List.{List}
use Prim.Native.Nat.{ℕ}
use lib.ListN.{length-replicate}
use Rattle.map_records.specs.Limits.{map_length}
use Rattle.map_records.specs.Words.{map_of}
use Rattle.map_records.specs.declared.map.RegionMap.{RegionMap}
use Rattle.map_check.specs.Reply.{passes}
use Rattle.map_check.specs.Check.{Accepted}
use Rattle.sheet.proofs.ReadLaws.{read_as, read_accepted, sheet_accepted}
use Rattle.listing.specs.Text.{Fills}
use Rattle.listing.proofs.TextLaws.{sheet_refused, sheet_passed}
use Rattle.drawing.specs.Drawing.{map_drawing, drawing_text}
use Rattle.drawing.proofs.drawing.draw_sheet.Goals as goal

pub returns-in-Err-clause-fills : goal.returns-in-Err-clause-fills
unfolding drawing_text
returns-in-Err-clause-fills c =
    let told = read_as _ _ _ _ c.read_sheet.result (length-replicate {A = ℕ} map_length 0) c.read_sheet.ensures.0 c.read_sheet.ensures.1 in
    sheet_refused told map_drawing c.in-Err.is (c.from.ensures ∙ c.number.ensures ∙ c.refusal.ensures) c.refuse.ensures.fills

pub new-requires : goal.new-requires
new-requires c =
    let told = read_as _ _ _ _ c.read_sheet.result (length-replicate {A = ℕ} map_length 0) c.read_sheet.ensures.0 c.read_sheet.ensures.1 in
    let z = c.in_default.is in
    subst (λ (m : RegionMap). Accepted m c.args.memory_length) (sym (told.map z)) (sheet_accepted _ _ (ap passes (read_accepted told z)))

pub returns-clause-fills : goal.returns-clause-fills
unfolding drawing_text
returns-clause-fills c =
    let told = read_as _ _ _ _ c.read_sheet.result (length-replicate {A = ℕ} map_length 0) c.read_sheet.ensures.0 c.read_sheet.ensures.1 in
    sheet_passed told map_drawing c.in_default.is
    (subst (λ (t : List ℕ). Fills t c.args.out.now c.fill.result c.fill.new.out) (c.deref.ensures.0 ∙ c.push_rows.ensures ∙ ap (λ (w : List ℕ). map_drawing (map_of w)) c.new.ensures) c.fill.ensures)
