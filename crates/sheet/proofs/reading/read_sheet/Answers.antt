-- `sheet::reading::read_sheet` meets its contract. Assumes nothing.
use mathlib.Core.Path.{◌≡◌, sym, ap, ◌∙◌}
use Rattle.map_records.proofs.WordLaws.{empty_map_words}
use Rattle.map_check.specs.Reply.{accepted, passes, Laid}
use Rattle.sheet.specs.Answer.{sheet_fault_reply, sheet_reply}
use Rattle.sheet.proofs.ReadLaws.{fault_not}
use Rattle.std.proofs.lemmas.Result.{err_from_is_err_and}
use Rattle.sheet.proofs.SheetLaws.{into_other, into_reply, into_read, into_kept}
use Rattle.sheet.proofs.reading.read_sheet.Goals as goal

pub returns-then-map-ne-MAP_WORDS : goal.returns-then-map-ne-MAP_WORDS
returns-then-map-ne-MAP_WORDS c =
    let e = into_other c.args.sheet.now c.args.memory_length c.args.map.now c.if-map-ne-MAP_WORDS.true in
    (sym (ap (λ (x : Laid). x.reply) e), sym (ap (λ (x : Laid). x.words) e))

pub read_map-requires : goal.read_map-requires
read_map-requires c = empty_map_words

pub returns-in_err-read_map : goal.returns-in_err-read_map
returns-in_err-read_map c =
    let s = c.args in
    let r = c.read_map in
    let p = err_from_is_err_and c.from_residual.result c.from_residual.ensures.1 in
    let e : sheet_reply r.result ≡ sheet_fault_reply c.in_err-read_map.field-0.0 = ap sheet_reply c.in_err-read_map.was in
    (ap sheet_reply p.1 ∙ ap sheet_fault_reply p.2 ∙ sym e ∙ sym (into_reply s.sheet.now s.memory_length s.map.now c.if-map-ne-MAP_WORDS.false r.result r.new.map r.ensures), sym (into_kept s.sheet.now s.memory_length s.map.now c.if-map-ne-MAP_WORDS.false r.result r.new.map r.ensures (ap passes e ∙ fault_not _)))

pub returns : goal.returns
returns c =
    let s = c.args in
    let r = c.read_map in
    let e : sheet_reply r.result ≡ accepted = ap sheet_reply c.in_ok-read_map.was in
    (sym e ∙ sym (into_reply s.sheet.now s.memory_length s.map.now c.if-map-ne-MAP_WORDS.false r.result r.new.map r.ensures), c.copy_from_slice.ensures.after ∙ sym (into_read s.sheet.now s.memory_length s.map.now c.if-map-ne-MAP_WORDS.false r.result r.new.map r.ensures (ap passes e)))
