-- `sheet::reading::read_map` meets its contract. Assumes nothing.
use mathlib.Core.Path.{sym, ap, ◌∙◌}
use borrow.Author.Tests.{lt-ltb, le-ltb}
use Rattle.std.proofs.lemmas.Result.{err_from_is_err_and}
use Rattle.sheet.specs.Answer.{sheet_reply}
use Rattle.sheet.proofs.SheetLaws.{count_allowed, count_refused, blank_words, read_number_not, read_count_not, read_regions_not, read_tail, read_end}
use Rattle.sheet.proofs.reading.read_map.Goals as goal

pub returns-in_err-count : goal.returns-in_err-count
returns-in_err-count c =
    let p = err_from_is_err_and c.from_residual.result c.from_residual.ensures.1 in
    rw (p.1, p.2) (read_number_not c.args.sheet.now c.args.memory_length c.args.map.now c.told-map _ (sym c.in_err-count.ensures))

pub returns-then-count-eq0 : goal.returns-then-count-eq0
returns-then-count-eq0 c =
    read_count_not c.args.sheet.now c.args.memory_length c.args.map.now c.told-map _ _ (sym c.in_ok-count.ensures) (count_refused _ c.then-count-eq0.either)

pub read_regions-requires-clause-blank : goal.read_regions-requires-clause-blank
read_regions-requires-clause-blank c = blank_words c.args.map.now _ c.told-map c.requires _ c.put_region_count.ensures

pub returns-in_err-end : goal.returns-in_err-end
returns-in_err-end c =
    let p = err_from_is_err_and c.from_residual-in_err-end.result c.from_residual-in_err-end.ensures.1 in
    rw (p.1, p.2)
    (read_regions_not c.args.sheet.now c.args.memory_length c.read_regions.new.map c.read_regions.array_long _ _ (sym c.in_ok-count.ensures) (count_allowed _ c.if-count-eq0.false c.if-count.false) _ c.in_err-end.ensures)

pub returns-then-end-sheet : goal.returns-then-end-sheet
returns-then-end-sheet c =
    read_tail c.args.sheet.now c.args.memory_length c.read_regions.new.map c.read_regions.array_long _ _ (sym c.in_ok-count.ensures) (count_allowed _ c.if-count-eq0.false c.if-count.false) _ c.in_ok-end.ensures
    (lt-ltb _ _ c.if-end-sheet.true)

pub returns-in_err-check_map : goal.returns-in_err-check_map
returns-in_err-check_map c =
    let p = err_from_is_err_and c.from_residual-in_err-check_map.result c.from_residual-in_err-check_map.ensures.1 in
    read_end c.args.sheet.now c.args.memory_length c.read_regions.new.map c.read_regions.array_long _ _ (sym c.in_ok-count.ensures) (count_allowed _ c.if-count-eq0.false c.if-count.false) _ c.in_ok-end.ensures
    (le-ltb _ _ c.if-end-sheet.false) _ (ap sheet_reply p.1 ∙ rw p.2 c.in_err-check_map.ensures.reply)

pub returns : goal.returns
returns c =
    read_end c.args.sheet.now c.args.memory_length c.read_regions.new.map c.read_regions.array_long _ _ (sym c.in_ok-count.ensures) (count_allowed _ c.if-count-eq0.false c.if-count.false) _ c.in_ok-end.ensures
    (le-ltb _ _ c.if-end-sheet.false) _ c.in_ok-check_map.ensures.reply
