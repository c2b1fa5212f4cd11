-- `sheet::fields::read_field` meets its contract. Assumes nothing.
use Rattle.sheet.proofs.RegionLaws.{field_read, field_refused, field_lacked}
use Rattle.std.proofs.lemmas.Result.{err_from_is_err_and}
use mathlib.Core.Path.{sym, ◌∙◌}
use Rattle.sheet.proofs.fields.read_field.Goals as goal

pub returns-then-not-has : goal.returns-then-not-has
returns-then-not-has c = sym (field_lacked _ _ _ _ (sym c.has.ensures ∙ c.if-not-has.true))

pub returns-in_err-value : goal.returns-in_err-value
returns-in_err-value c =
    let p = err_from_is_err_and c.from_residual.result c.from_residual.ensures.1 in
    rw (p.1, p.2) (sym (field_refused _ _ _ _ _ (sym c.has.ensures ∙ c.if-not-has.false) (sym c.in_err-value.ensures)))

pub returns : goal.returns
returns c = rw c.with_value.ensures (sym (field_read _ _ _ _ _ _ (sym c.has.ensures ∙ c.if-not-has.false) (sym c.in_ok-value.ensures)))
