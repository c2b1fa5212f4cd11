-- `sheet::fields::read_fields` meets its contract. Assumes nothing.
use Rattle.sheet.proofs.RegionLaws.{fields_more, fields_refused, fields_done}
use Rattle.std.proofs.lemmas.Result.{err_from_is_err_and}
use mathlib.Core.Path.{refl, sym, ◌∙◌}
use Rattle.sheet.proofs.fields.read_fields.Goals as goal

pub returns-in_err-region : goal.returns-in_err-region
returns-in_err-region c =
    let p = err_from_is_err_and c.from_residual.result c.from_residual.ensures.1 in
    rw (p.1, p.2) (fields_refused _ _ _ _ c.loop-field-test.true _ refl _ (sym c.in_err-region.ensures) ∙ c.loop-field.invariant)

pub loop-field-preserved : goal.loop-field-preserved
loop-field-preserved c = fields_more _ _ _ _ c.loop-field-test.true _ refl _ _ (sym c.in_ok-region.ensures) ∙ c.loop-field.invariant

pub returns : goal.returns
returns c = fields_done _ _ _ _ c.loop-field-test.false ∙ c.loop-field.invariant
