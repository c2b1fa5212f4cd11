-- `sheet::fields::read_region` meets its contract. Assumes nothing.
use Rattle.sheet.proofs.RegionLaws.{region_refused, region_unknown, region_read}
use Rattle.std.proofs.lemmas.Result.{err_from_is_err_and}
use mathlib.Core.Path.{sym, ◌∙◌}
use Rattle.sheet.proofs.fields.read_region.Goals as goal

pub returns-in_err-number : goal.returns-in_err-number
returns-in_err-number c =
    let p = err_from_is_err_and c.from_residual.result c.from_residual.ensures.1 in
    rw (p.1, p.2) (region_refused _ _ _ (sym c.in_err-number.ensures))

pub returns-in_default : goal.returns-in_default
returns-in_default c = region_unknown _ _ _ _ (sym c.in_ok-number.ensures) c.in_default.ensures

pub returns : goal.returns
returns c = c.read_fields.ensures ∙ rw c.number.ensures (region_read _ _ c.in-Ok.kind _ _ (sym c.in_ok-number.ensures) c.in-Ok.ensures)
