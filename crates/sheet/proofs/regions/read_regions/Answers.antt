-- `sheet::regions::read_regions` meets its contract. Assumes nothing.
use mathlib.Core.Path.{sym, ap, ◌∙◌}
use Prim.Native.Nat.{ℕ, ◌+◌, ◌*◌}
use lib.ListN.{length}
use lib.Seq.{length-sets}
use Rattle.map_records.specs.Words.{region_words}
use native.Mathlib.Nat.{sub-zero}
use native.Mathlib.Omega.{arith}
use Rattle.std.proofs.lemmas.Result.{err_from_is_err_and}
use Rattle.sheet.proofs.SheetLaws.{regions_laid, regions_refused, regions_done}
use Rattle.sheet.proofs.regions.read_regions.Goals as goal

pub loop-n-init : goal.loop-n-init
loop-n-init c = rw (c.requires.blank, sub-zero)

pub put_region-requires : goal.put_region-requires
put_region-requires c = omega (arith, c.loop-n-test.true, c.requires.count_le_most_regions)

pub returns-in_err-region : goal.returns-in_err-region
returns-in_err-region c =
    let p = err_from_is_err_and c.from_residual.result c.from_residual.ensures.1 in
    rw (p.1, p.2) (regions_refused _ _ _ _ _ c.loop-n-test.true _ (sym c.in_err-region.ensures) ∙ c.loop-n.invariant)

pub loop-n-preserved : goal.loop-n-preserved
loop-n-preserved c =
    let l = c.loop-n in
    let h = c.loop-n-test.true in
    let put = c.put_region in
    let size = sym (length-sets {A = ℕ} l.map (1 + 9 * l.n) (region_words c.in_ok-region.region)) ∙ ap length (sym put.ensures) ∙ put.array_long in
    (regions_laid c.args.sheet.now c.args.count l.n l.map c.put_region.new.map l.at.at size h (omega (arith, h, c.requires.count_le_most_regions)) _ _ (sym c.in_ok-region.ensures) c.put_region.ensures).0
    ∙ l.invariant

pub returns : goal.returns
returns c = regions_done _ _ _ _ _ c.loop-n-test.false ∙ c.loop-n.invariant
