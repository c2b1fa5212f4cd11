-- `drawing::position::locate` meets its contract, as a cycle of one. Assumes nothing.
use Rattle.drawing.proofs.DrawLaws.{located_root, located_aside, located_below, below_outside}
use Rattle.drawing.specs.Position.{entered, below}
use mathlib.Core.Path.{◌∙◌, sym, ap, ap₂}
use native.Mathlib.Omega.{arith}
use Rattle.drawing.proofs.position.+locate.Goals as goal

pub returns-then-n-count : goal.returns-then-n-count
returns-then-n-count t c =
    c.enter.ensures ∙ ap₂ (entered _) c.root_offset.ensures c.root_offset-then-n-count.ensures
    ∙ sym
    (located_root _ _ _ c.region-region.ensures.climbable _ _ c.region-region.ensures.region (omega (arith, c.in_default.ensures))
    (c.if-n-count.true ∙ c.count.ensures.count))

pub returns-in_default : goal.returns-in_default
returns-in_default t c =
    sym
    (located_aside _ _ _ c.region-region.ensures.climbable _ _ c.region-region.ensures.region (omega (arith, c.in_default.ensures))
    (λ z. c.if-n-count.false (z ∙ sym c.count.ensures.count)))

pub returns-in-Inside : goal.returns-in-Inside
returns-in-Inside t c =
    let up = c.in-Some.ensures in
    let e = rw up.1 at c.locate.ensures in
    c.enter-in-Inside.ensures
    ∙ sym
    (located_below _ _ _ c.region-region.ensures.climbable _ _ c.region-region.ensures.region c.requires (λ z. omega (arith, up.0))
    ∙ ap (below _) (sym e ∙ c.in-Inside.is))

pub returns-in_default-locate : goal.returns-in_default-locate
returns-in_default-locate t c =
    let up = c.in-Some.ensures in
    let e = rw up.1 at c.locate.ensures in
    sym
    (located_below _ _ _ c.region-region.ensures.climbable _ _ c.region-region.ensures.region c.requires (λ z. omega (arith, up.0))
    ∙ ap (below _) (sym e) ∙ below_outside _ _ c.in_default-locate.not-Inside)
