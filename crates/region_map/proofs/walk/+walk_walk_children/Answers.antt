-- `region_map::walk::walk` and `walk_children` meet their contracts, as one cycle of calls: the measure is the region number and the children left. Assumes nothing.
use mathlib.Core.Path.{◌≡◌, sym, ap, ◌∙◌}
use native.Mathlib.Omega.{arith}
use borrow.Author.Tests.{eqb-true, eqb-false}
use Rattle.map_records.specs.declared.map.Region.{Region}
use Rattle.region_map.specs.Walk.{or_else, walk as walk_of}
use Rattle.region_map.specs.Promises.{tried_in}
use Rattle.map_records.specs.Words.{map_of}
use Rattle.map_check.proofs.MapWords.{checked_walkable}
use Rattle.region_map.proofs.WalkLaws.{child_below, past, child_at, child_before, own_is, own_none, walk_alias, walk_inside, is_child, tried_none, tried_next}
use Prim.Native.Nat.{◌+◌, ◌-◌, ◌%◌}
use Rattle.region_map.proofs.walk.+walk_walk_children.Goals as goal

pub walk-returns-then-region-a : goal.walk-returns-then-region-a
walk-returns-then-region-a t c =
    let a = c.args in
    let size = ap (λ (r : Region). r.size) c.region_in-region.ensures.region in
    sym (past (map_of a.map.now) a.n a.at.0 (omega (arith, size, c.if-region-a.true)))

pub walk-returns-then-has_kind : goal.walk-returns-then-has_kind
walk-returns-then-has_kind t c =
    let a = c.args in
    let m = map_of a.map.now in
    let e = c.region_in-region.ensures.region in
    let kind = ap (λ (r : Region). r.kind) e in
    let size = ap (λ (r : Region). r.size) e in
    c.walk.ensures ∙ ap (λ (r : Region). walk_of m r.target (a.at.0 + r.alias_offset)) e ∙ sym (walk_alias m (checked_walkable _ c.region_in-region.ensures.checked) a.n c.requires (sym kind ∙ eqb-true _ _ (sym c.has_kind.ensures ∙ c.if-has_kind.true)) a.at.0 (omega (arith, size, c.if-region-a.false)))

pub walk-returns : goal.walk-returns
walk-returns t c =
    let a = c.args in
    let m = map_of a.map.now in
    let e = c.region_in-region.ensures.region in
    let kind = ap (λ (r : Region). r.kind) e in
    let size = ap (λ (r : Region). r.size) e in
    rw (walk_inside m a.n (λ k. eqb-false _ _ (sym c.has_kind.ensures ∙ c.if-has_kind.false) (kind ∙ k)) a.at.0 (omega (arith, size, c.if-region-a.false))) c.walk_children.ensures

pub walk_children-returns-then-has_kind :
    goal.walk_children-returns-then-has_kind
walk_children-returns-then-has_kind t c =
    let a = c.args in
    let m = map_of a.map.now in
    let kind = ap (λ (r : Region). r.kind) c.region_in.ensures.region in
    sym (tried_none m _ a.n a.below c.in_default.ensures a.at.0 ∙ own_none m a.n (sym kind ∙ eqb-true _ _ (sym c.has_kind.ensures ∙ c.if-has_kind.true)) a.at.0)

pub walk_children-returns-in_default : goal.walk_children-returns-in_default
walk_children-returns-in_default t c =
    let a = c.args in
    let m = map_of a.map.now in
    let kind = ap (λ (r : Region). r.kind) c.region_in.ensures.region in
    sym (tried_none m _ a.n a.below c.in_default.ensures a.at.0 ∙ own_is m a.n (λ k. eqb-false _ _ (sym c.has_kind.ensures ∙ c.if-has_kind.false) (kind ∙ k)) a.at.0)

pub walk_children-returns-then-a-child : goal.walk_children-returns-then-a-child
walk_children-returns-then-a-child t c =
    let a = c.args in
    let m = map_of a.map.now in
    let nc = c.in-Some.ensures in
    let offset = ap (λ (r : Region). r.offset) c.region_in-child.ensures.region in
    let k = is_child nc in
    rw (tried_next m _ a.n a.below _ nc a.at.0, child_before m a.n _ k a.at.0 (omega (arith, offset, c.if-a-child.true))) c.walk_children.ensures

pub walk_children-walk-answer-requires : goal.walk_children-walk-answer-requires
walk_children-walk-answer-requires t c =
    let a = c.args in
    let m = map_of a.map.now in
    let k = child_below m a.n _ (is_child c.in-Some.ensures) in
    (omega (arith, k, c.decreases), omega (arith, k, c.requires.0))

pub walk_children-returns-in-Some-answer : goal.walk_children-returns-in-Some-answer
walk_children-returns-in-Some-answer t c =
    let a = c.args in
    let m = map_of a.map.now in
    let nc = c.in-Some.ensures in
    let child = c.region_in-child.ensures.region in
    let offset = ap (λ (r : Region). r.offset) child in
    let k = is_child nc in
    let walked = c.walk-answer.ensures ∙ ap (λ (r : Region). walk_of m (c.in-Some.next % 32) (a.at.0 - r.offset)) child in
    -- the next child was walked: its answer comes before those of the others
    let reached : tried_in m a.n a.below a.at.0 ≡ or_else c.walk-answer.result (tried_in m a.n c.in-Some.next a.at.0) =
    rw (tried_next m _ a.n a.below _ nc a.at.0, child_at m a.n _ k a.at.0 (omega (arith, offset, c.if-a-child.false)), ← walked) in
    rw (reached, c.in-Some-answer.is)

pub walk_children-returns-in-None : goal.walk_children-returns-in-None
walk_children-returns-in-None t c =
    let a = c.args in
    let m = map_of a.map.now in
    let nc = c.in-Some.ensures in
    let child = c.region_in-child.ensures.region in
    let offset = ap (λ (r : Region). r.offset) child in
    let k = is_child nc in
    let walked = c.walk-answer.ensures ∙ ap (λ (r : Region). walk_of m (c.in-Some.next % 32) (a.at.0 - r.offset)) child in
    let reached : tried_in m a.n a.below a.at.0 ≡ or_else c.walk-answer.result (tried_in m a.n c.in-Some.next a.at.0) =
    rw (tried_next m _ a.n a.below _ nc a.at.0, child_at m a.n _ k a.at.0 (omega (arith, offset, c.if-a-child.false)), ← walked) in
    rw (reached, c.in-None.is) c.walk_children-in-None.ensures

pub walk-overflow_add-a : goal.walk-overflow_add-a
walk-overflow_add-a t c =
    let e = c.region_in-region.ensures.region in
    omega (arith, ap (λ (r : Region). r.size) e, ap (λ (r : Region). r.alias_offset) e, c.if-region-a.false, (checked_walkable _ c.region_in-region.ensures.checked).sizes c.args.n c.requires, (checked_walkable _ c.region_in-region.ensures.checked).aliases c.args.n c.requires)

pub walk-walk-requires : goal.walk-walk-requires
walk-walk-requires t c =
    let e = c.region_in-region.ensures.region in
    let kind = ap (λ (r : Region). r.kind) e in
    let lower = (checked_walkable _ c.region_in-region.ensures.checked).targets c.args.n c.requires (sym kind ∙ eqb-true _ _ (sym c.has_kind.ensures ∙ c.if-has_kind.true)) in
    let target = ap (λ (r : Region). r.target) e in
    (omega (arith, lower, target, c.decreases), omega (arith, lower, target, c.requires))

pub walk_children-region_in-child-requires : goal.walk_children-region_in-child-requires
walk_children-region_in-child-requires t c =
    let k = child_below (map_of c.args.map.now) c.args.n _ (is_child c.in-Some.ensures) in
    omega (arith, k, c.requires.0)
