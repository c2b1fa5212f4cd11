-- `region_map::children::rank` meets its contract. Assumes nothing.
use mathlib.Core.Path.{ap, ◌∙◌}
use Prim.Native.Nat.{ℕ, ◌+◌, ◌*◌}
use native.Mathlib.Omega.{arith}
use Rattle.map_records.specs.declared.map.Region.{Region}
use Rattle.map_check.specs.Clash.{priority_of}
use Rattle.map_records.specs.Map.{region}
use Rattle.region_map.specs.Walk.{rank}
use Rattle.map_records.specs.Words.{map_of}
use Rattle.map_check.proofs.MapWords.{checked_walkable}
use Rattle.region_map.proofs.WalkLaws.{priority_le}
use Rattle.region_map.proofs.children.rank.Goals as goal

pub overflow_mul-result : goal.overflow_mul-result
overflow_mul-result c =
    let m = map_of c.args.map.now in
    omega (arith, c.priority_of.ensures, ap (λ (r : Region). priority_of r) c.region_in-region.ensures.region, priority_le (region m c.args.c) ((checked_walkable _ c.region_in-region.ensures.checked).priorities c.args.c c.requires))

pub overflow_add-result : goal.overflow_add-result
overflow_add-result c =
    let m = map_of c.args.map.now in
    omega (arith, c.priority_of.ensures, ap (λ (r : Region). priority_of r) c.region_in-region.ensures.region, priority_le (region m c.args.c) ((checked_walkable _ c.region_in-region.ensures.checked).priorities c.args.c c.requires), (checked_walkable _ c.region_in-region.ensures.checked).count, c.requires)

pub returns : goal.returns
unfolding rank
returns c = ap (λ (p : ℕ). p * 32 + c.args.c) (c.priority_of.ensures ∙ ap (λ (r : Region). priority_of r) c.region_in-region.ensures.region)
