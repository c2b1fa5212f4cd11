-- `map_check::search::first_pair` meets its contract. Assumes nothing.
use mathlib.Core.Path.{subst⁻¹}
use native.Mathlib.Omega.{arith}
use Rattle.map_records.specs.Words.{map_of}
use Rattle.map_check.specs.Promises.{FirstIs}
use Rattle.map_check.proofs.Found.{pair_found, pair_passed}
use Rattle.map_check.proofs.search.first_pair.Goals as goal
use Rattle.map_check.proofs.search.first_pair.Goals.{then-loop-i-test+then-loop-j-test+then-clashes, else-loop-i-test}

pub returns : goal.returns
returns g c = λ rule tests.
    let m = map_of c.args.map.now in
    let n = c.count-count.ensures.count in
    elim c.loop-i-test.branch [
      | then-loop-i-test+then-loop-j-test+then-clashes w ↦ subst⁻¹ (FirstIs _ _) w.result-is
          (pair_found m rule tests _ n _ _ _ _ w.region-region.ensures w.region.ensures w.loop-j.invariant.0 w.loop-j-test.true c.loop-i.invariant.1 w.loop-j.invariant.2 w.if-clashes.ensures)
      | else-loop-i-test w ↦ subst⁻¹ (FirstIs _ _) w.result-is (pair_passed m rule tests _ n (λ i p. c.loop-i.invariant.1 i (omega arith)))
    ]
