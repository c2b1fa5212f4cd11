-- `map_check::search::lowest_fault` meets its contract. Assumes nothing.
use mathlib.Core.Bool.{true, false}
use borrow.Author.Rules.{rules}
use Rattle.std.proofs.lemmas.Iterator.{first_from_Range, serves_from_Range}
use Rattle.map_check.proofs.Found.{lowest_is}
use Rattle.map_check.proofs.search.lowest_fault.Goals as goal

pub find-requires-clause-callable : goal.find-requires-clause-callable
find-requires-clause-callable g c = serves_from_Range (λ x q k. search rules) (λ x low high. search rules)

pub returns : goal.returns
returns g c = λ rule tests.
    lowest_is rule _ _
    (first_from_Range _ _ _ _ (λ i. goal.F-post g c.args.at_fault i true) (λ i. goal.F-post g c.args.at_fault i false) c.find.ensures.ran
    (λ x q k. search rules) (λ x q k. (search rules, search rules))) tests
