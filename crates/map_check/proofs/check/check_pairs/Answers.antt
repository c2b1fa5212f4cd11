-- `map_check::check::check_pairs` meets its contract. Assumes nothing.
use borrow.Author.Rules.{rules}
use Rattle.map_records.specs.Map.{region}
use Rattle.map_records.specs.Words.{map_of}
use Rattle.map_records.specs.declared.map.Region.{Region}
use Rattle.map_check.specs.Clash.{priority_of, memory_clash, managed_clash, port_clash, sibling_clash, clash_below}
use Rattle.map_check.specs.Fault.{parent_of}
use Rattle.map_check.specs.Promises.{on_pairs}
use Rattle.map_check.proofs.check.check_pairs.Goals as goal

pub returns-in-Some : goal.returns-in-Some
unfolding on_pairs
returns-in-Some c =
    simp (c.in-Some.ensures memory_clash (λ a b x q. search rules) 8)

pub returns-in-Some-first_pair : goal.returns-in-Some-first_pair
unfolding on_pairs
returns-in-Some-first_pair c =
    simp (
      c.in_default.ensures memory_clash (λ a b x q. search rules) 8,
      c.in-Some-first_pair.ensures managed_clash (λ a b x q. search rules) 9,
    )

pub returns-in-Some-first_pair-2 : goal.returns-in-Some-first_pair-2
unfolding on_pairs
returns-in-Some-first_pair-2 c =
    simp (
      c.in_default.ensures memory_clash (λ a b x q. search rules) 8,
      c.in_default-first_pair.ensures managed_clash (λ a b x q. search rules) 9,
      c.in-Some-first_pair-2.ensures port_clash (λ a b x q. search rules) 10,
    )

pub returns-in-Some-first_pair-3 : goal.returns-in-Some-first_pair-3
unfolding on_pairs sibling_clash
returns-in-Some-first_pair-3 c =
    let m = map_of c.args.map.now in
    simp (
      c.in_default.ensures memory_clash (λ a b x q. search rules) 8,
      c.in_default-first_pair.ensures managed_clash (λ a b x q. search rules) 9,
      c.in_default-first_pair-2.ensures port_clash (λ a b x q. search rules) 10,
      c.in-Some-first_pair-3.ensures (λ (a b : Region). clash_below priority_of (region m (parent_of a)).size a b) (λ a b x q. search rules) 11,
    )

pub returns : goal.returns
unfolding on_pairs sibling_clash
returns c =
    let m = map_of c.args.map.now in
    simp (
      c.in_default.ensures memory_clash (λ a b x q. search rules) 8,
      c.in_default-first_pair.ensures managed_clash (λ a b x q. search rules) 9,
      c.in_default-first_pair-2.ensures port_clash (λ a b x q. search rules) 10,
      c.in_default-first_pair-3.ensures (λ (a b : Region). clash_below priority_of (region m (parent_of a)).size a b) (λ a b x q. search rules) 11,
    )
