-- `map_check::check::check_regions` meets its contract. Assumes nothing.
use borrow.Author.Rules.{rules}
use Prim.Native.Nat.{ℕ}
use Rattle.map_records.specs.Map.{region}
use Rattle.map_records.specs.Words.{map_of}
use Rattle.map_check.specs.Fault.{kind_fault, field_fault, link_fault, memory_fault}
use Rattle.map_check.specs.Promises.{on_regions}
use Rattle.map_check.proofs.check.check_regions.Goals as goal

pub returns-in-Some : goal.returns-in-Some
unfolding on_regions
returns-in-Some c =
    let m = map_of c.args.map.now in
    simp (
      ← c.count-count.ensures.count,
      c.in-Some.ensures (λ (i : ℕ). kind_fault (region m i).kind) (λ i b p q. search rules) 4,
    )

pub returns-in-Some-lowest_fault : goal.returns-in-Some-lowest_fault
unfolding on_regions
returns-in-Some-lowest_fault c =
    let m = map_of c.args.map.now in
    simp (
      ← c.count-count.ensures.count,
      c.in_default.ensures (λ (i : ℕ). kind_fault (region m i).kind) (λ i b p q. search rules) 4,
      c.in-Some-lowest_fault.ensures (λ (i : ℕ). field_fault (region m i)) (λ i b p q. search rules) 6,
    )

pub returns-in-Some-lowest_fault-2 : goal.returns-in-Some-lowest_fault-2
unfolding on_regions
returns-in-Some-lowest_fault-2 c =
    let m = map_of c.args.map.now in
    simp (
      ← c.count-count.ensures.count,
      c.in_default.ensures (λ (i : ℕ). kind_fault (region m i).kind) (λ i b p q. search rules) 4,
      c.in_default-lowest_fault.ensures (λ (i : ℕ). field_fault (region m i)) (λ i b p q. search rules) 6,
      c.in-Some-lowest_fault-2.ensures (λ (i : ℕ). link_fault m i) (λ i b p q. search rules) 7,
    )

pub returns-in-Some-lowest_fault-3 : goal.returns-in-Some-lowest_fault-3
unfolding on_regions
returns-in-Some-lowest_fault-3 c =
    let m = map_of c.args.map.now in
    simp (
      ← c.count-count.ensures.count,
      c.in_default.ensures (λ (i : ℕ). kind_fault (region m i).kind) (λ i b p q. search rules) 4,
      c.in_default-lowest_fault.ensures (λ (i : ℕ). field_fault (region m i)) (λ i b p q. search rules) 6,
      c.in_default-lowest_fault-2.ensures (λ (i : ℕ). link_fault m i) (λ i b p q. search rules) 7,
      c.in-Some-lowest_fault-3.ensures (λ (i : ℕ). memory_fault c.args.memory_length (region m i)) (λ i b p q. search rules) 8,
    )

pub returns : goal.returns
unfolding on_regions
returns c =
    let m = map_of c.args.map.now in
    simp (
      ← c.count-count.ensures.count,
      c.in_default.ensures (λ (i : ℕ). kind_fault (region m i).kind) (λ i b p q. search rules) 4,
      c.in_default-lowest_fault.ensures (λ (i : ℕ). field_fault (region m i)) (λ i b p q. search rules) 6,
      c.in_default-lowest_fault-2.ensures (λ (i : ℕ). link_fault m i) (λ i b p q. search rules) 7,
      c.in_default-lowest_fault-3.ensures (λ (i : ℕ). memory_fault c.args.memory_length (region m i)) (λ i b p q. search rules) 8,
    )
