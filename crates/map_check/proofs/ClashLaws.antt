-- Rule 11 for two regions, with both offsets below their parent's size. Assumes nothing.
use mathlib.Core.Path.{◌≡◌, ap}
use mathlib.Core.Bool.{Bool, ◌&&◌}
use Prim.Native.Nat.{ℕ}
use lib.Dec.{eqb, ltb}
use Rattle.map_records.specs.declared.map.Region.{Region}
use Rattle.map_check.specs.Clash.{share, priority_of, siblings, clash_below}
use Rattle.map_check.proofs.Bools.{both_below}

pub clash_offsets : (end : ℕ) (a b : Region)
    → (siblings a b && eqb (priority_of a) (priority_of b) && (share a.offset a.size b.offset b.size && (ltb a.offset end && ltb b.offset end))) ≡ clash_below priority_of end a b
clash_offsets end a b =
    ap (λ (x : Bool). siblings a b && eqb (priority_of a) (priority_of b) && (share a.offset a.size b.offset b.size && x)) (both_below end a.offset b.offset)
