-- At one address, a region is entered where the walk's own rule says that its range holds the address. Assumes nothing.
use mathlib.Core.Path.{◌≡◌, refl, sym}
use mathlib.Core.Bool.{Bool, true, false, cond, ◌&&◌}
use Prim.Native.Nat.{ℕ, ◌+◌, ◌-◌}
use native.Mathlib.Omega.{arith}
use lib.Dec.{leb, ltb}
use borrow.Author.Tests.{leb-true, leb-false, ltb-true, ltb-false}
use Rattle.map_records.specs.Map.{region}
use Rattle.region_map.specs.Walk.{holds}
use Rattle.map_records.specs.declared.map.RegionMap.{RegionMap}
use Rattle.drawing.specs.Position.{entered}
use Rattle.drawing.specs.declared.position.Position.TheVariants.{Outside, Inside}
use Rattle.drawing.proofs.DrawLaws.{entered_inside, entered_not}

pub entered_point : (m : RegionMap) (n a : ℕ)
    → entered (region m n) a (a + 1) ≡ cond (holds m n a) (Inside (record { 0 = a - (region m n).offset }) (record { 0 = a - (region m n).offset + 1 })) Outside
unfolding holds
entered_point m n a = go (leb (region m n).offset a) (ltb a ((region m n).offset + (region m n).size)) refl refl
  where
    go : (t u : Bool) → leb (region m n).offset a ≡ t → ltb a ((region m n).offset + (region m n).size) ≡ u
        → entered (region m n) a (a + 1) ≡ cond (t && u) (Inside (record { 0 = a - (region m n).offset }) (record { 0 = a - (region m n).offset + 1 })) Outside
    go true true p q =
        let h = leb-true (region m n).offset a p in
        let k = ltb-true a ((region m n).offset + (region m n).size) q in
        sym (entered_inside (region m n) a (a + 1) _ _ refl (omega arith) (omega arith))
    go true false p q =
        let h = leb-true (region m n).offset a p in
        let k = ltb-false a ((region m n).offset + (region m n).size) q in
        sym (entered_not (region m n) a (a + 1) _ _ refl refl (omega arith))
    go false u p q =
        let h = leb-false (region m n).offset a p in
        sym (entered_not (region m n) a (a + 1) _ _ refl refl (omega arith))
