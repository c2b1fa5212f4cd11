-- What reading refuses is never an acceptance. Assumes nothing.
use mathlib.Core.Path.{◌≡◌, refl, subst}
use mathlib.Core.Bool.{Bool, true, false, cond, ◌&&◌}
use mathlib.Core.List.{List, [], ◌∷◌}
use Prim.Native.Nat.{ℕ, zero, suc, ◌+◌, ◌-◌}
use lib.Dec.{eqb, leb, ltb}
use lib.ListN.{length, get_or}
use Rattle.map_records.specs.Map.{has, with_value}
use Rattle.map_records.specs.declared.map.Field.{Field}
use Rattle.map_records.specs.declared.map.Region.{Region}
use Rattle.map_records.specs.declared.map.RegionMap.{RegionMap}
use Rattle.map_check.specs.Fault.{kind_fault}
use Rattle.map_check.specs.Reply.{Reply, place, passes}
use Rattle.sheet.specs.Answer.{Read, got, refused, next}
use Rattle.sheet.specs.Number.{joined, last_group, groups, sheet_number}
use Rattle.sheet.specs.Region.{field_at, fields_from, of_kind, sheet_region, sheet_fields}
use Rattle.sheet.specs.Sheet.{with_region, regions_from}

abbrev Refuses : {A : Type 0} → Read A → Type 0
Refuses (got a at) = Unit {0}
Refuses (refused r) = passes r ≡ false

either : {A : Type 0} (b : Bool) (x y : Read A) → Refuses x → Refuses y → Refuses (cond b x y)
either true x y p q = p
either false x y p q = q

after : {A B : Type 0} (x : Read A) (f : A → ℕ → Read B) → Refuses x → ((a : A) (at : ℕ) → Refuses (f a at)) → Refuses (next x f)
after (got a at) f p q = q a at
after (refused r) f p q = p

joins : (low : ℕ) (x : Read ℕ) → Refuses x → Refuses (joined low x)
joins low (got v at) p = tt
joins low (refused r) p = p

last : (several : Bool) (b at : ℕ) → Refuses (last_group several b at)
last several b at = either (several && eqb b 0) (refused (place 2 at)) (got b (at + 1)) refl tt

groups_refuse : (s : List ℕ) (k : ℕ) (several : Bool) (at : ℕ) → Refuses (groups s k several at)
unfolding groups
groups_refuse s zero several at =
    either (leb (length s) at) (refused (place 1 (length s))) _ refl (either (ltb (get_or s at 0) 128) (last_group several (get_or s at 0) at) _ (last several (get_or s at 0) at) refl)
groups_refuse s (suc k) several at =
    either (leb (length s) at) (refused (place 1 (length s))) _ refl
    (either (ltb (get_or s at 0) 128) (last_group several (get_or s at 0) at) _ (last several (get_or s at 0) at)
    (joins (get_or s at 0 - 128) (groups s k true (at + 1)) (groups_refuse s k true (at + 1))))

number_refuses : (s : List ℕ) (at : ℕ) → Refuses (sheet_number s at)
number_refuses s at = groups_refuse s 7 false at

field_refuses : (s : List ℕ) (f : Field) (r : Region) (at : ℕ) → Refuses (field_at s f r at)
unfolding field_at
field_refuses s f r at =
    either (has r.kind f) (next (sheet_number s at) (λ v then. got (with_value f v r) then)) (got r at)
    (after (sheet_number s at) (λ v then. got (with_value f v r) then) (number_refuses s at) (λ v then. tt)) tt

fields_refuse : (s : List ℕ) (fs : List Field) (r : Region) (at : ℕ) → Refuses (fields_from s fs r at)
unfolding fields_from
fields_refuse s [] r at = tt
fields_refuse s (f ∷ fs) r at = after (field_at s f r at) (λ known then. fields_from s fs known then) (field_refuses s f r at) (λ known then. fields_refuse s fs known then)

region_refuses : (s : List ℕ) (at : ℕ) → Refuses (sheet_region s at)
unfolding sheet_region
region_refuses s at =
    after (sheet_number s at) (λ k then. cond (kind_fault k) (refused (place 4 at)) (fields_from s sheet_fields (of_kind k) then)) (number_refuses s at)
    (λ k then. either (kind_fault k) (refused (place 4 at)) (fields_from s sheet_fields (of_kind k) then) refl (fields_refuse s sheet_fields (of_kind k) then))

regions_refuse : (s : List ℕ) (k n : ℕ) (m : RegionMap) (at : ℕ) → Refuses (regions_from s k n m at)
unfolding regions_from
regions_refuse s zero n m at = tt
regions_refuse s (suc k) n m at =
    after (sheet_region s at) (λ r then. regions_from s k (suc n) (with_region n r m) then) (region_refuses s at) (λ r then. regions_refuse s k (suc n) (with_region n r m) then)

pub number_not : (s : List ℕ) (at : ℕ) (r : Reply) → sheet_number s at ≡ refused r → passes r ≡ false
number_not s at r e = subst Refuses e (number_refuses s at)

pub regions_not : (s : List ℕ) (k n : ℕ) (m : RegionMap) (at : ℕ) (r : Reply) → regions_from s k n m at ≡ refused r → passes r ≡ false
regions_not s k n m at r e = subst Refuses e (regions_refuse s k n m at)
