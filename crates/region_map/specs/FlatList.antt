-- The flat list ('Runs'): made address by address, what it gives an address, and what a list of longest runs is. Here a run is a range. Assumes nothing: these are definitions.
use Rattle.std.specs.Prelude.{◌≡◌, Bool, false, cond, ◌&&◌, List, [], ◌∷◌, ℕ, zero, suc, ◌+◌, ◌≤◌, ◌<◌, leb, eqb}
use Rattle.std.specs.Prelude.{Option, Some, None}
use Rattle.map_records.specs.declared.map.Found.{Found}
use Rattle.map_records.specs.View.{offset_in}
use Rattle.region_map.specs.Walk.{found}
use Rattle.map_records.specs.declared.view.FlatRange.{FlatRange}
use Rattle.region_map.specs.declared.flat.Backing.{Backing}

-- a range of region k, from its offset o on, with the region's values
abbrev pub range_for : (ℕ → Backing) → ℕ → ℕ → ℕ → ℕ → FlatRange
range_for backing first last k o =
    record { first = record { 0 = first }; last = record { 0 = last }; region = k; offset = record { 0 = o }; kind = (backing k).kind; base = (backing k).base }

-- 'goes on while the next address answers the same node at the next offset': r starts right after x, with x's region at the next offset
unfoldable pub joins : FlatRange → FlatRange → Bool
joins x r =
    eqb r.first.0 (x.last.0 + 1)
    && (eqb r.region x.region && eqb (x.offset.0 + r.first.0) (r.offset.0 + x.first.0))

abbrev pub grown : FlatRange → FlatRange → FlatRange
grown x r = record { first = x.first; last = r.last; region = x.region; offset = x.offset; kind = x.kind; base = x.base }

-- r put behind the list x ∷ xs: the last range grows if the two join
unfoldable pub push_after : FlatRange → List FlatRange → FlatRange → List FlatRange
push_after x [] r = cond (joins x r) (grown x r ∷ []) (x ∷ r ∷ [])
push_after x (y ∷ ys) r = x ∷ push_after y ys r

unfoldable pub push : List FlatRange → FlatRange → List FlatRange
push [] r = r ∷ []
push (x ∷ xs) r = push_after x xs r

-- the addresses from first to last, which answer as one run, put behind a list
unfoldable pub extend : (ℕ → Backing) → List FlatRange → ℕ → ℕ → Option Found → List FlatRange
extend backing l first last None = l
extend backing l first last (Some x) = push l (range_for backing first last x.region x.offset.0)

-- the ranges of the answers f at the first n addresses, one address after the other
unfoldable pub flat : (ℕ → Backing) → (ℕ → Option Found) → ℕ → List FlatRange
flat backing f zero = []
flat backing f (suc n) = extend backing (flat backing f n) n n (f n)

unfoldable pub inside : FlatRange → ℕ → Bool
inside x a = leb x.first.0 a && leb a x.last.0

-- what a list gives an address: what the first range that holds it gives, and `none` where no range does
unfoldable pub list_gives : {A : Type 0} → A → (FlatRange → ℕ → A) → List FlatRange → ℕ → A
list_gives none gives [] a = none
list_gives none gives (x ∷ xs) a = cond (inside x a) (gives x a) (list_gives none gives xs a)

-- 'the entry's node at offset + a - first'
abbrev pub range_answer : FlatRange → ℕ → Option Found
range_answer x a = found x.region (offset_in x a)

-- 'A list gives an address a in an entry (first to last) the entry's node at offset + a - first, and any other address nothing'
abbrev pub lookup : List FlatRange → ℕ → Option Found
lookup = list_gives None range_answer

-- 'no empty entry', and one that 'carries these node values'
pub record ValuedEntry (backing : ℕ → Backing) (x : FlatRange) : Type 0 where
  pub order : x.first.0 ≤ x.last.0
  pub kind : x.kind ≡ (backing x.region).kind
  pub base : x.base ≡ (backing x.region).base

-- 'ascends without overlap', and 'no entry followed at last + 1 by the same node at the next offset'
pub record Follows (x y : FlatRange) : Type 0 where
  pub above : x.last.0 < y.first.0
  pub split : joins x y ≡ false

abbrev pub LongestFrom : (ℕ → Backing) → FlatRange → List FlatRange → Type 0
LongestFrom backing x [] = ValuedEntry backing x
LongestFrom backing x (y ∷ ys) = ValuedEntry backing x × Follows x y × LongestFrom backing y ys

-- 'A list of longest runs'
abbrev pub Longest : (ℕ → Backing) → List FlatRange → Type 0
Longest backing [] = Unit {0}
Longest backing (x ∷ xs) = LongestFrom backing x xs
