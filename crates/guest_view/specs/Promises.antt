-- What the functions inside the crate, and inner functions over it, promise each other. Assumes nothing: these are definitions.
use Rattle.std.specs.Prelude.{◌≡◌, Bool, true, false, List, map, Option, None, Some, ℕ, ◌+◌, ◌-◌, ◌^◌, ◌≤◌, ◌<◌, length, get_or}
use Rattle.map_records.specs.Map.{has_memory}
use Rattle.map_records.specs.View.{entries, range_of, last_offset}
use Rattle.map_records.specs.Limits.{limit, most_regions, most_ranges, view_length}
use Rattle.map_records.specs.declared.view.FlatView.{FlatView}
use Rattle.guest_view.specs.Guest.{Leaf, nowhere, leaf, leaf_in, leaf_at, reach_kind, place_leaf, view_guest, addresses, byte_at, number_at}
use Rattle.guest_view.specs.View.{agree}
use Rattle.map_records.specs.Words.{view_of}

abbrev pub memory_leaf : Leaf → Bool
memory_leaf nowhere = false
memory_leaf (leaf n kind base o) = has_memory kind

-- a view that ascends without overlap, with no empty range and no sum that wraps
pub record Ordered (v : FlatView) : Type 0 where
  pub few : v.count ≤ most_ranges
  pub order : (k : ℕ) → k < v.count → (range_of v k).first.0 ≤ (range_of v k).last.0
  pub apart : (j k : ℕ) → j < k → k < v.count → (range_of v j).last.0 < (range_of v k).first.0
  pub last : (k : ℕ) → k < v.count → (range_of v k).last.0 < limit
  pub offset : (k : ℕ) → k < v.count → last_offset (range_of v k) < limit
  pub place : (k : ℕ) → k < v.count → has_memory (range_of v k).kind ≡ true → (range_of v k).base + last_offset (range_of v k) < 2 ^ 64
  pub kinds : (j k : ℕ) → j < v.count → k < v.count → (range_of v j).region ≡ (range_of v k).region → (range_of v j).kind ≡ (range_of v k).kind

-- the words of such a view
pub record Judged (w : List ℕ) : Type 0 where
  pub words : length w ≡ view_length
  pub ordered : Ordered (view_of w)

-- each range of such a kind lies in a memory of this length
pub record Backed (v : FlatView) (memory : ℕ) : Type 0 where
  pub room : (k : ℕ) → k < v.count → has_memory (range_of v k).kind ≡ true → (range_of v k).base + last_offset (range_of v k) < memory

-- what a search for an address gives: the number of the range that holds it, or the count
pub record Spot (v : FlatView) (a r : ℕ) : Type 0 where
  pub bound : r ≤ v.count
  pub low : r < v.count → (range_of v r).first.0 ≤ a
  pub high : r < v.count → a ≤ (range_of v r).last.0
  pub found : r < v.count → leaf_at (entries v) a ≡ leaf_in (range_of v r) a
  pub missed : v.count ≤ r → leaf_at (entries v) a ≡ nowhere

-- each of the n bytes from a on lies in the memory
pub record InMemory (v : FlatView) (a n : ℕ) : Type 0 where
  pub each : (i : ℕ) → i < n → memory_leaf (leaf_at (entries v) (a + i)) ≡ true

abbrev pub place_in : FlatView → ℕ → ℕ
place_in v a = place_leaf (leaf_at (entries v) a)

-- what is read through a view's words from an address on: the number of k bytes, n bytes, and the places of n bytes
abbrev pub number_in : List ℕ → List ℕ → ℕ → ℕ → ℕ
number_in view memory a k = number_at (place_in (view_of view)) memory a k

abbrev pub bytes_in : List ℕ → List ℕ → ℕ → ℕ → List ℕ
bytes_in view memory a n = map (byte_at (place_in (view_of view)) memory) (addresses a n)

abbrev pub places_in : List ℕ → ℕ → ℕ → List ℕ
places_in view a n = map (place_in (view_of view)) (addresses a n)

-- a closure makes g of each place at which it may be called
abbrev pub Makes : {F T : Type 0} → (F → ℕ → Type 0) → (F → ℕ → T → Type 0) → F → (ℕ → T) → Type 0
Makes {F} {T} pre post f g = (p : ℕ) (x : T) → pre f p → post f p x → x ≡ g p

-- bytes side by side in the memory: that at an address, and as many after it as `left` says
pub record Runs (v : FlatView) (a place left : ℕ) : Type 0 where
  pub each : (i : ℕ) → i ≤ left → place_in v (a + i) ≡ place + i

-- the addresses that a view's words, a block size and a plug table make reachable
abbrev pub reach_in : List ℕ → ℕ → List ℕ → ℕ → Bool
reach_in view block plugged = (view_guest (view_of view) block plugged).reach

-- how far bytes are reachable from an address on
abbrev pub Reaches : (ℕ → Bool) → ℕ → Option ℕ → Type 0
Reaches reach a None = reach a ≡ false
Reaches reach a (Some m) = (e : ℕ) → e ≤ m → reach (a + e) ≡ true

-- the same of the bytes of a node of a kind from an offset on, s more bytes following it
abbrev pub Extends : (ℕ → Bool) → ℕ → ℕ → ℕ → Option ℕ → Type 0
Extends plugged kind o s None = reach_kind plugged kind o ≡ false
Extends plugged kind o s (Some m) = (m ≤ s) × ((e : ℕ) → e ≤ m → reach_kind plugged kind (o + e) ≡ true)

-- Judging a view: what is kept of the k entries seen for region n is 1 + the first whose region is n, and 0 where there is none.
pub record Owner (v : FlatView) (k n first : ℕ) : Type 0 where
  pub none : first ≡ 0 → (j : ℕ) → j < k → (range_of v j).region ≡ n → ⊥
  pub known : 0 < first → first ≤ k
  pub same : 0 < first → (range_of v (first - 1)).region ≡ n
  pub values : 0 < first → (j : ℕ) → j < k → agree (range_of v j) (range_of v (first - 1)) ≡ true

pub record Owners (v : FlatView) (k : ℕ) (owner : List ℕ) : Type 0 where
  pub each : (n : ℕ) → n < most_regions → Owner v k n (get_or owner n 0)

-- the ranges before k ascend, and none is empty
pub record Ascends (v : FlatView) (k : ℕ) : Type 0 where
  pub apart : (i j : ℕ) → i < j → j < k → (range_of v i).last.0 < (range_of v j).first.0
  pub order : (j : ℕ) → j < k → (range_of v j).first.0 ≤ (range_of v j).last.0

-- the places lie in a memory of this length
pub record Within (places : List ℕ) (memory : ℕ) : Type 0 where
  pub each : (i : ℕ) → i < length places → get_or places i 0 < memory
