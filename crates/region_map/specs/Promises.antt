-- What the functions inside the crate promise each other. No promise of an entry point cites these. Assumes nothing: these are definitions.
use Rattle.std.specs.Prelude.{◌≡◌, Bool, true, false, List, ℕ, suc, ◌+◌, ◌-◌, ◌≤◌, ◌<◌, ltb, length, drop, replicate}
use Rattle.map_records.specs.View.{no_range, range_of, entries}
use Rattle.map_records.specs.Words.{map_of, view_of}
use Rattle.map_check.specs.Clash.{priority_of}
use Rattle.map_check.specs.Promises.{Tree}
use Rattle.region_map.specs.Walk.{found, ranked, rank_answer, tried, walk_below, walk_root}
use Rattle.region_map.specs.Flatten.{flat_below}
use Rattle.region_map.specs.Pieces.{Pieces, WholeTable}
use Rattle.map_records.specs.Limits.{most_ranges, map_length, view_length}
use Rattle.map_records.specs.declared.map.RegionMap.{RegionMap}
use Rattle.map_records.specs.declared.view.FlatRange.{FlatRange}
use Rattle.map_records.specs.declared.view.FlatView.{FlatView}
use Rattle.std.specs.Prelude.{Option, Some, None, Result, is_err}
use Rattle.map_records.specs.declared.map.Found.{Found}
use Rattle.region_map.specs.declared.flat.TooManyRanges.{TooManyRanges}
use Rattle.region_map.specs.declared.pieces.PieceTable.{PieceTable}

-- The walk.

-- the walk at the children of n of the ranks below r and then at n, and at its child of rank r
abbrev pub tried_in : RegionMap → ℕ → ℕ → ℕ → Option Found
tried_in m n r a = tried priority_of m (walk_below priority_of m n) n r a

abbrev pub answer_in : RegionMap → ℕ → ℕ → ℕ → Option Found
answer_in m n r a = rank_answer priority_of m (walk_below priority_of m n) n r a

-- the first number past one that was found
abbrev pub past : Option ℕ → ℕ
past None = 0
past (Some k) = suc k

-- what the search for the next child finds: the highest rank below b of a child of n
pub record NextChild (m : RegionMap) (n b : ℕ) (r : Option ℕ) : Type 0 where
  pub within : past r ≤ b
  pub found : (k : ℕ) → r ≡ Some k → ranked priority_of m n k ≡ true
  pub above : (k : ℕ) → past r ≤ k → k < b → ranked priority_of m n k ≡ false

-- the same answer, d bytes on; what the laws of ranges call a run
abbrev pub shift : ℕ → Option Found → Option Found
shift d None = None
shift d (Some x) = found x.region (x.offset.0 + d)

-- The view.

-- words of a view that has room for its count
pub record Viewed (w : List ℕ) : Type 0 where
  pub words : length w ≡ view_length
  pub few : (view_of w).count ≤ most_ranges

-- 'no empty entry'
abbrev pub NoEmptyRange : FlatView → Type 0
NoEmptyRange v = (k : ℕ) → k < v.count → (range_of v k).first.0 ≤ (range_of v k).last.0

-- a view after ranges were put behind it, and whether it was full
pub record Pushed : Type 0 where
  pub full : Bool
  pub view : FlatView

-- p holds the list l, or says that it has no room
pub record Grew (l : List FlatRange) (p : Pushed) : Type 0 where
  pub full : p.full ≡ ltb most_ranges (length l)
  pub room : p.view.count ≤ most_ranges
  pub list : p.full ≡ false → entries p.view ≡ l

-- what stands behind the entries is zero
abbrev pub Blank : FlatView → Type 0
Blank v = drop v.count v.ranges ≡ replicate (most_ranges - v.count) no_range

-- the same of a view as words: from `before` to `after`
pub record Grows (l : List FlatRange) (before : List ℕ) (answer : Result Unit TooManyRanges) (after : List ℕ) : Type 0 where
  pub grew : Grew l (record { full = is_err answer; view = view_of after })
  pub blank : Blank (view_of before) → Blank (view_of after)
  pub words : length after ≡ view_length

-- a table that is whole from where the view of the same map ends
pub record Emits (map view : List ℕ) (table : PieceTable) : Type 0 where
  pub room : Viewed view
  pub pieces : Pieces table
  pub list : entries (view_of view) ≡ flat_below (map_of map) table.start.0
  pub whole : WholeTable (walk_root (map_of map)) table
