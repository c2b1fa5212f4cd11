-- Laws of a map and of a view as words: what stands for their counts, regions and ranges, words of another number, one region or range stored, and the words back. Assumes nothing.
use mathlib.Core.Path.{◌≡◌, refl, sym, ap, ◌∙◌}
use mathlib.Core.Logic.{⊎_elim}
use mathlib.Core.List.{List, [], ◌∷◌, append-nil}
use Prim.Native.Nat.{ℕ, zero, suc, ◌+◌, ◌*◌, ◌≤◌, ◌<◌}
use native.Mathlib.Nat.{add-zero}
use native.Mathlib.Omega.{arith}
use lib.ListN.{length, set, get_or, replicate, length-replicate, length-set, drop_of_length-le, get_or-eq_default}
use lib.Seq.{sets, drop-cons, length-sets, get_or-set_same, get_or-set_other}
use borrow.Author.Tests.{eq-eqb, ne_eqb}
use Rattle.map_records.specs.Map.{no_region, region, blank_map}
use Rattle.map_records.specs.View.{no_range, range_of}
use Rattle.map_records.specs.Words.{each_at, each_words, region_at, map_of, region_words, map_words, range_at, no_view, view_of, range_words, view_words}
use Rattle.map_records.specs.Limits.{map_length, view_length}
use Rattle.map_records.specs.declared.map.Region.{Region}
use Rattle.map_records.specs.declared.map.RegionMap.{RegionMap}
use Rattle.map_records.specs.declared.view.FlatRange.{FlatRange}
use Rattle.map_records.specs.declared.view.FlatView.{FlatView}
use Rattle.map_records.proofs.StoreLaws.{sets_below}
use Rattle.map_records.proofs.Order.{eq_or_not}
use Rattle.map_records.proofs.GroupLaws.{Grouped, groups_length, group_at, puts_length, stored_group, reads_same, reads_blank, words_back, counted_injective}

-- ---- the words read one by one
abbrev listed : List ℕ → ℕ → ℕ → ℕ → List ℕ
listed w at j zero = []
listed w at j (suc n) = get_or w (at + j) 0 ∷ listed w at (suc j) n

listed_at : (w : List ℕ) (at j n i : ℕ) → i < n → get_or (listed w at j n) i 0 ≡ get_or w (at + (j + i)) 0
listed_at w at j zero i h = absurd (omega arith)
listed_at w at j (suc n) zero h = let e : at + j ≡ at + (j + 0) = omega arith in ap (λ (k : ℕ). get_or w k 0) e
listed_at w at j (suc n) (suc i) h =
    let e : at + (suc j + i) ≡ at + (j + suc i) = omega arith in
    listed_at w at (suc j) n i (omega arith) ∙ ap (λ (k : ℕ). get_or w k 0) e

first_word : (w : List ℕ) (at : ℕ) → get_or w at 0 ≡ get_or w (at + 0) 0
first_word w at = ap (λ (k : ℕ). get_or w k 0) (sym (add-zero at))

word_at : (w : List ℕ) (at n j : ℕ) → j < suc n → get_or (get_or w at 0 ∷ listed w at 1 n) j 0 ≡ get_or w (at + j) 0
word_at w at n zero h = first_word w at
word_at w at n (suc j) h = listed_at w at 1 n j (omega arith) ∙ ap (λ (k : ℕ). get_or w k 0) (let e : at + (1 + j) ≡ at + suc j = omega arith in e)

-- ---- regions are groups of nine words, ranges of six
region_back : (w : List ℕ) (at : ℕ) (x : Region) → ((j : ℕ) → j < 9 → get_or w (at + j) 0 ≡ get_or (region_words x) j 0) → region_at w at ≡ x
region_back w at x h = λ i.
    record {
      kind = (first_word w at ∙ h 0 (omega arith)) i;
      parent = h 1 (omega arith) i;
      offset = h 2 (omega arith) i;
      size = h 3 (omega arith) i;
      priority = h 4 (omega arith) i;
      memory_start = h 5 (omega arith) i;
      port = h 6 (omega arith) i;
      target = h 7 (omega arith) i;
      alias_offset = h 8 (omega arith) i;
    }

pub regions_grouped : Grouped region_at region_words 9
regions_grouped = record { size = λ x. refl; each = λ w at j h. word_at w at 8 j h; back = region_back }

range_back : (w : List ℕ) (at : ℕ) (x : FlatRange) → ((j : ℕ) → j < 6 → get_or w (at + j) 0 ≡ get_or (range_words x) j 0) → range_at w at ≡ x
range_back w at x h = λ i.
    record {
      first = record { 0 = (first_word w at ∙ h 0 (omega arith)) i };
      last = record { 0 = h 1 (omega arith) i };
      region = h 2 (omega arith) i;
      offset = record { 0 = h 3 (omega arith) i };
      kind = h 4 (omega arith) i;
      base = h 5 (omega arith) i;
    }

pub ranges_grouped : Grouped range_at range_words 6
ranges_grouped = record { size = λ x. refl; each = λ w at j h. word_at w at 5 j h; back = range_back }

-- ---- the map that 289 words stand for, and words of another number
module _ (w : List ℕ) (size : length w ≡ map_length) where
  map_words_lem : map_of w ≡ record { count = get_or w 0 0; regions = each_at region_at 9 w 1 32 }
  unfolding map_of
  map_words_lem = rw (eq-eqb (length w) map_length size)

  pub region_count_words : (map_of w).count ≡ get_or w 0 0
  region_count_words = ap (λ (m : RegionMap). m.count) map_words_lem

  pub region_words_lem : (k : ℕ) → k < 32 → region (map_of w) k ≡ region_at w (1 + 9 * k)
  region_words_lem k h = ap (λ (m : RegionMap). region m k) map_words_lem ∙ group_at regions_grouped w 1 32 k no_region h

  pub region_past : (k : ℕ) → 32 ≤ k → region (map_of w) k ≡ no_region
  region_past k h =
      ap (λ (m : RegionMap). region m k) map_words_lem
      ∙ get_or-eq_default (each_at region_at 9 w 1 32) no_region {n = k} (omega (arith, groups_length regions_grouped w 1 32))

  -- the words of the map are the words that stand for it
  pub map_back : map_words (map_of w) ≡ w
  unfolding map_words
  map_back =
      ap map_words map_words_lem
      ∙ sym (drop-cons w 0 0 (omega arith)
      ∙ ap (λ (l : List ℕ). get_or w 0 0 ∷ l)
      (words_back regions_grouped w 1 32 (omega arith) ∙ rw (drop_of_length-le w {i = map_length} (omega arith)) (append-nil (each_words region_words (each_at region_at 9 w 1 32)))))

pub map_other : (w : List ℕ) → (length w ≡ map_length → ⊥) → map_of w ≡ blank_map 0
unfolding map_of
map_other w other = rw (ne_eqb (length w) map_length other)

-- ---- the view that 1,537 words stand for, and words of another number
module _ (w : List ℕ) (size : length w ≡ view_length) where
  view_words_lem : view_of w ≡ record { count = get_or w 0 0; ranges = each_at range_at 6 w 1 256 }
  unfolding view_of
  view_words_lem = rw (eq-eqb (length w) view_length size)

  pub count_words : (view_of w).count ≡ get_or w 0 0
  count_words = ap (λ (v : FlatView). v.count) view_words_lem

  pub range_words_lem : (k : ℕ) → k < 256 → range_of (view_of w) k ≡ range_at w (1 + 6 * k)
  range_words_lem k h = ap (λ (v : FlatView). range_of v k) view_words_lem ∙ group_at ranges_grouped w 1 256 k no_range h

  pub view_back : view_words (view_of w) ≡ w
  unfolding view_words
  view_back =
      ap view_words view_words_lem
      ∙ sym (drop-cons w 0 0 (omega arith)
      ∙ ap (λ (l : List ℕ). get_or w 0 0 ∷ l)
      (words_back ranges_grouped w 1 256 (omega arith) ∙ rw (drop_of_length-le w {i = view_length} (omega arith)) (append-nil (each_words range_words (each_at range_at 6 w 1 256)))))

pub view_other : (w : List ℕ) → (length w ≡ view_length → ⊥) → view_of w ≡ no_view
unfolding view_of
view_other w other = rw (ne_eqb (length w) view_length other)

pub full_words : (w : List ℕ) → length (view_of w).ranges ≡ 256
full_words w =
    ⊎_elim (λ e. ap (λ (v : FlatView). length v.ranges) (view_words_lem w e) ∙ groups_length ranges_grouped w 1 256)
    (λ ne. ap (λ (v : FlatView). length v.ranges) (view_other w ne) ∙ length-replicate 256 no_range) (eq_or_not (length w) view_length)

-- ---- one region or range stored, or the count
module _ (w : List ℕ) (size : length w ≡ map_length) where
  pub region_stored : (i : ℕ) (x : Region) → i < 32 → map_of (sets w (1 + 9 * i) (region_words x)) ≡ record { count = (map_of w).count; regions = set (map_of w).regions i x }
  region_stored i x h =
      map_words_lem (sets w (1 + 9 * i) (region_words x)) (length-sets w (1 + 9 * i) (region_words x) ∙ size)
      ∙ (λ j. record { count = (sets_below w (1 + 9 * i) (region_words x) 0 (omega arith) ∙ sym (region_count_words w size)) j; regions = (stored_group regions_grouped w 1 32 i x h (omega arith) ∙ ap (λ (m : RegionMap). set m.regions i x) (sym (map_words_lem w size))) j })

module _ (w : List ℕ) (size : length w ≡ view_length) where
  pub range_stored : (i : ℕ) (x : FlatRange) → i < 256 → view_of (sets w (1 + 6 * i) (range_words x)) ≡ record { count = (view_of w).count; ranges = set (view_of w).ranges i x }
  range_stored i x h =
      view_words_lem (sets w (1 + 6 * i) (range_words x)) (length-sets w (1 + 6 * i) (range_words x) ∙ size)
      ∙ (λ j. record { count = (sets_below w (1 + 6 * i) (range_words x) 0 (omega arith) ∙ sym (count_words w size)) j; ranges = (stored_group ranges_grouped w 1 256 i x h (omega arith) ∙ ap (λ (v : FlatView). set v.ranges i x) (sym (view_words_lem w size))) j })

-- ---- a count stored
behind_first : (w : List ℕ) (n j : ℕ) → 1 ≤ j → get_or (set w 0 n) j 0 ≡ get_or w j 0
behind_first w n j h = get_or-set_other w 0 j n 0 (λ e. omega arith)

pub region_count_stored : (w : List ℕ) → length w ≡ map_length → (n : ℕ) → map_of (set w 0 n) ≡ record { count = n; regions = (map_of w).regions }
region_count_stored w size n =
    map_words_lem (set w 0 n) (length-set w 0 n ∙ size)
    ∙ (λ j. record { count = get_or-set_same w 0 n 0 (omega arith) j; regions = (reads_same regions_grouped (set w 0 n) w 1 32 (behind_first w n) ∙ ap (λ (m : RegionMap). m.regions) (sym (map_words_lem w size))) j })

pub count_stored : (w : List ℕ) → length w ≡ view_length → (n : ℕ) → view_of (set w 0 n) ≡ record { count = n; ranges = (view_of w).ranges }
count_stored w size n =
    view_words_lem (set w 0 n) (length-set w 0 n ∙ size)
    ∙ (λ j. record { count = get_or-set_same w 0 n 0 (omega arith) j; ranges = (reads_same ranges_grouped (set w 0 n) w 1 256 (behind_first w n) ∙ ap (λ (v : FlatView). v.ranges) (sym (view_words_lem w size))) j })

-- ---- words that are all zero
zero_words : (n j : ℕ) → get_or (replicate {A = ℕ} n 0) j 0 ≡ 0
zero_words zero j = refl
zero_words (suc n) zero = refl
zero_words (suc n) (suc j) = zero_words n j

blank_range : (j : ℕ) → j < 6 → get_or (range_words no_range) j 0 ≡ 0
blank_range j h = zero_words 6 j

blank_region : (j : ℕ) → j < 9 → get_or (region_words no_region) j 0 ≡ 0
blank_region j h = zero_words 9 j

pub empty_words : view_of (replicate view_length 0) ≡ record { count = 0; ranges = replicate 256 no_range }
empty_words =
    view_words_lem (replicate view_length 0) (length-replicate {A = ℕ} view_length 0)
    ∙ (λ j. record { count = zero_words view_length 0 j; ranges = reads_blank ranges_grouped (replicate view_length 0) 1 256 no_range blank_range (zero_words view_length) j })

pub empty_map_words : map_of (replicate map_length 0) ≡ blank_map 0
empty_map_words =
    map_words_lem (replicate map_length 0) (length-replicate {A = ℕ} map_length 0)
    ∙ (λ j. record { count = zero_words map_length 0 j; regions = reads_blank regions_grouped (replicate map_length 0) 1 32 no_region blank_region (zero_words map_length) j })

-- ---- words fix the map or view that they are of
pub map_words_injective : (m n : RegionMap) → map_words m ≡ map_words n → m ≡ n
unfolding map_words
map_words_injective m n e =
    let same = counted_injective regions_grouped (omega arith) _ _ _ _ e in
    λ i. record { count = same.0 i; regions = same.1 i }

pub view_words_injective : (u v : FlatView) → view_words u ≡ view_words v → u ≡ v
unfolding view_words
view_words_injective u v e =
    let same = counted_injective ranges_grouped (omega arith) _ _ _ _ e in
    λ i. record { count = same.0 i; ranges = same.1 i }

-- the words of a map of 32 entries, and of a view of 256, stand for it
pub words_map : (m : RegionMap) → length m.regions ≡ 32 → map_of (map_words m) ≡ m
unfolding map_words
words_map m h =
    let size : length (map_words m) ≡ map_length = omega (arith, puts_length regions_grouped m.regions) in
    map_words_injective (map_of (map_words m)) m (map_back (map_words m) size)

pub words_view : (v : FlatView) → length v.ranges ≡ 256 → view_of (view_words v) ≡ v
unfolding view_words
words_view v h =
    let size : length (view_words v) ≡ view_length = omega (arith, puts_length ranges_grouped v.ranges) in
    view_words_injective (view_of (view_words v)) v (view_back (view_words v) size)
