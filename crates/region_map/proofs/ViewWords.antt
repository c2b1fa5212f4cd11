-- The view as words while it is made: one range grown or put behind the others, and the words of a view that was made. Assumes nothing.
use mathlib.Core.Path.{◌≡◌, refl, sym, ap, subst, ◌∙◌}
use mathlib.Core.Bool.{true, false}
use mathlib.Core.List.{List, []}
use Prim.Native.Nat.{ℕ, ◌+◌, ◌-◌, ◌*◌, ◌≤◌, ◌<◌}
use native.Mathlib.Omega.{arith}
use lib.ListN.{length, set, get_or, replicate, length-set}
use lib.Seq.{sets, length-sets, get_or-take, length-take-le}
use Rattle.map_records.specs.View.{no_range, range_of, entries}
use Rattle.map_records.specs.Words.{view_of, range_words, view_words}
use Rattle.map_records.specs.Limits.{view_length}
use Rattle.map_records.specs.declared.view.FlatRange.{FlatRange}
use Rattle.map_records.specs.declared.view.FlatView.{FlatView}
use Rattle.map_records.proofs.WordLaws.{full_words, range_stored, count_stored, view_back, empty_words}
use borrow.Author.Tests.{eq-eqb, ne_eqb}
use Rattle.map_records.specs.declared.map.RegionMap.{RegionMap}
use Rattle.map_check.specs.Reply.{Reply, accepted, plain, passes}
use Rattle.map_check.specs.Check.{judged, Accepted}
use Rattle.region_map.specs.FlatList.{joins, grown, push, flat}
use Rattle.region_map.specs.Flatten.{view_holding, FlatOutcome, flat_refusal, listed, flat_list, flattened, view_laid, flattened_into}
use Rattle.region_map.specs.Promises.{Viewed, NoEmptyRange, Grew, Grows, Blank}
use Rattle.std.specs.Prelude.{Option, Result, Ok, Err, is_err}
use Rattle.map_records.specs.declared.map.Found.{Found}
use Rattle.region_map.specs.declared.flat.Backing.{Backing}
use Rattle.region_map.specs.declared.flat.TooManyRanges.{TooManyRanges}
use Rattle.region_map.proofs.FlatLaws.{flat_longest}
use Rattle.region_map.proofs.UniqueLaws.{entry_at}
use Rattle.map_check.proofs.Replies.{refused_first}
use Rattle.region_map.proofs.ViewLaws.{grew, added, refused, blank_grown, blank_added, whole_view}

-- words after which a view is v
laid : (l : List FlatRange) (w x : List ℕ) (answer : Result Unit TooManyRanges) (v : FlatView) → view_of x ≡ v → length x ≡ view_length → Grew l (record { full = is_err answer; view = v }) → (Blank (view_of w) → Blank v) → Grows l w answer x
laid l w x answer v e size g b =
    record {
      grew = subst (λ (u : FlatView). Grew l (record { full = is_err answer; view = u })) (sym e) g;
      blank = λ h. subst Blank (sym e) (b h);
      words = size;
    }

module _ (w : List ℕ) (r : FlatRange) (j : Viewed w) where
  pub grew_words : (k : ℕ) → 0 < (view_of w).count → k ≡ (view_of w).count - 1 → (x : FlatRange) → x ≡ range_of (view_of w) k → joins x r ≡ true
      → Grows (push (entries (view_of w)) r) w (Ok tt) (sets w (1 + 6 * k) (range_words (grown x r)))
  grew_words k some e x q h =
      let v = view_of w in
      let y = range_of (view_of w) ((view_of w).count - 1) in
      let z : x ≡ range_of (view_of w) ((view_of w).count - 1) = q ∙ ap (range_of (view_of w)) e in
      laid (push (entries (view_of w)) r) w (sets w (1 + 6 * k) (range_words (grown x r))) (Ok tt)
      (record { count = (view_of w).count; ranges = set (view_of w).ranges ((view_of w).count - 1) (grown (range_of (view_of w) ((view_of w).count - 1)) r) })
      (range_stored w j.words k (grown x r) (omega (arith, j.few)) ∙ (λ i. record { count = (view_of w).count; ranges = set (view_of w).ranges (e i) (grown (z i) r) }))
      (length-sets w (1 + 6 * k) (range_words (grown x r)) ∙ j.words)
      (grew (view_of w) r (full_words w) j.few some (subst (λ (u : FlatRange). joins u r ≡ true) z h))
      (blank_grown (view_of w) (grown (range_of (view_of w) ((view_of w).count - 1)) r) some)

  module _ (off : 0 < (view_of w).count → joins (range_of (view_of w) ((view_of w).count - 1)) r ≡ false) where
    pub added_words : (n : ℕ) → n ≡ (view_of w).count → n < 256 → Grows (push (entries (view_of w)) r) w (Ok tt) (set (sets w (1 + 6 * n) (range_words r)) 0 (n + 1))
    added_words n e h =
        let u = sets w (1 + 6 * n) (range_words r) in
        let size : length (sets w (1 + 6 * n) (range_words r)) ≡ view_length = length-sets w (1 + 6 * n) (range_words r) ∙ j.words in
        laid (push (entries (view_of w)) r) w (set (sets w (1 + 6 * n) (range_words r)) 0 (n + 1)) (Ok tt)
        (record { count = (view_of w).count + 1; ranges = set (view_of w).ranges (view_of w).count r })
        (count_stored u size (n + 1) ∙ (λ i. record { count = e i + 1; ranges = (ap (λ (v : FlatView). v.ranges) (range_stored w j.words n r h) ∙ ap (λ (k : ℕ). set (view_of w).ranges k r) e) i }))
        (length-set u 0 (n + 1) ∙ size)
        (added (view_of w) r (full_words w) j.few off (omega (arith, e)))
        (blank_added (view_of w) r)

    pub refused_words : (full : TooManyRanges) → (view_of w).count ≡ 256 → Grows (push (entries (view_of w)) r) w (Err full) w
    refused_words full e = laid (push (entries (view_of w)) r) w w (Err full) (view_of w) refl j.words (refused (view_of w) r (full_words w) j.few off e) (λ b. b)

-- a view whose list is made address by address has no empty range
pub filled_words : (w : List ℕ) → Viewed w → (backing : ℕ → Backing) (f : ℕ → Option Found) (n : ℕ) → entries (view_of w) ≡ flat backing f n → NoEmptyRange (view_of w)
filled_words w j backing f n e k h =
    let l = flat backing f n in
    let same : range_of (view_of w) k ≡ get_or (flat backing f n) k no_range =
    sym (get_or-take (view_of w).count (view_of w).ranges k no_range h) ∙ ap (λ (x : List FlatRange). get_or x k no_range) e in
    let low : k < length (flat backing f n) = omega (arith, ap length e, length-take-le (view_of w).count (view_of w).ranges (omega (arith, j.few, full_words w))) in
    subst (λ (r : FlatRange). r.first.0 ≤ r.last.0) (sym same) (entry_at backing (flat backing f n) k (flat_longest backing f n) low).order

-- ---- an empty view, and the words of one that holds a list
pub none_yet : view_of (replicate view_length 0) ≡ view_holding []
unfolding view_holding
none_yet = empty_words

pub none_blank : Blank (view_of (replicate view_length 0))
none_blank = rw empty_words

made_words : (l : List FlatRange) (before w : List ℕ) → Blank (view_of before) → Grows l before (Ok tt) w → w ≡ view_words (view_holding l)
made_words l before w b g =
    sym (view_back w g.words)
    ∙ ap view_words (whole_view (view_of w) l (omega (arith, full_words w, g.grew.room)) (g.grew.list refl) (g.blank b))

-- ---- the complete answer and the lent words, from what the sweep says
module _ (m : RegionMap) (memory : ℕ) (view : List ℕ) where
  pub into_other : (length view ≡ view_length → ⊥) → flattened_into m memory view ≡ record { reply = plain 27; words = view }
  unfolding flattened_into
  into_other h = rw (ne_eqb (length view) view_length h)

  module _ (size : length view ≡ view_length) where
    into_view : (o : FlatOutcome) → flattened m memory ≡ o → flattened_into m memory view ≡ view_laid o view
    unfolding flattened_into
    into_view o e = rw (eq-eqb (length view) view_length size, e)

    listing : Accepted m memory → flattened m memory ≡ listed (flat_list m)
    unfolding flattened Accepted
    listing ok = rw ok

    pub into_full : Accepted m memory → {before w : List ℕ} {full : TooManyRanges} → Grows (flat_list m) before (Err full) w → flattened_into m memory view ≡ record { reply = plain 12; words = view }
    unfolding listed
    into_full ok g = into_view (listed (flat_list m)) (listing ok) ∙ rw (sym g.grew.full)

    pub into_made : Accepted m memory → (before w : List ℕ) → Blank (view_of before) → Grows (flat_list m) before (Ok tt) w
        → flattened_into m memory view ≡ record { reply = accepted; words = w }
    unfolding listed
    into_made ok before w b g =
        into_view (listed (flat_list m)) (listing ok) ∙ rw (sym g.grew.full) (λ i. record { reply = accepted; words = sym (made_words (flat_list m) before w b g) i })

    refused_words_kept : (r : Reply) → passes r ≡ false → view_laid (flat_refusal r) view ≡ record { reply = r; words = view }
    refused_words_kept r p = rw p

    pub into_refused : (r : Reply) → r ≡ judged m memory → passes r ≡ false → flattened_into m memory view ≡ record { reply = r; words = view }
    unfolding flattened
    into_refused r e p = into_view (flat_refusal r) (sym (refused_first flat_refusal (listed (flat_list m)) r (judged m memory) e p)) ∙ refused_words_kept r p
