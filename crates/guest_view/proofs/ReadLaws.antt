-- What a range that was read from a view's words says of an address to which a search led. Assumes nothing.
use mathlib.Core.Path.{◌≡◌, sym, ap, ◌∙◌, subst}
use mathlib.Core.Bool.{true}
use mathlib.Core.List.{List}
use mathlib.Core.Logic.{⊎_elim}
use Prim.Native.Nat.{ℕ, ◌+◌, ◌-◌, ◌^◌, ◌≤◌, ◌<◌}
use native.Mathlib.Nat.{add-zero}
use native.Mathlib.Omega.{arith}
use lib.ListN.{length}
use Rattle.map_records.specs.Map.{has_memory}
use Rattle.map_records.specs.View.{entries}
use Rattle.map_records.specs.View.{range_of}
use Rattle.map_records.specs.declared.view.FlatRange.{FlatRange}
use Rattle.map_records.specs.declared.view.FlatView.{FlatView}
use Rattle.map_check.proofs.Bools.{never}
use Rattle.map_records.proofs.Order.{side}
use Rattle.guest_view.specs.Guest.{leaf_at, place_leaf, place_of}
use Rattle.map_records.specs.View.{offset_in}
use Rattle.map_records.specs.Words.{view_of}
use Rattle.guest_view.specs.Promises.{memory_leaf, Judged, InMemory, Spot, Runs, place_in}
use Rattle.guest_view.proofs.FindLaws.{at_range}
use Rattle.map_records.proofs.WordLaws.{full_words}

pub words_full : {words : List ℕ} → Judged words → (view_of words).count ≤ length (view_of words).ranges
words_full {words} j = omega (arith, full_words words, j.ordered.few)

-- a byte that lies in the memory
first_byte : (v : FlatView) (a : ℕ) → InMemory v a 1 → memory_leaf (leaf_at (entries v) a) ≡ true
first_byte v a m = ap (λ (x : ℕ). memory_leaf (leaf_at (entries v) x)) (sym (add-zero a)) ∙ m.each 0 (omega arith)

pub memory_found : (v : FlatView) (a k : ℕ) → Spot v a k → InMemory v a 1 → k < v.count
memory_found v a k s m =
    ⊎_elim (λ lt. lt) (λ ge. absurd (never (sym (first_byte v a m) ∙ ap memory_leaf (s.missed ge)))) (side k v.count)

module _ {words : List ℕ} (j : Judged words) {a at : ℕ} (s : Spot (view_of words) a at) (h : at < (view_of words).count) where
  pub spot_in : at < 256
  spot_in = omega (arith, j.ordered.few)

  module _ {x : FlatRange} (e : x ≡ range_of (view_of words) at) where
    pub read_low : x.first.0 ≤ a
    read_low = subst (λ (r : FlatRange). r.first.0 ≤ a) (sym e) (s.low h)

    pub read_high : a ≤ x.last.0
    read_high = subst (λ (r : FlatRange). a ≤ r.last.0) (sym e) (s.high h)

    pub read_last : x.last.0 < 2 ^ 48
    read_last = subst (λ (r : FlatRange). r.last.0 < 2 ^ 48) (sym e) (j.ordered.last at h)

    -- the offset there, and at the range's end
    pub read_offset : offset_in x a < 2 ^ 48
    read_offset = subst (λ (r : FlatRange). offset_in r a < 2 ^ 48) (sym e) (omega (arith, j.ordered.offset at h, s.low h, s.high h))

    pub read_end : offset_in x a + (x.last.0 - a) < 2 ^ 48
    read_end =
        subst (λ (r : FlatRange). offset_in r a + (r.last.0 - a) < 2 ^ 48) (sym e) (omega (arith, j.ordered.offset at h, s.low h, s.high h))

    -- the memory place
    pub read_place : has_memory x.kind ≡ true → place_of x.base (offset_in x a) < 2 ^ 64
    read_place =
        subst (λ (r : FlatRange). has_memory r.kind ≡ true → place_of r.base (offset_in r a) < 2 ^ 64) (sym e)
        (λ k. omega (arith, j.ordered.place at h k, s.low h, s.high h))

    pub read_room : InMemory (view_of words) a 1 → place_of x.base (offset_in x a) < 2 ^ 64
    read_room m = read_place (ap (λ (r : FlatRange). has_memory r.kind) e ∙ sym (ap memory_leaf (s.found h)) ∙ first_byte (view_of words) a m)

    read_is : place_of x.base (offset_in x a) ≡ place_in (view_of words) a
    read_is = subst (λ (r : FlatRange). place_of r.base (offset_in r a) ≡ place_in (view_of words) a) (sym e) (sym (ap place_leaf (s.found h)))

    -- the bytes from it on, to the end of the range
    pub read_runs : (p : ℕ) → p ≡ place_of x.base (offset_in x a) → Runs (view_of words) a p (x.last.0 - a)
    read_runs p f =
        record {
          each = λ i b.
              let low = s.low h in
              let high = s.high h in
              let first = ap (λ (r : FlatRange). r.first.0) e in
              let last = ap (λ (r : FlatRange). r.last.0) e in
              let offset = ap (λ (r : FlatRange). r.offset.0) e in
              let base = ap (λ (r : FlatRange). r.base) e in
              omega (arith, f, read_is, ap place_leaf (at_range (view_of words) (words_full j) j.ordered at (a + i) h (omega arith) (omega arith)));
        }
