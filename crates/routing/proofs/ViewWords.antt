-- Laws of routing over a range that was read from a view's words. Assumes nothing.
use mathlib.Core.Path.{◌≡◌, sym, subst}
use mathlib.Core.Bool.{Bool, true, false, ◌&&◌, not}
use mathlib.Core.List.{List}
use Prim.Native.Nat.{ℕ, ◌+◌, ◌-◌, ◌≤◌, ◌<◌}
use native.Mathlib.Omega.{arith}
use lib.Dec.{eqb}
use Rattle.map_records.specs.View.{entries}
use Rattle.map_records.specs.View.{range_of}
use Rattle.map_records.specs.declared.view.FlatRange.{FlatRange}
use Rattle.device_words.specs.Table.{all_below}
use Rattle.map_records.specs.Words.{view_of}
use Rattle.guest_view.specs.Guest.{leaf_at}
use Rattle.map_records.specs.View.{offset_in}
use Rattle.guest_view.specs.Promises.{Judged, Spot}
use Rattle.guest_view.proofs.ReadLaws.{words_full}
use Rattle.routing.specs.Route.{refused, width_ok, routed}
use Rattle.routing.proofs.RouteLaws.{goes_on, byte_at, byte_in, bytes_in_lem, whole_answer, view_broken, view_whole}

module _ {words : List ℕ} (j : Judged words) {a at : ℕ} (s : Spot (view_of words) a at) (h : at < (view_of words).count) where
  -- the first byte
  pub first_in : goes_on (view_of words) a 0 ≡ true
  first_in = byte_in (view_of words) a at s h (words_full j) j.ordered 0 (omega (arith, s.high h))

  module _ {x : FlatRange} (e : x ≡ range_of (view_of words) at) where
    -- the bytes behind it in the range
    pub read_within : (w : ℕ) → 0 < w → w - 1 ≤ x.last.0 - a → all_below (goes_on (view_of words) a) w ≡ true
    read_within w p =
        subst (λ (r : FlatRange). w - 1 ≤ r.last.0 - a → all_below (goes_on (view_of words) a) w ≡ true) (sym e)
        (bytes_in_lem (view_of words) a at s h (words_full j) j.ordered w p)

    -- a byte in a range that was read too
    pub read_byte : (i k : ℕ) → Spot (view_of words) (a + i) k → k < (view_of words).count → (y : FlatRange) → y ≡ range_of (view_of words) k
        → goes_on (view_of words) a i
        ≡ (eqb y.region x.region && eqb (offset_in y (a + i)) (offset_in x a + i))
    read_byte i k t m y f = rw (e, f) (byte_at (view_of words) a at s h i k t m)

  -- the answer, from whether each byte goes on from the first
  module _ (plugged : ℕ → Bool) (w : ℕ) (width : width_ok w ≡ true) (r : Bool) (told : r ≡ all_below (goes_on (view_of words) a) w) where
    pub read_broken : not r ≡ true → refused 25 ≡ routed (leaf_at (entries (view_of words))) plugged a w
    read_broken off = sym (view_broken (view_of words) plugged a w at s h (words_full j) j.ordered width r told off)

    pub read_whole : not r ≡ false → {x : FlatRange} → x ≡ range_of (view_of words) at → {o : ℕ} → o ≡ offset_in x a
        → whole_answer plugged x o w ≡ routed (leaf_at (entries (view_of words))) plugged a w
    read_whole on e f = rw (f, e) (sym (view_whole (view_of words) plugged a w at s h (words_full j) j.ordered width r told on))
