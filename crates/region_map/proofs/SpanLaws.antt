-- A span of answers, and the first of two that answers. Assumes nothing.
use mathlib.Core.Path.{◌≡◌, refl}
use mathlib.Core.Bool.{Bool, true, false, cond, ◌&&◌}
use Prim.Native.Nat.{ℕ, ◌+◌, ◌-◌, ◌≤◌, ◌<◌}
use lib.Dec.{leb, ltb}
use borrow.Author.Tests.{lt-ltb, le-ltb, le-leb, lt-leb}
use Rattle.region_map.specs.Walk.{or_else}
use Rattle.region_map.specs.Pieces.{in_span}
use Rattle.std.specs.Prelude.{Option, Some, None}
use Rattle.map_records.specs.declared.map.Found.{Found}

-- inside it, before it and past it
pub span_in : (f : ℕ → Option Found) (first offset end a : ℕ) → first ≤ a → a < end → in_span f first offset end a ≡ f (offset + (a - first))
unfolding in_span
span_in f first offset end a h k = rw (le-leb first a h, lt-ltb a end k)

pub span_before : (f : ℕ → Option Found) (first offset end a : ℕ) → a < first → in_span f first offset end a ≡ None
unfolding in_span
span_before f first offset end a h = rw (lt-leb first a h)

pub span_past : (f : ℕ → Option Found) (first offset end a : ℕ) → end ≤ a → in_span f first offset end a ≡ None
unfolding in_span
span_past f first offset end a h = go (leb first a)
  where
    go : (b : Bool) → cond (b && ltb a end) (f (offset + (a - first))) None ≡ None
    go true = rw (le-ltb a end h)
    go false = refl

pub or_nothing : (x : Option Found) → or_else x None ≡ x
or_nothing None = refl
or_nothing (Some v) = refl
