-- Laws of the groups of one number, and of what is read of it so far. Assumes nothing.
use mathlib.Core.Path.{◌≡◌, refl, sym, ap, ◌∙◌}
use mathlib.Core.Bool.{Bool, true, false}
use mathlib.Core.List.{List}
use Prim.Native.Nat.{ℕ, zero, suc, ◌+◌, ◌-◌, ◌*◌, ◌^◌, ◌≤◌, ◌<◌}
use native.Mathlib.Omega.{arith}
use native.Mathlib.Nat.{mul-le-mul_right}
use lib.Dec.{ltb}
use lib.ListN.{length, get_or}
use lib.Pow.{pow_mono, pow-add}
use borrow.Author.Tests.{lt-ltb, le-ltb, le-leb, lt-leb, eq-eqb, ne_eqb}
use mathlib.Core.Logic.{◌⊎◌, inl, inr}
use Rattle.std.specs.List.{slice_range}
use Rattle.std.proofs.lemmas.List.{get_or-drop}
use Rattle.std.proofs.lemmas.Slice.{between_to_end}
use Rattle.map_check.specs.Reply.{place}
use Rattle.sheet.specs.Answer.{Read, got, refused}
use Rattle.sheet.specs.Number.{joined, last_group, groups, sheet_number}

-- `value` from the groups read, and `scale` for the next
abbrev pub shifted : ℕ → ℕ → Read ℕ → Read ℕ
shifted value scale (got v at) = got (value + v * scale) at
shifted value scale (refused r) = refused r

pub shifted_none : (g : Read ℕ) → shifted 0 1 g ≡ g
shifted_none (got v at) = ap (λ (x : ℕ). got x at) (omega arith)
shifted_none (refused r) = refl

pub shifted_more : (value scale low : ℕ) (g : Read ℕ) → shifted (value + low * scale) (scale * 128) g ≡ shifted value scale (joined low g)
shifted_more value scale low (got v at) = ap (λ (x : ℕ). got x at) (omega arith)
shifted_more value scale low (refused r) = refl

-- one group, where k may follow it
module _ (s : List ℕ) (at : ℕ) (several : Bool) where
  short : (k : ℕ) → length s ≤ at → groups s k several at ≡ refused (place 1 (length s))
  unfolding groups
  short zero h = rw (le-leb (length s) at h)
  short (suc k) h = rw (le-leb (length s) at h)

  last : (k : ℕ) → at < length s → get_or s at 0 < 128 → groups s k several at ≡ last_group several (get_or s at 0) at
  unfolding groups
  last zero i h = rw (lt-leb (length s) at i, lt-ltb (get_or s at 0) 128 h)
  last (suc k) i h = rw (lt-leb (length s) at i, lt-ltb (get_or s at 0) 128 h)

  eighth : at < length s → 128 ≤ get_or s at 0 → groups s 0 several at ≡ refused (place 2 at)
  unfolding groups
  eighth i h = rw (lt-leb (length s) at i, le-ltb (get_or s at 0) 128 h)

  more : (k : ℕ) → at < length s → 128 ≤ get_or s at 0 → groups s (suc k) several at ≡ joined (get_or s at 0 - 128) (groups s k true (at + 1))
  unfolding groups
  more k i h = rw (lt-leb (length s) at i, le-ltb (get_or s at 0) 128 h)

-- the loop's state at group i of the number at a place: the bytes that are left give what is left of it
pub record Reading (s : List ℕ) (start value scale i : ℕ) : Type 0 where
  pub most : i ≤ 7
  pub power : scale ≡ 2 ^ (7 * i)
  pub small : value < scale
  pub rest : shifted value scale (groups s (7 - i) (ltb 0 i) (start + i)) ≡ sheet_number s start

pub started : (s : List ℕ) (start : ℕ) → Reading s start 0 1 0
started s start =
    record {
      most = omega arith;
      power = refl;
      small = omega arith;
      rest = shifted_none (groups s 7 false (start + 0)) ∙ ap (groups s 7 false) (omega arith);
    }

module _ (s : List ℕ) (start value scale i : ℕ) (r : Reading s start value scale i) where
  -- the largest scale, and a group at it
  pub scale_bound : scale ≤ 2 ^ 49
  scale_bound = rw r.power (pow_mono {i = 7 * i} {j = 49} (omega (arith, r.most)))

  pub group_bound : (b : ℕ) → b < 128 → b * scale ≤ 127 * scale
  group_bound b h = mul-le-mul_right scale (omega arith)

  pub at_end : length s ≤ start + i → refused (place 1 (length s)) ≡ sheet_number s start
  at_end h = sym (ap (shifted value scale) (short s (start + i) (ltb 0 i) (7 - i) h)) ∙ r.rest

  module _ (inside : start + i < length s) (b : ℕ) (e : b ≡ get_or s (start + i) 0) where
    ended : b < 128 → groups s (7 - i) (ltb 0 i) (start + i) ≡ last_group (ltb 0 i) b (start + i)
    ended h = last s (start + i) (ltb 0 i) (7 - i) inside (omega arith) ∙ ap (λ (x : ℕ). last_group (ltb 0 i) x (start + i)) (sym e)

    pub at_last_zero : b < 128 → 0 < i → b ≡ 0 → refused (place 2 (start + i)) ≡ sheet_number s start
    at_last_zero h z q =
        let longer : last_group (ltb 0 i) b (start + i) ≡ refused (place 2 (start + i)) = rw (lt-ltb 0 i z, eq-eqb b 0 q) in
        sym (ap (shifted value scale) (ended h ∙ longer)) ∙ r.rest

    pub at_last : b < 128 → ((0 < i) × (b ≡ 0 → ⊥)) ⊎ (i ≤ 0) → got (value + b * scale) (start + i + 1) ≡ sheet_number s start
    at_last h z = sym (ap (shifted value scale) (ended h ∙ whole z)) ∙ r.rest
      where
        whole : ((0 < i) × (b ≡ 0 → ⊥)) ⊎ (i ≤ 0) → last_group (ltb 0 i) b (start + i) ≡ got b (start + i + 1)
        whole (inl q) = rw (lt-ltb 0 i q.0, ne_eqb b 0 q.1)
        whole (inr q) = rw (le-ltb 0 i q)

    pub at_eighth : 128 ≤ b → i ≡ 7 → refused (place 2 (start + i)) ≡ sheet_number s start
    at_eighth h z =
        sym (ap (shifted value scale) (ap (λ (k : ℕ). groups s k (ltb 0 i) (start + i)) (omega arith) ∙ eighth s (start + i) (ltb 0 i) inside (omega arith)))
        ∙ r.rest

    pub at_more : 128 ≤ b → (i ≡ 7 → ⊥) → b < 256 → Reading s start (value + (b - 128) * scale) (scale * 128) (i + 1)
    at_more h z w =
        record {
          most = omega (arith, r.most);
          power = rw r.power (sym (pow-add 2 (7 * i) 7) ∙ ap (λ (x : ℕ). 2 ^ x) (omega arith));
          small = omega (arith, r.small, group_bound (b - 128) (omega arith));
          rest = shifted_more value scale (b - 128) (groups s (7 - (i + 1)) (ltb 0 (i + 1)) (start + (i + 1))) ∙ ap (shifted value scale) (sym turned) ∙ r.rest;
        }
      where
        turned : groups s (7 - i) (ltb 0 i) (start + i) ≡ joined (b - 128) (groups s (7 - (i + 1)) (ltb 0 (i + 1)) (start + (i + 1)))
        turned =
            ap (λ (k : ℕ). groups s k (ltb 0 i) (start + i)) (omega (arith, r.most))
            ∙ more s (start + i) (ltb 0 i) (7 - (i + 1)) inside (omega arith)
            ∙ rw (← e, lt-ltb 0 (i + 1) (omega arith)) (ap (λ (x : ℕ). joined (b - 128) (groups s (7 - (i + 1)) true x)) (omega arith))

-- the bytes from a place on, and where there are none
pub rest_byte : (s rest : List ℕ) (at i : ℕ) → rest ≡ slice_range s at (length s) → get_or rest i 0 ≡ get_or s (at + i) 0
rest_byte s rest at i e = ap (λ (l : List ℕ). get_or l i 0) (e ∙ between_to_end s at (length s) (omega arith)) ∙ get_or-drop at s i 0

pub past_end : (s : List ℕ) (at : ℕ) → (length s < at) ⊎ (length s < length s) → refused (place 1 (length s)) ≡ sheet_number s at
past_end s at (inl h) = at_end s at 0 1 0 (started s at) (omega arith)
past_end s at (inr h) = absurd (omega arith)
