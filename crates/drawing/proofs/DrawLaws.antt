-- Laws of the drawing: where addresses lie to a region, and the text, character by character and row by row. Assumes nothing.
use mathlib.Core.Path.{◌≡◌, refl, sym, ap, ◌∙◌}
use mathlib.Core.Bool.{Bool, true, false, cond}
use mathlib.Core.List.{[], ◌∷◌, ◌++◌}
use mathlib.Core.Logic.{⊎_elim}
use Prim.Native.Nat.{ℕ, zero, suc, ◌+◌, ◌-◌, ◌*◌, ◌^◌, ◌≤◌, ◌<◌, min}
use native.Mathlib.Nat.{mul-le-mul}
use native.Mathlib.Numerals.{add-one}
use native.Mathlib.Omega.{arith}
use lib.Dec.{eqb, ltb}
use lib.ListN.{length, length-append}
use borrow.Author.Tests.{lt-ltb, le-ltb, eq-eqb, ne_eqb, eqb-false}
use Rattle.map_records.specs.Map.{region}
use Rattle.map_check.specs.Fault.{parent_of}
use Rattle.region_map.specs.Walk.{walk_root}
use Rattle.region_map.specs.Resolve.{refused, leads, resolved, led_by}
use Rattle.std.specs.Prelude.{Option, Result, Ok, Err}
use Rattle.map_check.specs.Check.{fault_reply, Accepted}
use Rattle.map_check.specs.declared.check.MapFault.{MapFault}
use Rattle.map_records.specs.declared.map.Found.{Found}
use Rattle.map_records.specs.declared.map.Region.{Region}
use Rattle.map_records.specs.declared.map.RegionMap.{RegionMap}
use Rattle.map_check.proofs.Accepted.{accepted_sound}
use Rattle.map_records.proofs.Order.{eq_or_not}
use Rattle.drawing.specs.Drawing.{row_at, RowIn, column_address, region_cell, character, characters, row_text, rows_text}
use Rattle.drawing.specs.declared.row.Row.{Row}
use Rattle.drawing.specs.declared.row.Row.TheVariants as row
use Rattle.drawing.specs.Position.{entered, below, climb, located, Climbable}
use Rattle.map_records.specs.declared.map.RegionOffset.{RegionOffset}
use Rattle.drawing.specs.declared.position.Position.{Position}
use Rattle.drawing.specs.declared.position.Position.TheVariants.{Aside, Outside, Inside}

-- what acceptance gives
pub accepted_climbable : (m : RegionMap) (memory : ℕ) → Accepted m memory → Climbable m
accepted_climbable m memory ok =
    let s = accepted_sound m memory ok in
    let root : m.count - 1 < m.count = omega (arith, s.some) in
    record {
      some = s.some;
      count = s.count;
      size = (s.bounded (m.count - 1) root).size;
      above = λ n h p. (s.parents n h p).above;
      below = λ n h p. (s.parents n h p).below;
    }

-- a region entered, and not
module _ (r : Region) (first end from to : ℕ) (p : from ≡ first - r.offset) (q : to ≡ min (end - r.offset) r.size) where
  pub entered_inside : from < to → Inside (record { 0 = from }) (record { 0 = to }) ≡ entered r first end
  unfolding entered
  entered_inside h = rw (← p, ← q, lt-ltb from to h)

  pub entered_not : to ≤ from → Outside ≡ entered r first end
  unfolding entered
  entered_not h = rw (← p, ← q, le-ltb from to h)

-- what lies in no part of a parent lies in no part of its child
pub below_outside : (r : Region) (p : Position) → ((x y : RegionOffset) → p ≡ Inside x y → ⊥) → below r p ≡ p
below_outside r Aside h = refl
below_outside r Outside h = refl
below_outside r (Inside x y) h = absurd (h x y refl)

-- one region asked
module _ (m : RegionMap) (a b k n : ℕ) where
  climb_root : (region m n).parent ≡ 0 → n + 1 ≡ m.count → climb m (suc k) n a b ≡ entered (region m n) a b
  unfolding climb
  climb_root p q = rw (eq-eqb (region m n).parent 0 p, eq-eqb (n + 1) m.count q)

  climb_aside : (region m n).parent ≡ 0 → (n + 1 ≡ m.count → ⊥) → climb m (suc k) n a b ≡ Aside
  unfolding climb
  climb_aside p q = rw (eq-eqb (region m n).parent 0 p, ne_eqb (n + 1) m.count q)

  climb_below : ((region m n).parent ≡ 0 → ⊥) → climb m (suc k) n a b ≡ below (region m n) (climb m k (parent_of (region m n)) a b)
  unfolding climb
  climb_below p = rw (ne_eqb (region m n).parent 0 p)

-- as many regions as stand above are enough
module _ (m : RegionMap) (a b : ℕ) (w : Climbable m) where
  enough : (k j n : ℕ) → n < m.count → m.count ≤ n + k → m.count ≤ n + j → climb m k n a b ≡ climb m j n a b
  enough zero j n h p q = absurd (omega arith)
  enough (suc k) zero n h p q = absurd (omega arith)
  enough (suc k) (suc j) n h p q =
      ⊎_elim
      (λ e. ⊎_elim (λ r. climb_root m a b k n e r ∙ sym (climb_root m a b j n e r)) (λ r. climb_aside m a b k n e r ∙ sym (climb_aside m a b j n e r)) (eq_or_not (n + 1) m.count))
      (λ e. let up = w.above n h e in
      climb_below m a b k n e ∙ ap (below (region m n)) (enough k j (parent_of (region m n)) (w.below n h e) (omega arith) (omega arith)) ∙ sym (climb_below m a b j n e))
      (eq_or_not (region m n).parent 0)

  -- region n, read as r
  module _ (n : ℕ) (r : Region) (e : r ≡ region m n) where
    pub located_root : r.parent ≡ 0 → n + 1 ≡ m.count → located m n a b ≡ entered r a b
    unfolding located
    located_root p q = rw e (climb_root m a b 31 n (rw e at p) q)

    pub located_aside : r.parent ≡ 0 → (n + 1 ≡ m.count → ⊥) → located m n a b ≡ Aside
    unfolding located
    located_aside p q = climb_aside m a b 31 n (rw e at p) q

    pub located_below : n < m.count → (r.parent ≡ 0 → ⊥) → located m n a b ≡ below r (located m (parent_of r) a b)
    unfolding located
    located_below h s =
        let p = rw e at s in
        let up = w.above n h p in
        rw e
        (climb_below m a b 31 n p ∙ ap (below (region m n)) (enough 31 32 (parent_of (region m n)) (w.below n h p) (omega (arith, w.count)) (omega (arith, w.count))))

-- a region's cell, its addresses given by equal numbers
pub region_at_lem : (m : RegionMap) (n c x y a b r : ℕ) → r ≡ region_cell m n x y c → x ≡ a → y ≡ b → r ≡ region_cell m n a b c
region_at_lem m n c x y a b r e p q = rw (← p, ← q) e

-- what the public walk says of an accepted map
pub led_to : (m : RegionMap) (memory a : ℕ) (r : Result (Option Found) MapFault) → Accepted m memory → led_by r ≡ resolved m memory a → r ≡ Ok (walk_root m a)
unfolding resolved Accepted
led_to m memory a (Ok x) ok e =
    let q : leads x ≡ leads (walk_root m a) = rw ok at e in
    cc
led_to m memory a (Err f) ok e =
    let q : refused (fault_reply f) ≡ leads (walk_root m a) = rw ok at e in
    absurd (let z : ◌≡◌ {A = ℕ} 0 1 = cc in omega arith)

-- the address of a column
pub column_small : (size c : ℕ) → size ≤ 2 ^ 48 → c ≤ 64 → column_address size c ≤ 2 ^ 48
unfolding column_address
column_small size c h k = omega (arith, mul-le-mul h k)

-- ---- the text, character by character and row by row
characters_length : (f : ℕ → ℕ) (k : ℕ) → length (characters f k) ≡ k
unfolding characters
characters_length f zero = refl
characters_length f (suc k) = length-append (characters f k) (f k ∷ []) ∙ omega (arith, characters_length f k)

-- one character more
pub character_more : (f : ℕ → ℕ) (k : ℕ) → characters f k ++ (f k ∷ []) ≡ characters f (k + 1)
unfolding characters
character_more f k = ap (characters f) (sym (add-one k))

row_length : (m : RegionMap) (r : Row) → length (row_text m r) ≡ 79
unfolding row_text
row_length m r = characters_length (character m r) 79

pub rows_length : (m : RegionMap) (w : ℕ) → length (rows_text m w) ≡ 79 * w
unfolding rows_text
rows_length m zero = refl
rows_length m (suc w) =
    length-append (rows_text m w) (row_text m (row_at m.count w)) ∙ omega (arith, rows_length m w, row_length m (row_at m.count w))

-- one row more
pub row_more : (m : RegionMap) (w : ℕ) → rows_text m w ++ row_text m (row_at m.count w) ≡ rows_text m (w + 1)
unfolding rows_text
row_more m w = ap (rows_text m) (sym (add-one w))

ne_two : (w : ℕ) → (w ≡ 0 → ⊥) → (w ≡ 1 → ⊥) → 2 ≤ w
ne_two zero p q = absurd (p refl)
ne_two (suc zero) p q = absurd (q refl)
ne_two (suc (suc w)) p q = omega arith

-- the region of a row is in the map
pub row_in : (m : RegionMap) (w : ℕ) → 0 < m.count → RowIn m (row_at m.count w)
row_in m w h = go (eqb w 0) (eqb w 1) (ltb w (m.count + 2)) refl refl
  where
    go : (a b t : Bool) → eqb w 0 ≡ a → eqb w 1 ≡ b → RowIn m (cond a row.Addresses (cond b row.Ruler (cond t (row.Region (m.count + 1 - w)) row.FlatView)))
    go true b t p q = tt
    go false true t p q = tt
    go false false true p q = let x = eqb-false w 0 p in let y = eqb-false w 1 q in omega (arith, ne_two w x y)
    go false false false p q = tt
