-- Laws of reach: a plugged block to its last byte, a range to its end, and a stretch of addresses. Assumes nothing.
use mathlib.Core.Logic.{⊎_elim}
use mathlib.Core.Path.{◌≡◌, refl, sym, ap, ◌∙◌, subst}
use mathlib.Core.Bool.{Bool, true, false}
use mathlib.Core.List.{List}
use Prim.Native.Nat.{ℕ, zero, suc, ◌+◌, ◌-◌, ◌/◌, ◌%◌, ◌^◌, ◌≤◌, ◌<◌}
use native.Mathlib.Nat.{div-eq_of_lt-le, div-add-mod', mod-lt, add-mul, one-mul, add-zero}
use native.Mathlib.Omega.{arith}
use lib.Dec.{eqb}
use lib.ListN.{length}
use borrow.Author.Tests.{ne_eqb, eqb-true}
use Rattle.map_records.specs.Map.{ram, managed}
use Rattle.map_records.specs.View.{entries}
use Rattle.map_records.specs.View.{range_of}
use Rattle.map_records.specs.declared.view.FlatRange.{FlatRange}
use Rattle.map_records.specs.declared.view.FlatView.{FlatView}
use Rattle.map_check.proofs.Bools.{and_off}
use Rattle.device_words.specs.Table.{bit_at, held_in}
use Rattle.device_words.specs.Device.{plugged_in}
use Rattle.guest_view.specs.Guest.{leaf_at, reach_kind, reach_leaf, guest_by, all_reach}
use Rattle.map_records.specs.View.{offset_in}
use Rattle.guest_view.specs.Promises.{Ordered, Spot, Extends, Reaches}
use Rattle.std.specs.Prelude.{Option, None, Some}
use Rattle.device_words.proofs.RuleLaws.{blocks_mono}
use Rattle.device_words.proofs.TableLaws.{held_all}
use Rattle.map_records.proofs.Order.{side}
use Rattle.region_map.proofs.RangeTests.{inside_beyond}
use Rattle.guest_view.proofs.FindLaws.{none_holds, at_range}

-- a block goes on to its last byte
pub same_block : (b o e : ℕ) → 0 < b → e ≤ b - 1 - o % b → (o + e) / b ≡ o / b
same_block b o e p h =
    div-eq_of_lt-le b (omega (arith, div-add-mod' o b)) (omega (arith, div-add-mod' o b, mod-lt o p, add-mul (o / b) 1 b, one-mul b))

-- the blocks of the bytes from one on run from its block, and a run of them that is plugged holds each
module _ (block : ℕ) (table : List ℕ) (o more : ℕ) (p : 0 < block) where
  pub run_order : (first last : ℕ) → first ≡ o / block → last ≡ (o + more) / block → first ≤ last
  run_order first last f l = omega (arith, blocks_mono block o (o + more) p (omega arith))

  pub run_true : (first last : ℕ) → first ≡ o / block → last ≡ (o + more) / block → eqb (held_in table first (last - first + 1)) (last - first + 1) ≡ true
      → (e : ℕ) → e ≤ more → plugged_in block table (o + e) ≡ true
  run_true first last f l r e h =
      let low = blocks_mono block o (o + e) p (omega arith) in
      let high = blocks_mono block (o + e) (o + more) p (omega arith) in
      let same : (o + e) / block ≡ first + ((o + e) / block - first) = omega arith in
      ap (bit_at table) same
      ∙ held_all table first (last - first + 1) (eqb-true (held_in table first (last - first + 1)) (last - first + 1) r) ((o + e) / block - first) (omega arith)

-- how far the bytes of a kind are reachable
pub block_true : (block : ℕ) (table : List ℕ) (kind o e : ℕ) → 0 < block → kind ≡ managed → plugged_in block table o ≡ true → e ≤ block - 1 - o % block
    → reach_kind (plugged_in block table) kind (o + e) ≡ true
block_true block table kind o e p q r h =
    ap (λ (k : ℕ). reach_kind (plugged_in block table) k (o + e)) q ∙ ap (bit_at table) (same_block block o e p h) ∙ r

pub managed_is : (plugged : ℕ → Bool) (kind o : ℕ) (x : Bool) → kind ≡ managed → plugged o ≡ x → reach_kind plugged kind o ≡ x
managed_is plugged kind o x q r = ap (λ (k : ℕ). reach_kind plugged k o) q ∙ r

pub other_false : (plugged : ℕ → Bool) (kind o : ℕ) → (kind ≡ ram → ⊥) → (kind ≡ managed → ⊥) → reach_kind plugged kind o ≡ false
other_false plugged kind o p q = simp (ne_eqb kind ram p, ne_eqb kind managed q)

pub ram_true : (plugged : ℕ → Bool) (kind o : ℕ) → kind ≡ ram → reach_kind plugged kind o ≡ true
ram_true plugged kind o q = ap (λ (k : ℕ). reach_kind plugged k o) q

-- each byte of a stretch is reachable, or one is not
module _ (reach : ℕ → Bool) where
  pub all_true : (a n : ℕ) → ((e : ℕ) → e < n → reach (a + e) ≡ true) → all_reach reach a n ≡ true
  unfolding all_reach
  all_true a zero f = refl
  all_true a (suc n) f =
      rw (ap reach (sym (add-zero a)) ∙ f zero (omega arith)) (all_true (suc a) n (λ e h. ap reach (omega arith) ∙ f (suc e) (omega arith)))

  pub all_false : (a n e : ℕ) → e < n → reach (a + e) ≡ false → all_reach reach a n ≡ false
  unfolding all_reach
  all_false a zero e h p = absurd (omega arith)
  all_false a (suc n) zero h p = rw (ap reach (sym (add-zero a)) ∙ p)
  all_false a (suc n) (suc e) h p = rw (all_false (suc a) n e (omega arith) (ap reach (omega arith) ∙ p)) (and_off (reach a))

-- ---- reach through a view
module _ (v : FlatView) (plugged : ℕ → Bool) where
  -- which addresses are reachable
  abbrev pub reach_in : ℕ → Bool
  reach_in = (guest_by (leaf_at (entries v)) plugged).reach

  -- no range holds an address past 2^48
  pub past_all : (full : v.count ≤ length v.ranges) → Ordered v → (a n : ℕ) → 0 < n → 2 ^ 48 ≤ a + (n - 1) → all_reach reach_in a n ≡ false
  past_all full o a n p h =
      all_false reach_in a n (n - 1) (omega arith)
      (ap (reach_leaf plugged) (none_holds v full (a + (n - 1)) (λ j jn. inside_beyond (range_of v j) (a + (n - 1)) (omega (arith, o.last j jn)))))

  -- from an address on, as far as its range goes
  module _ (a k : ℕ) (spot : Spot v a k) where
    pub none_reached : v.count ≤ k → reach_in a ≡ false
    none_reached p = ap (reach_leaf plugged) (spot.missed p)

    pub reaches_on : k < v.count → v.count ≤ length v.ranges → Ordered v → (r : FlatRange) → r ≡ range_of v k → (offset : ℕ) → offset ≡ offset_in r a
        → (x : Option ℕ) → Extends plugged r.kind offset (r.last.0 - a) x → Reaches reach_in a x
    reaches_on h full o r is offset f None e =
        ap (reach_leaf plugged) (spot.found h) ∙ rw is at (ap (reach_kind plugged r.kind) (sym f) ∙ e)
    reaches_on h full o r is offset f (Some m) e = λ i p.
        let low : r.first.0 ≤ a = rw is (spot.low h) in
        let high : a ≤ r.last.0 = rw is (spot.high h) in
        let top = e.0 in
        let same : offset_in r (a + i) ≡ offset + i = omega arith in
        ap (reach_leaf plugged) (at_range v full o k (a + i) h (omega (arith, spot.low h)) (rw is at (let z : a + i ≤ r.last.0 = omega arith in z)))
        ∙ rw is at (ap (reach_kind plugged r.kind) same ∙ e.1 i p)

-- ---- a stretch from a on, of which `done` bytes are passed
module _ (reach : ℕ → Bool) (a done : ℕ) (x : Option ℕ) (reaches : Reaches reach (a + done) x) where
  pub turn_stops : (n : ℕ) → x ≡ None → done < n → all_reach reach a n ≡ false
  turn_stops n e h = all_false reach a n done h (subst (Reaches reach (a + done)) e reaches)

  pub turn_goes : (m : ℕ) → x ≡ Some m → ((e : ℕ) → e < done → reach (a + e) ≡ true) → (e : ℕ) → e < done + m + 1 → reach (a + e) ≡ true
  turn_goes m q f e h =
      ⊎_elim (f e) (λ ge. let same : a + e ≡ a + done + (e - done) = omega arith in ap reach same ∙ subst (Reaches reach (a + done)) q reaches (e - done) (omega arith)) (side e done)
