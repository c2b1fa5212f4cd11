-- Laws of what a view gives an address and of routing over it. Assumes nothing.
use mathlib.Core.Path.{◌≡◌, refl, sym, ap, ◌∙◌, ap₂, fun_ext}
use mathlib.Core.Bool.{Bool, true, false, cond, ◌&&◌, ◌||◌, not}
use mathlib.Core.List.{List}
use mathlib.Core.Logic.{⊎_elim}
use Prim.Native.Nat.{ℕ, zero, suc, ◌+◌, ◌-◌, ◌/◌, ◌%◌, ◌≤◌, ◌<◌}
use native.Mathlib.Nat.{eq-or-lt_of_le, div-lt_iff_lt-mul, div-add-mod', mod-lt, add-mul, add-zero}
use native.Mathlib.Omega.{arith}
use lib.Dec.{eqb}
use lib.ListN.{length, replicate}
use lib.Seq.{get_or-take, length-take-le}
use borrow.Author.Tests.{eq-eqb, ne_eqb, eqb-true, not-true, not-false}
use Rattle.map_records.specs.Map.{ram, mmio, managed, has_memory}
use Rattle.region_map.specs.FlatList.{lookup, range_answer}
use Rattle.map_records.specs.View.{entries, no_range}
use Rattle.map_records.specs.View.{range_of}
use Rattle.map_check.specs.Reply.{plain}
use Rattle.region_map.specs.Resolve as look
use Rattle.std.specs.Prelude.{Option, None, Some}
use Rattle.map_records.specs.declared.map.Found.{Found}
use Rattle.map_records.specs.declared.view.FlatRange.{FlatRange}
use Rattle.map_records.specs.declared.view.FlatView.{FlatView}
use Rattle.map_check.proofs.Bools.{never, and_fst, and_snd, or_left, or_right}
use Rattle.region_map.proofs.ListLaws.{Held, held, read_off}
use Rattle.device_words.specs.Table.{bit_at, all_below}
use Rattle.device_words.specs.Device.{plugged_in}
use Rattle.device_words.proofs.TableLaws.{all_true, all_of, all_not, zero_bit}
use Rattle.device_words.proofs.RuleLaws.{blocks_mono}
use Rattle.guest_view.specs.Guest.{Leaf, nowhere, leaf, leaf_in, leaf_at, place_of}
use Rattle.guest_view.specs.View.{view_ok, no_region_bound}
use Rattle.routing.specs.Look.{looked_up}
use Rattle.routing.specs.Route.{Routed, refused, to_memory, to_port, width_ok, is_nowhere, follows, is_open, target, routed}
use Rattle.guest_view.specs.Promises.{Ordered, Spot}
use Rattle.guest_view.proofs.FindLaws.{at_range}
use Rattle.guest_view.proofs.ReachLaws.{same_block}

-- ---- what a list gives an address, without the region's values

abbrev pub forget : Leaf → Option Found
forget nowhere = None
forget (leaf n kind base o) = Some (record { region = n; offset = record { 0 = o } })

pub lookup_leaf : (l : List FlatRange) (a : ℕ) → lookup l a ≡ forget (leaf_at l a)
lookup_leaf l a = read_off nowhere leaf_in forget range_answer l a (λ k h. refl)

module _ (v : FlatView) (memory a : ℕ) where
  pub looked_record : view_ok v memory no_region_bound ≡ false → looked_up v memory a ≡ look.refused (plain 27)
  unfolding looked_up
  looked_record e = rw e

  module _ (ok : view_ok v memory no_region_bound ≡ true) (r : ℕ) (s : Spot v a r) where
    pub looked_at : r < v.count → looked_up v memory a ≡ look.leads (Some (record { region = (range_of v r).region; offset = record { 0 = (range_of v r).offset.0 + (a - (range_of v r).first.0) } }))
    unfolding looked_up
    looked_at h = rw (ok, lookup_leaf (entries v) a, s.found h)

    pub looked_nothing : v.count ≤ r → looked_up v memory a ≡ look.leads None
    unfolding looked_up
    looked_nothing h = rw (ok, lookup_leaf (entries v) a, s.missed h)

-- ---- the blocks of an access, where none is shorter than it

module _ (block : ℕ) (table : List ℕ) (o w : ℕ) (big : 8 ≤ block) (some : 0 < w) (few : w ≤ 8) where
  -- its first byte's block is not plugged
  pub first_off : plugged_in block table o ≡ false → all_below (λ i. plugged_in block table (o + i)) w ≡ false
  first_off e = all_not (λ i. plugged_in block table (o + i)) w 0 some (ap (plugged_in block table) (add-zero o) ∙ e)

  module _ (first : plugged_in block table o ≡ true) where
    -- it has no other
    pub one_block : w - 1 ≤ block - 1 - o % block → all_below (λ i. plugged_in block table (o + i)) w ≡ true
    one_block h = all_of (λ i. plugged_in block table (o + i)) w (λ i l. ap (bit_at table) (same_block block o i (omega arith) (omega arith)) ∙ first)

    -- or its last byte's
    next : (o + (w - 1)) / block < o / block + 2
    next =
        let pos : 0 < block = omega arith in
        (div-lt_iff_lt-mul pos).1 (omega (arith, div-add-mod' o block, mod-lt o pos, add-mul (o / block) 2 block))

    pub two_blocks : plugged_in block table (o + (w - 1)) ≡ all_below (λ i. plugged_in block table (o + i)) w
    two_blocks = go (plugged_in block table (o + (w - 1))) refl
      where
        go : (y : Bool) → plugged_in block table (o + (w - 1)) ≡ y → y ≡ all_below (λ i. plugged_in block table (o + i)) w
        go true f = sym (all_of (λ i. plugged_in block table (o + i)) w (λ i h.
            let low = blocks_mono block o (o + i) (omega arith) (omega arith) in
            let high = blocks_mono block (o + i) (o + (w - 1)) (omega arith) (omega arith) in
            ⊎_elim (λ (q : o / block ≡ (o + i) / block). ap (bit_at table) (sym q) ∙ first)
            (λ lt. ap (bit_at table) (let z : (o + i) / block ≡ (o + (w - 1)) / block = omega (arith, next) in z) ∙ f) (eq-or-lt_of_le low)))
        go false f = sym (all_not (λ i. plugged_in block table (o + i)) w (w - 1) (omega arith) f)

-- no block of a table of zeros is plugged
pub nothing_plugged : (block : ℕ) → plugged_in block (replicate 16 0) ≡ (λ o. false)
nothing_plugged block = fun_ext (λ o. zero_bit (o / block))

-- ---- the bytes of an access

pub width_bounds : (w : ℕ) → width_ok w ≡ true → (0 < w) × (w ≤ 8)
width_bounds w h = go (eqb w 1) refl (eqb w 2) refl (eqb w 4) refl h
  where
    go : (x : Bool) → eqb w 1 ≡ x → (y : Bool) → eqb w 2 ≡ y → (z : Bool) → eqb w 4 ≡ z → (x || y || z || eqb w 8) ≡ true → (0 < w) × (w ≤ 8)
    go true e y f z g h = let q = eqb-true w 1 e in (omega arith, omega arith)
    go false e true f z g h = let q = eqb-true w 2 f in (omega arith, omega arith)
    go false e false f true g h = let q = eqb-true w 4 g in (omega arith, omega arith)
    go false e false f false g h = let q = eqb-true w 8 h in (omega arith, omega arith)

-- is byte i the first byte's region, i offsets on?
abbrev pub goes_on : FlatView → ℕ → ℕ → Bool
goes_on v a i = follows (leaf_at (entries v) a) i (leaf_at (entries v) (a + i))

module _ (v : FlatView) (a at : ℕ) (s : Spot v a at) (h : at < v.count) where
  -- byte i, from what a search for it gives
  pub byte_missed : (i r : ℕ) → Spot v (a + i) r → v.count ≤ r → goes_on v a i ≡ false
  byte_missed i r t m = rw (s.found h, t.missed m)

  pub byte_at : (i r : ℕ) → Spot v (a + i) r → r < v.count
      → goes_on v a i
      ≡ (eqb (range_of v r).region (range_of v at).region && eqb ((range_of v r).offset.0 + (a + i - (range_of v r).first.0)) ((range_of v at).offset.0 + (a - (range_of v at).first.0) + i))
  byte_at i r t m = rw (s.found h, t.found m)

  module _ (full : v.count ≤ length v.ranges) (o : Ordered v) where
    pub byte_in : (i : ℕ) → a + i ≤ (range_of v at).last.0 → goes_on v a i ≡ true
    byte_in i p =
        let low = s.low h in
        rw (
          s.found h,
          at_range v full o at (a + i) h (omega arith) p,
          eq-eqb (range_of v at).region (range_of v at).region refl,
          eq-eqb ((range_of v at).offset.0 + (a + i - (range_of v at).first.0)) ((range_of v at).offset.0 + (a - (range_of v at).first.0) + i) (omega arith),
        )

    pub bytes_in_lem : (w : ℕ) → 0 < w → w - 1 ≤ (range_of v at).last.0 - a → all_below (goes_on v a) w ≡ true
    bytes_in_lem w p q =
        let high = s.high h in
        all_of (goes_on v a) w (λ i l. byte_in i (omega arith))

-- the range that answers
pub answered_at : (l : List FlatRange) (a n k b o : ℕ) → leaf_at l a ≡ leaf n k b o → Held nowhere leaf_in l a
answered_at l a n k b o e = held nowhere leaf_in l a (λ q. let z : ◌≡◌ {A = ℕ} 0 1 = cc in omega arith)

-- all answers of one region have one kind
module _ (v : FlatView) (full : v.count ≤ length v.ranges) (ordered : Ordered v) where
  pub same_kind : (x y n k b o k₂ b₂ o₂ : ℕ) → leaf_at (entries v) x ≡ leaf n k b o → leaf_at (entries v) y ≡ leaf n k₂ b₂ o₂ → k₂ ≡ k
  same_kind x y n k b o k₂ b₂ o₂ e f =
      let r = answered_at (entries v) x n k b o e in
      let t = answered_at (entries v) y n k₂ b₂ o₂ f in
      let size = length-take-le v.count v.ranges full in
      let p : r.at < v.count = omega (arith, r.below) in
      let q : t.at < v.count = omega (arith, t.below) in
      let re = get_or-take v.count v.ranges r.at no_range p in
      let te = get_or-take v.count v.ranges t.at no_range q in
      let here : leaf n k b o ≡ leaf_in (range_of v r.at) x = sym e ∙ r.given ∙ ap (λ (z : FlatRange). leaf_in z x) re in
      let there : leaf n k₂ b₂ o₂ ≡ leaf_in (range_of v t.at) y = sym f ∙ t.given ∙ ap (λ (z : FlatRange). leaf_in z y) te in
      let same : (range_of v t.at).kind ≡ (range_of v r.at).kind = ordered.kinds t.at r.at q p (cc) in
      cc

all_same : (f g : ℕ → Bool) (n : ℕ) → ((b : ℕ) → b < n → f b ≡ g b) → all_below f n ≡ all_below g n
unfolding all_below
all_same f g zero h = refl
all_same f g (suc n) h = ap₂ ◌&&◌ (all_same f g n (λ b p. h b (omega arith))) (h n (omega arith))

-- ---- an access, by what its first byte answers

module _ (f : ℕ → Leaf) (p : ℕ → Bool) (a w : ℕ) where
  pub routed_width : width_ok w ≡ false → routed f p a w ≡ refused 23
  unfolding routed
  routed_width e = rw e

  module _ (width : width_ok w ≡ true) where
    pub routed_nowhere : f a ≡ nowhere → routed f p a w ≡ refused 24
    unfolding routed
    routed_nowhere e = rw (width, e)

    module _ (n kind base o : ℕ) (first : f a ≡ leaf n kind base o) where
      not_nowhere : is_nowhere (f a) ≡ false
      not_nowhere = ap is_nowhere first

      pub routed_broken : all_below (λ i. follows (f a) i (f (a + i))) w ≡ false → routed f p a w ≡ refused 25
      unfolding routed
      routed_broken e = rw (width, not_nowhere, e)

      module _ (kinds : (i k₂ b₂ o₂ : ℕ) → f (a + i) ≡ leaf n k₂ b₂ o₂ → k₂ ≡ kind) (whole : all_below (λ i. follows (f a) i (f (a + i))) w ≡ true) where
        byte_open : (i : ℕ) → i < w → is_open p (f (a + i)) ≡ (not (eqb kind managed) || p (o + i))
        byte_open i h = go (f (a + i)) refl (ap (λ (x : Leaf). follows x i (f (a + i))) (sym first) ∙ all_true (λ i. follows (f a) i (f (a + i))) w whole i h)
          where
            go : (y : Leaf) → f (a + i) ≡ y → follows (leaf n kind base o) i y ≡ true → is_open p y ≡ (not (eqb kind managed) || p (o + i))
            go nowhere e t = absurd (never (sym t))
            go (leaf n₂ k₂ b₂ o₂) e t =
                let ne : n₂ ≡ n = eqb-true n₂ n (and_fst (eqb n₂ n) (eqb o₂ (o + i)) t) in
                let oe : o₂ ≡ o + i = eqb-true o₂ (o + i) (and_snd (eqb n₂ n) (eqb o₂ (o + i)) t) in
                let ke : k₂ ≡ kind = kinds i k₂ b₂ o₂ (e ∙ ap (λ (x : ℕ). leaf x k₂ b₂ o₂) ne) in
                ap₂ (λ (x y : ℕ). not (eqb x managed) || p y) ke oe

        all_open : all_below (λ i. is_open p (f (a + i))) w ≡ (not (eqb kind managed) || all_below (λ i. p (o + i)) w)
        all_open = go (eqb kind managed) refl
          where
            go : (t : Bool) → eqb kind managed ≡ t → all_below (λ i. is_open p (f (a + i))) w ≡ (not t || all_below (λ i. p (o + i)) w)
            go true e = all_same (λ i. is_open p (f (a + i))) (λ i. p (o + i)) w (λ i h. byte_open i h ∙ ap (λ (t : Bool). not t || p (o + i)) e)
            go false e = all_of (λ i. is_open p (f (a + i))) w (λ i h. byte_open i h ∙ ap (λ (t : Bool). not t || p (o + i)) e)

        -- 26, or where the kind leads
        pub routed_whole : routed f p a w ≡ cond (not (eqb kind managed) || all_below (λ i. p (o + i)) w) (target (leaf n kind base o)) (refused 26)
        unfolding routed
        routed_whole = rw (width, not_nowhere, whole, all_open) (ap (λ (x : Leaf). cond (not (eqb kind managed) || all_below (λ i. p (o + i)) w) (target x) (refused 26)) first)

-- ---- a whole access, by the kind of its range

module _ (plugged : ℕ → Bool) (x : FlatRange) (o w : ℕ) where
  abbrev of_kind : ℕ → Routed
  of_kind kind = cond (not (eqb kind managed) || all_below (λ i. plugged (o + i)) w) (target (leaf x.region kind x.base o)) (refused 26)

  abbrev pub whole_answer : Routed
  whole_answer = of_kind x.kind

  pub whole_unplugged : x.kind ≡ managed → all_below (λ i. plugged (o + i)) w ≡ false → refused 26 ≡ whole_answer
  whole_unplugged k e = ap (λ (t : Bool). cond t (to_memory (place_of x.base o)) (refused 26)) (sym e) ∙ ap of_kind (sym k)

  pub whole_memory : has_memory x.kind ≡ true → (x.kind ≡ managed → all_below (λ i. plugged (o + i)) w ≡ true) → (p : ℕ) → p ≡ place_of x.base o → to_memory p ≡ whole_answer
  whole_memory h g p e = ap to_memory e ∙ go (eqb x.kind managed) refl (has_memory x.kind) h
    where
      go : (t : Bool) → eqb x.kind managed ≡ t → (m : Bool) → m ≡ true
          → to_memory (place_of x.base o) ≡ cond (not t || all_below (λ i. plugged (o + i)) w) (cond m (to_memory (place_of x.base o)) (cond (eqb x.kind mmio) (to_port x.base o) (refused 27))) (refused 26)
      go true e m f = sym (rw (g (eqb-true x.kind managed e), f))
      go false e m f = sym (rw f)

  pub whole_port : x.kind ≡ mmio → to_port x.base o ≡ whole_answer
  whole_port k = ap of_kind (sym k)

  pub whole_none : has_memory x.kind ≡ false → (x.kind ≡ mmio → ⊥) → refused 27 ≡ whole_answer
  whole_none h m =
      sym (rw (or_right (eqb x.kind ram) (eqb x.kind managed) h, or_left (eqb x.kind ram) (eqb x.kind managed) h, ne_eqb x.kind mmio m))

-- ---- and over a view

module _ (v : FlatView) (plugged : ℕ → Bool) (a w at : ℕ) (s : Spot v a at) (h : at < v.count) (full : v.count ≤ length v.ranges) (ordered : Ordered v) (width : width_ok w ≡ true)
    (r : Bool) (told : r ≡ all_below (goes_on v a) w) where
  abbrev range : FlatRange
  range = range_of v at

  abbrev there : ℕ
  there = range.offset.0 + (a - range.first.0)

  pub view_broken : not r ≡ true → routed (leaf_at (entries v)) plugged a w ≡ refused 25
  view_broken off =
      routed_broken (leaf_at (entries v)) plugged a w width range.region range.kind range.base there (s.found h) (sym told ∙ not-true r off)

  module _ (on : not r ≡ false) where
    whole : all_below (goes_on v a) w ≡ true
    whole = sym told ∙ not-false r on

    kinds : (i k₂ b₂ o₂ : ℕ) → leaf_at (entries v) (a + i) ≡ leaf range.region k₂ b₂ o₂ → k₂ ≡ range.kind
    kinds i k₂ b₂ o₂ = same_kind v full ordered a (a + i) range.region range.kind range.base there k₂ b₂ o₂ (s.found h)

    pub view_whole : routed (leaf_at (entries v)) plugged a w ≡ whole_answer plugged range there w
    view_whole = routed_whole (leaf_at (entries v)) plugged a w width range.region range.kind range.base there (s.found h) kinds whole
