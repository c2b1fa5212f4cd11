-- Laws of what a list of ranges gives an address: the range that holds it, the bytes that lie in the memory, reach. Assumes nothing.
use mathlib.Core.Path.{◌≡◌, refl, sym, ap, ◌∙◌}
use mathlib.Core.Bool.{Bool, true, false, ◌&&◌, ◌||◌}
use mathlib.Core.List.{List}
use Prim.Native.Nat.{ℕ, zero, suc, ◌+◌, ◌-◌, ◌^◌, ◌≤◌, ◌<◌}
use native.Mathlib.Nat.{add-zero}
use native.Mathlib.Omega.{arith}
use lib.Dec.{eqb}
use lib.ListN.{get_or, length-take}
use lib.Seq.{get_or-take}
use Rattle.map_records.specs.Map.{ram, managed, has_memory}
use Rattle.map_records.specs.View.{entries, no_range}
use Rattle.map_records.specs.View.{range_of}
use Rattle.map_records.specs.declared.view.FlatRange.{FlatRange}
use Rattle.map_records.specs.declared.view.FlatView.{FlatView}
use Rattle.map_check.proofs.Bools.{never, and_fst, and_snd}
use Rattle.region_map.proofs.ListLaws.{Held, held}
use Rattle.device_words.specs.Device.{plugged_in}
use Rattle.guest_view.specs.Guest.{Leaf, nowhere, leaf, leaf_in, leaf_at, reach_leaf, place_leaf, view_guest, all_reach}
use Rattle.guest_view.specs.Promises.{memory_leaf, Ordered, Backed, InMemory, place_in}

-- what is reachable lies in the memory
kind_memory : (kind : ℕ) (p : Bool) → (eqb kind ram || (eqb kind managed && p)) ≡ true → has_memory kind ≡ true
kind_memory kind p h = go (eqb kind ram) (eqb kind managed) h
  where
    go : (x y : Bool) → (x || (y && p)) ≡ true → (x || y) ≡ true
    go true y h = refl
    go false true h = refl
    go false false h = h

pub reach_memory : (plugged : ℕ → Bool) (x : Leaf) → reach_leaf plugged x ≡ true → memory_leaf x ≡ true
reach_memory plugged nowhere h = h
reach_memory plugged (leaf n kind base o) h = kind_memory kind (plugged o) h

-- each byte of a stretch that is reachable
pub all_each : (reach : ℕ → Bool) (a n i : ℕ) → all_reach reach a n ≡ true → i < n → reach (a + i) ≡ true
unfolding all_reach
all_each reach a zero i h p = absurd (omega arith)
all_each reach a (suc n) zero h p = ap reach (add-zero a) ∙ and_fst (reach a) (all_reach reach (suc a) n) h
all_each reach a (suc n) (suc i) h p =
    let e : a + suc i ≡ suc a + i = omega arith in
    ap reach e ∙ all_each reach (suc a) n i (and_snd (reach a) (all_reach reach (suc a) n) h) (omega arith)

pub all_memory : (v : FlatView) (block : ℕ) (plugged : List ℕ) (a n : ℕ) → all_reach (view_guest v block plugged).reach a n ≡ true → InMemory v a n
all_memory v block plugged a n h =
    record { each = λ i p. reach_memory (plugged_in block plugged) (leaf_at (entries v) (a + i)) (all_each (view_guest v block plugged).reach a n i h p) }

-- a part of a stretch that lies in the memory
pub memory_part : (v : FlatView) (a n o k : ℕ) → InMemory v a n → o + k ≤ n → InMemory v (a + o) k
memory_part v a n o k m h =
    record { each = λ i p. let q : a + o + i ≡ a + (o + i) = omega arith in ap (λ (x : ℕ). memory_leaf (leaf_at (entries v) x)) q ∙ m.each (o + i) (omega arith) }

pub memory_front : (v : FlatView) (a n k : ℕ) → InMemory v a n → k ≤ n → InMemory v a k
memory_front v a n k m h = record { each = λ i p. m.each i (omega arith) }

-- what a byte of the memory says of the view's bounds
module _ (v : FlatView) (a : ℕ) (h : memory_leaf (leaf_at (entries v) a) ≡ true) where
  holder : Held nowhere leaf_in (entries v) a
  holder = held nowhere leaf_in (entries v) a (λ e. never (sym h ∙ ap memory_leaf e))

  holder_below : holder.at < v.count
  holder_below = let x = holder.below in omega (arith, length-take v.count v.ranges)

  holder_is : get_or (entries v) holder.at no_range ≡ range_of v holder.at
  holder_is = get_or-take v.count v.ranges holder.at no_range holder_below

  holder_high : a ≤ (range_of v holder.at).last.0
  holder_high = let x = holder.high in rw (← holder_is) x

  holder_low : (range_of v holder.at).first.0 ≤ a
  holder_low = let x = holder.low in rw (← holder_is) x

  holder_gives : leaf_at (entries v) a ≡ leaf_in (range_of v holder.at) a
  holder_gives = holder.given ∙ ap (λ (r : FlatRange). leaf_in r a) holder_is

  holder_kind : has_memory (range_of v holder.at).kind ≡ true
  holder_kind = sym (ap memory_leaf holder_gives) ∙ h

  pub memory_low : Ordered v → a < 2 ^ 48
  memory_low o = let x = o.last holder.at holder_below in let y = holder_high in omega arith

  pub place_below : (memory : ℕ) → Backed v memory → place_in v a < memory
  place_below memory b =
      let x = b.room holder.at holder_below holder_kind in
      let y = holder_high in
      let z = holder_low in
      let e : place_in v a ≡ (range_of v holder.at).base + ((range_of v holder.at).offset.0 + (a - (range_of v holder.at).first.0)) = ap place_leaf holder_gives in
      omega arith

-- a stretch in the memory ends below 2^48
pub stretch_low : (v : FlatView) (a n : ℕ) → Ordered v → InMemory v a n → 0 < n → a + n ≤ 2 ^ 48
stretch_low v a n o m p = let x = memory_low v (a + (n - 1)) (m.each (n - 1) (omega arith)) o in omega arith
