-- A table of pieces searched by halving, how far an address is free, and a span put behind a table from its first address up: what the table shows as the address goes up. Assumes nothing.
use mathlib.Core.Path.{◌≡◌, refl, sym, ap, ap₂, ◌∙◌}
use mathlib.Core.Bool.{Bool, true, false, ◌&&◌}
use Rattle.std.specs.List.Sorted.{IsPartitionPoint, IsPartitionedBy}
use mathlib.Core.List.{List}
use mathlib.Core.Logic.{⊎_elim}
use Prim.Native.Nat.{ℕ, zero, suc, ◌+◌, ◌-◌, ◌^◌, ◌≤◌, ◌<◌}
use native.Mathlib.Nat.{not-suc-le-zero, le_of_suc-le-suc, eq-or-lt_of_le}
use native.Mathlib.Decide.{dec_lt}
use native.Mathlib.Omega.{arith}
use lib.Dec.{leb, ltb}
use lib.ListN.{get_or, length, take}
use Rattle.std.proofs.lemmas.List.{get_or-take, length-take-le}
use Rattle.std.proofs.lemmas.List.Sorted.{IsPartitionedBy-leb, IsNonDecreasingBy-from_default}
use borrow.Author.Count.{below_more}
use borrow.Author.Tests.{ltb-true, leb-true, leb-false}
use Rattle.region_map.specs.Walk.{or_else}
use Rattle.std.specs.Prelude.{Option, Some, None}
use Rattle.map_records.specs.declared.map.Found.{Found}
use Rattle.map_records.specs.declared.map.GuestAddress.{GuestAddress}
use Rattle.region_map.specs.declared.pieces.Piece.{Piece}
use Rattle.region_map.specs.declared.pieces.PieceTable.{PieceTable}
use Rattle.region_map.specs.Pieces.{no_piece, piece, piece_shows, piece_first, piece_end, piece_region, piece_offset, in_span, itself, piece_gives, given, shown, Pieces, Behind, PieceSpot, Fits, Free, is_taken, TakenUpTo}
use Rattle.map_check.proofs.Bools.{and_fst, and_snd}
use Rattle.region_map.proofs.SpanLaws.{span_in, span_before, span_past, or_nothing}

-- what a search for the first piece that ends after an address finds
-- the pieces of a table as a list
module _ (w : PieceTable) (good : Pieces w) (xs : List Piece) (e : xs ≡ take w.count w.pieces) where
  pub items_long : length xs ≡ w.count
  items_long = ap length e ∙ length-take-le w.count w.pieces (omega (arith, good.size, good.few))

  pub item_is : (j : ℕ) → j < length xs → get_or xs j no_piece ≡ piece w j
  item_is j l = ap (λ (ps : List Piece). get_or ps j no_piece) e ∙ get_or-take w.count w.pieces j no_piece (omega (arith, items_long))

  ends_ascend : (i j : ℕ) → i ≤ j → j < w.count → piece_end w i ≤ piece_end w j
  ends_ascend i j l h = ⊎_elim
      (λ (q : i ≡ j). omega (arith, ap (piece_end w) q))
      (λ (q : i < j). omega (arith, good.apart i j q h, good.order j h))
      (eq-or-lt_of_le {n = i} {m = j} l)

  module _ (a : ℕ) where
    pub spot_ordered : IsPartitionedBy (λ (p : Piece). leb p.end.0 a) xs
    spot_ordered = IsPartitionedBy-leb (λ (p : Piece). p.end.0) xs a (IsNonDecreasingBy-from_default (λ (p : Piece). p.end.0) xs no_piece (λ i j l h.
        rw (item_is i (omega arith), item_is j h) (ends_ascend i j l (omega (arith, items_long)))))

    -- what a search for the first piece that ends after the address finds
    pub spot_found : (i : ℕ) → i ≤ length xs → IsPartitionPoint (λ (p : Piece). leb p.end.0 a ≡ true) (λ (p : Piece). leb p.end.0 a ≡ false) xs i → PieceSpot w a i
    spot_found i bound found = record {
      bound = omega (arith, items_long);
      before = λ j l. leb-true (piece_end w j) a (rw (item_is j (omega arith)) at (found.0 j no_piece (omega arith) l));
      after = λ l.
          let low : i < length xs = omega (arith, items_long) in
          leb-false (piece_end w i) a (rw (item_is i low) at (found.1 i no_piece (omega arith) low));
    }

-- where a test holds that asks whether an address is taken, the piece holds the address
pub taken_on : (w : PieceTable) (i a : ℕ) (t r : Bool) → r ≡ is_taken w i a → (t && r) ≡ true → (i < w.count) × (piece_first w i ≤ a)
taken_on w i a t r e h =
    let on : is_taken w i a ≡ true = sym e ∙ and_snd t r h in
    (ltb-true i w.count (and_fst _ (leb (piece_first w i) a) on), leb-true (piece_first w i) a (and_snd (ltb i w.count) _ on))

-- up to the nearer of the next piece and the end the addresses are free
pub free_least : (w : PieceTable) (i a end r : ℕ) → i < w.count → a < piece_first w i → a ≤ end → r ≤ piece_first w i → r ≤ end → (r < piece_first w i → end ≤ r) → Free w i a end r
free_least w i a end r some next h low high least = record {
  low = nearer (dec_lt r (piece_first w i));
  high = high;
  taken = λ e l. absurd (omega (arith, least (omega arith)));
  gap = λ _ _. low;
  whole = λ l. absurd (omega arith);
}
  where
    nearer : Dec (r < piece_first w i) → a ≤ r
    nearer (yes q) = omega (arith, least q)
    nearer (no q) = omega arith

or_at : (x y z : Option Found) → ((v : Option Found) → or_else y v ≡ y) → or_else (or_else x y) z ≡ or_else x y
or_at None y z h = h z
or_at (Some v) y z h = refl

or_settled : (x y z : Option Found) → ((v : Option Found) → or_else x v ≡ x) → or_else (or_else x y) z ≡ or_else x y
or_settled None y z h = ap (λ (v : Option Found). or_else v z) (h y) ∙ (h z ∙ sym (h y))
or_settled (Some v) y z h = refl

-- what a piece gives stands, whatever is put behind
pub settled : (w : PieceTable) (k i x : ℕ) → i < k → piece_first w i ≤ x → x < piece_end w i → (y : Option Found) → or_else (given w k x) y ≡ given w k x
unfolding given
settled w zero i x h p q y = absurd (not-suc-le-zero h)
settled w (suc k) i x h p q y =
    ⊎_elim here (λ l. or_settled (given w k x) (piece_gives w k x) y (settled w k i x l p q)) (eq-or-lt_of_le (le_of_suc-le-suc h))
  where
    here : i ≡ k → or_else (or_else (given w k x) (piece_gives w k x)) y ≡ or_else (given w k x) (piece_gives w k x)
    here e =
        let s : piece_gives w k x ≡ itself (piece_region w k) (piece_offset w k + (x - piece_first w k)) =
        span_in (itself (piece_region w k)) (piece_first w k) (piece_offset w k) (piece_end w k) x (rw e at p) (rw e at q) in
        or_at (given w k x) (piece_gives w k x) y (λ v. rw s)

-- Runs of pieces that follow each other without a gap.

module _ {w : PieceTable} (p : Pieces w) where
  spot_past : (i : ℕ) → i < w.count → PieceSpot w (piece_end w i) (i + 1)
  spot_past i some = record {
    bound = omega arith;
    before = below_more (λ j. piece_end w j ≤ piece_end w i) i (λ j l. omega (arith, p.apart j i l some, p.order i some)) (omega arith);
    after = λ l. omega (arith, p.apart i (i + 1) (omega arith) l, p.order (i + 1) l);
  }

  -- a piece by itself, and one more
  pub run_one : (i : ℕ) → i < w.count → TakenUpTo w i (piece_end w i) (i + 1)
  run_one i some = record {
    past = omega arith;
    spot = spot_past i some;
    taken = λ x l h. settled w w.count i x some l h;
  }

  pub run_more : {i b j : ℕ} → TakenUpTo w i b j → j < w.count → piece_first w j ≤ b → TakenUpTo w i (piece_end w j) (j + 1)
  run_more {i} {b} {j} r some next = record {
    past = omega (arith, r.past, r.spot.after some);
    spot = spot_past j some;
    taken = λ x l h. go x l h (dec_lt x b);
  }
    where
      go : (x : ℕ) → piece_first w i ≤ x → x < piece_end w j → Dec (x < b) → (y : Option Found) → or_else (shown w x) y ≡ shown w x
      go x l h (yes q) = r.taken x l q
      go x l h (no q) = settled w w.count j x some (omega arith) h

-- a table gives by its pieces alone
given_same : (v w : PieceTable) → v.pieces ≡ w.pieces → (k x : ℕ) → given v k x ≡ given w k x
unfolding given
given_same v w e zero x = refl
given_same v w e (suc k) x = ap₂ or_else (given_same v w e k x) (ap (λ (ps : List Piece). piece_shows (get_or ps k no_piece) x) e)

-- w is u with a span put behind it at the addresses below a, which has the place i
pub record Filled (u : PieceTable) (region first offset end : ℕ) (w : PieceTable) (a i : ℕ) : Type 0 where
  pub kept : Pieces w
  pub start : w.start.0 ≡ u.start.0
  pub within : w.horizon.0 ≤ u.horizon.0
  pub reached : first ≤ a
  pub spot : PieceSpot w a i
  pub low : (x : ℕ) → x < a → x < w.horizon.0 → shown w x ≡ or_else (shown u x) (in_span (itself region) first offset end x)
  pub high : (x : ℕ) → a ≤ x → x < w.horizon.0 → shown w x ≡ shown u x

module _ {u : PieceTable} {region first offset end : ℕ} where
  pub filled_first : {i : ℕ} → Pieces u → PieceSpot u first i → Filled u region first offset end u first i
  filled_first p s = record {
    kept = p;
    start = refl;
    within = omega arith;
    reached = omega arith;
    spot = s;
    low = λ x h _. sym (ap (or_else (shown u x)) (span_before (itself region) first offset end x h) ∙ or_nothing (shown u x));
    high = λ x _ _. refl;
  }

  module _ {w : PieceTable} {a i : ℕ} (f : Filled u region first offset end w a i) where
    -- what lies from the horizon on does not matter
    pub filled_horizon : w.horizon.0 ≤ a → Behind u (in_span (itself region) first offset end) w
    filled_horizon h = record {
      kept = f.kept;
      start = f.start;
      within = f.within;
      gives = λ x l. f.low x (omega arith) l;
    }

    pub filled_end : end ≤ a → Behind u (in_span (itself region) first offset end) w
    filled_end h = record {
      kept = f.kept;
      start = f.start;
      within = f.within;
      gives = λ x l. go x l (dec_lt x a);
    }
      where
        go : (x : ℕ) → x < w.horizon.0 → Dec (x < a) → shown w x ≡ or_else (shown u x) (in_span (itself region) first offset end x)
        go x l (yes q) = f.low x q l
        go x l (no q) =
            f.high x (omega arith) l
            ∙ sym (ap (or_else (shown u x)) (span_past (itself region) first offset end x (omega arith)) ∙ or_nothing (shown u x))

    -- past the pieces from one that holds the address on
    pub filled_run : {b j : ℕ} → i < w.count → piece_first w i ≤ a → TakenUpTo w i b j → Filled u region first offset end w b j
    filled_run {b} {j} some taken r = record {
      kept = f.kept;
      start = f.start;
      within = f.within;
      reached = omega (arith, f.reached, f.spot.after some, r.past);
      spot = r.spot;
      low = λ x h l. go x h l (dec_lt x a);
      high = λ x h l. f.high x (omega (arith, f.spot.after some, r.past)) l;
    }
      where
        go : (x : ℕ) → x < b → x < w.horizon.0 → Dec (x < a) → shown w x ≡ or_else (shown u x) (in_span (itself region) first offset end x)
        go x h l (yes q) = f.low x q l
        go x h l (no q) =
            sym (r.taken x (omega arith) h (in_span (itself region) first offset end x))
            ∙ ap (λ (z : Option Found). or_else z (in_span (itself region) first offset end x)) (f.high x (omega arith) l)

    -- a piece fits where the addresses are free
    pub filled_fits : (stop : ℕ) → Free w i a end stop → (stop ≡ a → ⊥) → (i ≡ 256 → ⊥) → a < w.horizon.0 → u.start.0 ≤ first → end ≤ 2 ^ 48 → region < 32
        → Fits w i (record { first = record { 0 = a }; end = record { 0 = stop }; region = region; offset = record { 0 = offset + (a - first) } })
    filled_fits stop free moved room near from far below = record {
      place = f.spot.bound;
      room = omega (arith, f.spot.bound, f.kept.few);
      some = omega (arith, free.low);
      from = omega (arith, f.start, f.reached);
      near = near;
      far = omega (arith, free.high);
      region = below;
      before = f.spot.before;
      after = λ l. free.gap (omega (arith, free.low)) l;
    }

    -- a piece put in
    pub filled_put : (stop : ℕ) (v : PieceTable) → a < stop → stop ≤ end → Behind w (in_span (itself region) a (offset + (a - first)) stop) v → PieceSpot v stop (i + 1)
        → Filled u region first offset end v stop (i + 1)
    filled_put stop v some high b s = record {
      kept = b.kept;
      start = b.start ∙ f.start;
      within = omega (arith, b.within, f.within);
      reached = omega (arith, f.reached);
      spot = s;
      low = λ x h l. go x h l (dec_lt x a);
      high = λ x h l.
          b.gives x l
          ∙ (ap (or_else (shown w x)) (span_past (itself region) a (offset + (a - first)) stop x h)
          ∙ (or_nothing (shown w x) ∙ f.high x (omega arith) (omega (arith, b.within))));
    }
      where
        go : (x : ℕ) → x < stop → x < v.horizon.0 → Dec (x < a) → shown v x ≡ or_else (shown u x) (in_span (itself region) first offset end x)
        go x h l (yes q) =
            b.gives x l
            ∙ (ap (or_else (shown w x)) (span_before (itself region) a (offset + (a - first)) stop x q)
            ∙ (or_nothing (shown w x) ∙ f.low x q (omega (arith, b.within))))
        go x h l (no q) =
            let r : first ≤ a = f.reached in
            let e : offset + (a - first) + (x - a) ≡ offset + (x - first) = omega arith in
            let here = span_in (itself region) a (offset + (a - first)) stop x (omega arith) h in
            let there = span_in (itself region) first offset end x (omega arith) (omega arith) in
            b.gives x l
            ∙ ap₂ or_else (f.high x (omega arith) (omega (arith, b.within)))
            (here ∙ (ap (itself region) e ∙ sym there))

    -- no room for a piece: the horizon comes down to the address
    pub filled_cut : i ≡ 256 → (b : GuestAddress) → b.0 ≡ a → a < w.horizon.0 → Behind u (in_span (itself region) first offset end) (record { count = w.count; horizon = b; start = w.start; pieces = w.pieces })
    filled_cut full b here near = record {
      kept = record {
        size = f.kept.size;
        few = f.kept.few;
        ahead = omega (arith, f.kept.from 0 some, f.kept.order 0 some, f.spot.before 0 (omega arith));
        far = omega (arith, f.kept.far);
        from = f.kept.from;
        near = λ j h. omega (arith, f.kept.order j h, f.spot.before j (omega (arith, h, f.kept.few)));
        order = f.kept.order;
        apart = f.kept.apart;
        ends = f.kept.ends;
        regions = f.kept.regions;
      };
      start = f.start;
      within = omega (arith, f.within);
      gives = λ x l.
          given_same (record { count = w.count; horizon = b; start = w.start; pieces = w.pieces }) w refl w.count x
          ∙ f.low x (omega arith) (omega arith);
    }
      where
        some : 0 < w.count
        some = omega (arith, f.spot.bound)
