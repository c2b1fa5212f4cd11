-- Laws of the table of pieces: a span, what is put behind a table, what the tree puts there, and the flat list that the pieces give. Assumes nothing.
use mathlib.Core.Path.{◌≡◌, refl, sym, ap, subst, ◌∙◌}
use mathlib.Core.Bool.{Bool, true, false, ◌||◌}
use mathlib.Core.List.{List}
use mathlib.Core.Logic.{◌⊎◌, inl, inr, ⊎_elim}
use Prim.Native.Nat.{ℕ, zero, suc, ◌+◌, ◌-◌, ◌%◌, ◌^◌, ◌≤◌, ◌<◌, min}
use native.Mathlib.Nat.{add-zero, add-suc, not-suc-le-zero}
use native.Mathlib.Decide.{ℕ_discrete, dec_lt}
use native.Mathlib.Omega.{arith}
use borrow.Author.Tests.{leb-true, leb-false, ltb-true, ltb-false}
use lib.Dec.{leb, ltb}
use Rattle.map_records.specs.Map.{region}
use Rattle.map_check.specs.Clash.{priority_of}
use Rattle.region_map.specs.Walk.{ranked, or_else, walk_below, walk, walk_root, walk_root_by}
use Rattle.map_check.specs.Promises.{Walkable}
use Rattle.region_map.specs.Promises.{shift, NextChild, Grew, Pushed, tried_in, answer_in}
use Rattle.region_map.specs.FlatList.{extend, flat}
use Rattle.region_map.specs.declared.pieces.PieceTable.{PieceTable}
use Rattle.region_map.specs.Pieces.{piece_first, piece_end, piece_region, piece_offset, in_span, itself, piece_gives, given, shown, Pieces, Behind, WholeTable}
use Rattle.map_records.specs.declared.map.Region.{Region}
use Rattle.map_records.specs.declared.map.RegionMap.{RegionMap}
use Rattle.std.specs.Prelude.{Option, Some, None}
use Rattle.map_records.specs.declared.map.Found.{Found}
use Rattle.region_map.specs.declared.flat.Backing.{Backing}
use Rattle.map_records.specs.declared.view.FlatRange.{FlatRange}
use Rattle.region_map.proofs.WalkLaws.{past, child_at, child_before, walk_alias, walk_inside, own_is, own_none, tried_none, tried_next}
use Rattle.region_map.proofs.SpanLaws.{span_in, span_before, span_past, or_nothing}
use Rattle.map_check.proofs.Bools.{or_left, or_right}
use Rattle.region_map.proofs.ViewLaws.{turned}

-- The first that answers.

or_else_assoc : (x y z : Option Found) → or_else (or_else x y) z ≡ or_else x (or_else y z)
or_else_assoc None y z = refl
or_else_assoc (Some v) y z = refl

-- A span.

module _ (f : ℕ → Option Found) (first offset end a : ℕ) where
  -- by cases
  span_is : (x : Option Found) → (first ≤ a → a < end → f (offset + (a - first)) ≡ x) → (a < first → None ≡ x) → (end ≤ a → None ≡ x) → in_span f first offset end a ≡ x
  span_is x inner low high = go (leb first a) (ltb a end) refl refl
    where
      go : (b t : Bool) → leb first a ≡ b → ltb a end ≡ t → in_span f first offset end a ≡ x
      go true true p q = span_in f first offset end a (leb-true first a p) (ltb-true a end q) ∙ inner (leb-true first a p) (ltb-true a end q)
      go true false p q = span_past f first offset end a (ltb-false a end q) ∙ high (ltb-false a end q)
      go false t p q = span_before f first offset end a (leb-false first a p) ∙ low (leb-false first a p)

span_ext : (f g : ℕ → Option Found) → ((x : ℕ) → f x ≡ g x) → (first offset end a : ℕ) → in_span f first offset end a ≡ in_span g first offset end a
span_ext f g e first offset end a = span_is f first offset end a _
    (λ h k. e _ ∙ sym (span_in g first offset end a h k)) (λ h. sym (span_before g first offset end a h)) (λ h. sym (span_past g first offset end a h))

span_nothing : (f : ℕ → Option Found) → ((x : ℕ) → f x ≡ None) → (first offset end a : ℕ) → in_span f first offset end a ≡ None
span_nothing f e first offset end a = span_is f first offset end a _ (λ h k. e _) (λ h. refl) (λ h. refl)

span_or_else : (f g : ℕ → Option Found) (first offset end a : ℕ) → in_span (λ x. or_else (f x) (g x)) first offset end a ≡ or_else (in_span f first offset end a) (in_span g first offset end a)
span_or_else f g first offset end a = span_is (λ x. or_else (f x) (g x)) first offset end a _
    (λ h k. rw (span_in f first offset end a h k, span_in g first offset end a h k))
    (λ h. rw (span_before f first offset end a h, span_before g first offset end a h))
    (λ h. rw (span_past f first offset end a h, span_past g first offset end a h))

-- f is g, k further on, below its size, and nothing past it
span_clip : (f g : ℕ → Option Found) (size k : ℕ) → ((x : ℕ) → x < size → f x ≡ g (x + k)) → ((x : ℕ) → size ≤ x → f x ≡ None)
    → (first offset end r : ℕ) → first ≤ end → offset ≤ size → r ≤ end - first → r ≤ size - offset → (r < end - first → size - offset ≤ r)
    → (a : ℕ) → in_span f first offset end a ≡ in_span g first (offset + k) (first + r) a
span_clip f g size k e none first offset end r o s l m n a = span_is f first offset end a _ inner
    (λ h. sym (span_before g first (offset + k) (first + r) a h)) (λ h. sym (span_past g first (offset + k) (first + r) a (omega arith)))
  where
    inner : first ≤ a → a < end → f (offset + (a - first)) ≡ in_span g first (offset + k) (first + r) a
    inner h t = go (dec_lt a (first + r))
      where
        go : Dec (a < first + r) → f (offset + (a - first)) ≡ in_span g first (offset + k) (first + r) a
        go (yes q) =
            let p : offset + (a - first) + k ≡ offset + k + (a - first) = omega arith in
            e (offset + (a - first)) (omega arith) ∙ ap g p ∙ sym (span_in g first (offset + k) (first + r) a h q)
        go (no q) =
            let z : size - offset ≤ r = n (omega arith) in
            none (offset + (a - first)) (omega arith) ∙ sym (span_past g first (offset + k) (first + r) a (omega arith))

-- What is put behind a table.

pub behind_ext : {w v : PieceTable} {f g : ℕ → Option Found} → ((a : ℕ) → f a ≡ g a) → Behind w g v → Behind w f v
behind_ext {w} e b = record {
  kept = b.kept;
  start = b.start;
  within = b.within;
  gives = λ a h. b.gives a h ∙ ap (or_else (shown w a)) (sym (e a));
}

pub behind_at : {w v u : PieceTable} {f : ℕ → Option Found} → u ≡ v → Behind w f v → Behind w f u
behind_at {w} {f = f} e b = subst (λ (x : PieceTable). Behind w f x) (sym e) b

pub behind_none : (w : PieceTable) (f : ℕ → Option Found) → Pieces w → ((a : ℕ) → a < w.horizon.0 → f a ≡ None) → Behind w f w
behind_none w f k e = record {
  kept = k;
  start = refl;
  within = omega arith;
  gives = λ a h. sym (or_nothing (shown w a)) ∙ ap (or_else (shown w a)) (sym (e a h));
}

pub behind_then : {w v u : PieceTable} {f g : ℕ → Option Found} → Behind w f v → Behind v g u → Behind w (λ a. or_else (f a) (g a)) u
behind_then {w} {f = f} {g} b d = record {
  kept = d.kept;
  start = d.start ∙ b.start;
  within = omega (arith, d.within, b.within);
  gives = λ a h. d.gives a h ∙ ap (λ (x : Option Found). or_else x (g a)) (b.gives a (omega (arith, d.within))) ∙ or_else_assoc (shown w a) (f a) (g a);
}

-- What the tree puts there.

-- x is region n, read out of the map
module _ (m : RegionMap) (n : ℕ) (x : Region) (same : x ≡ region m n) where
  pub region_facts : Walkable m → n < m.count → (x.size ≤ 2 ^ 48) × (x.alias_offset ≤ 2 ^ 48) × (x.kind ≡ 3 → x.target < n)
  region_facts s i = subst (λ (y : Region). (y.size ≤ 2 ^ 48) × (y.alias_offset ≤ 2 ^ 48) × (y.kind ≡ 3 → y.target < n)) (sym same) (s.sizes n i, s.aliases n i, s.targets n i)

  past_size : (a : ℕ) → x.size ≤ a → walk m n a ≡ None
  past_size = subst (λ (y : Region). (a : ℕ) → y.size ≤ a → walk m n a ≡ None) (sym same) (past m n)

  pub nothing_there : (w : PieceTable) (first offset end : ℕ) → Pieces w → (leb end first || leb x.size offset) ≡ true → Behind w (in_span (walk m n) first offset end) w
  nothing_there w first offset end k e = behind_none w _ k (λ a h. span_is (walk m n) first offset end a None (λ p q. go a p q (leb end first) refl e) (λ _. refl) (λ _. refl))
    where
      go : (a : ℕ) → first ≤ a → a < end → (b : Bool) → leb end first ≡ b → (b || leb x.size offset) ≡ true → walk m n (offset + (a - first)) ≡ None
      go a p q true t d = absurd (omega (arith, leb-true end first t))
      go a p q false t d = past_size (offset + (a - first)) (omega (arith, leb-true x.size offset d))

pub some_there : (size first offset end : ℕ) → (leb end first || leb size offset) ≡ false → (first < end) × (offset < size)
some_there size first offset end e = (leb-false end first (or_left _ _ e), leb-false size offset (or_right (leb end first) _ e))

pub not_reached : (f : ℕ → Option Found) (w : PieceTable) (first offset end : ℕ) → Pieces w → w.horizon.0 ≤ first → Behind w (in_span f first offset end) w
not_reached f w first offset end k h = behind_none w _ k (λ a l. span_before f first offset end a (omega arith))

module _ (m : RegionMap) (n : ℕ) (x : Region) (same : x ≡ region m n) {w v : PieceTable} (first offset end r : ℕ) (nearer : r ≡ min (end - first) (x.size - offset)) (some : first < end) (inside : offset < x.size) where
  pub through_alias : Walkable m → n < m.count → x.kind ≡ 3 → Behind w (in_span (walk m x.target) first (offset + x.alias_offset) (first + r)) v
      → Behind w (in_span (walk m n) first offset end) v
  through_alias s i e b = behind_ext (span_clip (walk m n) (walk m x.target) x.size x.alias_offset
      (subst (λ (y : Region). y.kind ≡ 3 → (a : ℕ) → a < y.size → walk m n a ≡ walk m y.target (a + y.alias_offset)) (sym same) (walk_alias m s n i) e)
      (past_size m n x same) first offset end r (omega arith) (omega arith) (omega arith) (omega arith) (λ h. omega arith)) b

  pub through_children : (x.kind ≡ 3 → ⊥) → Behind w (in_span (tried_in m n 8192) first offset (first + r)) v
      → Behind w (in_span (walk m n) first offset end) v
  through_children e b =
      let z : offset + 0 ≡ offset = add-zero offset in
      let inner = subst (λ (y : Region). (y.kind ≡ 3 → ⊥) → (a : ℕ) → a < y.size → walk m n a ≡ tried_in m n 8192 a) (sym same) (walk_inside m n) e in
      behind_ext (λ a. span_clip (walk m n) (tried_in m n 8192) x.size 0
      (λ o h. inner o h ∙ ap (tried_in m n 8192) (sym (add-zero o))) (past_size m n x same) first offset end r (omega arith) (omega arith) (omega arith) (omega arith) (λ h. omega arith) a
      ∙ ap (λ (o : ℕ). in_span (tried_in m n 8192) first o (first + r) a) z) b

-- The children of n, and n itself.

module _ (m : RegionMap) (n b first offset end : ℕ) where
  module _ (next : NextChild m n b None) where
    pub the_node : {w v : PieceTable} (x : Region) → x ≡ region m n → (x.kind ≡ 0 → ⊥) → Behind w (in_span (itself n) first offset end) v
        → Behind w (in_span (tried_in m n b) first offset end) v
    the_node x same k d = behind_ext (span_ext (tried_in m n b) (itself n) (λ x. tried_none m _ n b next x ∙ own_is m n (λ z. k (ap (λ (y : Region). y.kind) same ∙ z)) x) first offset end) d

    pub no_node : (w : PieceTable) (x : Region) → x ≡ region m n → Pieces w → x.kind ≡ 0 → Behind w (in_span (tried_in m n b) first offset end) w
    no_node w x same p k = behind_none w _ p (λ a h. span_nothing (tried_in m n b) (λ x. tried_none m _ n b next x ∙ own_none m n (sym (ap (λ (y : Region). y.kind) same) ∙ k) x) first offset end a)

  pub child_then : {w v u : PieceTable} (r : ℕ) → NextChild m n b (Some r) → Behind w (in_span (answer_in m n r) first offset end) v → Behind v (in_span (tried_in m n r) first offset end) u
      → Behind w (in_span (tried_in m n b) first offset end) u
  child_then r next d g = behind_ext (λ a. span_ext (tried_in m n b) _ (tried_next m (walk_below priority_of m n) n b r next) first offset end a
      ∙ span_or_else (answer_in m n r) (tried_in m n r) first offset end a) (behind_then d g)

-- A child, which begins at or before the span, inside it, or not before its end.
module _ (m : RegionMap) (n k : ℕ) (x : Region) (read : x ≡ region m (k % 32)) (first offset end : ℕ) (child : ranked priority_of m n k ≡ true) where
  from_child : (a : ℕ) → x.offset ≤ a → answer_in m n k a ≡ walk m (k % 32) (a - x.offset)
  from_child = subst (λ (y : Region). (a : ℕ) → y.offset ≤ a → answer_in m n k a ≡ walk m (k % 32) (a - y.offset)) (sym read) (child_at m n k child)

  before_child : (a : ℕ) → a < x.offset → answer_in m n k a ≡ None
  before_child = subst (λ (y : Region). (a : ℕ) → a < y.offset → answer_in m n k a ≡ None) (sym read) (child_before m n k child)

  pub child_begun : {w v : PieceTable} → x.offset ≤ offset → Behind w (in_span (walk m (k % 32)) first (offset - x.offset) end) v
      → Behind w (in_span (answer_in m n k) first offset end) v
  child_begun h d = behind_ext same d
    where
      same : (a : ℕ) → in_span (answer_in m n k) first offset end a ≡ in_span (walk m (k % 32)) first (offset - x.offset) end a
      same a = span_is (answer_in m n k) first offset end a _
          (λ p q.
          let z : offset + (a - first) - x.offset ≡ offset - x.offset + (a - first) = omega arith in
          from_child (offset + (a - first)) (omega arith) ∙ ap (walk m (k % 32)) z ∙ sym (span_in (walk m (k % 32)) first (offset - x.offset) end a p q))
          (λ p. sym (span_before (walk m (k % 32)) first (offset - x.offset) end a p))
          (λ p. sym (span_past (walk m (k % 32)) first (offset - x.offset) end a p))

  pub child_ahead : {w v : PieceTable} → offset < x.offset → Behind w (in_span (walk m (k % 32)) (first + (x.offset - offset)) 0 end) v
      → Behind w (in_span (answer_in m n k) first offset end) v
  child_ahead h d = behind_ext same d
    where
      same : (a : ℕ) → in_span (answer_in m n k) first offset end a ≡ in_span (walk m (k % 32)) (first + (x.offset - offset)) 0 end a
      same a = span_is (answer_in m n k) first offset end a _ (λ p q. inner p q (dec_lt a (first + (x.offset - offset))))
          (λ p. sym (span_before (walk m (k % 32)) (first + (x.offset - offset)) 0 end a (omega arith)))
          (λ p. sym (span_past (walk m (k % 32)) (first + (x.offset - offset)) 0 end a p))
        where
          inner : first ≤ a → a < end → Dec (a < first + (x.offset - offset)) → answer_in m n k (offset + (a - first)) ≡ in_span (walk m (k % 32)) (first + (x.offset - offset)) 0 end a
          inner p q (yes l) = before_child (offset + (a - first)) (omega arith) ∙ sym (span_before (walk m (k % 32)) (first + (x.offset - offset)) 0 end a l)
          inner p q (no l) =
              let z : offset + (a - first) - x.offset ≡ 0 + (a - (first + (x.offset - offset))) = omega arith in
              from_child (offset + (a - first)) (omega arith) ∙ ap (walk m (k % 32)) z ∙ sym (span_in (walk m (k % 32)) (first + (x.offset - offset)) 0 end a (omega arith) q)

  pub child_beyond : (w : PieceTable) → Pieces w → offset < x.offset → end - first ≤ x.offset - offset
      → Behind w (in_span (answer_in m n k) first offset end) w
  child_beyond w s h l = behind_none w _ s (λ a i. span_is (answer_in m n k) first offset end a None
      (λ p q. before_child (offset + (a - first)) (omega arith)) (λ p. refl) (λ p. refl))

-- What the pieces give an address: nothing between them, and inside one the piece.

given_none : (w : PieceTable) (k a : ℕ) → ((j : ℕ) → j < k → (piece_end w j ≤ a) ⊎ (a < piece_first w j)) → given w k a ≡ None
unfolding given
given_none w zero a h = refl
given_none w (suc k) a h =
    let piece : piece_gives w k a ≡ None = ⊎_elim
    (λ l. span_past (itself (piece_region w k)) (piece_first w k) (piece_offset w k) (piece_end w k) a l)
    (λ l. span_before (itself (piece_region w k)) (piece_first w k) (piece_offset w k) (piece_end w k) a l)
    (h k (omega arith)) in
    rw (given_none w k a (λ j l. h j (omega arith))) piece

given_at : (w : PieceTable) (i k a : ℕ) → i < k → ((j : ℕ) → j < i → piece_end w j ≤ a) → piece_first w i ≤ a → a < piece_end w i
    → given w k a ≡ itself (piece_region w i) (piece_offset w i + (a - piece_first w i))
unfolding given
given_at w i zero a l before h t = absurd (not-suc-le-zero l)
given_at w i (suc k) a l before h t = go (ℕ_discrete i k) (λ p. given_at w i k a p before h t)
  where
    go : Dec (i ≡ k) → (i < k → given w k a ≡ itself (piece_region w i) (piece_offset w i + (a - piece_first w i)))
        → or_else (given w k a) (piece_gives w k a) ≡ itself (piece_region w i) (piece_offset w i + (a - piece_first w i))
    go (yes e) ih = rw (← e, given_none w i a (λ j p. inl (before j p))) (span_in (itself (piece_region w i)) (piece_first w i) (piece_offset w i) (piece_end w i) a h t)
    go (no e) ih = rw (ih (omega arith))

-- The flat list does not grow where nothing answers.

flat_over : (backing : ℕ → Backing) (f : ℕ → Option Found) (at s : ℕ) → ((a : ℕ) → at ≤ a → a < at + s → f a ≡ None) → flat backing f (at + s) ≡ flat backing f at
unfolding flat extend
flat_over backing f at zero h = rw add-zero
flat_over backing f at (suc s) h = rw (add-suc, h (at + s) (omega arith) (omega arith)) (flat_over backing f at s (λ a l k. h a l (omega arith)))

flat_same : (backing : ℕ → Backing) (f : ℕ → Option Found) (at to : ℕ) → at ≤ to → ((a : ℕ) → at ≤ a → a < to → f a ≡ None) → flat backing f to ≡ flat backing f at
flat_same backing f at to l h =
    let e : at + (to - at) ≡ to = omega arith in
    subst (λ (x : ℕ). flat backing f x ≡ flat backing f at) e (flat_over backing f at (to - at) (λ a p q. h a p (omega arith)))

-- The first i pieces are in a list: it is the list of the addresses below `at`, past those pieces and not past the others.
pub record Emitted (backing : ℕ → Backing) (f : ℕ → Option Found) (w : PieceTable) (i : ℕ) (l : List FlatRange) : Type 0 where
  pub at : ℕ
  pub low : w.start.0 ≤ at
  pub high : at ≤ w.horizon.0
  pub passed : (j : ℕ) → j < i → at < w.horizon.0 → piece_end w j ≤ at
  pub left : (j : ℕ) → i ≤ j → j < w.count → at ≤ piece_first w j
  pub list : l ≡ flat backing f at

module _ (backing : ℕ → Backing) (f : ℕ → Option Found) (w : PieceTable) (good : Pieces w) where
  pub none_emitted : (l : List FlatRange) → l ≡ flat backing f w.start.0 → Emitted backing f w 0 l
  none_emitted l e = record {
    at = w.start.0;
    low = omega arith;
    high = omega (arith, good.ahead);
    passed = λ j h. absurd (not-suc-le-zero h);
    left = λ j h k. good.from j k;
    list = e;
  }

  module _ (whole : WholeTable f w) where
    pub all_emitted : (i : ℕ) (l : List FlatRange) → w.count ≤ i → Emitted backing f w i l → l ≡ flat backing f w.horizon.0
    all_emitted i l h e = e.list ∙ sym (flat_same backing f e.at w.horizon.0 e.high (λ a p q.
        sym (whole.gives a (omega (arith, e.low)) q)
        ∙ given_none w w.count a (λ j k. inl (omega (arith, e.passed j (omega arith) (omega arith))))))

    module _ (i : ℕ) (l : List FlatRange) (some : i < w.count) (e : Emitted backing f w i l) (stop : ℕ)
        (one : stop ≤ piece_end w i) (two : stop ≤ w.horizon.0) (less : stop < piece_end w i → w.horizon.0 ≤ stop) where
      more : piece_first w i < stop
      more = go (dec_lt (piece_first w i) stop)
        where
          go : Dec (piece_first w i < stop) → piece_first w i < stop
          go (yes h) = h
          go (no h) = absurd (omega (arith, less (omega (arith, good.order i some)), good.near i some))

      -- up to the piece
      piece_list : l ≡ flat backing f (piece_first w i)
      piece_list = e.list ∙ sym (flat_same backing f e.at (piece_first w i) (e.left i (omega arith) some) (λ a p q.
          sym (whole.gives a (omega (arith, e.low)) (omega (arith, good.near i some)))
          ∙ given_none w w.count a (λ j k. go a p q j k (dec_lt j i))))
        where
          go : (a : ℕ) → e.at ≤ a → a < piece_first w i → (j : ℕ) → j < w.count → Dec (j < i) → (piece_end w j ≤ a) ⊎ (a < piece_first w j)
          go a p q j k (yes h) = inl (omega (arith, e.passed j h (omega (arith, good.near i some))))
          go a p q j k (no h) = inr (later (ℕ_discrete i j))
            where
              later : Dec (i ≡ j) → a < piece_first w j
              later (yes z) = omega (arith, ap (piece_first w) z)
              later (no z) = omega (arith, good.apart i j (omega arith) k, good.order i some)

      piece_at : (a : ℕ) → piece_first w i ≤ a → a < stop → f a ≡ itself (piece_region w i) (piece_offset w i + (a - piece_first w i))
      piece_at a p q = sym (whole.gives a (omega (arith, good.from i some)) (omega arith))
          ∙ given_at w i w.count a some (λ j h. omega (arith, good.apart j i h some)) p (omega arith)

      piece_first_lem : itself (piece_region w i) (piece_offset w i) ≡ f (piece_first w i)
      piece_first_lem =
          let z : piece_offset w i + (piece_first w i - piece_first w i) ≡ piece_offset w i = omega arith in
          sym (piece_at (piece_first w i) (omega arith) more ∙ ap (itself (piece_region w i)) z)

      piece_run : (d : ℕ) → d < stop - piece_first w i → f (piece_first w i + d) ≡ shift d (f (piece_first w i))
      piece_run d h =
          let z : piece_offset w i + (piece_first w i + d - piece_first w i) ≡ piece_offset w i + d = omega arith in
          piece_at (piece_first w i + d) (omega arith) (omega arith) ∙ ap (itself (piece_region w i)) z ∙ ap (shift d) piece_first_lem

      -- and the piece
      grew_there : (p : Pushed) → Grew (extend backing l (piece_first w i) (stop - 1) (itself (piece_region w i) (piece_offset w i))) p → Grew (flat backing f stop) p
      grew_there p g =
          let more' : piece_first w i < stop = more in
          let last : stop - 1 ≡ piece_first w i + (stop - piece_first w i - 1) = omega arith in
          let z : piece_first w i + (stop - piece_first w i) ≡ stop = omega arith in
          subst (λ (x : ℕ). Grew (flat backing f x) p) z
          (turned backing f (piece_first w i) (stop - piece_first w i) l (itself (piece_region w i) (piece_offset w i)) p piece_list piece_first_lem (omega arith) piece_run
          (subst (λ (x : ℕ). Grew (extend backing l (piece_first w i) x (itself (piece_region w i) (piece_offset w i))) p) last g))

      pub piece_grew : (p : Pushed) (first region offset : ℕ) → first ≡ piece_first w i → region ≡ piece_region w i → offset ≡ piece_offset w i
          → Grew (extend backing l first (stop - 1) (itself region offset)) p → Grew (flat backing f stop) p
      piece_grew p first region offset a b c g = grew_there p (subst (λ (x : ℕ). Grew (extend backing l x (stop - 1) (itself (piece_region w i) (piece_offset w i))) p) a
          (subst (λ (x : ℕ). Grew (extend backing l first (stop - 1) (itself x (piece_offset w i))) p) b
          (subst (λ (x : ℕ). Grew (extend backing l first (stop - 1) (itself region x)) p) c g)))

      pub one_emitted : (k : List FlatRange) → k ≡ flat backing f stop → Emitted backing f w (i + 1) k
      one_emitted k q = record {
        at = stop;
        low = omega (arith, good.from i some, more);
        high = two;
        passed = λ j h t. go j h t (ℕ_discrete j i);
        left = λ j h t. omega (arith, good.apart i j (omega arith) t);
        list = q;
      }
        where
          go : (j : ℕ) → j < i + 1 → stop < w.horizon.0 → Dec (j ≡ i) → piece_end w j ≤ stop
          go j h t (yes z) = go_end (dec_lt stop (piece_end w i))
            where
              go_end : Dec (stop < piece_end w i) → piece_end w j ≤ stop
              go_end (yes b) = absurd (omega (arith, less b))
              go_end (no b) = omega (arith, ap (piece_end w) z)
          go j h t (no z) = omega (arith, good.apart j i (omega arith) some, more)

-- The table of a sweep's turn.

whole_root : (m : RegionMap) (w v : PieceTable) (at offset end : ℕ) → w.count ≡ 0 → w.start.0 ≡ at → w.horizon.0 ≡ end → offset ≡ at
    → Behind w (in_span (walk m (m.count - 1)) at offset end) v → WholeTable (walk_root m) v
unfolding walk_root_by given
whole_root m w v at offset end none start horizon same b = record {
  gives = λ a h k.
      let z : offset + (a - at) ≡ a = omega (arith, b.start) in
      let empty : shown w a ≡ None = ap (λ (n : ℕ). given w n a) none in
      b.gives a k ∙ ap (λ (x : Option Found). or_else x (in_span (walk m (m.count - 1)) at offset end a)) empty
      ∙ span_in (walk m (m.count - 1)) at offset end a (omega (arith, b.start)) (omega (arith, b.within)) ∙ ap (walk m (m.count - 1)) z;
}

-- the same with the root's number as it was read
pub whole_from : (m : RegionMap) (n : ℕ) → n ≡ m.count - 1 → (w v : PieceTable) (at offset end : ℕ) → w.count ≡ 0 → w.start.0 ≡ at → w.horizon.0 ≡ end → offset ≡ at
    → Behind w (in_span (walk m n) at offset end) v → WholeTable (walk_root m) v
whole_from m n e w v at offset end none start horizon same b =
    whole_root m w v at offset end none start horizon same (subst (λ (k : ℕ). Behind w (in_span (walk m k) at offset end) v) e b)
