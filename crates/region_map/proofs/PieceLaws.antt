-- Laws of the table of pieces: an empty one, and a piece put between its neighbours. Assumes nothing.
use mathlib.Core.Path.{◌≡◌, refl, sym, ap, subst, ◌∙◌}
use mathlib.Core.List.{List, [], ◌∷◌, append-nil}
use mathlib.Core.Logic.{◌⊎◌, inl, inr, ⊎_elim}
use Prim.Native.Nat.{ℕ, zero, suc, ◌+◌, ◌-◌, ◌^◌, ◌≤◌, ◌<◌}
use native.Mathlib.Nat.{add-zero, add-suc, eq-zero-or-pos}
use native.Mathlib.Numerals.{add-one}
use native.Mathlib.Omega.{arith}
use lib.ListN.{length, get_or, set, length-set, take, drop, drop_of_length-le}
use lib.Seq.{take-suc}
use borrow.Rule.Slice.PartMut.{mid_of, post_of, put_mid, same_len_mid}
use Rattle.std.proofs.Common.{◌++◌}
use Rattle.std.proofs.lemmas.List.{get_or_append_left, get_or-append_right, get_or-take, get_or-drop, append_assoc, take-set-le, drop-set, set_split, length-take-le, length-drop}
use Rattle.std.specs.Prelude.{Option, Some, None}
use Rattle.map_records.specs.declared.map.Found.{Found}
use Rattle.map_records.specs.declared.map.GuestAddress.{GuestAddress}
use Rattle.region_map.specs.declared.pieces.Piece.{Piece}
use Rattle.region_map.specs.declared.pieces.PieceTable.{PieceTable}
use Rattle.region_map.specs.Walk.{or_else}
use Rattle.region_map.specs.Pieces.{no_piece, piece, piece_first, piece_end, piece_region, piece_offset, in_span, itself, piece_shows, piece_gives, given, shown, BegunTable, Pieces, Behind, PieceSpot, Fits}
use Rattle.region_map.proofs.SpanLaws.{span_before, span_past, or_nothing}

side : (e n : ℕ) → (e < n) ⊎ (n ≤ e)
side e n = ⊎_elim (λ z. inr (omega arith)) (λ p. inl (omega arith)) (eq-zero-or-pos (n - e))

-- An empty table.

pub begin_empty : (w : PieceTable) (s e : GuestAddress) → length w.pieces ≡ 256 → s.0 < e.0 → e.0 ≤ 2 ^ 48 → BegunTable s.0 e.0 (record { count = 0; horizon = e; start = s; pieces = w.pieces })
begin_empty w s e size ahead far = record {
  kept = record {
    size = size;
    few = omega arith;
    ahead = ahead;
    far = far;
    from = λ i h. absurd (omega arith);
    near = λ i h. absurd (omega arith);
    order = λ i h. absurd (omega arith);
    apart = λ i j l h. absurd (omega arith);
    ends = λ i h. absurd (omega arith);
    regions = λ i h. absurd (omega arith);
  };
  none = refl;
  first = refl;
  horizon = refl;
}

-- What pieces give.

pub record Same (v : PieceTable) (j : ℕ) (w : PieceTable) (k : ℕ) : Type 0 where
  pub first : piece_first v j ≡ piece_first w k
  pub end : piece_end v j ≡ piece_end w k
  pub region : piece_region v j ≡ piece_region w k
  pub offset : piece_offset v j ≡ piece_offset w k

span_eq : {r r' f f' o o' e e' : ℕ} (a : ℕ) → r ≡ r' → f ≡ f' → o ≡ o' → e ≡ e' → in_span (itself r) f o e a ≡ in_span (itself r') f' o' e' a
span_eq a p q s t = λ i. in_span (itself (p i)) (q i) (s i) (t i) a

same_gives : {v w : PieceTable} {j k : ℕ} (a : ℕ) → Same v j w k → piece_gives v j a ≡ piece_gives w k a
same_gives a s = span_eq a s.region s.first s.offset s.end

-- two answers of which one is nothing may change places
swap : (g x p : Option Found) → (x ≡ None) ⊎ (p ≡ None) → or_else (or_else g p) x ≡ or_else (or_else g x) p
swap (Some v) x p e = refl
swap None x p (inl e) = rw (e, or_nothing)
swap None x p (inr e) = rw (e, or_nothing)

given_same : (v w : PieceTable) (a k : ℕ) → ((j : ℕ) → j < k → piece_gives v j a ≡ piece_gives w j a) → given v k a ≡ given w k a
unfolding given
given_same v w a zero h = refl
given_same v w a (suc k) h = λ i. or_else (given_same v w a k (λ j l. h j (omega arith)) i) (h k (omega arith) i)

-- a piece put in before others that lie apart from it comes to the same as one put behind them
given_past : (v w : PieceTable) (i a : ℕ) (x : Option Found) → given v i a ≡ given w i a → piece_gives v i a ≡ x → (k : ℕ)
    → ((j : ℕ) → i ≤ j → j < i + k → piece_gives v (suc j) a ≡ piece_gives w j a)
    → ((j : ℕ) → i ≤ j → j < i + k → (piece_gives w j a ≡ None) ⊎ (x ≡ None))
    → given v (suc (i + k)) a ≡ or_else (given w (i + k) a) x
unfolding given
given_past v w i a x g e zero up apart = rw add-zero (λ t. or_else (g t) (e t))
given_past v w i a x g e (suc k) up apart =
    rw add-suc
    ((λ t. or_else (given_past v w i a x g e k (λ j l h. up j l (omega arith)) (λ j l h. apart j l (omega arith)) t) (up (i + k) (omega arith) (omega arith) t))
    ∙ swap (given w (i + k) a) (piece_gives w (i + k) a) x (apart (i + k) (omega arith) (omega arith)))

-- A piece put in at place i before m - i others, under a horizon h.

pub record Placed (w : PieceTable) (i m h : ℕ) (p : Piece) (v : PieceTable) : Type 0 where
  pub size : length v.pieces ≡ 256
  pub count : v.count ≡ m + 1
  pub horizon : v.horizon.0 ≡ h
  pub start : v.start.0 ≡ w.start.0
  pub low : (j : ℕ) → j < i → Same v j w j
  pub first : piece_first v i ≡ p.first.0
  pub end : piece_end v i ≡ p.end.0
  pub region : piece_region v i ≡ p.region
  pub offset : piece_offset v i ≡ p.offset.0
  pub up : (j : ℕ) → i ≤ j → j < m → Same v (suc j) w j

-- A row whose pieces move up by one, those from k on done: without the one before them it is what it was, but for the last.
pub record MovingUp (start row : List Piece) (k : ℕ) : Type 0 where
  pub some : 0 < k
  pub within : k ≤ length row
  pub rest : take (k - 1) row ++ drop k row ≡ take (length start - 1) start

pub none_moved : (start : List Piece) → 0 < length start → MovingUp start start (length start)
none_moved start some = record {
  some = some;
  within = omega arith;
  rest =
      ap (λ (r : List Piece). take (length start - 1) start ++ r) (drop_of_length-le start {i = length start} (omega arith))
      ∙ append-nil (take (length start - 1) start);
}

module _ (start row : List Piece) (k : ℕ) (moving : MovingUp start row k) where
  pub moved_up : (i j : ℕ) → i + 1 ≡ k → j + 1 ≡ i → MovingUp start (set row i (get_or row j no_piece)) i
  moved_up i j e d =
      let x : Piece = get_or row j no_piece in
      let within : i < length row = omega (arith, moving.within) in
      let here : i - 1 ≡ j = omega arith in
      let next : suc j ≡ k - 1 = omega arith in
      let before : take (i - 1) (set row i x) ≡ take j row = take-set-le (i - 1) row i x (omega arith) ∙ ap (λ (n : ℕ). take n row) here in
      let behind : drop i (set row i x) ≡ x ∷ drop k row = drop-set row i x within ∙ ap (λ (n : ℕ). x ∷ drop n row) e in
      let one_more : take j row ++ x ∷ [] ≡ take (k - 1) row = sym (take-suc row j no_piece (omega arith)) ∙ ap (λ (n : ℕ). take n row) next in
      record {
        some = omega arith;
        within = omega (arith, length-set row i x);
        rest = (λ t. before t ++ behind t) ∙ sym (append_assoc (take j row) (x ∷ []) (drop k row)) ∙ ap (λ (r : List Piece). r ++ drop k row) one_more ∙ moving.rest;
      }

  pub all_moved : (p : Piece) → k ≤ 1 → set row 0 p ≡ p ∷ take (length start - 1) start
  all_moved p last =
      let e : k ≡ 1 = omega (arith, moving.some) in
      set_split row 0 p (omega (arith, moving.within, moving.some)) ∙ ap (λ (r : List Piece). p ∷ r) (rw e at moving.rest)

-- p put in at place i of n pieces, before those from there on
module _ (xs : List Piece) (i n : ℕ) (p : Piece) (some : i < n) (room : n ≤ length xs) where
  abbrev row : List Piece
  row = mid_of i (n - i) xs

  abbrev pub put : List Piece
  put = p ∷ take (length row - 1) row

  long : length row ≡ n - i
  long = length-take-le (n - i) (drop i xs) (omega (arith, length-drop i xs))

  pub put_long : length put ≡ length row
  put_long = ap suc (length-take-le (length row - 1) row (omega arith)) ∙ omega (arith, long)

  front : length (take i xs) ≡ i
  front = length-take-le i xs (omega arith)

  put_low : (j : ℕ) → j < i → get_or (put_mid i (n - i) xs put) j no_piece ≡ get_or xs j no_piece
  put_low j l = get_or_append_left (take i xs) (put ++ post_of i (n - i) xs) no_piece j (omega (arith, front)) ∙ get_or-take i xs j no_piece l

  put_at : (k j : ℕ) → k < n - i → i + k ≡ j → get_or (put_mid i (n - i) xs put) j no_piece ≡ get_or put k no_piece
  put_at k j l e =
      let back : j - i ≡ k = omega arith in
      get_or-append_right (take i xs) (put ++ post_of i (n - i) xs) i j no_piece front (omega arith)
      ∙ ap (λ (x : ℕ). get_or (put ++ post_of i (n - i) xs) x no_piece) back
      ∙ get_or_append_left put (post_of i (n - i) xs) no_piece k (omega (arith, put_long, long))

  put_here : get_or (put_mid i (n - i) xs put) i no_piece ≡ p
  put_here = put_at 0 i (omega arith) (omega arith)

  put_up : (j : ℕ) → i ≤ j → j < n - 1 → get_or (put_mid i (n - i) xs put) (suc j) no_piece ≡ get_or xs j no_piece
  put_up j g l =
      let back : i + (j - i) ≡ j = omega arith in
      put_at (suc (j - i)) (suc j) (omega arith) (omega arith)
      ∙ get_or-take (length row - 1) row (j - i) no_piece (omega (arith, long))
      ∙ get_or-take (n - i) (drop i xs) (j - i) no_piece (omega arith) ∙ get_or-drop i xs (j - i) no_piece
      ∙ ap (λ (x : ℕ). get_or xs x no_piece) back

same : {v w : PieceTable} {j k : ℕ} → piece v j ≡ piece w k → Same v j w k
same e = record {
  first = ap (λ (p : Piece). p.first.0) e;
  end = ap (λ (p : Piece). p.end.0) e;
  region = ap (λ (p : Piece). p.region) e;
  offset = ap (λ (p : Piece). p.offset.0) e;
}

-- u has room for one piece more than m of w's: with that piece put in
pub placed : (w u : PieceTable) (i m h : ℕ) (p : Piece) (ys : List Piece) → length w.pieces ≡ 256 → u.pieces ≡ w.pieces → u.start ≡ w.start → u.count ≡ m + 1 → u.horizon.0 ≡ h → i ≤ m → m < 256
    → ys ≡ p ∷ take (length (mid_of i (u.count - i) u.pieces) - 1) (mid_of i (u.count - i) u.pieces)
    → Placed w i m h p (record { count = u.count; horizon = u.horizon; start = u.start; pieces = put_mid i (u.count - i) u.pieces ys })
placed w u i m h p ys size pieces start count horizon im few put =
    let some : i < u.count = omega (arith, count) in
    let room : u.count ≤ length u.pieces = omega (arith, count, ap length pieces) in
    let here = put_here u.pieces i u.count p some room in
    let kept : (j : ℕ) → piece u j ≡ piece w j = λ j. ap (λ (ps : List Piece). get_or ps j no_piece) pieces in
    rw put (record {
      size = same_len_mid i (u.count - i) u.pieces (p ∷ take (length (mid_of i (u.count - i) u.pieces) - 1) (mid_of i (u.count - i) u.pieces)) (put_long u.pieces i u.count p some room) ∙ ap length pieces ∙ size;
      count = count;
      horizon = horizon;
      start = ap (λ (a : GuestAddress). a.0) start;
      low = λ j l. same (put_low u.pieces i u.count p some room j l ∙ kept j);
      first = ap (λ (p : Piece). p.first.0) here;
      end = ap (λ (p : Piece). p.end.0) here;
      region = ap (λ (p : Piece). p.region) here;
      offset = ap (λ (p : Piece). p.offset.0) here;
      up = λ j g l. same (put_up u.pieces i u.count p some room j g (omega (arith, count)) ∙ kept j);
    })

-- a place is below i, i, or above it
places : (i m : ℕ) (P : ℕ → Type 0) → ((j : ℕ) → j < i → P j) → P i → ((j : ℕ) → i ≤ j → j < m → P (suc j)) → (j : ℕ) → j < m + 1 → P j
places i m P low here up j h = ⊎_elim
    (λ l. low j l)
    (λ g. ⊎_elim
    (λ l. let e : suc (j - 1) ≡ j = omega arith in subst P e (up (j - 1) (omega arith) (omega arith)))
    (λ l. let e : i ≡ j = omega arith in subst P e here)
    (side i j))
    (side j i)

record Good (v : PieceTable) (j : ℕ) : Type 0 where
  from : v.start.0 ≤ piece_first v j
  near : piece_first v j < v.horizon.0
  order : piece_first v j < piece_end v j
  end : piece_end v j ≤ 2 ^ 48
  region : piece_region v j < 32

module _ (w : PieceTable) (i m h : ℕ) (p : Piece) (v : PieceTable) (t : Pieces w) (f : Fits w i p) (d : Placed w i m h p v) (im : i ≤ m) (few : m ≤ 255) (mc : m ≤ w.count) (hw : h ≤ w.horizon.0) (pf : p.first.0 < h) (nearer : (j : ℕ) → j < m → piece_first w j < h) where
  new_before : (j : ℕ) → i ≤ j → j < m → p.end.0 ≤ piece_first w j
  new_before j g l = ⊎_elim
      (λ lt. omega (arith, f.after (omega arith), t.order i (omega arith), t.apart i j lt (omega arith)))
      (λ le. let e : i ≡ j = omega arith in subst (λ (x : ℕ). p.end.0 ≤ piece_first w x) e (f.after (omega arith)))
      (side i j)

  good_same : (j k : ℕ) → k < m → Same v j w k → Good v j
  good_same j k l s = record {
    from = omega (arith, s.first, d.start, t.from k (omega arith));
    near = omega (arith, s.first, d.horizon, nearer k l);
    order = omega (arith, s.first, s.end, t.order k (omega arith));
    end = omega (arith, s.end, t.ends k (omega arith));
    region = omega (arith, s.region, t.regions k (omega arith));
  }

  good_new : Good v i
  good_new = record {
    from = omega (arith, d.first, d.start, f.from);
    near = omega (arith, d.first, d.horizon, pf);
    order = omega (arith, d.first, d.end, f.some);
    end = omega (arith, d.end, f.far);
    region = omega (arith, d.region, f.region);
  }

  good : (j : ℕ) → j < v.count → Good v j
  good j l = places i m (Good v) (λ k b. good_same k k (omega arith) (d.low k b)) good_new (λ k g b. good_same (suc k) k b (d.up k g b)) j (omega (arith, d.count))

  new_apart : (j k : ℕ) → j < k → k < m + 1 → piece_end v j ≤ piece_first v k
  new_apart j k jk l = places i m (λ (x : ℕ). (y : ℕ) → y < x → piece_end v y ≤ piece_first v x)
      (λ x b y yx. omega (arith, (d.low x b).first, (d.low y (omega arith)).end, t.apart y x yx (omega arith)))
      (λ y yi. omega (arith, d.first, (d.low y yi).end, f.before y yi))
      (λ x g b y yx. places i x (λ (z : ℕ). piece_end v z ≤ piece_first v (suc x))
      (λ z zi. omega (arith, (d.low z zi).end, (d.up x g b).first, t.apart z x (omega arith) (omega arith)))
      (omega (arith, d.end, (d.up x g b).first, new_before x g b))
      (λ z iz zx. omega (arith, (d.up z iz (omega arith)).end, (d.up x g b).first, t.apart z x zx (omega arith)))
      y (omega arith))
      k l j jk

  new_pieces : Pieces v
  new_pieces = record {
    size = d.size;
    few = omega (arith, d.count);
    ahead = omega (arith, d.start, d.horizon, f.from);
    far = omega (arith, d.horizon, t.far);
    from = λ j l. (good j l).from;
    near = λ j l. (good j l).near;
    order = λ j l. (good j l).order;
    apart = λ j k jk l. new_apart j k jk (omega (arith, d.count));
    ends = λ j l. (good j l).end;
    regions = λ j l. (good j l).region;
  }

  new_gives : (a : ℕ) → given v (m + 1) a ≡ or_else (given w m a) (in_span (itself p.region) p.first.0 p.offset.0 p.end.0 a)
  new_gives a =
      let x : Option Found = in_span (itself p.region) p.first.0 p.offset.0 p.end.0 a in
      let e : i + (m - i) ≡ m = omega arith in
      rw add-one
      (subst (λ (y : ℕ). given v (suc y) a ≡ or_else (given w y a) x) e
      (given_past v w i a x
      (given_same v w a i (λ j l. same_gives a (d.low j l)))
      (span_eq a d.region d.first d.offset d.end)
      (m - i)
      (λ j g l. same_gives a (d.up j g (omega arith)))
      (λ j g l. ⊎_elim
      (λ b. inl (span_before (itself (piece_region w j)) (piece_first w j) (piece_offset w j) (piece_end w j) a (omega (arith, new_before j g (omega arith)))))
      (λ b. inr (span_past (itself p.region) p.first.0 p.offset.0 p.end.0 a b))
      (side a p.end.0))))

  pub new_behind : ((a : ℕ) → a < h → shown w a ≡ given w m a) → Behind w (in_span (itself p.region) p.first.0 p.offset.0 p.end.0) v
  new_behind beyond = record {
    kept = new_pieces;
    start = d.start;
    within = omega (arith, d.horizon);
    gives = λ a l.
        ap (λ (k : ℕ). given v k a) d.count ∙ new_gives a
        ∙ ap (λ (y : Option Found). or_else y (in_span (itself p.region) p.first.0 p.offset.0 p.end.0 a)) (sym (beyond a (omega (arith, d.horizon))));
  }

  pub new_spot : PieceSpot v p.end.0 (i + 1)
  new_spot = record {
    bound = omega (arith, d.count);
    before = λ j l. ⊎_elim
        (λ b. omega (arith, (d.low j b).end, f.before j b, f.some))
        (λ b. let e : i ≡ j = omega arith in subst (λ (x : ℕ). piece_end v x ≤ p.end.0) e (omega (arith, d.end)))
        (side j i);
    after = λ l.
        let b : i < m = omega (arith, d.count) in
        rw (add-one i) (omega (arith, (d.up i (omega arith) b).end, f.after (omega arith), t.order i (omega arith)));
  }

-- What `insert` promises, in its two cases.

given_suc : (w : PieceTable) (k a : ℕ) → given w (k + 1) a ≡ or_else (given w k a) (piece_gives w k a)
unfolding given
given_suc w k a = rw add-one

-- below the first of the last piece that piece gives nothing
given_less : (w : PieceTable) (k a : ℕ) → a < piece_first w k → given w (k + 1) a ≡ given w k a
given_less w k a l =
    given_suc w k a ∙ ap (λ (x : Option Found). or_else (given w k a) x) (span_before (itself (piece_region w k)) (piece_first w k) (piece_offset w k) (piece_end w k) a l)
    ∙ or_nothing (given w k a)

module _ (w : PieceTable) (i : ℕ) (p : Piece) (v : PieceTable) (t : Pieces w) (f : Fits w i p) where
  pub insert_room : Placed w i w.count w.horizon.0 p v → (w.count ≡ 256 → ⊥) → Behind w (piece_shows p) v × PieceSpot v p.end.0 (i + 1)
  insert_room d some =
      let few : w.count ≤ 255 = omega (arith, t.few) in (
        new_behind w i w.count w.horizon.0 p v t f d f.place few (omega arith) (omega arith) f.near t.near (λ a l. refl),
        new_spot w i w.count w.horizon.0 p v t f d f.place few (omega arith) (omega arith) f.near t.near,
      )

  pub insert_full : Placed w i 255 (piece_first w 255) p v → w.count ≡ 256 → Behind w (piece_shows p) v × PieceSpot v p.end.0 (i + 1)
  insert_full d full =
      let im : i ≤ 255 = omega (arith, f.room) in
      let hw : piece_first w 255 ≤ w.horizon.0 = omega (arith, t.near 255 (omega arith)) in
      let nearer : (j : ℕ) → j < 255 → piece_first w j < piece_first w 255 = λ j l. omega (arith, t.order j (omega arith), t.apart j 255 l (omega arith)) in
      let pf : p.first.0 < piece_first w 255 = ⊎_elim
      (λ l. omega (arith, f.some, f.after (omega arith), nearer i l))
      (λ g. let e : i ≡ 255 = omega arith in omega (arith, f.some, subst (λ (x : ℕ). p.end.0 ≤ piece_first w x) e (f.after (omega arith))))
      (side i 255) in (
        new_behind w i 255 (piece_first w 255) p v t f d im (omega arith) (omega arith) hw pf nearer (λ a l. ap (λ (k : ℕ). given w k a) full ∙ given_less w 255 a l),
        new_spot w i 255 (piece_first w 255) p v t f d im (omega arith) (omega arith) hw pf nearer,
      )
