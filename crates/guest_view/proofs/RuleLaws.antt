-- Laws of 27 for a given view: what a view that keeps it is, and how judging each range with its predecessor and the first of its region judges all pairs. Assumes nothing.
use mathlib.Core.Path.{◌≡◌, refl, sym, ap, ◌∙◌, subst}
use mathlib.Core.Bool.{Bool, true, false, ◌&&◌, ◌||◌, not}
use mathlib.Core.List.{List}
use mathlib.Core.Logic.{⊎_elim}
use Prim.Native.Nat.{ℕ, ◌+◌, ◌-◌, ◌^◌, ◌≤◌, ◌<◌}
use native.Mathlib.Nat.{eq-or-lt_of_le}
use native.Mathlib.Numerals.{add-one}
use native.Mathlib.Omega.{arith}
use lib.Dec.{eqb, leb, ltb}
use lib.ListN.{length, get_or, set, replicate, get_or-replicate}
use lib.Seq.{get_or-set_same, get_or-set_other}
use borrow.Author.Tests.{lt-ltb, le-ltb, le-leb, lt-leb, eq-eqb, ne_eqb, leb-true, ltb-true, eqb-true}
use Rattle.map_records.specs.Map.{ram, mmio, managed, has_memory}
use Rattle.map_records.specs.Limits.{limit, most_regions}
use Rattle.map_records.specs.View.{range_of, last_offset}
use Rattle.map_records.specs.declared.view.FlatRange.{FlatRange}
use Rattle.map_records.specs.declared.view.FlatView.{FlatView}
use Rattle.map_check.proofs.Bools.{never, or_left, or_right, and_fst, and_snd, and_off}
use Rattle.device_words.specs.Table.{all_below}
use Rattle.device_words.proofs.TableLaws.{all_true, all_of, all_not}
use Rattle.map_records.proofs.Order.{side, eq_or_not}
use Rattle.guest_view.specs.View.{order_ok, last_ok, number_ok, kind_ok, memory_ok, managed_ok, range_ok, agree, pair_ok, entry_ok, view_ok}
use Rattle.guest_view.specs.Promises.{Ordered, Backed, Owner, Owners}

-- ---- tests

or_off : (a b : Bool) → (a || b) ≡ true → a ≡ false → b ≡ true
or_off true b e f = absurd (never f)
or_off false b e f = e

-- ---- one range

pub record RangeFacts (memory region : ℕ) (r : FlatRange) : Type 0 where
  pub order : r.first.0 ≤ r.last.0
  pub last : r.last.0 < 2 ^ 48
  pub offset : last_offset r < 2 ^ 48
  pub known : r.region < most_regions
  pub kind : kind_ok r ≡ true
  pub room : memory_ok memory r ≡ true
  pub inside : managed_ok region r ≡ true

pub range_facts : (memory region : ℕ) (r : FlatRange) → range_ok memory region r ≡ true → RangeFacts memory region r
unfolding range_ok
range_facts memory region r h =
    let h1 = and_snd (order_ok r) (last_ok r && (number_ok r && (kind_ok r && (memory_ok memory r && managed_ok region r)))) h in
    let h2 = and_snd (last_ok r) (number_ok r && (kind_ok r && (memory_ok memory r && managed_ok region r))) h1 in
    let h3 = and_snd (number_ok r) (kind_ok r && (memory_ok memory r && managed_ok region r)) h2 in
    let h4 = and_snd (kind_ok r) (memory_ok memory r && managed_ok region r) h3 in
    let l = and_fst (last_ok r) (number_ok r && (kind_ok r && (memory_ok memory r && managed_ok region r))) h1 in
    record {
      order = leb-true r.first.0 r.last.0 (and_fst (order_ok r) (last_ok r && (number_ok r && (kind_ok r && (memory_ok memory r && managed_ok region r)))) h);
      last = ltb-true r.last.0 limit (and_fst (ltb r.last.0 limit) (ltb (last_offset r) limit) l);
      offset = ltb-true (last_offset r) limit (and_snd (ltb r.last.0 limit) (ltb (last_offset r) limit) l);
      known = ltb-true r.region most_regions (and_fst (number_ok r) (kind_ok r && (memory_ok memory r && managed_ok region r)) h2);
      kind = and_fst (kind_ok r) (memory_ok memory r && managed_ok region r) h3;
      room = and_fst (memory_ok memory r) (managed_ok region r) h4;
      inside = and_snd (memory_ok memory r) (managed_ok region r) h4;
    }

pub range_of_lem : (memory region : ℕ) (r : FlatRange) → RangeFacts memory region r → range_ok memory region r ≡ true
unfolding range_ok
range_of_lem memory region r f =
    rw (le-leb r.first.0 r.last.0 f.order, lt-ltb r.last.0 limit f.last, lt-ltb (last_offset r) limit f.offset, lt-ltb r.region most_regions f.known, f.kind, f.room, f.inside)

-- ---- where a range's bytes lie, by its kind

and_on : (b : Bool) → (b && true) ≡ b
and_on true = refl
and_on false = refl

module _ (r : FlatRange) (memory region : ℕ) where
  -- as a function of the kind
  abbrev backs : ℕ → Bool
  backs k = (has_memory k || eqb k mmio) && ((not (has_memory k) || ltb (r.base + last_offset r) memory) && (not (eqb k managed) || ltb (last_offset r) region))

  pub backing_none : has_memory r.kind ≡ false → (kind_ok r && (memory_ok memory r && managed_ok region r)) ≡ eqb r.kind mmio
  backing_none e =
      let no-ram = or_left (eqb r.kind ram) (eqb r.kind managed) e in
      rw (no-ram, or_right (eqb r.kind ram) (eqb r.kind managed) e) (and_on (eqb r.kind mmio))

  pub backing_past : r.kind ≡ managed → region ≤ last_offset r → (kind_ok r && (memory_ok memory r && managed_ok region r)) ≡ false
  backing_past e h = ap backs e ∙ rw (le-ltb (last_offset r) region h) (and_off (ltb (r.base + last_offset r) memory))

  pub backing_here : has_memory r.kind ≡ true → managed_ok region r ≡ true → (kind_ok r && (memory_ok memory r && managed_ok region r)) ≡ ltb (r.base + last_offset r) memory
  backing_here e h =
      subst (λ (k : Bool). ((k || eqb r.kind mmio) && ((not k || ltb (r.base + last_offset r) memory) && managed_ok region r)) ≡ ltb (r.base + last_offset r) memory)
      (sym e) (rw h (and_on (ltb (r.base + last_offset r) memory)))

  pub in_region : r.kind ≡ managed → last_offset r < region → managed_ok region r ≡ true
  in_region e h = rw (eq-eqb r.kind managed e) (lt-ltb (last_offset r) region h)

  pub no_region_lem : (r.kind ≡ managed → ⊥) → managed_ok region r ≡ true
  no_region_lem n = rw (ne_eqb r.kind managed n)

pub range_room : (memory region : ℕ) (r : FlatRange) → RangeFacts memory region r → has_memory r.kind ≡ true → r.base + last_offset r < memory
range_room memory region r f h =
    ltb-true (r.base + last_offset r) memory (or_off (not (has_memory r.kind)) (ltb (r.base + last_offset r) memory) f.room (ap not h))

-- ---- two ranges

pub agree_kind : (x y : FlatRange) → agree x y ≡ true → x.region ≡ y.region → x.kind ≡ y.kind
agree_kind x y h e =
    eqb-true x.kind y.kind
    (and_fst (eqb x.kind y.kind) (eqb x.base y.base) (or_off (not (eqb x.region y.region)) (eqb x.kind y.kind && eqb x.base y.base) h (ap not (eq-eqb x.region y.region e))))

pub agree_base : (x y : FlatRange) → agree x y ≡ true → x.region ≡ y.region → x.base ≡ y.base
agree_base x y h e =
    eqb-true x.base y.base
    (and_snd (eqb x.kind y.kind) (eqb x.base y.base) (or_off (not (eqb x.region y.region)) (eqb x.kind y.kind && eqb x.base y.base) h (ap not (eq-eqb x.region y.region e))))

pub agree_of : (x y : FlatRange) → (x.region ≡ y.region → x.kind ≡ y.kind) → (x.region ≡ y.region → x.base ≡ y.base) → agree x y ≡ true
agree_of x y f g =
    ⊎_elim (λ e. rw (eq-eqb x.region y.region e, eq-eqb x.kind y.kind (f e), eq-eqb x.base y.base (g e)))
    (λ ne. rw (ne_eqb x.region y.region ne)) (eq_or_not x.region y.region)

agree_same : (x y : FlatRange) → x.region ≡ y.region → agree x y ≡ (eqb x.kind y.kind && eqb x.base y.base)
agree_same x y e = rw (eq-eqb x.region y.region e)

agree_sym : (x y : FlatRange) → agree x y ≡ true → agree y x ≡ true
agree_sym x y h = agree_of y x (λ e. sym (agree_kind x y h (sym e))) (λ e. sym (agree_base x y h (sym e)))

agree_self : (x : FlatRange) → agree x x ≡ true
agree_self x = agree_of x x (λ e. refl) (λ e. refl)

pub pair_of : (x y : FlatRange) → x.last.0 < y.first.0 → agree x y ≡ true → pair_ok x y ≡ true
pair_of x y p h = rw (lt-ltb x.last.0 y.first.0 p, h)

-- ---- a view that keeps 27

module _ (v : FlatView) (memory region : ℕ) where
  pub entry_range : (k : ℕ) → entry_ok v memory region k ≡ true → RangeFacts memory region (range_of v k)
  unfolding entry_ok
  entry_range k h = range_facts memory region (range_of v k) (and_fst (range_ok memory region (range_of v k)) (all_below (λ j. pair_ok (range_of v j) (range_of v k)) k) h)

  pub entry_pair : (j k : ℕ) → entry_ok v memory region k ≡ true → j < k → pair_ok (range_of v j) (range_of v k) ≡ true
  unfolding entry_ok
  entry_pair j k h p =
      all_true (λ j. pair_ok (range_of v j) (range_of v k)) k (and_snd (range_ok memory region (range_of v k)) (all_below (λ j. pair_ok (range_of v j) (range_of v k)) k) h) j p

  pub entry_apart : (j k : ℕ) → entry_ok v memory region k ≡ true → j < k → (range_of v j).last.0 < (range_of v k).first.0
  entry_apart j k h p =
      ltb-true (range_of v j).last.0 (range_of v k).first.0
      (and_fst (ltb (range_of v j).last.0 (range_of v k).first.0) (agree (range_of v j) (range_of v k)) (entry_pair j k h p))

  pub entry_agree : (j k : ℕ) → entry_ok v memory region k ≡ true → j < k → agree (range_of v j) (range_of v k) ≡ true
  entry_agree j k h p = and_snd (ltb (range_of v j).last.0 (range_of v k).first.0) (agree (range_of v j) (range_of v k)) (entry_pair j k h p)

  module _ (ok : view_ok v memory region ≡ true) where
    pub view_few : v.count ≤ 256
    unfolding view_ok
    view_few = leb-true v.count 256 (and_fst (leb v.count 256) (all_below (entry_ok v memory region) v.count) ok)

    pub view_entry : (k : ℕ) → k < v.count → entry_ok v memory region k ≡ true
    unfolding view_ok
    view_entry = all_true (entry_ok v memory region) v.count (and_snd (leb v.count 256) (all_below (entry_ok v memory region) v.count) ok)

    pub view_range : (k : ℕ) → k < v.count → RangeFacts memory region (range_of v k)
    view_range k h = entry_range k (view_entry k h)

    view_kinds : (j k : ℕ) → j < v.count → k < v.count → (range_of v j).region ≡ (range_of v k).region → (range_of v j).kind ≡ (range_of v k).kind
    view_kinds j k p q e =
        ⊎_elim (λ lt. agree_kind (range_of v j) (range_of v k) (entry_agree j k (view_entry k q) lt) e)
        (λ ge. ⊎_elim (λ (s : k ≡ j). ap (λ (x : ℕ). (range_of v x).kind) (sym s))
        (λ lt. sym (agree_kind (range_of v k) (range_of v j) (entry_agree k j (view_entry j p) lt) (sym e))) (eq-or-lt_of_le ge))
        (side j k)

    view_room : (k : ℕ) → k < v.count → has_memory (range_of v k).kind ≡ true → (range_of v k).base + last_offset (range_of v k) < memory
    view_room k h = range_room memory region (range_of v k) (view_range k h)

    pub view_backed : Backed v memory
    view_backed = record { room = view_room }

    pub view_ordered : memory ≤ 2 ^ 64 → Ordered v
    view_ordered m = record {
      few = view_few;
      order = λ k h. (view_range k h).order;
      apart = λ j k p h. entry_apart j k (view_entry k h) p;
      last = λ k h. (view_range k h).last;
      offset = λ k h. (view_range k h).offset;
      place = λ k h e. let z = view_room k h e in omega arith;
      kinds = view_kinds;
    }

-- ---- judging range k with those before it

abbrev pairs_at : FlatView → ℕ → ℕ → Bool
pairs_at v k j = pair_ok (range_of v j) (range_of v k)

module _ (v : FlatView) (k : ℕ) where
  pub pairs_none : k ≡ 0 → all_below (λ j. pair_ok (range_of v j) (range_of v k)) k ≡ true
  pairs_none e = all_of (pairs_at v k) k (λ j h. absurd (omega arith))

  pub pairs_low : 0 < k → (range_of v k).first.0 ≤ (range_of v (k - 1)).last.0 → all_below (λ j. pair_ok (range_of v j) (range_of v k)) k ≡ false
  pairs_low p h = all_not (pairs_at v k) k (k - 1) (omega arith) (rw (le-ltb (range_of v (k - 1)).last.0 (range_of v k).first.0 h))

  module _
      (ascend : (i j : ℕ) → i < j → j < k → (range_of v i).last.0 < (range_of v j).first.0)
      (order : (j : ℕ) → j < k → (range_of v j).first.0 ≤ (range_of v j).last.0)
      (above : (range_of v (k - 1)).last.0 < (range_of v k).first.0) where
    all_above : (j : ℕ) → j < k → (range_of v j).last.0 < (range_of v k).first.0
    all_above j h =
        ⊎_elim (λ (e : j ≡ k - 1). subst (λ (x : ℕ). (range_of v x).last.0 < (range_of v k).first.0) (sym e) above)
        (λ lt. omega (arith, ascend j (k - 1) lt (omega arith), order (k - 1) (omega arith))) (eq-or-lt_of_le {n = j} {m = k - 1} (omega arith))

    all_agree : ((j : ℕ) → j < k → agree (range_of v j) (range_of v k) ≡ true) → all_below (λ j. pair_ok (range_of v j) (range_of v k)) k ≡ true
    all_agree f = all_of (pairs_at v k) k (λ j h. pair_of (range_of v j) (range_of v k) (all_above j h) (f j h))

    module _ (n first : ℕ) (o : Owner v k n first) (same : (range_of v k).region ≡ n) where
      pub pairs_new : first ≡ 0 → all_below (λ j. pair_ok (range_of v j) (range_of v k)) k ≡ true
      pairs_new e =
          all_agree (λ j h. agree_of (range_of v j) (range_of v k) (λ q. absurd (o.none e j h (q ∙ same))) (λ q. absurd (o.none e j h (q ∙ same))))

      pub pairs_known : 0 < first → (f : FlatRange) → f ≡ range_of v (first - 1)
          → (eqb f.kind (range_of v k).kind && eqb f.base (range_of v k).base) ≡ all_below (λ j. pair_ok (range_of v j) (range_of v k)) k
      pairs_known p f is = sym (agree_same f (range_of v k) (here ∙ sym same)) ∙ go (agree f (range_of v k)) refl
        where
          here : f.region ≡ n
          here = ap (λ (x : FlatRange). x.region) is ∙ o.same p

          go : (b : Bool) → agree f (range_of v k) ≡ b → b ≡ all_below (λ j. pair_ok (range_of v j) (range_of v k)) k
          go true e =
              let values : (j : ℕ) → j < k → agree (range_of v j) f ≡ true = λ j h. ap (agree (range_of v j)) is ∙ o.values p j h in
              sym (all_agree (λ j h. agree_of (range_of v j) (range_of v k)
              (λ q. agree_kind (range_of v j) f (values j h) (q ∙ same ∙ sym here) ∙ agree_kind f (range_of v k) e (here ∙ sym same))
              (λ q. agree_base (range_of v j) f (values j h) (q ∙ same ∙ sym here) ∙ agree_base f (range_of v k) e (here ∙ sym same))))
          go false e =
              let known = o.known p in
              sym (all_not (pairs_at v k) k (first - 1) (omega arith)
              (ap (λ (x : FlatRange). pair_ok x (range_of v k)) (sym is) ∙ ap (λ (t : Bool). ltb f.last.0 (range_of v k).first.0 && t) e ∙ and_off (ltb f.last.0 (range_of v k).first.0)))

-- ---- the first of each region, one range more

pub owners_none : (v : FlatView) → Owners v 0 (replicate 32 0)
owners_none v = record {
  each = λ n h.
      let z = get_or-replicate {A = ℕ} 32 n 0 0 h in
      record {
        none = λ e j p. absurd (omega arith);
        known = λ p. absurd (omega arith);
        same = λ p. absurd (omega arith);
        values = λ p j q. absurd (omega arith);
      };
}

module _ (v : FlatView) (k : ℕ) (owner : List ℕ) (o : Owners v k owner) (n : ℕ) (same : (range_of v k).region ≡ n)
    (pairs : all_below (λ j. pair_ok (range_of v j) (range_of v k)) k ≡ true) where
  agrees_before : (j : ℕ) → j < k → agree (range_of v j) (range_of v k) ≡ true
  agrees_before j h =
      and_snd (ltb (range_of v j).last.0 (range_of v k).first.0) (agree (range_of v j) (range_of v k)) (all_true (pairs_at v k) k pairs j h)

  -- an owner among those before is one after range k too
  values_on : (i : ℕ) → i < k → ((j : ℕ) → j < k → agree (range_of v j) (range_of v i) ≡ true) → (j : ℕ) → j < k + 1 → agree (range_of v j) (range_of v i) ≡ true
  values_on i p f j h =
      ⊎_elim (λ (e : j ≡ k). ap (λ (x : ℕ). agree (range_of v x) (range_of v i)) e ∙ agree_sym (range_of v i) (range_of v k) (agrees_before i p))
      (λ lt. f j lt) (eq-or-lt_of_le {n = j} {m = k} (omega arith))

  -- so is none, unless the region is range k's own
  goes_on : (m : ℕ) → m < 32 → (m ≡ n → 0 < get_or owner m 0) → Owner v (k + 1) m (get_or owner m 0)
  goes_on m h met =
      let r = o.each m h in
      record {
        none = λ e j p q.
            ⊎_elim (λ (s : j ≡ k). let z : m ≡ n = sym q ∙ ap (λ (x : ℕ). (range_of v x).region) s ∙ same in omega (arith, met z))
            (λ lt. r.none e j lt q) (eq-or-lt_of_le {n = j} {m = k} (omega arith));
        known = λ p. omega (arith, r.known p);
        same = r.same;
        values = λ p. values_on (get_or owner m 0 - 1) (omega (arith, r.known p)) (r.values p);
      }

  pub owners_known : 0 < get_or owner n 0 → Owners v (k + 1) owner
  owners_known q = record { each = λ m h. goes_on m h (λ e. subst (λ (x : ℕ). 0 < get_or owner x 0) (sym e) q) }

  -- range k is the first of its region
  starts : Owner v (k + 1) n (k + 1)
  starts = record {
    none = λ e. absurd (omega arith);
    known = λ p. omega arith;
    same = λ p. ap (λ (x : ℕ). (range_of v x).region) (omega arith) ∙ same;
    values = λ p j q.
        subst (λ (y : ℕ). agree (range_of v j) (range_of v y) ≡ true) (let z : k ≡ k + 1 - 1 = omega arith in z)
        (⊎_elim (λ (s : j ≡ k). ap (λ (x : ℕ). agree (range_of v x) (range_of v k)) s ∙ agree_self (range_of v k)) (λ lt. agrees_before j lt) (eq-or-lt_of_le {n = j} {m = k} (omega arith)));
  }

  pub owners_new : length owner ≡ 32 → n < 32 → Owners v (k + 1) (set owner n (k + 1))
  owners_new size small = record {
    each = λ m h.
        ⊎_elim (λ (e : m ≡ n). subst (λ (x : ℕ). Owner v (k + 1) x (get_or (set owner n (k + 1)) x 0)) (sym e)
        (subst (Owner v (k + 1) n) (sym (get_or-set_same owner n (k + 1) 0 (omega arith))) starts))
        (λ ne. subst (Owner v (k + 1) m) (sym (get_or-set_other owner n m (k + 1) 0 ne)) (goes_on m h (λ e. absurd (ne e)))) (eq_or_not m n);
  }

-- ---- judging a view, one range more

pub all_next : (f : ℕ → Bool) (k : ℕ) → all_below f k ≡ true → f k ≡ true → all_below f (k + 1) ≡ true
unfolding all_below
all_next f k h e = rw (add-one, h, e)

module _ (v : FlatView) (memory region : ℕ) where
  pub view_many : 256 < v.count → view_ok v memory region ≡ false
  unfolding view_ok
  view_many h = rw (lt-leb v.count 256 h)

  pub view_not : (k : ℕ) → k < v.count → entry_ok v memory region k ≡ false → view_ok v memory region ≡ false
  unfolding view_ok
  view_not k h e = rw (all_not (entry_ok v memory region) v.count k h e) (and_off (leb v.count 256))

  pub view_of_lem : v.count ≤ 256 → all_below (entry_ok v memory region) v.count ≡ true → view_ok v memory region ≡ true
  unfolding view_ok
  view_of_lem h e = rw (le-leb v.count 256 h, e)

  module _ (k : ℕ) where
    pub entry_no_range : range_ok memory region (range_of v k) ≡ false → entry_ok v memory region k ≡ false
    unfolding entry_ok
    entry_no_range e = rw e

    pub entry_no_pairs : all_below (λ j. pair_ok (range_of v j) (range_of v k)) k ≡ false → entry_ok v memory region k ≡ false
    unfolding entry_ok
    entry_no_pairs e = ap (λ (t : Bool). range_ok memory region (range_of v k) && t) e ∙ and_off (range_ok memory region (range_of v k))

    pub entry_of : range_ok memory region (range_of v k) ≡ true → all_below (λ j. pair_ok (range_of v j) (range_of v k)) k ≡ true → entry_ok v memory region k ≡ true
    unfolding entry_ok
    entry_of e f = ap (λ (t : Bool). t && all_below (λ j. pair_ok (range_of v j) (range_of v k)) k) e ∙ f

    module _ (below : all_below (entry_ok v memory region) k ≡ true) where
      pub entries_ascend : (i j : ℕ) → i < j → j < k → (range_of v i).last.0 < (range_of v j).first.0
      entries_ascend i j p h = entry_apart v memory region i j (all_true (entry_ok v memory region) k below j h) p

      pub entries_order : (j : ℕ) → j < k → (range_of v j).first.0 ≤ (range_of v j).last.0
      entries_order j h = (entry_range v memory region j (all_true (entry_ok v memory region) k below j h)).order
