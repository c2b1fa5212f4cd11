-- Demand 2 for 16 to 22 and 27: each answer of a step exactly at its cause. Assumes nothing.
use Rattle.std.proofs.Common.{◌≡◌, ℕ, zero, suc, ◌+◌, ◌-◌, ◌<◌, ◌≤◌, Bool, true, false, cond, not, ◌&&◌, ◌||◌, eqb, ltb, ◌⊎◌, List, length, sym, refl, ap, ◌∙◌, subst, inl, inr, arith, le-ltb, lt-ltb, eq-eqb, ne_eqb, eqb-true}
use native.Mathlib.Decide.{dec_lt}
use borrow.Author.Tests.{eqb-false}
use Rattle.map_records.specs.declared.view.FlatView.{FlatView}
use Rattle.map_check.specs.Reply.{accepted, plain}
use Rattle.map_check.proofs.Bools.{never}
use Rattle.device_words.specs.Device.{MemoryDevice}
use Rattle.guest_view.specs.Guest.{Guest, all_reach, by_view}
use Rattle.virtqueue.specs.Queue.{areas_ok, made, ring_entry}
use Rattle.virtqueue.specs.Chain.{Chain, Entry, out, here, ended, element, Following, next_below, misplaced, has_next, is_writable, is_indirect, follow, end_of, readable, writable, total, shape_of, chain_at, fetched, reached}
use Rattle.virtqueue.specs.Step.{Answer, refused, served, Way, along, flags, idx, entry, offers, notifies, way_of, chain_of, chain_in, comes_to, used_reached, Offer, offer_of, offered, Effect, unmoved, finished, stepped_by, records_ok, stepped}
use Rattle.virtqueue.specs.Causes as causes
use Rattle.virtqueue.specs.Causes.{Begun, Noticed, Pending, Offered, Entered, Headed, On, Meets, Accepts, Whole, Shaped, Cause, Exact}
use Rattle.virtqueue.specs.Promises.{stop_at}
use Rattle.virtqueue.specs.declared.chain.Descriptor.{Descriptor}
use Rattle.virtqueue.specs.declared.queue.SplitQueue.{SplitQueue}
use Rattle.virtqueue.proofs.ChainLaws.{next_below_lem, next_astray, follow_out, follow_stopped, follow_last, follow_astray, follow_next, follow_none}
use Rattle.virtqueue.proofs.TakeLaws.{chain_ended, chain_unused, chain_ready}
use Rattle.virtqueue.proofs.WayLaws.{way_stopped, way_unnoticed, way_quiet, way_ahead, way_ring, way_head, way_on}

-- 16: 'queue size not a power of two ..', exactly where the areas break their rules
pub refused_16 : (size descriptors available used : ℕ) → (made size descriptors available used).reply ≡ cond (areas_ok size descriptors available used) accepted (plain 16)
unfolding made
refused_16 size descriptors available used = go (areas_ok size descriptors available used) refl
  where
    go : (x : Bool) → areas_ok size descriptors available used ≡ x → (made size descriptors available used).reply ≡ cond (areas_ok size descriptors available used) accepted (plain 16)
    go true e = rw e
    go false e = rw e

module _ (v : FlatView) (d : MemoryDevice) (q : SplitQueue) (memory : List ℕ) where
  abbrev g : Guest
  g = by_view v d

  abbrev answer : Answer
  answer = (stepped v d q memory).answer

  abbrev chain : Chain
  chain = chain_of g memory q (entry g memory q)

  abbrev F : ℕ → Entry
  F = fetched g memory q.descriptors.0

  abbrev N : Descriptor → ℕ → Following
  N = next_below q.size

  -- what is left of the chain at a descriptor
  abbrev rest : ℕ → ℕ → Bool → Chain
  rest left i late = follow F (reached g) N left i late

  -- ---- the answer that is read off a way
  abbrev read : Way → Answer
  read w = (finished g d q memory (offer_of g q w)).answer

  read_way : records_ok v d q (length memory) ≡ true → (w : Way) → way_of g memory q ≡ w → answer ≡ read w
  unfolding stepped stepped_by
  read_way r w e =
      let s : stepped v d q memory ≡ finished g d q memory (offered g memory q) = rw r in
      ap (λ (f : Effect MemoryDevice). f.answer) s ∙ ap (λ (x : Way). (finished g d q memory (offer_of g q x)).answer) e

  -- and off a chain, by its end, its bytes and the used ring
  module _ (h : ℕ) (n : Bool) (c : Chain) where
    abbrev short : Bool
    short = ltb (total (readable c)) 24 || ltb (total (writable c)) 10

    shape_ended : (k : ℕ) → end_of c ≡ k → (k ≡ 0 → ⊥) → shape_of c ≡ k
    unfolding shape_of
    shape_ended k e z = rw (ne_eqb (end_of c) 0 (λ x. z (sym e ∙ x))) e

    shape_by : (b : Bool) → end_of c ≡ 0 → short ≡ b → shape_of c ≡ cond b 22 0
    unfolding shape_of
    shape_by b e s = rw (eq-eqb (end_of c) 0 e, s)

    read_stopped : (k : ℕ) → shape_of c ≡ k → (k ≡ 0 → ⊥) → read (along h n c) ≡ refused k
    read_stopped k s z =
        ap (λ (o : Offer). (finished g d q memory o).answer) (chain_ended g q h n c (λ x. z (sym s ∙ x))) ∙ ap refused s

    read_ended : (k : ℕ) → end_of c ≡ k → (k ≡ 0 → ⊥) → read (along h n c) ≡ refused k
    read_ended k e z = read_stopped k (shape_ended k e z) z

    module _ (e : end_of c ≡ 0) where
      read_short : short ≡ true → read (along h n c) ≡ refused 22
      read_short s = read_stopped 22 (shape_by true e s) (λ z. omega arith)

      read_unused : short ≡ false → used_reached g q ≡ false → read (along h n c) ≡ refused 17
      read_unused s u = ap (λ (o : Offer). (finished g d q memory o).answer) (chain_unused g q h n c (shape_by false e s) u)

      read_served : short ≡ false → used_reached g q ≡ true → read (along h n c) ≡ served n
      read_served s u = ap (λ (o : Offer). (finished g d q memory o).answer) (chain_ready g q h n c (shape_by false e s) u)

  -- ---- how far a step came
  way_chain : Headed v d q memory → way_of g memory q ≡ along (entry g memory q) (notifies (flags g memory q)) chain
  way_chain h =
      let e = h.entered in
      let o = e.offered in
      let p = o.pending in
      let n = p.noticed in
      way_on g memory q n.begun.running n.flags p.new o.near e.ring h.below

  came : Headed v d q memory → comes_to g memory q ≡ chain
  came h = ap (λ (w : Way). chain_in w) (way_chain h)

  headed : Headed v d q memory → answer ≡ read (along (entry g memory q) (notifies (flags g memory q)) chain)
  headed h = read_way h.entered.offered.pending.noticed.begun.records _ (way_chain h)

  on_headed : {n i : ℕ} {late : Bool} → On v d q memory n i late → Headed v d q memory
  on_headed (causes.first h) = h
  on_headed (causes.next e on f m r x l k) = on_headed on

  on_low : {n i : ℕ} {late : Bool} → On v d q memory n i late → n < q.size
  on_low (causes.first h) = let l = h.below in omega arith
  on_low (causes.next e on f m r x l k) = k

  fine : (late : Bool) (e : Descriptor) → misplaced late e ≡ false → reached g e ≡ true → stop_at (reached g) late e ≡ 0
  fine late e m r = rw (m, r)

  -- the chain ends as what is left of it at a descriptor that the step comes to
  on_end : {n i : ℕ} {late : Bool} → On v d q memory n i late → end_of chain ≡ end_of (rest (q.size - n) i late)
  unfolding chain_at end_of
  on_end (causes.first h) = let z : q.size ≡ q.size - 0 = omega arith in ap (λ (k : ℕ). end_of (rest k (entry g memory q) false)) z
  on_end (causes.next {n} {i} {late} e on f m r x l k) =
      let p : 0 < q.size - n = omega arith in
      let z : q.size - n - 1 ≡ q.size - (n + 1) = omega arith in
      on_end on ∙ ap end_of (follow_next F (reached g) N i late e f (fine late e m r) (q.size - n) e.next p x (next_below_lem q.size i e l))
      ∙ ap (λ (k : ℕ). end_of (rest k e.next (is_writable e))) z

  some_left : {n i : ℕ} {late : Bool} → On v d q memory n i late → 0 < q.size - n
  some_left on = let l = on_low on in omega arith

  ends : {n i : ℕ} {late : Bool} → On v d q memory n i late → (k : ℕ) → end_of (rest (q.size - n) i late) ≡ k → (k ≡ 0 → ⊥) → answer ≡ refused k
  ends on k e z = headed (on_headed on) ∙ read_ended _ _ chain k (on_end on ∙ e) z

  -- a descriptor that ends it by itself
  stops : {n : ℕ} {late : Bool} {e : Descriptor} → Meets v d q memory n late e → (k : ℕ) → k ≡ stop_at (reached g) late e → (k ≡ 0 → ⊥) → answer ≡ refused k
  stops {n} {late} {e} m k s z = ends m.on k (follow_stopped F (reached g) N m.place late e m.is (q.size - n) k (some_left m.on) s z) z

  -- or by what follows it
  follows : {n : ℕ} {e : Descriptor} (a : Accepts v d q memory n e) (c : Chain) → rest (q.size - n) a.meets.place a.late ≡ element e c → (k : ℕ) → end_of c ≡ k → (k ≡ 0 → ⊥) → answer ≡ refused k
  unfolding end_of
  follows a c f k e z = ends a.meets.on k (ap end_of f ∙ e) z

  strays : {n : ℕ} {e : Descriptor} → Accepts v d q memory n e → has_next e ≡ true → q.size ≤ e.next → answer ≡ refused 20
  unfolding end_of
  strays {n} {e} a x l =
      let m = a.meets in
      follows a (ended 20)
      (follow_astray F (reached g) N m.place a.late e m.is (fine a.late e a.placed a.reach) (q.size - n) (some_left m.on) x (next_astray q.size m.place e l))
      20 refl (λ z. omega arith)

  pub whole_headed : Whole v d q memory → Headed v d q memory
  whole_headed w = on_headed w.accepted.meets.on

  whole_end : Whole v d q memory → end_of chain ≡ 0
  unfolding end_of
  whole_end w =
      let a = w.accepted in
      let m = a.meets in
      on_end m.on
      ∙ ap end_of (follow_last F (reached g) N m.place a.late w.last m.is (fine a.late w.last a.placed a.reach) (q.size - w.others) (some_left m.on) w.end)

  long_enough : Shaped v d q memory → (ltb (total (readable chain)) 24 || ltb (total (writable chain)) 10) ≡ false
  long_enough s =
      let e = came (whole_headed s.whole) in
      let r : 24 ≤ total (readable chain) = subst (λ (c : Chain). 24 ≤ total (readable c)) e s.request in
      let w : 10 ≤ total (writable chain) = subst (λ (c : Chain). 10 ≤ total (writable c)) e s.response in
      rw (le-ltb (total (readable chain)) 24 r, le-ltb (total (writable chain)) 10 w)

  too_short : Whole v d q memory → (total (readable (comes_to g memory q)) < 24) ⊎ (total (writable (comes_to g memory q)) < 10)
      → (ltb (total (readable chain)) 24 || ltb (total (writable chain)) 10) ≡ true
  too_short w s = go (subst (λ (c : Chain). (total (readable c) < 24) ⊎ (total (writable c) < 10)) (came (whole_headed w)) s)
    where
      either : (x y : Bool) → y ≡ true → (x || y) ≡ true
      either true y e = refl
      either false y e = e

      go : (total (readable chain) < 24) ⊎ (total (writable chain) < 10) → (ltb (total (readable chain)) 24 || ltb (total (writable chain)) 10) ≡ true
      go (inl l) = rw (lt-ltb (total (readable chain)) 24 l)
      go (inr l) = either (ltb (total (readable chain)) 24) (ltb (total (writable chain)) 10) (lt-ltb (total (writable chain)) 10 l)

  -- ---- each cause gives its answer
  at_cause : {a : Answer} → Cause v d q memory a → answer ≡ a
  unfolding stepped end_of
  at_cause (causes.records r) =
      let s : stepped v d q memory ≡ unmoved (refused 27) d q memory = rw r in
      ap (λ (f : Effect MemoryDevice). f.answer) s
  at_cause (causes.again r s) = read_way r _ (way_stopped g memory q s)
  at_cause (causes.notices b f) = read_way b.records _ (way_unnoticed g memory q b.running f)
  at_cause (causes.ring o r) =
      let p = o.pending in
      let n = p.noticed in
      read_way n.begun.records _ (way_ring g memory q n.begun.running n.flags p.new o.near r)
  at_cause (causes.table {n} {i} {late} on e) = ends on 17 (follow_out F (reached g) N i late (q.size - n) (some_left on) e) (λ z. omega arith)
  at_cause (causes.used s u) = headed (whole_headed s.whole) ∙ read_unused _ _ chain (whole_end s.whole) (long_enough s) u
  at_cause (causes.seen n s) = read_way n.begun.records _ (way_quiet g memory q n.begun.running n.flags s)
  at_cause (causes.ahead p l) =
      let n = p.noticed in
      read_way n.begun.records _ (way_ahead g memory q n.begun.running n.flags p.new l)
  at_cause (causes.head e l) =
      let o = e.offered in
      let p = o.pending in
      let n = p.noticed in
      read_way n.begun.records _ (way_head g memory q n.begun.running n.flags p.new o.near e.ring l)
  at_cause (causes.indirect {n} {late} {e} m i) = stops m 20 (rw i) (λ z. omega arith)
  at_cause (causes.order {n} {e} m w) = stops m 20 (go (is_indirect e) refl) (λ z. omega arith)
    where
      go : (b : Bool) → is_indirect e ≡ b → 20 ≡ stop_at (reached g) true e
      go true i = rw i
      go false i = rw (i, w)
  at_cause (causes.astray a x l) = strays a x l
  at_cause (causes.long {n} {e} a x l) = go (dec_lt e.next q.size)
    where
      go : Dec (e.next < q.size) → answer ≡ refused 20
      go (yes h) =
          let m = a.meets in
          let z : q.size - n - 1 ≡ 0 = omega arith in
          follows a (rest (q.size - n - 1) e.next (is_writable e))
          (follow_next F (reached g) N m.place a.late e m.is (fine a.late e a.placed a.reach) (q.size - n) e.next (some_left m.on) x (next_below_lem q.size m.place e h))
          20 (follow_none F (reached g) N e.next (is_writable e) (q.size - n - 1) z) (λ z. omega arith)
      go (no h) = strays a x (omega arith)
  at_cause (causes.reach m p r) = stops m 21 (rw (p, r)) (λ z. omega arith)
  at_cause (causes.short w s) = headed (whole_headed w) ∙ read_short _ _ chain (whole_end w) (too_short w s)
  at_cause (causes.returned s u) = headed (whole_headed s.whole) ∙ read_served _ _ chain (whole_end s.whole) (long_enough s) u

  -- ---- every step has one
  -- where a chain ends
  data Ended : ℕ → Type 0 where
    whole : Whole v d q memory → Ended 0
    by : {k : ℕ} → (k ≡ 0 → ⊥) → Cause v d q memory (refused k) → Ended k

  -- one descriptor, of which `left` more may follow
  module _ (left n i : ℕ) (late : Bool) (s : n + suc left ≡ q.size) (on : On v d q memory n i late)
      (after : (j : ℕ) (w : Bool) → On v d q memory (n + 1) j w → n + 1 + left ≡ q.size → Ended (end_of (rest left j w))) where
    meets : (e : Descriptor) → F i ≡ here e → Meets v d q memory n late e
    meets e f = record { place = i; on = on; is = f }

    badly : (e : Descriptor) → F i ≡ here e → misplaced late e ≡ true → Cause v d q memory (refused 20)
    badly e f m = go (is_indirect e) refl late refl (is_writable e) refl m
      where
        go : (x : Bool) → is_indirect e ≡ x → (y : Bool) → late ≡ y → (z : Bool) → is_writable e ≡ z → (x || (y && not z)) ≡ true → Cause v d q memory (refused 20)
        go true p y l z w m = causes.indirect (meets e f) p
        go false p true l false w m = causes.order (subst (λ (b : Bool). Meets v d q memory n b e) l (meets e f)) w
        go false p true l true w m = absurd (never (sym m))
        go false p false l z w m = absurd (never (sym m))

    on_from : (e : Descriptor) → F i ≡ here e → misplaced late e ≡ false → reached g e ≡ true → Ended (end_of (rest (suc left) i late))
    unfolding end_of
    on_from e f m r = go (has_next e) refl
      where
        accepts : Accepts v d q memory n e
        accepts = record { late = late; meets = meets e f; placed = m; reach = r }

        next : has_next e ≡ true → Dec (e.next < q.size) → Dec (n + 1 < q.size) → Ended (end_of (rest (suc left) i late))
        next x (no l) k =
            subst Ended (sym (ap end_of (follow_astray F (reached g) N i late e f (fine late e m r) (suc left) (omega arith) x (next_astray q.size i e (omega arith)))))
            (by {k = 20} (λ z. omega arith) (causes.astray accepts x (omega arith)))
        next x (yes l) (no k) =
            let z : suc left - 1 ≡ 0 = omega arith in
            subst Ended
            (sym (ap end_of (follow_next F (reached g) N i late e f (fine late e m r) (suc left) e.next (omega arith) x (next_below_lem q.size i e l)) ∙ follow_none F (reached g) N e.next (is_writable e) (suc left - 1) z))
            (by {k = 20} (λ z. omega arith) (causes.long accepts x (omega arith)))
        next x (yes l) (yes k) =
            let z : left ≡ suc left - 1 = omega arith in
            subst Ended
            (ap (λ (j : ℕ). end_of (rest j e.next (is_writable e))) z
            ∙ sym (ap end_of (follow_next F (reached g) N i late e f (fine late e m r) (suc left) e.next (omega arith) x (next_below_lem q.size i e l))))
            (after e.next (is_writable e) (causes.next e on f m r x l k) (omega arith))

        go : (b : Bool) → has_next e ≡ b → Ended (end_of (rest (suc left) i late))
        go true x = next x (dec_lt e.next q.size) (dec_lt (n + 1) q.size)
        go false x =
            subst Ended (sym (ap end_of (follow_last F (reached g) N i late e f (fine late e m r) (suc left) (omega arith) x)))
            (whole (record { others = n; last = e; accepted = accepts; end = x }))

    one : Ended (end_of (rest (suc left) i late))
    one = go (F i) refl
      where
        stopped : (e : Descriptor) → F i ≡ here e → (k : ℕ) → k ≡ stop_at (reached g) late e → (k ≡ 0 → ⊥) → Cause v d q memory (refused k) → Ended (end_of (rest (suc left) i late))
        stopped e f k x z c = subst Ended (sym (follow_stopped F (reached g) N i late e f (suc left) k (omega arith) x z)) (by z c)

        go : (x : Entry) → F i ≡ x → Ended (end_of (rest (suc left) i late))
        go out f = subst Ended (sym (follow_out F (reached g) N i late (suc left) (omega arith) f)) (by {k = 17} (λ z. omega arith) (causes.table on f))
        go (here e) f = met (misplaced late e) refl (reached g e) refl
          where
            met : (x : Bool) → misplaced late e ≡ x → (y : Bool) → reached g e ≡ y → Ended (end_of (rest (suc left) i late))
            met true m y r = stopped e f 20 (rw m) (λ z. omega arith) (badly e f m)
            met false m false r = stopped e f 21 (rw (m, r)) (λ z. omega arith) (causes.reach (meets e f) m r)
            met false m true r = on_from e f m r

  cover : (left n i : ℕ) (late : Bool) → n + left ≡ q.size → On v d q memory n i late → Ended (end_of (rest left i late))
  cover zero n i late s on = absurd (let l = on_low on in omega arith)
  cover (suc left) n i late s on = one left n i late s on (λ j w o e. cover left (n + 1) j w e o)

  cause_of : (a : Answer) → Cause v d q memory a → Cause v d q memory answer
  cause_of a c = subst (Cause v d q memory) (sym (at_cause c)) c

  -- a step that came to its chain
  on_chain : Headed v d q memory → Cause v d q memory answer
  unfolding chain_at
  on_chain h = go (cover q.size 0 (entry g memory q) false (omega arith) (causes.first h))
    where
      shaped : Whole v d q memory → 24 ≤ total (readable chain) → 10 ≤ total (writable chain) → Shaped v d q memory
      shaped w r p =
          record {
            whole = w;
            request = subst (λ (c : Chain). 24 ≤ total (readable c)) (sym (came h)) r;
            response = subst (λ (c : Chain). 10 ≤ total (writable c)) (sym (came h)) p;
          }

      back : (total (readable chain) < 24) ⊎ (total (writable chain) < 10) → (total (readable (comes_to g memory q)) < 24) ⊎ (total (writable (comes_to g memory q)) < 10)
      back s = subst (λ (c : Chain). (total (readable c) < 24) ⊎ (total (writable c) < 10)) (sym (came h)) s

      returned : Shaped v d q memory → (u : Bool) → used_reached g q ≡ u → Cause v d q memory answer
      returned s true u = cause_of _ (causes.returned s u)
      returned s false u = cause_of _ (causes.used s u)

      by_bytes : Whole v d q memory → Dec (total (readable chain) < 24) → Dec (total (writable chain) < 10) → Cause v d q memory answer
      by_bytes w (yes r) p = cause_of _ (causes.short w (back (inl r)))
      by_bytes w (no r) (yes p) = cause_of _ (causes.short w (back (inr p)))
      by_bytes w (no r) (no p) = returned (shaped w (omega arith) (omega arith)) (used_reached g q) refl

      go : {k : ℕ} → Ended k → Cause v d q memory answer
      go (whole w) = by_bytes w (dec_lt (total (readable chain)) 24) (dec_lt (total (writable chain)) 10)
      go (by z c) = cause_of _ c

  caused : Cause v d q memory answer
  caused = judged (records_ok v d q (length memory)) refl
    where
      on_entry : Entered v d q memory → Dec (entry g memory q < q.size) → Cause v d q memory answer
      on_entry e (yes l) = on_chain (record { entered = e; below = l })
      on_entry e (no l) = cause_of _ (causes.head e (omega arith))

      on_ring : Offered v d q memory → (b : Bool) → all_reach g.reach (ring_entry q) 2 ≡ b → Cause v d q memory answer
      on_ring o true r = on_entry (record { offered = o; ring = r }) (dec_lt (entry g memory q) q.size)
      on_ring o false r = cause_of _ (causes.ring o r)

      on_offer : Pending v d q memory → Dec (q.size < offers g memory q) → Cause v d q memory answer
      on_offer p (yes l) = cause_of _ (causes.ahead p l)
      on_offer p (no l) = on_ring (record { pending = p; near = omega arith }) (all_reach g.reach (ring_entry q) 2) refl

      on_notice : Noticed v d q memory → (b : Bool) → eqb (idx g memory q) q.next_available ≡ b → Cause v d q memory answer
      on_notice n true e = cause_of _ (causes.seen n (eqb-true (idx g memory q) q.next_available e))
      on_notice n false e = on_offer (record { noticed = n; new = eqb-false (idx g memory q) q.next_available e }) (dec_lt q.size (offers g memory q))

      on_begun : Begun v d q memory → (b : Bool) → all_reach g.reach q.available.0 4 ≡ b → Cause v d q memory answer
      on_begun b true f = on_notice (record { begun = b; flags = f }) (eqb (idx g memory q) q.next_available) refl
      on_begun b false f = cause_of _ (causes.notices b f)

      on_records : records_ok v d q (length memory) ≡ true → (b : Bool) → eqb q.stop 0 ≡ b → Cause v d q memory answer
      on_records r true z = on_begun (record { records = r; running = eqb-true q.stop 0 z }) (all_reach g.reach q.available.0 4) refl
      on_records r false z = cause_of _ (causes.again r (eqb-false q.stop 0 z))

      judged : (b : Bool) → records_ok v d q (length memory) ≡ b → Cause v d q memory answer
      judged true r = on_records r (eqb q.stop 0) refl
      judged false r = cause_of _ (causes.records r)

  -- Demand 2: 17 to 22 and 27, idle and served, each exactly at its cause. The causes cover every step, and exclude each other.
  pub demand2 : Exact v d q memory answer
  demand2 = record { cause = caused; only = λ other c. sym (at_cause c) }
