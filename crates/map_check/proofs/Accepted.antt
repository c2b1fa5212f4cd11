-- A map is accepted exactly when it is sound: the check's refusals turned into facts over every region and pair, and back. Assumes nothing.
use mathlib.Core.Path.{◌≡◌, refl, sym, ap, ◌∙◌}
use mathlib.Core.Bool.{true, false, cond, ◌&&◌, ◌||◌, not}
use Prim.Native.Nat.{ℕ, suc, ◌+◌, ◌-◌, ◌≤◌, ◌<◌, max}
use native.Mathlib.Omega.{arith}
use lib.Dec.{eqb, leb, ltb}
use borrow.Author.Tests.{ltb-true, ltb-false, le-ltb, leb-true, leb-false, lt-leb, eqb-true, eqb-false, not-true, not-false, lt-ltb, eq-eqb, ne_eqb}
use Rattle.map_records.specs.Map.{container, mmio, alias, managed, has, value_of, region, is_kind, has_memory}
use Rattle.map_check.specs.Fault.{parent_of, kind_fault, extra, large_fault, range_fault, extra_fault, field_fault, parent_fault, target_fault, root_fault, link_fault, memory_fault}
use Rattle.map_records.specs.Limits.{limit}
use Rattle.map_check.specs.Clash.{share, share_below, priority_of, memory_clash, managed_clash, port_clash, siblings, clash_below, sibling_clash}
use Rattle.map_check.specs.Reply.{Reply, accepted, nodes, place, plain, ◌then◌, passes, lowest, first_pair}
use Rattle.map_check.specs.Promises.{Walkable}
use Rattle.map_check.specs.Check.{judged_by, judged, count_fault, Accepted}
use Rattle.map_check.specs.Sound.{ApartBelow, Apart, Bounded, Parented, Rooted, Sound}
use Rattle.map_records.specs.declared.map.Region.{Region}
use Rattle.map_records.specs.declared.map.RegionMap.{RegionMap}
use Rattle.map_records.specs.declared.map.Field.{Field}
use Rattle.map_records.specs.declared.map.Field.TheVariants.{Parent, Offset, Size, Priority, MemoryStart, Port, Target, AliasOffset}
use Rattle.map_check.proofs.Bools.{or_left, or_right, none_of_3, none_of_4, and_fst, and_snd, and_left, and_right, and_true, and_no, never, not_eqb, is_eqb}
use Rattle.map_check.proofs.First.{then_left, then_right, then_both, chosen, refused, unchosen, lowest_all, lowest_none, pair_all, pair_none}

-- Each rule, passed, as facts; and the facts as the rule, passed.

-- ranges share no number below e exactly when none below e lies in both
apart_below : (e a s b t : ℕ) → share_below e a s b t ≡ false → ApartBelow e a s b t
apart_below e a s b t h x l p q r w =
    let both = and_true (ltb (max a b) (a + s)) (ltb (max a b) (b + t)) (lt-ltb (max a b) (a + s) (omega arith)) (lt-ltb (max a b) (b + t) (omega arith)) in
    never (sym (lt-ltb (max a b) e (omega arith)) ∙ and_right (share a s b t) (ltb (max a b) e) h both)

not_shared_below : (e a s b t : ℕ) → ApartBelow e a s b t → share_below e a s b t ≡ false
not_shared_below e a s b t h =
    let x = ltb (max a b) (a + s) in
    let y = ltb (max a b) (b + t) in
    and_no (share a s b t) (ltb (max a b) e) (λ p l.
    h (max a b) (ltb-true (max a b) e l) (omega arith) (ltb-true (max a b) (a + s) (and_fst x y p)) (omega arith) (ltb-true (max a b) (b + t) (and_snd x y p)))

-- and none at all exactly when there is none below any e
apart : (a s b t : ℕ) → share a s b t ≡ false → Apart a s b t
apart a s b t h e = apart_below e a s b t (rw h)

not_shared : (a s b t : ℕ) → Apart a s b t → share a s b t ≡ false
not_shared a s b t h =
    let e = suc (max a b) in
    and_left (share a s b t) (ltb (max a b) e) (not_shared_below e a s b t (h e)) (lt-ltb (max a b) e (omega arith))

-- 6: one field that the kind lacks
lacks : (r : Region) (f : Field) → extra r f ≡ false → has r.kind f ≡ false → value_of f r ≡ 0
lacks r f e h = is_eqb (value_of f r) 0 (and_right (not (has r.kind f)) (not (eqb (value_of f r) 0)) e (rw h))

lacking : (r : Region) (f : Field) → (has r.kind f ≡ false → value_of f r ≡ 0) → extra r f ≡ false
lacking r f h =
    and_no (not (has r.kind f)) (not (eqb (value_of f r) 0)) (λ p q.
    eqb-false (value_of f r) 0 (not-true (eqb (value_of f r) 0) q) (h (not-true (has r.kind f) p)))

-- 6: the values of a region
bounded_of : (r : Region) → field_fault r ≡ false → Bounded r
bounded_of r e =
    let parts = none_of_3 (large_fault r) (range_fault r) (extra_fault r) e in
    let large = none_of_3 (ltb limit r.offset) (ltb limit r.alias_offset) (ltb limit r.memory_start) parts.0 in
    let range = none_of_4 (eqb r.size 0) (ltb limit r.size) (ltb 255 r.priority) (ltb 255 r.port) parts.1 in
    let more = none_of_4 (extra r MemoryStart) (extra r Port) (extra r Target) (extra r AliasOffset) parts.2 in
    record {
      offset = ltb-false limit r.offset large.0;
      alias = ltb-false limit r.alias_offset large.1;
      start = ltb-false limit r.memory_start large.2;
      filled = omega (arith, eqb-false r.size 0 range.0);
      size = ltb-false limit r.size range.1;
      priority = ltb-false 255 r.priority range.2;
      port = ltb-false 255 r.port range.3;
      lacked = go more.0 more.1 more.2 more.3;
    }
  where
    go : extra r MemoryStart ≡ false → extra r Port ≡ false → extra r Target ≡ false → extra r AliasOffset ≡ false
        → (f : Field) → has r.kind f ≡ false → value_of f r ≡ 0
    go a b c d Parent h = absurd (never h)
    go a b c d Offset h = absurd (never h)
    go a b c d Size h = absurd (never h)
    go a b c d Priority h = absurd (never h)
    go a b c d MemoryStart h = lacks r MemoryStart a h
    go a b c d Port h = lacks r Port b h
    go a b c d Target h = lacks r Target c h
    go a b c d AliasOffset h = lacks r AliasOffset d h

in_bounds : (r : Region) → Bounded r → field_fault r ≡ false
in_bounds r b =
    rw (
      le-ltb limit r.offset b.offset,
      le-ltb limit r.alias_offset b.alias,
      le-ltb limit r.memory_start b.start,
      ne_eqb r.size 0 (λ z. let f = b.filled in omega arith),
      le-ltb limit r.size b.size,
      le-ltb 255 r.priority b.priority,
      le-ltb 255 r.port b.port,
      lacking r MemoryStart (b.lacked MemoryStart),
      lacking r Port (b.lacked Port),
      lacking r Target (b.lacked Target),
      lacking r AliasOffset (b.lacked AliasOffset),
    )

-- 7: a parent, a target and the root
parented_of : (m : RegionMap) (n : ℕ) → parent_fault m n ≡ false → ((region m n).parent ≡ 0 → ⊥) → Parented m n
unfolding parent_fault
parented_of m n e h =
    let p = parent_of (region m n) in
    let up = (region m p).kind in
    let fits =
    none_of_4 (leb p n) (leb m.count p) (eqb up alias) (eqb up managed)
    (and_right (not (eqb (region m n).parent 0)) (leb p n || leb m.count p || eqb up alias || eqb up managed) e (not_eqb (region m n).parent 0 h)) in
    record {
      above = leb-false p n fits.0;
      below = leb-false m.count p fits.1;
      not_alias = eqb-false up alias fits.2;
      not_managed = eqb-false up managed fits.3;
    }

has_parent : (m : RegionMap) (n : ℕ) → (((region m n).parent ≡ 0 → ⊥) → Parented m n) → parent_fault m n ≡ false
unfolding parent_fault
has_parent m n h =
    let p = parent_of (region m n) in
    let up = (region m p).kind in
    and_no (not (eqb (region m n).parent 0)) (leb p n || leb m.count p || eqb up alias || eqb up managed) (λ some bad.
    let f = h (eqb-false (region m n).parent 0 (not-true (eqb (region m n).parent 0) some)) in
    never
    (sym bad
    ∙ rw (lt-leb p n f.above, lt-leb m.count p f.below, ne_eqb up alias f.not_alias, ne_eqb up managed f.not_managed)))

target_of : (r : Region) (n : ℕ) → target_fault r n ≡ false → r.kind ≡ alias → r.target < n
target_of r n e h = leb-false n r.target (and_right (eqb r.kind alias) (leb n r.target) e (eq-eqb r.kind alias h))

has_target : (r : Region) (n : ℕ) → (r.kind ≡ alias → r.target < n) → target_fault r n ≡ false
has_target r n h =
    and_no (eqb r.kind alias) (leb n r.target) (λ p q.
    let low = h (eqb-true r.kind alias p) in
    let high = leb-true n r.target q in
    omega arith)

rooted_of : (r : Region) → root_fault r ≡ false → Rooted r
rooted_of r e =
    let h = none_of_3 (not (eqb r.kind container)) (not (eqb r.parent 0)) (not (eqb r.offset 0)) e in
    record { kind = is_eqb r.kind container h.0; parent = is_eqb r.parent 0 h.1; offset = is_eqb r.offset 0 h.2 }

is_root : (r : Region) → Rooted r → root_fault r ≡ false
is_root r h = rw (eq-eqb r.kind container h.kind, eq-eqb r.parent 0 h.parent, eq-eqb r.offset 0 h.offset)

-- 8: an end
memory_end : (memory : ℕ) (r : Region) → memory_fault memory r ≡ false → has_memory r.kind ≡ true → r.memory_start + r.size ≤ memory
memory_end memory r e b = ltb-false memory (r.memory_start + r.size) (and_right (has_memory r.kind) (ltb memory (r.memory_start + r.size)) e b)

ends_within : (memory : ℕ) (r : Region) → (has_memory r.kind ≡ true → r.memory_start + r.size ≤ memory) → memory_fault memory r ≡ false
ends_within memory r h =
    and_no (has_memory r.kind) (ltb memory (r.memory_start + r.size)) (λ p q.
    let low = h p in
    let high = ltb-true memory (r.memory_start + r.size) q in
    omega arith)

-- 8 to 11: pairs
memory_apart : (a b : Region) → memory_clash a b ≡ false → has_memory a.kind ≡ true → has_memory b.kind ≡ true
    → Apart a.memory_start a.size b.memory_start b.size
memory_apart a b e x y =
    apart a.memory_start a.size b.memory_start b.size
    (and_right (has_memory a.kind && has_memory b.kind) (share a.memory_start a.size b.memory_start b.size) e (and_true (has_memory a.kind) (has_memory b.kind) x y))

apart_memory : (a b : Region) → (has_memory a.kind ≡ true → has_memory b.kind ≡ true → Apart a.memory_start a.size b.memory_start b.size) → memory_clash a b ≡ false
apart_memory a b h =
    and_no (has_memory a.kind && has_memory b.kind) (share a.memory_start a.size b.memory_start b.size) (λ p q.
    never
    (sym q
    ∙ not_shared a.memory_start a.size b.memory_start b.size (h (and_fst (has_memory a.kind) (has_memory b.kind) p) (and_snd (has_memory a.kind) (has_memory b.kind) p))))

managed_once : (a b : Region) → managed_clash a b ≡ false → a.kind ≡ managed → b.kind ≡ managed → ⊥
managed_once a b e x y =
    eqb-false b.kind managed (and_right (eqb a.kind managed) (eqb b.kind managed) e (eq-eqb a.kind managed x)) y

once_managed : (a b : Region) → (a.kind ≡ managed → b.kind ≡ managed → ⊥) → managed_clash a b ≡ false
once_managed a b h = and_no (eqb a.kind managed) (eqb b.kind managed) (λ p q. h (eqb-true a.kind managed p) (eqb-true b.kind managed q))

port_once : (a b : Region) → port_clash a b ≡ false → a.kind ≡ mmio → b.kind ≡ mmio → a.port ≡ b.port → ⊥
port_once a b e x y =
    eqb-false a.port b.port
    (and_right (eqb a.kind mmio && eqb b.kind mmio) (eqb a.port b.port) e
    (and_true (eqb a.kind mmio) (eqb b.kind mmio) (eq-eqb a.kind mmio x) (eq-eqb b.kind mmio y)))

once_port : (a b : Region) → (a.kind ≡ mmio → b.kind ≡ mmio → a.port ≡ b.port → ⊥) → port_clash a b ≡ false
once_port a b h =
    let x = eqb a.kind mmio in
    let y = eqb b.kind mmio in
    and_no (x && y) (eqb a.port b.port) (λ p q.
    h (eqb-true a.kind mmio (and_fst x y p)) (eqb-true b.kind mmio (and_snd x y p)) (eqb-true a.port b.port q))

sibling_apart : (e : ℕ) (a b : Region) → clash_below priority_of e a b ≡ false
    → (a.parent ≡ 0 → ⊥) → a.parent ≡ b.parent → priority_of a ≡ priority_of b → ApartBelow e a.offset a.size b.offset b.size
sibling_apart e a b h x y z =
    apart_below e a.offset a.size b.offset b.size
    (and_right (siblings a b && eqb (priority_of a) (priority_of b)) (share_below e a.offset a.size b.offset b.size) h
    (and_true (siblings a b) (eqb (priority_of a) (priority_of b))
    (and_true (not (eqb a.parent 0)) (eqb a.parent b.parent) (not_eqb a.parent 0 x) (eq-eqb a.parent b.parent y))
    (eq-eqb (priority_of a) (priority_of b) z)))

pub apart_siblings : (e : ℕ) (a b : Region)
    → ((a.parent ≡ 0 → ⊥) → a.parent ≡ b.parent → priority_of a ≡ priority_of b → ApartBelow e a.offset a.size b.offset b.size)
    → clash_below priority_of e a b ≡ false
apart_siblings e a b h =
    let x = not (eqb a.parent 0) in
    let y = eqb a.parent b.parent in
    let z = eqb (priority_of a) (priority_of b) in
    and_no (siblings a b && z) (share_below e a.offset a.size b.offset b.size) (λ p q.
    let s = and_fst (siblings a b) z p in
    never
    (sym q
    ∙ not_shared_below e a.offset a.size b.offset b.size
    (h (eqb-false a.parent 0 (not-true (eqb a.parent 0) (and_fst x y s))) (eqb-true a.parent b.parent (and_snd x y s))
    (eqb-true (priority_of a) (priority_of b) (and_snd (siblings a b) z p)))))

module _ (m : RegionMap) (memory : ℕ) where
  -- every rule lets the map pass
  record Passed : Type 0 where
    count : count_fault m.count ≡ false
    kinds : (n : ℕ) → n < m.count → kind_fault (region m n).kind ≡ false
    fields : (n : ℕ) → n < m.count → field_fault (region m n) ≡ false
    links : (n : ℕ) → n < m.count → link_fault m n ≡ false
    ends : (n : ℕ) → n < m.count → memory_fault memory (region m n) ≡ false
    bytes : (i j : ℕ) → i < j → j < m.count → memory_clash (region m i) (region m j) ≡ false
    single : (i j : ℕ) → i < j → j < m.count → managed_clash (region m i) (region m j) ≡ false
    ports : (i j : ℕ) → i < j → j < m.count → port_clash (region m i) (region m j) ≡ false
    siblings : (i j : ℕ) → i < j → j < m.count → sibling_clash priority_of m i j ≡ false

  -- each rule's answer over the whole map, and the answers up to each
  abbrev on_3 : Reply
  on_3 = cond (count_fault m.count) (nodes 3 0 0) accepted

  abbrev on_4 : Reply
  on_4 = lowest 4 (λ n. kind_fault (region m n).kind) m.count

  abbrev on_6 : Reply
  on_6 = lowest 6 (λ n. field_fault (region m n)) m.count

  abbrev on_7 : Reply
  on_7 = lowest 7 (λ n. link_fault m n) m.count

  abbrev on_ends : Reply
  on_ends = lowest 8 (λ n. memory_fault memory (region m n)) m.count

  abbrev on_8 : Reply
  on_8 = first_pair 8 (λ i j. memory_clash (region m i) (region m j)) m.count

  abbrev on_9 : Reply
  on_9 = first_pair 9 (λ i j. managed_clash (region m i) (region m j)) m.count

  abbrev on_10 : Reply
  on_10 = first_pair 10 (λ i j. port_clash (region m i) (region m j)) m.count

  abbrev on_11 : Reply
  on_11 = first_pair 11 (λ i j. sibling_clash priority_of m i j) m.count

  abbrev to_4 : Reply
  to_4 = on_3 then on_4

  abbrev to_6 : Reply
  to_6 = to_4 then on_6

  abbrev to_7 : Reply
  to_7 = to_6 then on_7

  abbrev to_ends : Reply
  to_ends = to_7 then on_ends

  abbrev to_8 : Reply
  to_8 = to_ends then on_8

  abbrev to_9 : Reply
  to_9 = to_8 then on_9

  abbrev to_10 : Reply
  to_10 = to_9 then on_10

  passed : Accepted m memory → Passed
  unfolding Accepted judged_by
  passed e =
      let e_10 = then_left to_10 on_11 e in
      let e_9 = then_left to_9 on_10 e_10 in
      let e_8 = then_left to_8 on_9 e_9 in
      let e-ends = then_left to_ends on_8 e_8 in
      let e_7 = then_left to_7 on_ends e-ends in
      let e_6 = then_left to_6 on_7 e_7 in
      let e_4 = then_left to_4 on_6 e_6 in
      record {
        count = unchosen (count_fault m.count) (nodes 3 0 0) (refused 3 0 0) (then_left on_3 on_4 e_4);
        kinds = lowest_all (λ n. kind_fault (region m n).kind) 4 m.count (then_right on_3 on_4 e_4);
        fields = lowest_all (λ n. field_fault (region m n)) 6 m.count (then_right to_4 on_6 e_6);
        links = lowest_all (λ n. link_fault m n) 7 m.count (then_right to_6 on_7 e_7);
        ends = lowest_all (λ n. memory_fault memory (region m n)) 8 m.count (then_right to_7 on_ends e-ends);
        bytes = pair_all (λ i j. memory_clash (region m i) (region m j)) 8 m.count (then_right to_ends on_8 e_8);
        single = pair_all (λ i j. managed_clash (region m i) (region m j)) 9 m.count (then_right to_8 on_9 e_9);
        ports = pair_all (λ i j. port_clash (region m i) (region m j)) 10 m.count (then_right to_9 on_10 e_10);
        siblings = pair_all (λ i j. sibling_clash priority_of m i j) 11 m.count (then_right to_10 on_11 e);
      }

  passed_accepted : Passed → Accepted m memory
  unfolding Accepted judged_by
  passed_accepted p =
      then_both to_10 on_11
      (then_both to_9 on_10
      (then_both to_8 on_9
      (then_both to_ends on_8
      (then_both to_7 on_ends
      (then_both to_6 on_7
      (then_both to_4 on_6
      (then_both on_3 on_4 (chosen (count_fault m.count) (nodes 3 0 0) p.count) (lowest_none (λ n. kind_fault (region m n).kind) 4 m.count p.kinds))
      (lowest_none (λ n. field_fault (region m n)) 6 m.count p.fields))
      (lowest_none (λ n. link_fault m n) 7 m.count p.links))
      (lowest_none (λ n. memory_fault memory (region m n)) 8 m.count p.ends))
      (pair_none (λ i j. memory_clash (region m i) (region m j)) 8 m.count (λ i q j h l. p.bytes i j l h)))
      (pair_none (λ i j. managed_clash (region m i) (region m j)) 9 m.count (λ i q j h l. p.single i j l h)))
      (pair_none (λ i j. port_clash (region m i) (region m j)) 10 m.count (λ i q j h l. p.ports i j l h)))
      (pair_none (λ i j. sibling_clash priority_of m i j) 11 m.count (λ i q j h l. p.siblings i j l h))

  -- what the passed rules say
  sound_of : Passed → Sound m memory
  unfolding link_fault sibling_clash
  sound_of p =
      let some : 0 < m.count = omega (arith, eqb-false m.count 0 (or_left (eqb m.count 0) (ltb 32 m.count) p.count)) in
      let last : m.count - 1 < m.count = omega arith in
      let links : (n : ℕ) → n < m.count → (parent_fault m n ≡ false) × (target_fault (region m n) n ≡ false) × ((eqb (n + 1) m.count && root_fault (region m n)) ≡ false) =
      λ n h. none_of_3 (parent_fault m n) (target_fault (region m n) n) (eqb (n + 1) m.count && root_fault (region m n)) (p.links n h) in
      record {
        some = some;
        count = ltb-false 32 m.count (or_right (eqb m.count 0) (ltb 32 m.count) p.count);
        kinds = λ n h. not-false (is_kind (region m n).kind) (p.kinds n h);
        bounded = λ n h. bounded_of (region m n) (p.fields n h);
        parents = λ n h. parented_of m n (links n h).0;
        targets = λ n h. target_of (region m n) n (links n h).1;
        root =
            rooted_of (region m (m.count - 1))
            (and_right (eqb (m.count - 1 + 1) m.count) (root_fault (region m (m.count - 1))) (links (m.count - 1) last).2
            (eq-eqb (m.count - 1 + 1) m.count (omega arith)));
        ends = λ n h. memory_end memory (region m n) (p.ends n h);
        bytes = λ i j a b. memory_apart (region m i) (region m j) (p.bytes i j a b);
        single = λ i j a b. managed_once (region m i) (region m j) (p.single i j a b);
        ports = λ i j a b. port_once (region m i) (region m j) (p.ports i j a b);
        siblings = λ i j a b. sibling_apart (region m (parent_of (region m i))).size (region m i) (region m j) (p.siblings i j a b);
      }

  -- and that nothing is refused where it holds
  passed_of : Sound m memory → Passed
  unfolding link_fault sibling_clash
  passed_of s =
      record {
        count = let some = s.some in rw (ne_eqb m.count 0 (λ z. omega arith), le-ltb 32 m.count s.count);
        kinds = λ n h. ap not (s.kinds n h);
        fields = λ n h. in_bounds (region m n) (s.bounded n h);
        links = λ n h. rw (has_parent m n (s.parents n h), has_target (region m n) n (s.targets n h)) (last n);
        ends = λ n h. ends_within memory (region m n) (s.ends n h);
        bytes = λ i j a b. apart_memory (region m i) (region m j) (s.bytes i j a b);
        single = λ i j a b. once_managed (region m i) (region m j) (s.single i j a b);
        ports = λ i j a b. once_port (region m i) (region m j) (s.ports i j a b);
        siblings = λ i j a b. apart_siblings (region m (parent_of (region m i))).size (region m i) (region m j) (s.siblings i j a b);
      }
    where
      last : (n : ℕ) → (eqb (n + 1) m.count && root_fault (region m n)) ≡ false
      last n = and_no (eqb (n + 1) m.count) (root_fault (region m n)) (λ p q.
          let here : m.count - 1 ≡ n = omega (arith, eqb-true (n + 1) m.count p) in
          never (sym q ∙ ap (λ (k : ℕ). root_fault (region m k)) (sym here) ∙ is_root (region m (m.count - 1)) s.root))

  pub accepted_sound : Accepted m memory → Sound m memory
  accepted_sound ok = sound_of (passed ok)

  pub sound_accepted : Sound m memory → Accepted m memory
  sound_accepted s = passed_accepted (passed_of s)

-- what a caller of the check knows
pub passed_reply : (r : Reply) → passes r ≡ true → r ≡ accepted
passed_reply accepted p = refl
passed_reply (nodes k i j) p = absurd (never (sym p))
passed_reply (place k q) p = absurd (never (sym p))
passed_reply (plain k) p = absurd (never (sym p))

pub is_accepted : (m : RegionMap) (memory : ℕ) (r : Reply) → r ≡ judged m memory → passes r ≡ true → Accepted m memory
unfolding Accepted
is_accepted m memory r e p = sym e ∙ passed_reply r p

pub sound_walkable : (m : RegionMap) (memory : ℕ) → Sound m memory → Walkable m
sound_walkable m memory s =
    record {
      count = s.count;
      targets = s.targets;
      sizes = λ n h. (s.bounded n h).size;
      aliases = λ n h. (s.bounded n h).alias;
      priorities = λ n h. (s.bounded n h).priority;
    }

pub accepted_walkable : (m : RegionMap) (memory : ℕ) → Accepted m memory → Walkable m
accepted_walkable m memory ok = sound_walkable m memory (accepted_sound m memory ok)
