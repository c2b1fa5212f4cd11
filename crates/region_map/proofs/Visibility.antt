-- The walk keeps source 001's rules of visibility at every region of an accepted map, and is the only one that does; and 11 lets pass exactly the maps in which of two children of equal priority at most one holds an address. Assumes nothing.
use mathlib.Core.Path.{◌≡◌, refl, sym, ap, subst, ◌∙◌}
use mathlib.Core.Bool.{Bool, true, false, ◌&&◌, cond}
use mathlib.Core.Logic.{⊎_elim}
use Prim.Native.Nat.{ℕ, zero, suc, ◌+◌, ◌-◌, ◌%◌, ◌≤◌, ◌<◌}
use native.Mathlib.Nat.{eq-or-lt_of_le}
use native.Mathlib.Decide.{ℕ_discrete, dec_lt}
use native.Mathlib.Omega.{arith}
use lib.Dec.{eqb, leb, ltb}
use borrow.Author.Tests.{eqb-true, leb-true, ltb-true, le-leb, lt-ltb}
use Rattle.map_records.specs.Map.{alias, region}
use Rattle.map_check.specs.Fault.{parent_of}
use Rattle.map_check.specs.Clash.{priority_of, sibling_clash}
use Rattle.map_check.specs.Check.{Accepted}
use Rattle.map_check.specs.Sound.{Parented, Sound}
use Rattle.region_map.specs.Visibility.{Holding, OneHolder, child_answer, Visible}
use Rattle.region_map.specs.Walk.{rank, child, ranked, or_else, holds, asked, own, rank_answer, tried, walk_below, walk}
use Rattle.region_map.specs.Promises.{tried_in, answer_in}
use Rattle.map_records.specs.declared.map.RegionMap.{RegionMap}
use Rattle.std.specs.Prelude.{Option, Some, None}
use Rattle.map_records.specs.declared.map.Found.{Found}
use Rattle.map_check.proofs.Bools.{and_fst, and_snd}
use Rattle.map_check.proofs.Accepted.{apart_siblings, accepted_sound, accepted_walkable}
use Rattle.region_map.proofs.WalkLaws.{rank_mod, is_ranked, walk_below_lem, walk_inside, walk_alias, past, priority_le}

module _ (m : RegionMap) (u : ℕ → ℕ → Option Found) (n a : ℕ) where
  tried_wins : (b r : ℕ) (x : Found) → r < b → rank_answer priority_of m u n r a ≡ Some x → ((j : ℕ) → r < j → j < b → rank_answer priority_of m u n j a ≡ None) → tried priority_of m u n b a ≡ Some x
  unfolding tried
  tried_wins zero r x h e f = absurd (omega arith)
  tried_wins (suc b) r x h e f =
      ⊎_elim (λ (q : r ≡ b). ap (λ (v : Option Found). or_else v (tried priority_of m u n b a)) (ap (λ (j : ℕ). rank_answer priority_of m u n j a) (sym q) ∙ e))
      (λ (q : r < b). rw (f b q (omega arith)) (tried_wins b r x q e (λ j p l. f j p (omega arith))))
      (eq-or-lt_of_le {n = r} {m = b} (omega arith))

  tried_none : (b : ℕ) → ((j : ℕ) → j < b → rank_answer priority_of m u n j a ≡ None) → tried priority_of m u n b a ≡ own m n a
  unfolding tried
  tried_none zero f = refl
  tried_none (suc b) f = rw (f b (omega arith)) (tried_none b (λ j l. f j (omega arith)))

-- a rank that a child has
ranked_rank : (m : RegionMap) (n j : ℕ) → ranked priority_of m n j ≡ true → rank priority_of m (j % 32) ≡ j
unfolding ranked
ranked_rank m n j p = eqb-true (rank priority_of m (j % 32)) j (and_snd (child m n (j % 32)) (eqb (rank priority_of m (j % 32)) j) p)

held : (m : RegionMap) (n a j : ℕ) → ranked priority_of m n j ≡ true → holds m (j % 32) a ≡ true → Holding m n a (j % 32)
unfolding ranked child holds
held m n a j p q =
    let c = j % 32 in
    let k = and_fst (ltb c n && eqb (region m c).parent (n + 1)) (eqb (rank priority_of m c) j) p in
    record {
      below = ltb-true c n (and_fst (ltb c n) (eqb (region m c).parent (n + 1)) k);
      parent = eqb-true (region m c).parent (n + 1) (and_snd (ltb c n) (eqb (region m c).parent (n + 1)) k);
      from = leb-true (region m c).offset a (and_fst (leb (region m c).offset a) (ltb a ((region m c).offset + (region m c).size)) q);
      to = ltb-true a ((region m c).offset + (region m c).size) (and_snd (leb (region m c).offset a) (ltb a ((region m c).offset + (region m c).size)) q);
    }

-- what stands at a rank: nothing, or the answer of the child that has it
module _ (m : RegionMap) (n a j : ℕ) where
  rank_answer_lem : ((c : ℕ) → Holding m n a c → rank priority_of m c ≡ j → child_answer m (walk m) a c ≡ None) → answer_in m n j a ≡ None
  unfolding rank_answer asked
  rank_answer_lem f = go (ranked priority_of m n j) refl (holds m (j % 32) a) refl
    where
      here : ranked priority_of m n j ≡ true → holds m (j % 32) a ≡ true → walk_below priority_of m n (j % 32) (a - (region m (j % 32)).offset) ≡ None
      here p q =
          let is = held m n a j p q in
          walk_below_lem m n (j % 32) (a - (region m (j % 32)).offset) is.below ∙ f (j % 32) is (ranked_rank m n j p)

      go : (x : Bool) → ranked priority_of m n j ≡ x → (y : Bool) → holds m (j % 32) a ≡ y
          → cond x (cond y (walk_below priority_of m n (j % 32) (a - (region m (j % 32)).offset)) None) None ≡ None
      go true p true q = here p q
      go true p false q = refl
      go false p y q = refl

  -- and the answer of a child at its own rank
  own_rank : (c : ℕ) → c < 32 → Holding m n a c → rank priority_of m c ≡ j → answer_in m n j a ≡ child_answer m (walk m) a c
  unfolding rank_answer asked holds
  own_rank c l h e =
      rw (← e, is_ranked m n c h.below l h.parent, rank_mod m c l, le-leb (region m c).offset a h.from, lt-ltb a ((region m c).offset + (region m c).size) h.to)
      (walk_below_lem m n c (a - (region m c).offset) h.below)

-- of two children of equal priority at most one holds an address that the parent has
pub one_holder : (m : RegionMap) (memory : ℕ) → Accepted m memory → (n a : ℕ) → n < m.count → a < (region m n).size → OneHolder m n a
one_holder m memory ok n a known inside c e p q same = go (dec_lt c e) (dec_lt e c)
  where
    never_both : (i j : ℕ) → i < j → Holding m n a i → Holding m n a j → priority_of (region m i) ≡ priority_of (region m j) → ⊥
    never_both i j less h g equal =
        let parent : n ≡ (region m i).parent - 1 = omega (arith, h.parent) in
        let top : j < m.count = omega (arith, g.below) in
        (accepted_sound m memory ok).siblings i j less top (λ z. omega (arith, h.parent, z)) (h.parent ∙ sym g.parent) equal a
        (subst (λ (k : ℕ). a < (region m k).size) parent inside) h.from h.to g.from g.to

    go : Dec (c < e) → Dec (e < c) → c ≡ e
    go (yes l) d = absurd (never_both c e l p q same)
    go (no l) (yes g) = absurd (never_both e c g q p (sym same))
    go (no l) (no g) = omega arith

-- and back: where parents are as 7 wants them and that holds at every address of every region, no two children clash
pub holders_apart : (m : RegionMap) → ((n : ℕ) → n < m.count → ((region m n).parent ≡ 0 → ⊥) → Parented m n)
    → ((n a : ℕ) → n < m.count → a < (region m n).size → OneHolder m n a) → (i j : ℕ) → i < j → j < m.count → sibling_clash priority_of m i j ≡ false
unfolding sibling_clash
holders_apart m parents holders i j less known =
    let n = parent_of (region m i) in
    apart_siblings (region m n).size (region m i) (region m j) (λ some same equal x inside p q r w.
    let up = parents i (omega arith) some in
    let other = parents j known (λ z. some (same ∙ z)) in
    let here : (region m i).parent ≡ n + 1 = omega (arith, up.above) in
    let above = up.above in
    let below : j < n = omega (arith, other.above, same) in
    let c : Holding m n x i = record { below = above; parent = here; from = p; to = q } in
    let e : Holding m n x j = record { below = below; parent = sym same ∙ here; from = r; to = w } in
    omega (arith, holders n x up.below inside i j c e equal))

module _ (m : RegionMap) (memory : ℕ) (ok : Accepted m memory) (n a : ℕ) (known : n < m.count) (kind : (region m n).kind ≡ alias → ⊥) (inside : a < (region m n).size) where
  s : Sound m memory
  s = accepted_sound m memory ok

  rank_bound : (c : ℕ) → c < n → rank priority_of m c < 8192
  unfolding rank
  rank_bound c l = let low : c < m.count = omega arith in omega (arith, priority_le (region m c) (s.bounded c low).priority, s.count)

  -- of two children that hold the address the one of the higher rank has the higher priority
  higher : (c e : ℕ) → Holding m n a c → Holding m n a e → rank priority_of m c < rank priority_of m e → priority_of (region m c) < priority_of (region m e)
  unfolding rank s
  higher c e p q h = go (dec_lt (priority_of (region m c)) (priority_of (region m e)))
    where
      go : Dec (priority_of (region m c) < priority_of (region m e)) → priority_of (region m c) < priority_of (region m e)
      go (yes l) = l
      go (no l) =
          let few = s.count in
          let low : c < m.count = omega (arith, p.below) in
          let top : e < m.count = omega (arith, q.below) in
          let same : priority_of (region m c) ≡ priority_of (region m e) = omega arith in
          let less : c < e = omega arith in
          absurd (omega (arith, one_holder m memory ok n a known inside c e p q same))

  -- 'in descending priority order': a child that answers wins, where every child of a higher priority that holds the address answers nothing
  child_wins : (c : ℕ) (x : Found) → Holding m n a c → child_answer m (walk m) a c ≡ Some x
      → ((e : ℕ) → Holding m n a e → priority_of (region m c) < priority_of (region m e) → child_answer m (walk m) a e ≡ None) → walk m n a ≡ Some x
  unfolding s
  child_wins c x h e f =
      let few = s.count in
      let l : c < 32 = omega (arith, h.below) in
      walk_inside m n kind a inside
      ∙ tried_wins m (walk_below priority_of m n) n a 8192 (rank priority_of m c) x (rank_bound c h.below) (own_rank m n a (rank priority_of m c) c l h refl ∙ e)
      (λ j p q. rank_answer_lem m n a j (λ d g r. f d g (higher c d h g (let z : rank priority_of m c < rank priority_of m d = omega arith in z))))

  -- 'if none of the subregions match': the region itself
  none_wins : ((e : ℕ) → Holding m n a e → child_answer m (walk m) a e ≡ None) → walk m n a ≡ own m n a
  none_wins f = walk_inside m n kind a inside ∙ tried_none m (walk_below priority_of m n) n a 8192 (λ j q. rank_answer_lem m n a j (λ e g r. f e g))

-- all four cases
pub visibility : (m : RegionMap) (memory : ℕ) → Accepted m memory → (n a : ℕ) → n < m.count → Visible m (walk m) n a
visibility m memory ok n a known =
    record {
      outside = past m n a;
      aliased = λ h e. walk_alias m (accepted_walkable m memory ok) n known e a h;
      child = λ h e. child_wins m memory ok n a known e h;
      none = λ h e. none_wins m memory ok n a known e h;
    }

-- the child at a rank that answers
answering : (m : RegionMap) (n a j : ℕ) (x : Found) → answer_in m n j a ≡ Some x
    → Holding m n a (j % 32) × (rank priority_of m (j % 32) ≡ j) × (child_answer m (walk m) a (j % 32) ≡ Some x)
unfolding rank_answer asked
answering m n a j x = go (ranked priority_of m n j) refl (holds m (j % 32) a) refl
  where
    go : (b : Bool) → ranked priority_of m n j ≡ b → (y : Bool) → holds m (j % 32) a ≡ y
        → cond b (cond y (walk_below priority_of m n (j % 32) (a - (region m (j % 32)).offset)) None) None ≡ Some x
        → Holding m n a (j % 32) × (rank priority_of m (j % 32) ≡ j) × (child_answer m (walk m) a (j % 32) ≡ Some x)
    go true p true q e =
        let is = held m n a j p q in
        (is, ranked_rank m n j p, sym (walk_below_lem m n (j % 32) (a - (region m (j % 32)).offset) is.below) ∙ e)
    go true p false q e = absurd (let z : ◌≡◌ {A = ℕ} 0 1 = cc in omega arith)
    go false p y q e = absurd (let z : ◌≡◌ {A = ℕ} 0 1 = cc in omega arith)

-- a higher priority is a higher rank
rank_above : (m : RegionMap) (c e : ℕ) → c < 32 → priority_of (region m c) < priority_of (region m e) → rank priority_of m c < rank priority_of m e
unfolding rank
rank_above m c e l p = omega arith

-- the rules leave no choice: a walk that keeps them at every region is this one
module _ (m : RegionMap) (memory : ℕ) (ok : Accepted m memory) (f : ℕ → ℕ → Option Found) (rules : (n a : ℕ) → n < m.count → Visible m f n a) where
  module _ (n a : ℕ) (known : n < m.count) (lower : (c x : ℕ) → c < n → f c x ≡ walk m c x) (inside : a < (region m n).size) (kind : (region m n).kind ≡ alias → ⊥) where
    -- a child whose rank answers nothing answers nothing
    silent : (e : ℕ) → Holding m n a e → answer_in m n (rank priority_of m e) a ≡ None → child_answer m f a e ≡ None
    silent e h q =
        let few = (accepted_sound m memory ok).count in
        let below = h.below in
        let l : e < 32 = omega arith in
        lower e (a - (region m e).offset) below ∙ sym (own_rank m n a (rank priority_of m e) e l h refl) ∙ q

    by_ranks : (r : ℕ) → ((e : ℕ) → Holding m n a e → r ≤ rank priority_of m e → answer_in m n (rank priority_of m e) a ≡ None) → f n a ≡ tried_in m n r a
    unfolding tried
    by_ranks zero above = (rules n a known).none inside kind (λ e h. silent e h (above e h (omega arith)))
    by_ranks (suc r) above = go (answer_in m n r a) refl (by_ranks r)
      where
        go : (x : Option Found) → answer_in m n r a ≡ x
            → (((e : ℕ) → Holding m n a e → r ≤ rank priority_of m e → answer_in m n (rank priority_of m e) a ≡ None) → f n a ≡ tried_in m n r a)
            → f n a ≡ or_else x (tried_in m n r a)
        go None q ih = ih (λ e h l.
            ⊎_elim (λ (s : r ≡ rank priority_of m e). ap (λ (j : ℕ). answer_in m n j a) (sym s) ∙ q) (λ (s : r < rank priority_of m e). above e h s)
            (eq-or-lt_of_le {n = r} {m = rank priority_of m e} l))
        go (Some x) q ih =
            let won = answering m n a r x q in
            (rules n a known).child inside kind (r % 32) x won.0 (lower (r % 32) (a - (region m (r % 32)).offset) won.0.below ∙ won.2)
            (λ e h p. silent e h (above e h (let z = rank_above m (r % 32) e (omega arith) p in let y = won.1 in omega arith)))

  only_below : (k n a : ℕ) → n < k → n < m.count → f n a ≡ walk m n a
  only_below zero n a h known = absurd (omega arith)
  only_below (suc k) n a h known =
      go (λ c x l. only_below k c x (omega arith) (omega arith)) (dec_lt a (region m n).size) (ℕ_discrete (region m n).kind alias)
    where
      go : ((c x : ℕ) → c < n → f c x ≡ walk m c x) → Dec (a < (region m n).size) → Dec ((region m n).kind ≡ alias) → f n a ≡ walk m n a
      go lower (no p) d = (rules n a known).outside (omega arith) ∙ sym (past m n a (omega arith))
      go lower (yes p) (yes e) =
          let s = accepted_walkable m memory ok in
          (rules n a known).aliased p e ∙ lower (region m n).target (a + (region m n).alias_offset) (s.targets n known e) ∙ sym (walk_alias m s n known e a p)
      go lower (yes p) (no e) =
          by_ranks n a known lower p e 8192 (λ c h l. absurd (omega (arith, l, rank_bound m memory ok n a known e p c h.below))) ∙ sym (walk_inside m n e a p)

  pub visibility_only : (n a : ℕ) → n < m.count → f n a ≡ walk m n a
  visibility_only n a known = only_below (suc n) n a (omega arith) known
