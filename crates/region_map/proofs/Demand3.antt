-- Demand 3, first half, over an accepted map; 12 exactly at its cause; and that a made view keeps rule 27's facts. Assumes nothing.
use mathlib.Core.Path.{◌≡◌, sym, ap, subst, ◌∙◌}
use mathlib.Core.Bool.{true}
use mathlib.Core.List.{List, [], ◌∷◌}
use Prim.Native.Nat.{ℕ, zero, suc, ◌-◌, ◌≤◌, ◌<◌}
use native.Mathlib.Decide.{dec_lt}
use native.Mathlib.Omega.{arith}
use lib.ListN.{length, get_or, replicate, get_or-append}
use lib.Seq.{take-append_seam}
use borrow.Author.Tests.{lt-ltb, le-ltb}
use Rattle.map_records.specs.Map.{region, has_memory}
use Rattle.map_check.specs.Reply.{accepted, plain}
use Rattle.map_check.specs.Check.{Accepted}
use Rattle.region_map.specs.Walk.{walk_root, walk_root_by}
use Rattle.region_map.specs.FlatList.{flat, range_answer, lookup, LongestFrom, Longest}
use Rattle.region_map.specs.Flatten.{backing_of, root_size, flat_list, view_holding, flat_refusal, listed, flattened, FirstHalf}
use Rattle.map_records.specs.View.{no_range, entries}
use Rattle.region_map.specs.ViewRules.{LawfulRange, Lawful}
use Rattle.map_records.specs.View.{range_of, last_offset}
use Rattle.map_records.specs.declared.map.RegionMap.{RegionMap}
use Rattle.std.specs.Prelude.{Some, None}
use Rattle.map_records.specs.declared.map.Found.{Found}
use Rattle.map_records.specs.declared.view.FlatRange.{FlatRange}
use Rattle.region_map.specs.declared.flat.Backing.{Backing}
use Rattle.map_check.proofs.Accepted.{accepted_sound}
use Rattle.region_map.proofs.WalkLaws.{past}
use Rattle.region_map.proofs.LeafLaws.{root_leaf}
use Rattle.region_map.specs.Visibility.{LeafOf}
use Rattle.region_map.proofs.FlatLaws.{flat_gives, flat_beyond, flat_longest}
use Rattle.region_map.proofs.UniqueLaws.{unique, sound, entry_at}
use Rattle.region_map.proofs.ListLaws.{given_by}

-- past the root the tree leads nowhere
root_past : (m : RegionMap) (a : ℕ) → root_size m ≤ a → walk_root m a ≡ None
unfolding walk_root_by
root_past m a h = past m (m.count - 1) a h

-- the list by address, for every map
pub list_gives_lem : (m : RegionMap) (a : ℕ) → lookup (flat_list m) a ≡ walk_root m a
unfolding flat_list
list_gives_lem m a = go (dec_lt a (root_size m))
  where
    go : Dec (a < root_size m) → lookup (flat (backing_of m) (walk_root m) (root_size m)) a ≡ walk_root m a
    go (yes h) = flat_gives (backing_of m) (walk_root m) (root_size m) a h
    go (no h) = flat_beyond (backing_of m) (walk_root m) (root_size m) a (omega arith) ∙ sym (root_past m a (omega arith))

pub list_longest : (m : RegionMap) → Longest (backing_of m) (flat_list m)
unfolding flat_list
list_longest m = flat_longest (backing_of m) (walk_root m) (root_size m)

pub list_first_half : (m : RegionMap) → FirstHalf m (flat_list m)
list_first_half m =
    record {
      gives = list_gives_lem m;
      longest = list_longest m;
      only = λ other c g. unique (backing_of m) other (flat_list m) c (list_longest m) (λ a. g a ∙ sym (list_gives_lem m a));
    }

entries_view : (l : List FlatRange) → entries (view_holding l) ≡ l
unfolding view_holding
entries_view l = take-append_seam l (replicate (256 - length l) no_range)

module _ (m : RegionMap) (memory : ℕ) (ok : Accepted m memory) where
  -- Demand 3, first half: for every accepted map of at most 256 ranges the view that `flatten` makes holds that list
  pub demand3_first_half : length (flat_list m) ≤ 256
      → (flattened m memory ≡ record { reply = accepted; view = view_holding (flat_list m) }) × FirstHalf m (entries (view_holding (flat_list m)))
  unfolding flattened Accepted listed
  demand3_first_half h =
      (rw (ok, le-ltb 256 (length (flat_list m)) h), subst (FirstHalf m) (sym (entries_view (flat_list m))) (list_first_half m))

  -- 12: 'more than 256 runs'
  pub refused_12 : 256 < length (flat_list m) → flattened m memory ≡ flat_refusal (plain 12)
  unfolding flattened Accepted listed
  refused_12 h = rw (ok, lt-ltb 256 (length (flat_list m)) h)

-- The k-th range of a list of longest runs.
module _ (backing : ℕ → Backing) where
  -- every range of the tail starts after the head's last address
  tail_above : (x : FlatRange) (xs : List FlatRange) (k : ℕ) → LongestFrom backing x xs → k < length xs → x.last.0 < (get_or xs k no_range).first.0
  tail_above x [] k c h = absurd (omega arith)
  tail_above x (y ∷ ys) zero c h = c.1.above
  tail_above x (y ∷ ys) (suc k) c h =
      let s = (sound y ys c.2).order in
      let a = c.1.above in
      let b = tail_above y ys k c.2 (omega arith) in
      omega arith

  above_at : (l : List FlatRange) (j k : ℕ) → Longest backing l → j < k → k < length l → (get_or l j no_range).last.0 < (get_or l k no_range).first.0
  above_at [] j k c p h = absurd (omega arith)
  above_at (x ∷ xs) j zero c p h = absurd (omega arith)
  above_at (x ∷ xs) zero (suc k) c p h = tail_above x xs k c (omega arith)
  above_at (x ∷ []) (suc j) (suc k) c p h = absurd (omega arith)
  above_at (x ∷ (y ∷ ys)) (suc j) (suc k) c p h = above_at (y ∷ ys) j k c.2 (omega arith) (omega arith)

  -- it gives its addresses
  pub given_at : (l : List FlatRange) (k a : ℕ) → Longest backing l → k < length l → (get_or l k no_range).first.0 ≤ a → a ≤ (get_or l k no_range).last.0
      → lookup l a ≡ range_answer (get_or l k no_range) a
  given_at l k a c h p q = given_by None range_answer l k a h p q (λ j i. omega (arith, above_at l j k c i h))

module _ (m : RegionMap) (memory : ℕ) (ok : Accepted m memory) where
  -- a range of the map's list
  lawful_range : (k : ℕ) → k < length (flat_list m) → LawfulRange m memory (get_or (flat_list m) k no_range)
  lawful_range k h =
      let l = flat_list m in
      let r = get_or (flat_list m) k no_range in
      let e = entry_at (backing_of m) (flat_list m) k (list_longest m) h in
      let order = e.order in
      let led : walk_root m r.last.0 ≡ range_answer r r.last.0 =
      sym (list_gives_lem m r.last.0) ∙ given_at (backing_of m) (flat_list m) k r.last.0 (list_longest m) h order (omega arith) in
      let leaf : LeafOf m r.region (last_offset r) = root_leaf m memory ok r.last.0 (record { region = r.region; offset = record { 0 = last_offset r } }) led in
      let s = accepted_sound m memory ok in
      let below = leaf.below in
      let within = leaf.inside in
      let count = s.count in
      let some = s.some in
      let size = (s.bounded r.region below).size in
      let top : r.last.0 < root_size m = in_root r.last.0 (record { region = r.region; offset = record { 0 = last_offset r } }) led in
      let root = (s.bounded (m.count - 1) (omega arith)).size in
      record {
        kind = λ q. ap has_memory e.kind ∙ leaf.kinds (λ z. q (e.kind ∙ z));
        known = omega arith;
        order = order;
        last = omega arith;
        offset = omega arith;
        bytes = λ q.
            let there : has_memory (region m r.region).kind ≡ true = ap has_memory (sym e.kind) ∙ q in
            let base : r.base ≡ (region m r.region).memory_start = e.base ∙ rw there in
            let end = s.ends r.region below there in
            omega arith;
        inside = within;
      }
    where
      in_root : (a : ℕ) (x : Found) → walk_root m a ≡ Some x → a < root_size m
      in_root a x e = go (dec_lt a (root_size m))
        where
          go : Dec (a < root_size m) → a < root_size m
          go (yes h) = h
          go (no h) = absurd (let z : None ≡ Some x = sym (root_past m a (omega arith)) ∙ e in let y : ◌≡◌ {A = ℕ} 0 1 = cc in omega arith)

  range_eq : (k : ℕ) → k < length (flat_list m) → range_of (view_holding (flat_list m)) k ≡ get_or (flat_list m) k no_range
  unfolding view_holding
  range_eq k h = get_or-append (flat_list m) (replicate (256 - length (flat_list m)) no_range) no_range k h

  -- a made view keeps rule 27's facts, for the same map and memory length
  pub made_lawful : length (flat_list m) ≤ 256 → Lawful m memory (view_holding (flat_list m))
  unfolding view_holding
  made_lawful few =
      record {
        few = few;
        each = λ k h. subst (LawfulRange m memory) (sym (range_eq k h)) (lawful_range k h);
        ascending = λ j k p h.
            rw (range_eq j (omega arith), range_eq k h) (above_at (backing_of m) (flat_list m) j k (list_longest m) p h);
        kinds = λ j k p h e.
            let same = sym (ap (λ (r : FlatRange). r.region) (range_eq j p)) ∙ e ∙ ap (λ (r : FlatRange). r.region) (range_eq k h) in
            rw (range_eq j p, range_eq k h)
            ((entry_at (backing_of m) (flat_list m) j (list_longest m) p).kind ∙ ap (λ (n : ℕ). (backing_of m n).kind) same ∙ sym (entry_at (backing_of m) (flat_list m) k (list_longest m) h).kind);
        bases = λ j k p h e.
            let same = sym (ap (λ (r : FlatRange). r.region) (range_eq j p)) ∙ e ∙ ap (λ (r : FlatRange). r.region) (range_eq k h) in
            rw (range_eq j p, range_eq k h)
            ((entry_at (backing_of m) (flat_list m) j (list_longest m) p).base ∙ ap (λ (n : ℕ). (backing_of m n).base) same ∙ sym (entry_at (backing_of m) (flat_list m) k (list_longest m) h).base);
      }
