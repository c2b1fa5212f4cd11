-- Laws of the regions of a sheet and of the whole sheet. Assumes nothing.
use mathlib.Core.Path.{◌≡◌, refl, sym, ap, ◌∙◌}
use mathlib.Core.Bool.{Bool, true, false, cond, ◌||◌}
use mathlib.Core.List.{List}
use Prim.Native.Nat.{ℕ, suc, ◌+◌, ◌-◌, ◌*◌, ◌≤◌, ◌<◌}
use native.Mathlib.Omega.{arith}
use native.Mathlib.Numerals.{add-one}
use lib.Dec.{eqb, ltb}
use lib.ListN.{length, set}
use lib.Seq.{sets, length-sets}
use borrow.Author.Tests.{ltb-false, lt-ltb, le-ltb, eq-eqb, ne_eqb}
use mathlib.Core.Logic.{◌⊎◌, inl, inr}
use Rattle.map_records.specs.Map.{blank_map}
use Rattle.map_records.specs.Words.{map_of, map_words, region_words}
use Rattle.map_records.proofs.WordLaws.{region_stored, region_count_stored, map_back}
use Rattle.map_check.proofs.Bools.{or_right, never}
use Rattle.map_check.specs.Check.{judged}
use Rattle.map_records.specs.Limits.{map_length}
use Rattle.map_check.specs.Reply.{Reply, accepted, nodes, place, plain, passes, Laid}
use Rattle.map_records.specs.declared.map.Region.{Region}
use Rattle.map_records.specs.declared.map.RegionMap.{RegionMap}
use Rattle.sheet.proofs.RefusalLaws.{number_not, regions_not}
use Rattle.std.specs.Prelude.{Result, Err}
use Rattle.sheet.specs.Answer.{got, refused, next, sheet_fault_reply, sheet_reply}
use Rattle.sheet.specs.declared.answer.SheetFault.{SheetFault}
use Rattle.sheet.specs.declared.answer.SheetFault.TheVariants as fault
use Rattle.sheet.specs.Number.{sheet_number}
use Rattle.sheet.specs.Region.{sheet_region}
use Rattle.sheet.specs.Sheet.{with_region, regions_from, map_at, SheetOutcome, sheet_refusal, checked, read_sheet, map_laid, read_into}
use Rattle.sheet.specs.Promises.{ReadsMap}

-- the regions from region n on, of `count`
module _ (s : List ℕ) (count n : ℕ) (m : RegionMap) (at : ℕ) where
  split : n < count → regions_from s (count - n) n m at ≡ next (sheet_region s at) (λ r then. regions_from s (count - (n + 1)) (n + 1) (with_region n r m) then)
  unfolding regions_from
  split h = ap (λ (k : ℕ). regions_from s k n m at) (let e : count - n ≡ suc (count - (n + 1)) = omega arith in e) ∙ rw add-one

  regions_more : n < count → (r : Region) (then : ℕ) → sheet_region s at ≡ got r then
      → regions_from s (count - (n + 1)) (n + 1) (with_region n r m) then ≡ regions_from s (count - n) n m at
  regions_more h r then e = sym (split h ∙ rw e)

  pub regions_refused : n < count → (a : Reply) → sheet_region s at ≡ refused a → refused a ≡ regions_from s (count - n) n m at
  regions_refused h a e = sym (split h ∙ rw e)

  pub regions_done : count ≤ n → got m at ≡ regions_from s (count - n) n m at
  unfolding regions_from
  regions_done h = sym (ap (λ (k : ℕ). regions_from s k n m at) (let e : count - n ≡ 0 = omega arith in e))

-- what follows the check
checked_reply : (m : RegionMap) (r : Reply) → (checked m r).reply ≡ r
checked_reply m accepted = refl
checked_reply m (nodes k i j) = refl
checked_reply m (place k p) = refl
checked_reply m (plain k) = refl

checked_map : (m : RegionMap) (r : Reply) → passes r ≡ true → (checked m r).map ≡ m
checked_map m accepted p = refl
checked_map m (nodes k i j) p = absurd (never (sym p))
checked_map m (place k q) p = absurd (never (sym p))
checked_map m (plain k) p = absurd (never (sym p))

-- one region more, put into the words
pub regions_laid : (s : List ℕ) (count n : ℕ) (w v : List ℕ) (at : ℕ) → length w ≡ map_length → n < count → n < 32 → (r : Region) (then : ℕ) → sheet_region s at ≡ got r then
    → v ≡ sets w (1 + 9 * n) (region_words r) → (regions_from s (count - (n + 1)) (n + 1) (map_of v) then ≡ regions_from s (count - n) n (map_of w) at) × (length v ≡ map_length)
regions_laid s count n w v at size h few r then e q = (
  ap (λ (m : RegionMap). regions_from s (count - (n + 1)) (n + 1) m then) (ap map_of q ∙ region_stored w size n r few) ∙ regions_more s count n (map_of w) at h r then e,
  ap length q ∙ length-sets w (1 + 9 * n) (region_words r) ∙ size,
)

-- a map of which only the count is known
pub blank_words : (w v : List ℕ) → length w ≡ map_length → map_of w ≡ blank_map 0 → (n : ℕ) → v ≡ set w 0 n → map_of v ≡ blank_map n
blank_words w v size e n q = ap map_of q ∙ region_count_stored w size n ∙ (λ i. record { count = n; regions = (e i).regions })

-- ---- what each way of reading gives
not_passed : (r : Reply) → passes r ≡ true → passes r ≡ false → ⊥
not_passed r p q = never (sym p ∙ q)

-- a refusal
turned : (o : SheetOutcome) (a : Result Unit SheetFault) (w : List ℕ) → length w ≡ map_length → sheet_refusal (sheet_reply a) ≡ o → passes (sheet_reply a) ≡ false → ReadsMap o a w
turned o a w size e p = record { size = size; reply = ap (λ (x : SheetOutcome). x.reply) e; map = λ q. absurd (not_passed (sheet_reply a) q p) }

module _ (s : List ℕ) (memory : ℕ) (w : List ℕ) (size : length w ≡ map_length) where
  pub read_number_not : (f : SheetFault) → sheet_number s 0 ≡ refused (sheet_fault_reply f) → ReadsMap (read_sheet s memory) (Err f) w
  unfolding read_sheet map_at
  read_number_not f e = turned (read_sheet s memory) (Err f) w size (rw e) (number_not s 0 (sheet_fault_reply f) e)

  module _ (n then : ℕ) (e : sheet_number s 0 ≡ got n then) where
    pub read_count_not : (eqb n 0 || ltb 32 n) ≡ true → ReadsMap (read_sheet s memory) (Err (fault.Count 0)) w
    unfolding read_sheet map_at
    read_count_not h = turned (read_sheet s memory) (Err (fault.Count 0)) w size (rw (e, h)) refl

    module _ (h : (eqb n 0 || ltb 32 n) ≡ false) where
      pub read_regions_not : (f : SheetFault) → refused (sheet_fault_reply f) ≡ regions_from s n 0 (blank_map n) then → ReadsMap (read_sheet s memory) (Err f) w
      unfolding read_sheet map_at
      read_regions_not f r = turned (read_sheet s memory) (Err f) w size (rw (e, h, ← r)) (regions_not s n 0 (blank_map n) then (sheet_fault_reply f) (sym r))

      module _ (end : ℕ) (r : got (map_of w) end ≡ regions_from s n 0 (blank_map n) then) where
        pub read_tail : ltb end (length s) ≡ true → ReadsMap (read_sheet s memory) (Err (fault.Tail end)) w
        unfolding read_sheet map_at
        read_tail t = turned (read_sheet s memory) (Err (fault.Tail end)) w size (rw (e, h, ← r, t)) refl

        pub read_end : ltb end (length s) ≡ false → (a : Result Unit SheetFault) → sheet_reply a ≡ judged (map_of w) memory → ReadsMap (read_sheet s memory) a w
        unfolding read_sheet map_at
        read_end t a j =
            let o : read_sheet s memory ≡ checked (map_of w) (judged (map_of w) memory) = rw (e, h, ← r, t) in
            record {
              size = size;
              reply = j ∙ sym (ap (λ (x : SheetOutcome). x.reply) o ∙ checked_reply (map_of w) (judged (map_of w) memory));
              map = λ p. sym (ap (λ (x : SheetOutcome). x.map) o ∙ checked_map (map_of w) (judged (map_of w) memory) (ap passes (sym j) ∙ p));
            }

-- the counts of a map
pub count_bound : (n : ℕ) → (eqb n 0 || ltb 32 n) ≡ false → n ≤ 32
count_bound n h = ltb-false 32 n (or_right (eqb n 0) (ltb 32 n) h)

pub count_allowed : (n : ℕ) → (n ≡ 0 → ⊥) → n ≤ 32 → (eqb n 0 || ltb 32 n) ≡ false
count_allowed n h l = rw (ne_eqb n 0 h, le-ltb 32 n l)

pub count_refused : (n : ℕ) → (n ≡ 0) ⊎ ((n ≡ 0 → ⊥) × 32 < n) → (eqb n 0 || ltb 32 n) ≡ true
count_refused n (inl e) = rw (eq-eqb n 0 e)
count_refused n (inr h) = rw (ne_eqb n 0 h.0, lt-ltb 32 n h.1)

-- ---- the lent words
module _ (s : List ℕ) (memory : ℕ) (map : List ℕ) where
  pub into_other : (length map ≡ map_length → ⊥) → read_into s memory map ≡ record { reply = plain 27; words = map }
  unfolding read_into
  into_other h = rw (ne_eqb (length map) map_length h)

  module _ (size : length map ≡ map_length) (a : Result Unit SheetFault) (w : List ℕ) (d : ReadsMap (read_sheet s memory) a w) where
    into_map : read_into s memory map ≡ map_laid (read_sheet s memory) map
    unfolding read_into
    into_map = rw (eq-eqb (length map) map_length size)

    pub into_reply : (read_into s memory map).reply ≡ sheet_reply a
    into_reply = ap (λ (x : Laid). x.reply) into_map ∙ sym d.reply

    pub into_read : passes (sheet_reply a) ≡ true → (read_into s memory map).words ≡ w
    into_read p =
        ap (λ (x : Laid). x.words) into_map
        ∙ ap (λ (b : Bool). cond b (map_words (read_sheet s memory).map) map) (ap passes (sym d.reply) ∙ p)
        ∙ ap map_words (sym (d.map p)) ∙ map_back w d.size

    pub into_kept : passes (sheet_reply a) ≡ false → (read_into s memory map).words ≡ map
    into_kept p =
        ap (λ (x : Laid). x.words) into_map ∙ ap (λ (b : Bool). cond b (map_words (read_sheet s memory).map) map) (ap passes (sym d.reply) ∙ p)
