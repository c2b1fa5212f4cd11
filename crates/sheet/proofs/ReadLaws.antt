-- What a caller of the reader knows of the sheet's map: a number is 0 where nothing is refused and only there, the map of an accepted sheet is accepted, and the lent words stand for it. Assumes nothing.
use mathlib.Core.Path.{◌≡◌, refl, sym, ap, ◌∙◌, subst}
use mathlib.Core.Bool.{Bool, true, false, cond}
use mathlib.Core.List.{List}
use Prim.Native.Nat.{ℕ, zero, suc}
use native.Mathlib.Omega.{arith}
use lib.Dec.{eqb, ltb}
use lib.ListN.{length, length-replicate, length-set}
use borrow.Author.Tests.{eq-eqb, ne_eqb}
use Rattle.map_records.specs.Map.{no_region, blank_map}
use Rattle.map_records.specs.Words.{map_of, map_words}
use Rattle.map_records.specs.declared.map.RegionMap.{RegionMap}
use Rattle.map_records.proofs.WordLaws.{words_map}
use Rattle.map_check.specs.Reply.{Reply, accepted, nodes, place, plain, passes, number_of, Laid}
use Rattle.map_check.specs.Check.{count_fault, judged, Accepted}
use Rattle.map_check.proofs.Answers.{fault_form}
use Rattle.map_check.proofs.Bools.{never}
use Rattle.std.specs.Prelude.{Result, Ok, Err}
use Rattle.sheet.specs.Answer.{Read, got, refused, next, sheet_fault_reply, sheet_reply}
use Rattle.sheet.specs.Number.{sheet_number}
use Rattle.sheet.specs.Region.{sheet_region}
use Rattle.sheet.specs.Sheet.{with_region, regions_from, map_at, SheetOutcome, sheet_refusal, checked, read_to_end, read_sheet, map_laid, read_into}
use Rattle.map_records.specs.Limits.{is_map, map_length}
use Rattle.sheet.specs.declared.answer.SheetFault.{SheetFault}
use Rattle.sheet.specs.declared.answer.SheetFault.TheVariants as fault
use Rattle.sheet.proofs.RefusalLaws.{number_not, regions_not}

-- ---- a number is 0 where nothing is refused, and only there
sheet_zero : (a : Result Unit SheetFault) → eqb (number_of (sheet_reply a)) 0 ≡ passes (sheet_reply a)
sheet_zero (Ok x) = refl
sheet_zero (Err (fault.Short p)) = refl
sheet_zero (Err (fault.Number p)) = refl
sheet_zero (Err (fault.Count p)) = refl
sheet_zero (Err (fault.Kind p)) = refl
sheet_zero (Err (fault.Tail p)) = refl
sheet_zero (Err fault.Record) = refl
sheet_zero (Err (fault.Map f)) = fault_form (λ r. eqb (number_of r) 0 ≡ passes r) (λ k i j. ne_eqb (suc k) 0 (λ (e : suc k ≡ 0). omega arith)) f

-- a fault is no acceptance
pub fault_not : (f : SheetFault) → passes (sheet_fault_reply f) ≡ false
fault_not (fault.Short p) = refl
fault_not (fault.Number p) = refl
fault_not (fault.Count p) = refl
fault_not (fault.Kind p) = refl
fault_not (fault.Tail p) = refl
fault_not fault.Record = refl
fault_not (fault.Map f) = fault_form (λ r. passes r ≡ false) (λ k i j. refl) f

-- the number n that was answered for the reply r
pub record Said (r : Reply) (n : ℕ) : Type 0 where
  pub number : n ≡ number_of r
  pub refused : (n ≡ 0 → ⊥) → passes r ≡ false
  pub passed : n ≡ 0 → passes r ≡ true

pub said : {r o : Reply} {n : ℕ} → eqb (number_of r) 0 ≡ passes r → r ≡ o → n ≡ number_of r → Said o n
said same e k =
    record {
      number = k ∙ ap number_of e;
      refused = λ h. ap passes (sym e) ∙ sym same ∙ ne_eqb _ 0 (λ z. h (k ∙ z));
      passed = λ z. ap passes (sym e) ∙ sym same ∙ eq-eqb _ 0 (sym k ∙ z);
    }

-- ---- the map of an accepted sheet is accepted
module _ (s : List ℕ) (memory : ℕ) where
  abbrev Good : SheetOutcome → Type 0
  Good o = passes o.reply ≡ true → judged o.map memory ≡ accepted

  good_either : (t : Bool) (x y : SheetOutcome) → Good x → Good y → Good (cond t x y)
  good_either true x y p q = p
  good_either false x y p q = q

  good_checked : (m : RegionMap) (j : Reply) → judged m memory ≡ j → Good (checked m j)
  good_checked m accepted e p = e
  good_checked m (nodes k i l) e p = absurd (never (sym p))
  good_checked m (place k q) e p = absurd (never (sym p))
  good_checked m (plain k) e p = absurd (never (sym p))

  good_finished : (x : Read RegionMap) → ((r : Reply) → x ≡ refused r → passes r ≡ false) → Good (read_to_end s memory x)
  good_finished (got m at) h = good_either (ltb at (length s)) (sheet_refusal (place 5 at)) (checked m (judged m memory)) (λ p. absurd (never (sym p))) (good_checked m (judged m memory) refl)
  good_finished (refused r) h = λ p. absurd (never (sym p ∙ h r refl))

  map_not : (r : Reply) → map_at s ≡ refused r → passes r ≡ false
  unfolding map_at
  map_not = go (sheet_number s 0) refl
    where
      passing : Read RegionMap → Bool
      passing (got m at) = true
      passing (refused r) = passes r

      chosen : (n then : ℕ) (t : Bool) (r : Reply) → cond t (refused (place 3 0)) (regions_from s n 0 (blank_map n) then) ≡ refused r → passes r ≡ false
      chosen n then true r e = sym (ap passing e)
      chosen n then false r e = regions_not s n 0 (blank_map n) then r e

      go : (x : Read ℕ) → sheet_number s 0 ≡ x → (r : Reply)
          → next x (λ n then. cond (count_fault n) (refused (place 3 0)) (regions_from s n 0 (blank_map n) then)) ≡ refused r → passes r ≡ false
      go (got n then) e r h = chosen n then (count_fault n) r h
      go (refused q) e r h = sym (ap passing h) ∙ number_not s 0 q e

  pub sheet_accepted : passes (read_sheet s memory).reply ≡ true → Accepted (read_sheet s memory).map memory
  unfolding read_sheet Accepted
  sheet_accepted p = good_finished (map_at s) map_not p

-- ---- a sheet's map has 32 entries, so that its words stand for it
Full : Read RegionMap → Type 0
Full (got m at) = length m.regions ≡ 32
Full (refused r) = Unit {0}

full_either : (t : Bool) (x y : Read RegionMap) → Full x → Full y → Full (cond t x y)
full_either true x y p q = p
full_either false x y p q = q

full_after : {A : Type 0} (x : Read A) (f : A → ℕ → Read RegionMap) → ((v : A) (then : ℕ) → Full (f v then)) → Full (next x f)
unfolding Full
full_after (got v then) f p = p v then
full_after (refused r) f p = tt

full_regions : (s : List ℕ) (k n : ℕ) (m : RegionMap) (at : ℕ) → length m.regions ≡ 32 → Full (regions_from s k n m at)
unfolding regions_from Full
full_regions s zero n m at h = h
full_regions s (suc k) n m at h =
    full_after (sheet_region s at) (λ r then. regions_from s k (suc n) (with_region n r m) then)
    (λ r then. full_regions s k (suc n) (with_region n r m) then (length-set m.regions n r ∙ h))

module _ (s : List ℕ) (memory : ℕ) where
  full_map : Full (map_at s)
  unfolding map_at Full
  full_map =
      full_after (sheet_number s 0) (λ n then. cond (count_fault n) (refused (place 3 0)) (regions_from s n 0 (blank_map n) then))
      (λ n then. full_either (count_fault n) (refused (place 3 0)) (regions_from s n 0 (blank_map n) then) tt
      (full_regions s n 0 (blank_map n) then (length-replicate 32 no_region)))

  full_checked : (m : RegionMap) (r : Reply) → length m.regions ≡ 32 → length (checked m r).map.regions ≡ 32
  full_checked m accepted h = h
  full_checked m (nodes k i j) h = length-replicate 32 no_region
  full_checked m (place k p) h = length-replicate 32 no_region
  full_checked m (plain k) h = length-replicate 32 no_region

  full_finished : (x : Read RegionMap) → Full x → length (read_to_end s memory x).map.regions ≡ 32
  unfolding Full
  full_finished (got m at) h = by (ltb at (length s))
    where
      by : (t : Bool) → length (cond t (sheet_refusal (place 5 at)) (checked m (judged m memory))).map.regions ≡ 32
      by true = length-replicate 32 no_region
      by false = full_checked m (judged m memory) h
  full_finished (refused r) h = length-replicate 32 no_region

  words_read : map_of (map_words (read_sheet s memory).map) ≡ (read_sheet s memory).map
  unfolding read_sheet
  words_read = words_map (read_sheet s memory).map (full_finished (map_at s) full_map)

-- ---- what a sheet leaves in lent words
module _ (s : List ℕ) (memory : ℕ) (old : List ℕ) where
  -- The words that `read_sheet` leaves when it accepts stand for the sheet's map, which is accepted.
  pub made_map : passes (read_into s memory old).reply ≡ true
      → (map_of (read_into s memory old).words ≡ (read_sheet s memory).map) × Accepted (map_of (read_into s memory old).words) memory
  unfolding read_into
  made_map = by (is_map old)
    where
      by : (t : Bool) → passes (cond t (map_laid (read_sheet s memory) old) (record { reply = plain 27; words = old })).reply ≡ true
          → (map_of (cond t (map_laid (read_sheet s memory) old) (record { reply = plain 27; words = old })).words ≡ (read_sheet s memory).map)
          × Accepted (map_of (cond t (map_laid (read_sheet s memory) old) (record { reply = plain 27; words = old })).words) memory
      by true p =
          let laid : map_of (map_laid (read_sheet s memory) old).words ≡ (read_sheet s memory).map
          = ap (λ (b : Bool). map_of (cond b (map_words (read_sheet s memory).map) old)) p ∙ words_read s memory in
          (laid, subst (λ (m : RegionMap). Accepted m memory) (sym laid) (sheet_accepted s memory p))
      by false p = absurd (never (sym p))

-- ---- a sheet that was read into lent words, with the answer
pub record ReadAs (o : SheetOutcome) (a : Result Unit SheetFault) (words : List ℕ) : Type 0 where
  pub reply : sheet_reply a ≡ o.reply
  pub map : {x : Unit} → a ≡ Ok x → map_of words ≡ o.map

module _ (s : List ℕ) (memory : ℕ) (old words : List ℕ) (a : Result Unit SheetFault) (size : length old ≡ map_length)
    (e : sheet_reply a ≡ (read_into s memory old).reply) (w : words ≡ (read_into s memory old).words) where
  into_words : read_into s memory old ≡ map_laid (read_sheet s memory) old
  unfolding read_into
  into_words = rw (eq-eqb (length old) map_length size)

  pub read_as : ReadAs (read_sheet s memory) a words
  read_as =
      record {
        reply = e ∙ ap (λ (x : Laid). x.reply) into_words;
        map = λ z. ap map_of w ∙ (made_map s memory old (ap passes (sym e ∙ ap sheet_reply z))).0;
      }

-- and with the number that was answered
module _ {o : SheetOutcome} {a : Result Unit SheetFault} {words : List ℕ} (read : ReadAs o a words) {n : ℕ} (k : n ≡ number_of (sheet_reply a)) where
  pub read_said : Said o.reply n
  read_said = said (sheet_zero a) read.reply k

-- a sheet that was accepted has an accepted map
pub read_accepted : {o : SheetOutcome} {a : Result Unit SheetFault} {words : List ℕ} {x : Unit} → ReadAs o a words → a ≡ Ok x → o.reply ≡ accepted
read_accepted r z = sym r.reply ∙ ap sheet_reply z

pub read_refused : {o : SheetOutcome} {a : Result Unit SheetFault} {words : List ℕ} {f : SheetFault} → ReadAs o a words → a ≡ Err f → o.reply ≡ sheet_fault_reply f
read_refused r z = sym r.reply ∙ ap sheet_reply z
