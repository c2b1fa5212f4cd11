-- Laws of the text of a flat list, and what a caller knows of a view that was made. Assumes nothing.
use mathlib.Core.Path.{◌≡◌, refl, sym, ap, subst, ◌∙◌}
use mathlib.Core.Bool.{Bool, true, false, cond}
use mathlib.Core.List.{List, [], ◌∷◌, ◌++◌, append_assoc, append-nil}
use Prim.Native.Nat.{ℕ, ◌+◌, ◌≤◌, ◌<◌}
use native.Mathlib.Numerals.{add-one}
use native.Mathlib.Omega.{arith}
use lib.Dec.{ltb}
use lib.ListN.{length, take}
use lib.Seq.{take-suc}
use borrow.Author.Tests.{eq-eqb, ltb-false}
use Rattle.map_records.specs.View.{no_range, range_of, entries}
use Rattle.map_records.specs.Words.{view_of, view_words}
use Rattle.map_records.specs.Limits.{view_length}
use Rattle.map_records.specs.declared.view.FlatRange.{FlatRange}
use Rattle.map_records.specs.declared.view.FlatView.{FlatView}
use Rattle.map_records.specs.declared.map.RegionMap.{RegionMap}
use Rattle.map_records.proofs.WordLaws.{view_back, view_words_injective}
use Rattle.map_check.specs.Reply.{Reply, accepted, nodes, place, plain, passes, number_of, if_accepted, Laid}
use Rattle.map_check.specs.Check.{judged}
use Rattle.region_map.specs.Flatten.{flat_fault_reply, flat_reply, flat_list, view_holding, flat_refusal, listed, FlatOutcome, flattened, view_laid, flattened_into}
use Rattle.std.specs.Prelude.{Result, Ok, Err}
use Rattle.region_map.specs.declared.view.FlatFault.{FlatFault}
use Rattle.region_map.specs.declared.view.FlatFault.TheVariants as fault
use Rattle.map_check.proofs.Answers.{fault_form}
use Rattle.listing.specs.Text.{refusal_text, Fills}
use Rattle.listing.specs.Listing.{range_text, ranges_text, view_text}
use Rattle.listing.proofs.TextLaws.{fills_refused, fills_passed}

ranges_snoc : (xs : List FlatRange) (x : FlatRange) → ranges_text (xs ++ (x ∷ [])) ≡ ranges_text xs ++ range_text x
unfolding ranges_text
ranges_snoc [] x = append-nil (range_text x)
ranges_snoc (y ∷ ys) x = ap (λ (l : List ℕ). range_text y ++ l) (ranges_snoc ys x) ∙ sym (append_assoc (range_text y) (ranges_text ys) (range_text x))

-- one line more
pub lines_more : (v : FlatView) (k : ℕ) (x : FlatRange) {old new : List ℕ} → k < length v.ranges → x ≡ range_of v k
    → old ≡ ranges_text (take k v.ranges) → new ≡ old ++ range_text x → new ≡ ranges_text (take (k + 1) v.ranges)
lines_more v k x {old} {new} h e p q =
    q ∙ ap (λ (l : List ℕ). l ++ range_text x) p ∙ ap (λ (y : FlatRange). ranges_text (take k v.ranges) ++ range_text y) e
    ∙ sym (ap (λ (j : ℕ). ranges_text (take j v.ranges)) (add-one k) ∙ ap ranges_text (take-suc v.ranges k no_range h) ∙ ranges_snoc (take k v.ranges) (range_of v k))

-- ---- a view that was made in lent words, with the answer
flat_not : (f : FlatFault) → passes (flat_fault_reply f) ≡ false
flat_not (fault.Map f) = fault_form (λ r. passes r ≡ false) (λ k i j. refl) f
flat_not fault.TooMany = refl
flat_not fault.Record = refl

pub record MadeAs (o : FlatOutcome) (a : Result Unit FlatFault) (words : List ℕ) : Type 0 where
  pub reply : flat_reply a ≡ o.reply
  pub view : {x : Unit} → a ≡ Ok x → view_of words ≡ o.view
  pub few : {x : Unit} → a ≡ Ok x → (view_of words).count ≤ 256

-- a view has at most 256 ranges
few_ranges : (m : RegionMap) (memory : ℕ) → (flattened m memory).view.count ≤ 256
unfolding flattened listed view_holding
few_ranges m memory = go (judged m memory) (ltb 256 (length (flat_list m))) refl
  where
    go : (j : Reply) (t : Bool) → ltb 256 (length (flat_list m)) ≡ t
        → (if_accepted j flat_refusal (cond t (flat_refusal (plain 12)) (record { reply = accepted; view = view_holding (flat_list m) }))).view.count ≤ 256
    go accepted true e = omega arith
    go accepted false e = ltb-false 256 (length (flat_list m)) e
    go (nodes k i l) t e = omega arith
    go (place k p) t e = omega arith
    go (plain k) t e = omega arith

module _ (m : RegionMap) (memory : ℕ) (old words : List ℕ) (a : Result Unit FlatFault) (size : length old ≡ view_length) (long : length words ≡ view_length)
    (e : flat_reply a ≡ (flattened_into m memory old).reply) (w : words ≡ (flattened_into m memory old).words) where
  into_words : flattened_into m memory old ≡ view_laid (flattened m memory) old
  unfolding flattened_into
  into_words = rw (eq-eqb (length old) view_length size)

  answered : flat_reply a ≡ (flattened m memory).reply
  answered = e ∙ ap (λ (x : Laid). x.reply) into_words

  made : {x : Unit} → a ≡ Ok x → view_of words ≡ (flattened m memory).view
  made z =
      view_words_injective (view_of words) (flattened m memory).view
      (view_back words long ∙ w ∙ ap (λ (x : Laid). x.words) into_words
      ∙ ap (λ (b : Bool). cond b (view_words (flattened m memory).view) old) (ap passes (sym answered ∙ ap flat_reply z)))

  pub made_as : MadeAs (flattened m memory) a words
  made_as =
      record {
        reply = answered;
        view = made;
        few = λ z. omega (arith, ap (λ (v : FlatView). v.count) (made z), few_ranges m memory);
      }

-- the text of a view that was made
module _ {o : FlatOutcome} {a : Result Unit FlatFault} {words : List ℕ} (told : MadeAs o a words) {old new : List ℕ} {k : ℕ} where
  pub view_refused : {f : FlatFault} {n : ℕ} → a ≡ Err f → n ≡ number_of (flat_fault_reply f) → Fills (refusal_text n) old k new → Fills (view_text o) old k new
  view_refused {f} z e x =
      let q : o.reply ≡ flat_fault_reply f = sym told.reply ∙ ap flat_reply z in
      fills_refused o.reply (ranges_text (entries o.view)) (ap passes q ∙ flat_not f) (e ∙ ap number_of (sym q)) x

  pub view_passed : {x : Unit} → a ≡ Ok x → Fills (ranges_text (entries (view_of words))) old k new → Fills (view_text o) old k new
  view_passed z f =
      fills_passed o.reply (ranges_text (entries o.view)) (sym told.reply ∙ ap flat_reply z)
      (subst (λ (v : FlatView). Fills (ranges_text (entries v)) old k new) (told.view z) f)
