-- The words that making a view leaves stand for the view of an accepted map. Assumes nothing.
use Rattle.std.proofs.Common.{◌≡◌, ℕ, ◌-◌, ◌<◌, ◌≤◌, Bool, true, false, cond, List, length, replicate, sym, refl, ap, ◌∙◌, arith, length-append}
use native.Mathlib.Decide.{dec_lt}
use lib.ListN.{length-replicate}
use Rattle.map_records.specs.View.{no_range}
use Rattle.map_records.specs.Words.{view_of, view_words}
use Rattle.map_records.specs.declared.map.RegionMap.{RegionMap}
use Rattle.map_records.proofs.WordLaws.{words_view}
use Rattle.map_check.specs.Check.{judged, Accepted}
use Rattle.map_check.specs.Reply as reply
use Rattle.map_check.specs.Reply.{Reply, accepted, plain, if_accepted, Laid}
use Rattle.region_map.specs.Flatten.{FlatOutcome, flat_list, view_holding, flat_refusal, listed, flattened, view_laid, flattened_into}
use Rattle.map_records.specs.Limits.{is_view}
use Rattle.region_map.proofs.Demand3.{demand3_first_half, refused_12}
use Rattle.virtqueue.specs.SecondHalf.{Made}

module _ (m : RegionMap) (size : ℕ) (old view : List ℕ) where
  -- a view is made of an accepted map alone
  judged_first : (r : Reply) → (if_accepted r flat_refusal (listed (flat_list m))).reply ≡ accepted → r ≡ accepted
  judged_first accepted e = refl
  judged_first (reply.nodes k i j) e = e
  judged_first (reply.place k p) e = e
  judged_first (reply.plain k) e = e

  pub made_view : flattened_into m size old ≡ record { reply = accepted; words = view } → Made m size view
  unfolding flattened_into flattened Accepted view_holding
  made_view e = go (is_view old) (λ i. e i)
    where
      full : (l : length (flat_list m) ≤ 256) → length (view_holding (flat_list m)).ranges ≡ 256
      full l = length-append (flat_list m) (replicate (256 - length (flat_list m)) no_range) ∙ omega (arith, length-replicate (256 - length (flat_list m)) no_range)

      of : (flattened m size).reply ≡ accepted → (view_laid (flattened m size) old).words ≡ view → Made m size view
      of r w = by (dec_lt 256 (length (flat_list m)))
        where
          ok : judged m size ≡ accepted
          ok = judged_first (judged m size) r

          by : Dec (256 < length (flat_list m)) → Made m size view
          by (yes h) = absurd (let f : plain 12 ≡ accepted = sym (ap (λ (o : FlatOutcome). o.reply) (refused_12 m size ok h)) ∙ r in let z : ◌≡◌ {A = ℕ} 0 1 = cc in omega arith)
          by (no h) =
              let few : length (flat_list m) ≤ 256 = omega arith in
              let f = (demand3_first_half m size ok few).0 in
              let g : (view_laid (flattened m size) old).words ≡ view_words (view_holding (flat_list m)) = ap (λ (o : FlatOutcome). (view_laid o old).words) f in
              record { accepted = ok; few = few; is = ap view_of (sym w ∙ g) ∙ words_view (view_holding (flat_list m)) (full few) }

      go : (b : Bool) → cond b (view_laid (flattened m size) old) (record { reply = plain 27; words = old }) ≡ record { reply = accepted; words = view } → Made m size view
      go true e = of (ap (λ (x : Laid). x.reply) e) (ap (λ (x : Laid). x.words) e)
      go false e = absurd (let f : plain 27 ≡ accepted = ap (λ (x : Laid). x.reply) e in let z : ◌≡◌ {A = ℕ} 0 1 = cc in omega arith)
