-- `map_check::check::checked_map` meets its contract. Assumes nothing.
use mathlib.Core.Path.{◌≡◌, sym, subst, ◌∙◌}
use mathlib.Core.List.{List}
use Prim.Native.Nat.{ℕ}
use borrow.Author.Rules.{rules}
use Rattle.map_records.specs.Words.{map_of}
use Rattle.map_check.specs.Reply.{Reply, accepted}
use Rattle.map_check.specs.Check.{judged, Accepted}
use Rattle.map_check.specs.Promises.{Counted, on_regions, on_pairs}
use Rattle.map_check.specs.Check.{fault_reply}
use Rattle.map_check.specs.declared.check.MapFault.{MapFault}
use Rattle.map_check.proofs.Found.{judged_count, judged_refused, judged_passed}
use Rattle.map_check.proofs.check.checked_map.Goals as goal

-- the parts of the check over the same words, and the check
module _ (w v : List ℕ) (same : v ≡ w) (known : Counted w) (memory : ℕ) where
  refused : (f : MapFault) → fault_reply f ≡ on_regions (map_of v) memory → fault_reply f ≡ judged (map_of w) memory
  refused f e = judged_refused _ _ known.some known.few f (subst (λ (w : List ℕ). fault_reply f ≡ on_regions (map_of w) memory) same e)

  passed : (r : Reply) → accepted ≡ on_regions (map_of v) memory → r ≡ on_pairs (map_of v) → r ≡ judged (map_of w) memory
  passed r e f =
      subst (λ (w : List ℕ). r ≡ on_pairs (map_of w)) same f
      ∙ judged_passed _ _ known.some known.few (subst (λ (w : List ℕ). accepted ≡ on_regions (map_of w) memory) same e)

pub returns-in_default-clause-reply : goal.returns-in_default-clause-reply
returns-in_default-clause-reply c = judged_count _ _ c.in_default.ensures

pub returns-in_err-check_regions-clause-reply : goal.returns-in_err-check_regions-clause-reply
returns-in_err-check_regions-clause-reply c =
    search (rules, refused _ _ c.in-Some.ensures.0 c.in-Some.ensures.1 _ _ c.in_err-check_regions.ensures)

pub returns-in_err-check_pairs-clause-reply : goal.returns-in_err-check_pairs-clause-reply
returns-in_err-check_pairs-clause-reply c =
    search (rules, passed _ _ c.in-Some.ensures.0 c.in-Some.ensures.1 _ _ c.in_ok-check_regions.ensures c.in_err-check_pairs.ensures)

pub accepted-requires : goal.accepted-requires
unfolding Accepted
accepted-requires c =
    let ok = passed _ _ c.in-Some.ensures.0 c.in-Some.ensures.1 _ _ c.in_ok-check_regions.ensures c.in_ok-check_pairs.ensures in
    record { memory = c.args.memory_length; accepted = subst (λ (w : List ℕ). judged (map_of w) c.args.memory_length ≡ accepted) (sym c.in-Some.ensures.0) (sym ok) }

pub returns-clause-reply : goal.returns-clause-reply
returns-clause-reply c = passed _ _ c.in-Some.ensures.0 c.in-Some.ensures.1 _ _ c.in_ok-check_regions.ensures c.in_ok-check_pairs.ensures

pub returns-clause-same : goal.returns-clause-same
unfolding Accepted
returns-clause-same c =
    (c.accepted.ensures ∙ c.in-Some.ensures.0, sym (passed _ _ c.in-Some.ensures.0 c.in-Some.ensures.1 _ _ c.in_ok-check_regions.ensures c.in_ok-check_pairs.ensures))
