-- Laws of words that stand for a view: those that 27 accepts are as many as a view has. Assumes nothing.
use mathlib.Core.Path.{◌≡◌, sym, ap, ◌∙◌}
use mathlib.Core.Bool.{true, false}
use mathlib.Core.List.{List}
use mathlib.Core.Logic.{⊎_elim}
use Prim.Native.Nat.{ℕ, ◌^◌, ◌≤◌}
use native.Mathlib.Omega.{arith}
use lib.ListN.{length}
use Rattle.map_records.specs.Words.{view_of}
use Rattle.map_records.specs.Limits.{view_length}
use Rattle.map_records.specs.declared.view.FlatView.{FlatView}
use Rattle.map_records.proofs.Order.{eq_or_not}
use Rattle.map_records.proofs.WordLaws.{view_other}
use Rattle.map_check.proofs.Bools.{never}
use Rattle.guest_view.specs.View.{view_ok}
use Rattle.guest_view.specs.Promises.{Ordered, Judged}
use Rattle.guest_view.proofs.RuleLaws.{view_many, view_ordered}

pub refused_other : (w : List ℕ) → (length w ≡ view_length → ⊥) → (memory region : ℕ) → view_ok (view_of w) memory region ≡ false
refused_other w other memory region = view_many (view_of w) memory region (omega (arith, ap (λ (v : FlatView). v.count) (view_other w other)))

-- words that 27 accepts are 1,537
pub kept_words : (w : List ℕ) (memory region : ℕ) → view_ok (view_of w) memory region ≡ true → length w ≡ view_length
kept_words w memory region ok =
    ⊎_elim (λ e. e) (λ ne. absurd (never (sym ok ∙ refused_other w ne memory region))) (eq_or_not (length w) view_length)

-- words of a view that ascends, and of one that 27 accepts, are as many as a view has
pub ordered_judged : (w : List ℕ) → Ordered (view_of w) → Judged w
ordered_judged w o =
    record {
      words = ⊎_elim (λ e. e) (λ ne. absurd (omega (arith, o.few, ap (λ (v : FlatView). v.count) (view_other w ne)))) (eq_or_not (length w) view_length);
      ordered = o;
    }

pub view_judged : (w : List ℕ) (memory region : ℕ) → view_ok (view_of w) memory region ≡ true → memory ≤ 2 ^ 64 → Judged w
view_judged w memory region ok l = record { words = kept_words w memory region ok; ordered = view_ordered (view_of w) memory region ok l }
