-- `listing::listing::refuse` meets its contract. Assumes nothing.
use mathlib.Core.Path.{◌≡◌, ap, subst, ◌∙◌}
use mathlib.Core.List.{List, ◌++◌}
use Prim.Native.Nat.{ℕ}
use Rattle.listing.specs.Text.{decimal_text, refusal_text, ended_line, Fills}
use Rattle.listing.proofs.listing.refuse.Goals as goal

pub returns-clause-fills : goal.returns-clause-fills
unfolding refusal_text
returns-clause-fills c =
    let word = rw c.unwrap.ensures at c.try_extend_from_slice.ensures.ok in
    let text : c.as_slice.result.now ≡ refusal_text c.args.number =
    c.as_slice.ensures.value ∙ c.push_decimal.ensures.bytes ∙ ap (λ (l : List ℕ). l ++ ended_line (decimal_text c.args.number)) (word ∙ ap (λ (l : List ℕ). l ++ _) c.new-text.ensures) in
    subst (λ (x : List ℕ). Fills x c.args.out.now c.fill.result c.fill.new.out) text c.fill.ensures
