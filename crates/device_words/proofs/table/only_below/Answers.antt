-- `device_words::table::only_below` meets its contract. Assumes nothing.
use mathlib.Core.Path.{◌≡◌, sym, ◌∙◌}
use mathlib.Core.List.{List, ◌∷◌}
use Prim.Native.Nat.{ℕ, ◌-◌, ◌/◌}
use native.Mathlib.Omega.{arith}
use lib.Dec.{eqb}
use lib.ListN.{length, drop, length-drop, length-take, take}
use lib.Seq.{take_all}
use borrow.Author.Rules.{rules}
use borrow.Author.Tests.{tests, ne_eqb}
use Rattle.std.proofs.lemmas.Iterator.{YieldsList-from_slice}
use Rattle.std.proofs.lemmas.Iterator.Search.{all_from_yields_List}
use Rattle.device_words.proofs.TableLaws.{all_words_below, first_over, rest_below}
use Rattle.device_words.proofs.table.only_below.Goals as goal

-- the words from word s on
whole : (t : List ℕ) (s x : ℕ) (rest : List ℕ) → length t ≡ 16 → take (16 - s) (drop s t) ≡ x ∷ rest → drop s t ≡ x ∷ rest
whole t s x rest l e = sym (take_all (16 - s) (drop s t) (omega (arith, length-drop s t, l))) ∙ e

pub returns-in_default : goal.returns-in_default
returns-in_default c = sym (all_words_below c.args.words.now c.args.n
    (omega (arith, c.told-words, c.in_default.ensures.cases, length-take (16 - c.args.n / 64) (drop (c.args.n / 64) c.args.words.now), length-drop (c.args.n / 64) c.args.words.now)))

pub returns-then-first-low-eq0 : goal.returns-then-first-low-eq0
returns-then-first-low-eq0 c = let a = c.args in
    all_from_yields_List (λ w. eqb w 0) c.all.new.self _ c.all.result c.all.ensures.ran (YieldsList-from_slice c.in-Some.rest.now (cc)) (λ x b q k. search (rules, tests))
    ∙ rest_below a.words.now a.n (record { size = c.told-words; words = λ j p. search rules }) c.in-Some.first.now c.in-Some.rest.now
    (whole a.words.now (a.n / 64) c.in-Some.first.now c.in-Some.rest.now c.told-words c.in-Some.ensures.cases.0) c.if-first-low-eq0.true

pub returns-else-first-low-eq0 : goal.returns-else-first-low-eq0
returns-else-first-low-eq0 c = let a = c.args in
    ne_eqb _ 0 c.if-first-low-eq0.false
    ∙ sym (first_over a.words.now a.n (record { size = c.told-words; words = λ j p. search rules }) c.in-Some.first.now c.in-Some.rest.now
    (whole a.words.now (a.n / 64) c.in-Some.first.now c.in-Some.rest.now c.told-words c.in-Some.ensures.cases.0) c.if-first-low-eq0.false)
