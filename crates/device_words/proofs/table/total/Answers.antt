-- `device_words::table::total` meets its contract. Assumes nothing.
use mathlib.Core.Path.{◌≡◌, ap, ◌∙◌, sym}
use native.Mathlib.Omega.{arith}
use borrow.Author.Rules.{rules}
use Rattle.std.specs.List.{sum_by}
use Rattle.std.proofs.lemmas.Iterator.{YieldsList-from_slice, YieldsList-from_map}
use Rattle.std.proofs.lemmas.Iterator.Consumers.{YieldsList-at, sum_by_from_yields_List, fits_by_from_yields_list}
use Rattle.device_words.specs.Table.{bits_in, set_in}
use Rattle.device_words.proofs.TableLaws.{set_sum, sum_bound}
use Rattle.device_words.proofs.table.total.Goals as goal

pub sum-requires-clause-fits : goal.sum-requires-clause-fits
sum-requires-clause-fits c = let t = c.args.words.now in
    fits_by_from_yields_list (λ w. bits_in w 64) t c.map.result _
    (YieldsList-from_map _ (λ w. bits_in w 64) (YieldsList-at c.map.ensures.source (YieldsList-from_slice t (cc))) c.map.ensures.closure (λ x r q k. search rules))
    (omega (arith, sum_bound t, c.told-words))

pub returns : goal.returns
returns c = let t = c.args.words.now in
    let value : c.sum.result ≡ sum_by (λ w. bits_in w 64) t =
    sum_by_from_yields_List (λ w. bits_in w 64) t c.map.result c.sum.result c.sum.ensures.ran
    (YieldsList-from_map _ (λ w. bits_in w 64) (YieldsList-at c.map.ensures.source (YieldsList-from_slice t (cc))) c.map.ensures.closure (λ x r q k. search rules)) in
    (value ∙ sym (set_sum t) ∙ ap (set_in t) c.told-words, omega (arith, value, sum_bound t, c.told-words))
