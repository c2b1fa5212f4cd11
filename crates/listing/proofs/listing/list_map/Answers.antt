-- `listing::listing::list_map` meets its contract. Assumes nothing.
use mathlib.Core.Path.{subst, ◌∙◌}
use mathlib.Core.List.{List}
use Prim.Native.Nat.{ℕ}
use lib.ListN.{length-replicate}
use Rattle.map_records.specs.Words.{map_of}
use Rattle.map_records.specs.Limits.{view_length}
use Rattle.region_map.specs.Flatten.{flattened}
use Rattle.listing.specs.Text.{Fills}
use Rattle.listing.proofs.ListingLaws.{MadeAs, made_as, view_refused, view_passed}
use Rattle.listing.proofs.listing.list_map.Goals as goal

pub returns-in-Err-clause-fills : goal.returns-in-Err-clause-fills
returns-in-Err-clause-fills c =
    let f = c.flatten in
    let made : MadeAs (flattened (map_of c.args.map.now) c.args.memory_length) f.result f.new.view = made_as _ _ _ _ f.result (length-replicate {A = ℕ} view_length 0) f.auto.view f.ensures.0 f.ensures.1 in
    view_refused made c.in-Err.is (c.from.ensures ∙ c.number.ensures ∙ c.refusal.ensures) c.refuse.ensures.fills

pub push_ranges-requires : goal.push_ranges-requires
push_ranges-requires c =
    let f = c.flatten in
    let made : MadeAs (flattened (map_of c.args.map.now) c.args.memory_length) f.result f.new.view = made_as _ _ _ _ f.result (length-replicate {A = ℕ} view_length 0) f.auto.view f.ensures.0 f.ensures.1 in
    (made.few c.in_default.is, c.new-text.ensures)

pub returns-clause-fills : goal.returns-clause-fills
returns-clause-fills c =
    let f = c.flatten in
    let made : MadeAs (flattened (map_of c.args.map.now) c.args.memory_length) f.result f.new.view = made_as _ _ _ _ f.result (length-replicate {A = ℕ} view_length 0) f.auto.view f.ensures.0 f.ensures.1 in
    view_passed made c.in_default.is (subst (λ (x : List ℕ). Fills x c.args.out.now c.fill.result c.fill.new.out) (c.as_slice.ensures.value ∙ c.push_ranges.ensures) c.fill.ensures)
