-- `region_map::view::flatten` meets its contract. Assumes nothing.
use Rattle.std.specs.Prelude.{Result}
use Rattle.region_map.specs.declared.flat.TooManyRanges.{TooManyRanges}
use mathlib.Core.Path.{◌≡◌, sym, subst, ap, ◌∙◌}
use mathlib.Core.List.{List}
use Rattle.region_map.specs.Promises.{Grows}
use Rattle.region_map.specs.Flatten.{flat_list}
use Prim.Native.Nat.{ℕ}
use lib.ListN.{replicate}
use Rattle.map_records.specs.Words.{map_of}
use Rattle.map_check.specs.Reply.{Laid}
use Rattle.std.proofs.lemmas.Result.{err_from_is_err_and}
use Rattle.region_map.proofs.ResolveLaws.{fault_refuses}
use Rattle.region_map.proofs.ViewWords.{none_yet, none_blank, into_other, into_full, into_made, into_refused}
use Rattle.map_records.specs.Limits.{view_length}
use Rattle.region_map.proofs.view.flatten.Goals as goal

-- of the words that the check gave back
moved : {w v : List ℕ} (old : List ℕ) (r : Result Unit TooManyRanges) (new : List ℕ) → v ≡ w → Grows (flat_list (map_of v)) old r new → Grows (flat_list (map_of w)) old r new
moved old r new same grew = subst (λ w. Grows (flat_list (map_of w)) old r new) same grew

pub returns-then-view-ne-VIEW_WORDS : goal.returns-then-view-ne-VIEW_WORDS
returns-then-view-ne-VIEW_WORDS c =
    let e = into_other (map_of c.args.map.now) c.args.memory_length c.args.view.now c.if-view-ne-VIEW_WORDS.true in
    (sym (ap (λ (m : Laid). m.reply) e), sym (ap (λ (m : Laid). m.words) e))

pub sweep-requires : goal.sweep-requires
sweep-requires c = none_yet

pub returns-in_err-map : goal.returns-in_err-map
returns-in_err-map c =
    let p = err_from_is_err_and c.from_residual.result c.from_residual.ensures.1 in
    let f = c.in_err-map.field-0.0 in
    let e = into_refused (map_of c.args.map.now) c.args.memory_length c.args.view.now c.if-view-ne-VIEW_WORDS.false _ c.in_err-map.ensures.reply (fault_refuses f) in
    rw (p.1, p.2) (sym (ap (λ (m : Laid). m.reply) e), sym (ap (λ (m : Laid). m.words) e))

pub returns-in_err-sweep : goal.returns-in_err-sweep
returns-in_err-sweep c =
    let p = err_from_is_err_and c.from_residual-in_err-sweep.result c.from_residual-in_err-sweep.ensures.1 in
    let same = c.in_ok-map.ensures.same in
    let full = moved _ _ _ same.0 c.in_err-sweep.ensures in
    let e = into_full _ c.args.memory_length c.args.view.now c.if-view-ne-VIEW_WORDS.false same.1 full in
    rw (p.1, p.2) (sym (ap (λ (x : Laid). x.reply) e), sym (ap (λ (x : Laid). x.words) e))

pub returns : goal.returns
returns c =
    let m = map_of c.args.map.now in
    let same = c.in_ok-map.ensures.same in
    let made = moved _ _ _ same.0 c.in_ok-sweep.ensures in
    let e = into_made m c.args.memory_length c.args.view.now c.if-view-ne-VIEW_WORDS.false same.1 (replicate view_length 0) c.sweep.new.view none_blank made in
    (sym (ap (λ (x : Laid). x.reply) e), c.copy_from_slice.ensures.after ∙ sym (ap (λ (x : Laid). x.words) e))
