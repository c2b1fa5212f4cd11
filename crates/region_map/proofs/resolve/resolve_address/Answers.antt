-- `region_map::resolve::resolve_address` meets its contract. Assumes nothing.
use Rattle.std.proofs.lemmas.Result.{err_from_is_err_and}
use Rattle.region_map.proofs.ResolveLaws.{led, not_led}
use Prim.Native.Nat.{ℕ, ◌-◌}
use mathlib.Core.Path.{◌≡◌, ap, ◌∙◌}
use native.Mathlib.Omega.{arith}
use Rattle.map_records.specs.Words.{map_of}
use Rattle.region_map.specs.Walk.{walk, walk_root_by}
use mathlib.Core.List.{List}
use Rattle.map_check.proofs.MapWords.{checked_some}
use Rattle.region_map.proofs.resolve.resolve_address.Goals as goal

pub overflow_sub-root : goal.overflow_sub-root
overflow_sub-root c = omega (arith, checked_some _ c.count-root.ensures.checked, c.count-root.ensures.count)

pub walk-requires : goal.walk-requires
walk-requires c = omega (arith, checked_some _ c.count-root.ensures.checked, c.count-root.ensures.count)

pub returns : goal.returns
unfolding walk_root_by
returns c =
    let m = map_of c.args.map.now in
    let same = c.in_ok-map.ensures.same.0 in
    let k : c.count-root.result - 1 ≡ m.count - 1 = ap (λ (n : ℕ). n - 1) (c.count-root.ensures.count ∙ ap (λ (w : List ℕ). (map_of w).count) same) in
    led _ _ _ _ c.in_ok-map.ensures.same.1
    (c.walk.ensures ∙ ap (λ (w : List ℕ). walk (map_of w) (c.count-root.result - 1) c.root_offset.result.0) same
    ∙ ap (λ (n : ℕ). walk m n c.root_offset.result.0) k ∙ ap (walk m (m.count - 1)) c.root_offset.ensures)

pub returns-in_err-map : goal.returns-in_err-map
returns-in_err-map c =
    let p = err_from_is_err_and c.from_residual.result c.from_residual.ensures.1 in
    rw (p.1, p.2) (not_led _ _ _ _ c.in_err-map.ensures.reply)
