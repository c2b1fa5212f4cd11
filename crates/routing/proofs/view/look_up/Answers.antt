-- `routing::view::look_up` meets its contract. Assumes nothing.
use native.Mathlib.Omega.{arith}
use mathlib.Core.Path.{◌≡◌, sym, ap, ◌∙◌, subst}
use mathlib.Core.List.{List}
use Prim.Native.Nat.{ℕ, ◌<◌}
use Rattle.std.specs.Prelude.{Some}
use Rattle.map_records.specs.declared.view.FlatRange.{FlatRange}
use Rattle.map_records.specs.Words.{view_of}
use Rattle.map_records.specs.View.{range_of, offset_in}
use Rattle.guest_view.specs.Promises.{Spot}
use Rattle.guest_view.proofs.ReadLaws.{read_low, read_offset}
use Rattle.region_map.specs.Resolve.{WalkAnswer, leads}
use Rattle.routing.proofs.RouteLaws.{looked_record, looked_at, looked_nothing}
use Rattle.routing.proofs.view.look_up.Goals as goal

pub returns-in_default : goal.returns-in_default
returns-in_default c = sym (looked_record (view_of c.args.view.now) c.args.memory_length c.args.address.0 c.in_default.ensures)

pub returns-then-count-at : goal.returns-then-count-at
returns-then-count-at c =
    let e = c.in-Some.ensures.0 in
    let spot = subst (λ (w : List ℕ). Spot (view_of w) c.args.address.0 c.near-at.result) e c.near-at.ensures.spot in
    let n : c.count.result ≡ (view_of c.args.view.now).count = c.count.ensures.count ∙ ap (λ (w : List ℕ). (view_of w).count) e in
    sym (looked_nothing (view_of c.args.view.now) c.args.memory_length c.args.address.0 c.in-Some.ensures.1 c.near-at.result spot (omega (arith, c.if-count-at.true, n)))

pub range-range-requires : goal.range-range-requires
range-range-requires c = omega (arith, c.if-count-at.false, c.count.ensures.count)

pub offset_in-requires : goal.offset_in-requires
offset_in-requires c =
    let j = c.near-at.ensures.judged in
    let below : c.near-at.result < (view_of c.in-Some.view).count = omega (arith, c.if-count-at.false, c.count.ensures.count) in
    (read_low j c.near-at.ensures.spot below c.range-range.ensures.range, omega (arith, read_offset j c.near-at.ensures.spot below c.range-range.ensures.range))

pub returns : goal.returns
returns c =
    let a = c.args in
    let e = c.in-Some.ensures.0 in
    let spot = subst (λ (w : List ℕ). Spot (view_of w) c.args.address.0 c.near-at.result) e c.near-at.ensures.spot in
    let n : c.count.result ≡ (view_of c.args.view.now).count = c.count.ensures.count ∙ ap (λ (w : List ℕ). (view_of w).count) e in
    let range = c.range-range.ensures.range ∙ ap (λ (w : List ℕ). range_of (view_of w) c.near-at.result) e in
    ap {B = WalkAnswer} (λ (n : ℕ). leads (Some (record { region = c.range-range.result.region; offset = record { 0 = n } }))) c.offset_in.ensures
    ∙ ap {B = WalkAnswer} (λ (r : FlatRange). leads (Some (record { region = r.region; offset = record { 0 = offset_in r a.address.0 } }))) range
    ∙ sym (looked_at (view_of a.view.now) a.memory_length a.address.0 c.in-Some.ensures.1 c.near-at.result spot (omega (arith, c.if-count-at.false, n)))
