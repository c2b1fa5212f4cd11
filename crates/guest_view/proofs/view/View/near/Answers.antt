-- `guest_view::view::View::near` meets its contract. Assumes nothing.
use mathlib.Core.Path.{ap}
use native.Mathlib.Omega.{arith}
use lib.Dec.{leb}
use borrow.Author.Tests.{leb-true}
use Rattle.map_check.proofs.Bools.{and_fst, and_snd}
use Rattle.map_records.specs.declared.view.FlatRange.{FlatRange}
use Rattle.map_records.specs.Words.{view_of}
use Rattle.guest_view.proofs.FindLaws.{spot_at}
use Rattle.map_records.proofs.WordLaws.{full_words}
use Rattle.guest_view.proofs.view.View.near.Goals as goal

pub returns-then-range-a : goal.returns-then-range-a
returns-then-range-a c =
    let w = c.args.self.now in
    let r = c.range-range.result in
    let e = c.range-range.ensures.range in
    let a = c.args.a.0 in
    let p = leb-true r.first.0 a (and_fst (leb r.first.0 a) (leb a r.last.0) c.if-range-a.true) in
    let q = leb-true a r.last.0 (and_snd (leb r.first.0 a) (leb a r.last.0) c.if-range-a.true) in
    record {
      spot = spot_at (view_of w) (omega (arith, full_words w, c.count-count.ensures.judged.ordered.few)) c.count-count.ensures.judged.ordered c.args.hint a (omega (arith, c.if-hint-count.true, c.count-count.ensures.count))
          (omega (arith, p, ap (λ (x : FlatRange). x.first.0) e)) (omega (arith, q, ap (λ (x : FlatRange). x.last.0) e));
      judged = c.count-count.ensures.judged;
    }
