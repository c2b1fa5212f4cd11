-- `device_words::table::with_run` meets its contract. Assumes nothing.
use mathlib.Core.Path.{◌≡◌, refl, sym, subst}
use Prim.Native.Nat.{ℕ, ◌+◌}
use native.Mathlib.Omega.{arith}
use lib.ListN.{set}
use borrow.Author.Rules.{rules}
use Rattle.device_words.proofs.WordLaws.{Turned, turned_none, turned_next, turned_end}
use Rattle.device_words.proofs.table.with_run.Goals as goal

pub loop-i-init : goal.loop-i-init
loop-i-init c = let a = c.args in
    rw (c.into_iter-i-iterator.ensures.into_iter_gives, c.words-i-items.ensures.start, c.words-i-items.ensures.end)
    (refl, omega arith, omega (arith, a.run.room), turned_none a.words.now a.run.first.0 a.run.count a.on (record { size = c.requires; words = λ j p. search rules }))

pub loop-i-preserved : goal.loop-i-preserved
loop-i-preserved c = let a = c.args in
    let at = c.loop-i in
    let step = c.in-Some.ensures.steps in
    let i = c.in-Some.i in
    let here : i ≡ at.i-iterator.start = omega (arith, step) in
    let up : c.next.new.self.start ≡ i + 1 = omega (arith, step) in
    let so_far = subst (λ (x : ℕ). Turned a.words.now at.words a.run.first.0 a.run.count a.on x) (sym here) at.invariant.3 in (
      omega (arith, step),
      omega (arith, step),
      omega (arith, step),
      subst (λ (x : ℕ). Turned a.words.now (set at.words i c.turned.result) a.run.first.0 a.run.count a.on x) (sym up)
          (turned_next a.words.now at.words a.run.first.0 a.run.count a.on i c.turned.result (omega (arith, step, a.run.room)) c.turned.ensures so_far),
    )

pub returns : goal.returns
returns c = let a = c.args in
    let at = c.loop-i in
    turned_end a.words.now at.words a.run.first.0 a.run.count a.on at.i-iterator.start (omega (arith, c.in-None.ensures.steps)) at.invariant.3
