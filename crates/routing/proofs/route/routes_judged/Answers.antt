-- `routing::route::routes_judged` meets its contract. Assumes nothing.
use native.Mathlib.Omega.{arith}
use mathlib.Core.Path.{refl, sym, ap, ap₂, ◌∙◌}
use mathlib.Core.List.{List}
use Prim.Native.Nat.{ℕ, ◌+◌, ◌-◌, ◌*◌, ◌<◌, ◌/◌}
use lib.ListN.{length}
use lib.Seq.{sets, length-sets}
use Rattle.routing.specs.Route.{Routed, answer_words, answers_to}
use Rattle.routing.proofs.RouteAllLaws.{fit_length, pair_first, pair_second, answers_start, answers_turn, answers_end}
use Rattle.routing.proofs.route.routes_judged.Invariants.{one}
use Rattle.routing.proofs.route.routes_judged.Goals as goal

pub loop-i-init : goal.loop-i-init
loop-i-init c = record {
  rest = answers_start (one c.args.guest.now.view c.args.guest.now.blocks.size c.args.guest.now.blocks.plugged.now) c.args.accesses.now c.args.answers.now (length c.as_chunks.result.0.now)
      (omega (arith, fit_length c.args.accesses.now c.args.answers.now c.requires.answers_value, c.as_chunks.ensures.front_len));
  size = refl;
}

pub route_at-answer-requires : goal.route_at-answer-requires
route_at-answer-requires c = record { le_block = c.requires.le_block; spot = c.near-at.ensures.spot }

pub put_answer-requires : goal.put_answer-requires
put_answer-requires c = omega (arith, c.loop-i-test.true, c.loop-i.auto.answers, fit_length c.args.accesses.now c.args.answers.now c.requires.answers_value, c.as_chunks.ensures.front_len)

pub loop-i-preserved : goal.loop-i-preserved
loop-i-preserved c =
    let l = c.loop-i in
    let f = one c.args.guest.now.view c.args.guest.now.blocks.size c.args.guest.now.blocks.plugged.now in
    let xs = c.args.accesses.now in
    let n = length c.as_chunks.result.0.now in
    let h : l.i < length xs / 2 = omega (arith, c.loop-i-test.true, c.as_chunks.ensures.front_len) in
    let front = c.as_chunks.ensures.front in
    let one_answer = c.route_at-answer.ensures ∙ ap₂ f (pair_first (length xs / 2) xs front l.i _ h) (pair_second (length xs / 2) xs front l.i _ h) in
    let e = c.put_answer.ensures ∙ ap (λ (r : Routed). sets l.answers (4 * l.i) (answer_words r)) one_answer in
    record {
      rest = ap (λ (x : List ℕ). sets x (4 * (l.i + 1)) (answers_to f xs (l.i + 1) (n - (l.i + 1)))) e ∙ answers_turn f xs l.answers l.i n c.loop-i-test.true ∙ l.invariant.rest;
      size = ap length e ∙ simp length-sets l.invariant.size;
    }

pub returns : goal.returns
returns c =
    let l = c.loop-i in
    let f = one c.args.guest.now.view c.args.guest.now.blocks.size c.args.guest.now.blocks.plugged.now in
    sym (answers_end f c.args.accesses.now l.answers (4 * l.i) l.i (length c.as_chunks.result.0.now) c.loop-i-test.false) ∙ l.invariant.rest ∙ ap (answers_to f c.args.accesses.now 0) c.as_chunks.ensures.front_len
