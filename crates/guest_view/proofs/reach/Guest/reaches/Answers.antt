-- `guest_view::reach::Guest::reaches` meets its contract. Assumes nothing.
use native.Mathlib.Omega.{arith}
use mathlib.Core.Path.{◌≡◌, sym, subst}
use Rattle.guest_view.specs.declared.reach.Guest.{Guest}
use Rattle.guest_view.specs.Promises.{Judged}
use mathlib.Core.Bool.{true}
use Prim.Native.Nat.{ℕ, ◌+◌, ◌<◌}
use Rattle.device_words.specs.Device.{plugged_in}
use Rattle.guest_view.specs.Guest.{view_guest}
use Rattle.map_records.specs.Words.{view_of}
use Rattle.guest_view.proofs.ReachLaws.{all_true, past_all, turn_stops, turn_goes}
use Rattle.guest_view.proofs.ReadLaws.{words_full}
use Rattle.guest_view.proofs.StretchLaws.{some}
use Rattle.guest_view.proofs.reach.Guest.reaches.Goals as goal

pub returns-then-count-eq0 : goal.returns-then-count-eq0
returns-then-count-eq0 c = sym (all_true _ _ _ (λ e h. absurd (omega (arith, h, c.if-count-eq0.true))))

pub returns-then-addr-count : goal.returns-then-addr-count
returns-then-addr-count c =
    let p : 0 < c.args.count = some c.if-count-eq0.false in
    let known = subst (λ (g : Guest). Judged g.view) c.self.view_is c.self.invariant in
    sym (past_all (view_of c.args.self.now.view) (plugged_in c.args.self.now.blocks.size c.args.self.now.blocks.plugged.now) (words_full known) known.ordered c.args.addr.0 c.args.count p (omega (arith, c.if-addr-count.true)))

pub loop-done-init : goal.loop-done-init
loop-done-init c = (omega arith, λ e h. absurd (omega (arith, h)))

pub returns-in_default : goal.returns-in_default
returns-in_default c =
    let s = c.args in
    sym (turn_stops (view_guest (view_of s.self.now.view) s.self.now.blocks.size s.self.now.blocks.plugged.now).reach s.addr.0 c.loop-done.done c.extent_at.result c.extent_at.ensures s.count c.in_default.is c.loop-done-test.true)

pub returns-then-count-done : goal.returns-then-count-done
returns-then-count-done c =
    let s = c.args in
    sym (all_true (view_guest (view_of s.self.now.view) s.self.now.blocks.size s.self.now.blocks.plugged.now).reach s.addr.0 s.count (λ e h. (let it : (e : ℕ) → e < c.loop-done.done + c.in-Some.more + 1 → (view_guest (view_of c.args.self.now.view) c.args.self.now.blocks.size c.args.self.now.blocks.plugged.now).reach (c.args.addr.0 + e) ≡ true = let s = c.args in turn_goes (view_guest (view_of s.self.now.view) s.self.now.blocks.size s.self.now.blocks.plugged.now).reach s.addr.0 c.loop-done.done c.extent_at.result c.extent_at.ensures c.in-Some.more c.in-Some.is c.loop-done.invariant.1 in it) e (omega (arith, c.if-count-done.true, h, c.loop-done-test.true))))

pub loop-done-preserved : goal.loop-done-preserved
loop-done-preserved c = (omega (arith, c.if-count-done.false, c.loop-done-test.true), (let it : (e : ℕ) → e < c.loop-done.done + c.in-Some.more + 1 → (view_guest (view_of c.args.self.now.view) c.args.self.now.blocks.size c.args.self.now.blocks.plugged.now).reach (c.args.addr.0 + e) ≡ true = let s = c.args in turn_goes (view_guest (view_of s.self.now.view) s.self.now.blocks.size s.self.now.blocks.plugged.now).reach s.addr.0 c.loop-done.done c.extent_at.result c.extent_at.ensures c.in-Some.more c.in-Some.is c.loop-done.invariant.1 in it))

pub returns : goal.returns
returns c =
    let s = c.args in
    sym (all_true (view_guest (view_of s.self.now.view) s.self.now.blocks.size s.self.now.blocks.plugged.now).reach s.addr.0 s.count (λ e h. c.loop-done.invariant.1 e (omega (arith, h, c.loop-done-test.false))))
