-- `guest_view::memory::write_bytes` meets its contract. Assumes nothing.
use native.Mathlib.Omega.{arith}
use mathlib.Core.Path.{refl, sym, ◌∙◌}
use Prim.Native.Nat.{◌<◌}
use lib.ListN.{length, length-set}
use Rattle.guest_view.proofs.MemoryLaws.{write_turn, write_ends}
use Rattle.guest_view.proofs.memory.write_bytes.Goals as goal

pub loop-i-init : goal.loop-i-init
loop-i-init c = (refl, refl)

pub bounds-bytes-i : goal.bounds-bytes-i
bounds-bytes-i c = omega (arith, c.loop-i-test.true, c.requires.places_len)

pub bounds-mem-place : goal.bounds-mem-place
bounds-mem-place c = omega (arith, c.loop-i.invariant.0, c.requires.within.each c.loop-i.i c.loop-i-test.true)

pub loop-i-preserved : goal.loop-i-preserved
loop-i-preserved c =
    let p : c.loop-i.i < length c.args.bytes.now = omega (arith, c.loop-i-test.true, c.requires.places_len) in
    (simp length-set c.loop-i.invariant.0, write_turn _ _ _ _ c.loop-i-test.true p ∙ c.loop-i.invariant.1)

pub returns : goal.returns
returns c = sym (write_ends _ _ _ _ c.loop-i-test.false) ∙ c.loop-i.invariant.1
