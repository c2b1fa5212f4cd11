-- `routing::route::blocks_plugged` meets its contract. Assumes nothing.
use native.Mathlib.Omega.{arith}
use mathlib.Core.Path.{sym, ◌∙◌}
use Prim.Native.Nat.{◌<◌}
use native.Mathlib.Nat.{mod-lt}
use Rattle.routing.proofs.RouteLaws.{first_off, one_block, two_blocks}
use Rattle.routing.proofs.route.blocks_plugged.Goals as goal

pub returns-then-not-byte_plugged : goal.returns-then-not-byte_plugged
returns-then-not-byte_plugged c = sym (first_off c.args.blocks.now.size c.args.blocks.now.plugged.now c.args.offset.0 c.args.w c.requires.le_block c.requires.w_nonzero.0 c.requires.w_nonzero.1 (sym c.byte_plugged.ensures ∙ c.if-not-byte_plugged.true))

pub overflow_sub-w : goal.overflow_sub-w
overflow_sub-w c = omega (arith, c.requires.w_nonzero.0)

pub overflow_sub-blocks : goal.overflow_sub-blocks
overflow_sub-blocks c = omega (arith, c.requires.le_block)

pub nonzero_rem-offset : goal.nonzero_rem-offset
nonzero_rem-offset c = omega (arith, c.requires.le_block)

pub overflow_sub-blocks-2 : goal.overflow_sub-blocks-2
overflow_sub-blocks-2 c =
    let pos : 0 < c.args.blocks.now.size = omega (arith, c.requires.le_block) in
    omega (arith, mod-lt c.args.offset.0 pos)

pub returns-then-w-blocks : goal.returns-then-w-blocks
returns-then-w-blocks c =
    sym (one_block c.args.blocks.now.size c.args.blocks.now.plugged.now c.args.offset.0 c.args.w c.requires.le_block c.requires.w_nonzero.0 c.requires.w_nonzero.1 (sym c.byte_plugged.ensures ∙ c.if-not-byte_plugged.false) c.if-w-blocks.true)

pub overflow_sub-last : goal.overflow_sub-last
overflow_sub-last c = omega (arith, c.requires.w_nonzero.0)

pub overflow_add-last : goal.overflow_add-last
overflow_add-last c = omega (arith, c.requires.w_nonzero)

pub returns : goal.returns
returns c =
    c.byte_plugged-2.ensures ∙ two_blocks c.args.blocks.now.size c.args.blocks.now.plugged.now c.args.offset.0 c.args.w c.requires.le_block c.requires.w_nonzero.0 c.requires.w_nonzero.1 (sym c.byte_plugged.ensures ∙ c.if-not-byte_plugged.false)
