-- `memory_device::calls::block_of_byte` meets its contract. Assumes nothing.
use mathlib.Core.Path.{◌≡◌, ap, ◌∙◌}
use borrow.Author.Rules.{rules}
use Prim.Native.Nat.{ℕ, ◌/◌, ◌<◌}
use native.Mathlib.Omega.{arith}
use borrow.Author.Tests.{lt-ltb, le-ltb}
use Rattle.device_words.specs.Words.{device_of}
use Rattle.device_words.proofs.RuleLaws.{device_valid, blocks_bound}
use Rattle.memory_device.specs.Host.{block, byte_block}
use Rattle.memory_device.proofs.CallLaws.{byte_27, sound_device}
use Rattle.memory_device.proofs.calls.block_of_byte.Goals as goal

pub returns-in_err-device : goal.returns-in_err-device
returns-in_err-device c = byte_27 c.args.device.now c.args.offset.0 c.in_err-device.ensures.judged _ c.from_residual.ensures.0

pub returns-then-region_size-offset : goal.returns-then-region_size-offset
unfolding byte_block
returns-then-region_size-offset c = let a = c.args in
    let d = device_of a.device.now in
    let p : c.in_ok-device.device.now ≡ a.device.now = search rules in
    let size : c.region_size.result ≡ d.region_size = rw p at c.region_size.ensures in
    rw (sound_device a.device.now c.in_ok-device.ensures.judged, le-ltb a.offset.0 d.region_size (omega (arith, size)))

pub block_of-requires : goal.block_of-requires
block_of-requires c = let a = c.args in
    let d = device_of a.device.now in
    let p : c.in_ok-device.device.now ≡ a.device.now = search rules in
    let size : c.region_size.result ≡ d.region_size = rw p at c.region_size.ensures in
    let blocks : c.block_size.result ≡ d.block_size = rw p at c.block_size.ensures in
    let v = device_valid d (sound_device a.device.now c.in_ok-device.ensures.judged) in
    let some : 0 < d.block_size = omega (arith, v.least) in
    rw blocks (some, omega (arith, blocks_bound d.block_size a.offset.0 1024 some (omega (arith, v.blocks, size))))

pub returns : goal.returns
unfolding byte_block
returns c = let a = c.args in
    let d = device_of a.device.now in
    let p : c.in_ok-device.device.now ≡ a.device.now = search rules in
    let size : c.region_size.result ≡ d.region_size = rw p at c.region_size.ensures in
    rw (sound_device a.device.now c.in_ok-device.ensures.judged, lt-ltb a.offset.0 d.region_size (omega (arith, size)))
    (ap block (c.block_of.ensures ∙ ap (λ (x : ℕ). a.offset.0 / x) (rw p at c.block_size.ensures)))
