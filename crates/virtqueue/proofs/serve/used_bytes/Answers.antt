-- `virtqueue::serve::used_bytes` meets its contract. Assumes nothing.
use Rattle.std.proofs.Common.{◌≡◌, ◌/◌, arith}
use Rattle.device_words.specs.Bytes.{le}
use Rattle.virtqueue.specs.Step.{used_bytes}
use Rattle.virtqueue.proofs.serve.used_bytes.Goals as goal

pub returns : goal.returns
unfolding used_bytes le
returns c = let p : c.args.head / 256 / 256 ≡ 0 = omega (arith, c.well_formed) in rw (c.to_le_bytes.ensures, c.to_le_bytes-2.ensures, p)
