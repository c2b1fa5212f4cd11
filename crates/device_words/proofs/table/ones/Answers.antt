-- `device_words::table::ones` meets its contract. Assumes nothing.
use native.Mathlib.Omega.{arith}
use lib.Count.{ones-le}
use Rattle.device_words.proofs.CountOnes.{ones_bits}
use Rattle.device_words.proofs.table.ones.Goals as goal

pub overflow_cast-result : goal.overflow_cast-result
overflow_cast-result c = omega (arith, ones-le 64 c.args.word c.ranges.word.fits)

pub returns : goal.returns
returns c = let h = c.ranges.word.fits in (ones_bits 64 c.args.word h, ones-le 64 c.args.word h)
