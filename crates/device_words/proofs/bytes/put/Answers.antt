-- `device_words::bytes::put` meets its contract. Assumes nothing.
use mathlib.Core.Path.{◌∙◌}
use native.Mathlib.Omega.{arith}
use Rattle.device_words.proofs.ByteLaws.{le_length, le_bytes, part_sets}
use Rattle.device_words.proofs.bytes.put.Goals as goal

pub returns : goal.returns
returns c = let long = le_length 8 c.args.n in
    part_sets c.args.at c.args.out.now (c.copy_from_slice.ensures.after ∙ c.to_le_bytes.ensures ∙ le_bytes c.args.n) (omega (arith, long)) (omega (arith, long))
