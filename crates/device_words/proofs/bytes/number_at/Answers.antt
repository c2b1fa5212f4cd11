-- `device_words::bytes::number_at` meets its contract. Assumes nothing.
use native.Mathlib.Omega.{arith}
use Rattle.device_words.proofs.ByteLaws.{read_le}
use Rattle.device_words.proofs.bytes.number_at.Goals as goal

pub returns : goal.returns
returns c = let a = c.args in
    read_le a.bytes.now a.at a.k _ c.copy_from_slice.ensures.after c.requires.0 c.requires.1 (λ i. omega (arith, c.type_inv.bytes i)) c.from_le_bytes.ensures
