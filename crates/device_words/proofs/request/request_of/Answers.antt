-- `device_words::request::request_of` meets its contract. Assumes nothing.
use native.Mathlib.Omega.{arith}
use Rattle.device_words.proofs.request.request_of.Goals as goal

pub returns : goal.returns
returns c =
    (rw (c.number_at.ensures.0, c.number_at-2.ensures.0, c.number_at-3.ensures.0), omega (arith, c.number_at-3.ensures.1))
