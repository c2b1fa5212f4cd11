-- `listing::text::push_hex` meets its contract. Assumes nothing.
use mathlib.Core.Path.{◌∙◌}
use Prim.Native.Nat.{◌≤◌}
use native.Mathlib.Omega.{arith}
use Rattle.listing.proofs.TextLaws.{hex_spelled, pushed}
use Rattle.listing.proofs.text.push_hex.Goals as goal

pub returns-clause-bytes : goal.returns-clause-bytes
returns-clause-bytes g c =
    let bound : c.hex-k.result ≤ 16 = omega arith in
    pushed _ _ _ _ (c.hex-k.ensures.digits ∙ hex_spelled _ _ bound c.hex-k.ensures.len) (rw c.unwrap.ensures at c.try_extend_from_slice.ensures.ok) c.push.ensures.items
