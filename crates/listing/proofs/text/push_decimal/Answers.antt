-- `listing::text::push_decimal` meets its contract. Assumes nothing.
use mathlib.Core.Path.{◌∙◌}
use Prim.Native.Nat.{◌≤◌}
use native.Mathlib.Omega.{arith}
use Rattle.listing.proofs.TextLaws.{decimal_spelled, pushed}
use Rattle.listing.proofs.text.push_decimal.Goals as goal

pub returns-clause-bytes : goal.returns-clause-bytes
returns-clause-bytes g c =
    let bound : c.decimal-k.result ≤ 20 = omega arith in
    pushed _ _ _ _ (c.decimal-k.ensures.digits ∙ decimal_spelled _ _ bound c.decimal-k.ensures.len) (rw c.unwrap.ensures at c.try_extend_from_slice.ensures.ok) c.push.ensures.items
