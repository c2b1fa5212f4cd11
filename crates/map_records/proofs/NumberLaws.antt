-- Sums that are compared without being taken. Assumes nothing.
use mathlib.Core.Path.{◌≡◌, sym, ◌∙◌}
use Prim.Native.Nat.{ℕ, ◌+◌, ◌-◌, ◌≤◌, ◌<◌}
use native.Mathlib.Decide.{dec_lt}
use native.Mathlib.Omega.{arith}
use lib.Dec.{leb}
use borrow.Author.Tests.{lt-leb, le-leb}

pub sum_within : (a b limit : ℕ) → b ≤ limit → leb a (limit - b) ≡ leb (a + b) limit
sum_within a b limit h = go (dec_lt limit (a + b))
  where
    go : Dec (limit < a + b) → leb a (limit - b) ≡ leb (a + b) limit
    go (yes l) = lt-leb a (limit - b) (omega arith) ∙ sym (lt-leb (a + b) limit l)
    go (no l) = le-leb a (limit - b) (omega arith) ∙ sym (le-leb (a + b) limit (omega arith))
