-- Either order of two numbers, and whether they are equal. Assumes nothing.
use mathlib.Core.Path.{◌≡◌}
use mathlib.Core.Logic.{◌⊎◌, inl, inr, ⊎_elim}
use Prim.Native.Nat.{ℕ, ◌-◌, ◌≤◌, ◌<◌}
use native.Mathlib.Nat.{eq-zero-or-pos}
use native.Mathlib.Omega.{arith}

pub side : (e n : ℕ) → (e < n) ⊎ (n ≤ e)
side e n = ⊎_elim (λ z. inr (omega arith)) (λ p. inl (omega arith)) (eq-zero-or-pos (n - e))

pub eq_or_not : (a b : ℕ) → (a ≡ b) ⊎ (a ≡ b → ⊥)
eq_or_not a b =
    ⊎_elim (λ lt. inr (λ e. omega arith)) (λ ge. ⊎_elim (λ lt. inr (λ e. omega arith)) (λ le. inl (omega arith)) (side b a)) (side a b)
