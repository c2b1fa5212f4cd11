-- `drawing::cell::column_address` meets its contract. Assumes nothing.
use mathlib.Core.Path.{refl}
use Rattle.drawing.specs.Drawing.{column_address}
use native.Mathlib.Nat.{mul-le-mul}
use native.Mathlib.Omega.{arith}
use Rattle.drawing.proofs.cell.column_address.Goals as goal

pub overflow_mul-result : goal.overflow_mul-result
overflow_mul-result c = record { fits = omega (arith, mul-le-mul c.requires.0 c.requires.1) }

pub returns : goal.returns
unfolding column_address
returns c = refl
