-- `device_words::plugs::plugged_size` meets its contract. Assumes nothing.
use mathlib.Core.Path.{ap}
use Prim.Native.Nat.{ℕ, ◌*◌}
use native.Mathlib.Omega.{arith}
use native.Mathlib.Nat.{mul-le-mul}
use Rattle.device_words.specs.Device.{size_in}
use Rattle.device_words.proofs.plugs.plugged_size.Goals as goal

pub overflow_mul-result : goal.overflow_mul-result
overflow_mul-result c = omega (arith, mul-le-mul c.requires c.total-count.ensures.1)

pub returns : goal.returns
unfolding size_in
returns c = (ap (λ (x : ℕ). c.args.block * x) c.total-count.ensures.0, omega (arith, mul-le-mul c.requires c.total-count.ensures.1))
