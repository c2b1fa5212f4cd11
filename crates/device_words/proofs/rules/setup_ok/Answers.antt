-- `device_words::rules::setup_ok` meets its contract. Assumes nothing.
use Rattle.device_words.proofs.RuleLaws.{power_bounds}
use Rattle.device_words.specs.Device.{block_ok, setup_ok}
use native.Mathlib.Omega.{arith}
use Prim.Native.Nat.{ℕ, ◌^◌, ◌≤◌}
use mathlib.Core.Bool.{true}
use mathlib.Core.Path.{◌≡◌, sym, ◌∙◌}
use Rattle.device_words.proofs.rules.setup_ok.Goals as goal

bounds : (b : ℕ) → block_ok b ≡ true → (4096 ≤ b) × (b ≤ 2 ^ 30)
bounds b = power_bounds b 19 (omega arith)

pub region_ok-requires : goal.region_ok-requires
region_ok-requires c = omega (arith, bounds c.args.block (sym c.block_ok.ensures ∙ c.if-block_ok.true))

pub addr_ok-requires : goal.addr_ok-requires
addr_ok-requires c = omega (arith, bounds c.args.block (sym c.block_ok.ensures ∙ c.if-block_ok.true))

pub sizes_ok-requires : goal.sizes_ok-requires
sizes_ok-requires c = omega (arith, bounds c.args.block (sym c.block_ok.ensures ∙ c.if-block_ok.true))

pub returns-then-block_ok : goal.returns-then-block_ok
unfolding setup_ok
returns-then-block_ok c = rw (sym c.block_ok.ensures ∙ c.if-block_ok.true, c.region_ok.ensures, c.addr_ok.ensures, c.sizes_ok.ensures)

pub returns-else-block_ok : goal.returns-else-block_ok
unfolding setup_ok
returns-else-block_ok c = rw (sym c.block_ok.ensures ∙ c.if-block_ok.false) c.if-block_ok.false
