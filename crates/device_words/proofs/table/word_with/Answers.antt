-- `device_words::table::word_with` meets its contract. Assumes nothing.
use mathlib.Core.Path.{◌≡◌, ap, ◌∙◌, sym}
use mathlib.Core.Bool.{Bool, cond, ◌&&◌}
use Prim.Native.Nat.{ℕ, ◌-◌, ◌*◌, ◌%◌, ◌^◌, ◌<◌}
use native.Mathlib.Omega.{arith}
use lib.Dec.{leb, ltb}
use lib.Pow.{pow_pos}
use Rattle.device_words.specs.Table.{bit_of, word_of}
use Rattle.device_words.proofs.WordLaws.{shl_one, below_some, below_shr, run_set, run_unset}
use Rattle.device_words.proofs.table.word_with.Goals as goal

-- the bits below the run's start in a word
before : (low : ℕ) → low < 64 → 1 * 2 ^ low % 18446744073709551616 - 1 ≡ word_of (λ k. ltb k low) 64
before low h = ap (λ (x : ℕ). x - 1) (shl_one low h) ∙ below_some low (omega arith)

pub overflow_sub-before : goal.overflow_sub-before
overflow_sub-before c = let low = c.args.low in omega (arith, shl_one low c.requires.0, pow_pos low)

pub returns-then-on : goal.returns-then-on
returns-then-on c =
    let a = c.args in
    run_set a.low a.end _ _ a.word (below_shr a.end c.min.result c.min.ensures) (before a.low c.requires.0) c.requires.2 (omega arith)
    ∙ ap (λ (x : Bool). word_of (λ k. cond (leb a.low k && ltb k a.end) x (bit_of a.word k)) 64) (sym c.if-on.true)

pub returns-else-on : goal.returns-else-on
returns-else-on c =
    let a = c.args in
    run_unset a.low a.end _ _ a.word (below_shr a.end c.min.result c.min.ensures) (before a.low c.requires.0) c.requires.2 (omega arith)
    ∙ ap (λ (x : Bool). word_of (λ k. cond (leb a.low k && ltb k a.end) x (bit_of a.word k)) 64) (sym c.if-on.false)
