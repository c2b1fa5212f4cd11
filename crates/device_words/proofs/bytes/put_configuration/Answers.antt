-- `device_words::bytes::put_configuration` meets its contract. Assumes nothing.
use mathlib.Core.Path.{ap, ◌∙◌}
use mathlib.Core.List.{List}
use Prim.Native.Nat.{ℕ}
use lib.Seq.{sets}
use Rattle.device_words.specs.Bytes.{le}
use Rattle.device_words.proofs.ByteLaws.{configuration_put}
use Rattle.device_words.proofs.bytes.put_configuration.Goals as goal

pub returns : goal.returns
returns c = let a = c.args in
    c.put-7.ensures ∙ ap (λ (w : List ℕ). sets w 48 (le 8 a.requested))
    (c.put-6.ensures ∙ ap (λ (w : List ℕ). sets w 40 (le 8 a.plugged))
    (c.put-5.ensures ∙ ap (λ (w : List ℕ). sets w 32 (le 8 a.usable))
    (c.put-4.ensures ∙ ap (λ (w : List ℕ). sets w 24 (le 8 a.region))
    (c.put-3.ensures ∙ ap (λ (w : List ℕ). sets w 16 (le 8 a.addr.0))
    (c.put-2.ensures ∙ ap (λ (w : List ℕ). sets w 8 (le 8 0))
    c.put.ensures)))))
    ∙ configuration_put a.out.now a.block a.addr.0 a.region a.usable a.plugged a.requested c.requires
