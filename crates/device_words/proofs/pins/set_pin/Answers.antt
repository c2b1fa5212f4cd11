-- `device_words::pins::set_pin` meets its contract. Assumes nothing.
use mathlib.Core.Path.{ap, ◌∙◌}
use mathlib.Core.List.{List, ◌++◌}
use Prim.Native.Nat.{ℕ}
use lib.ListN.{take, drop}
use Rattle.device_words.proofs.DeviceWords.{pins_stored}
use Rattle.device_words.proofs.pins.set_pin.Goals as goal

pub returns : goal.returns
returns c = let w = c.args.device.now in
    ap (λ (t : List ℕ). take 21 w ++ (t ++ drop 16 (drop 21 w))) c.with_run.ensures ∙ pins_stored w _ c.told-device
