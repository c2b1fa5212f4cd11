-- `device_words::pins::any_pinned` meets its contract. Assumes nothing.
use mathlib.Core.Path.{ap, ◌∙◌}
use mathlib.Core.Bool.{not}
use mathlib.Core.List.{List}
use Prim.Native.Nat.{ℕ}
use lib.Dec.{eqb}
use Rattle.device_words.specs.Table.{held_in}
use Rattle.device_words.specs.Words.{device_at}
use Rattle.device_words.proofs.WordLaws.{held_any}
use Rattle.device_words.proofs.pins.any_pinned.Goals as goal

pub returns : goal.returns
returns c = let a = c.args in ap not (c.none_set.ensures ∙ ap (λ (t : List ℕ). eqb (held_in t a.run.first.0 a.run.count) 0) c.pin_table.ensures) ∙ held_any (device_at a.device.now).pinned a.run.first.0 a.run.count
