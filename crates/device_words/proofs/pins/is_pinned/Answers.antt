-- `device_words::pins::is_pinned` meets its contract. Assumes nothing.
use mathlib.Core.Path.{sym, ◌∙◌}
use native.Mathlib.Omega.{arith}
use borrow.Author.Tests.{le-ltb}
use Rattle.device_words.specs.Device.{is_pinned}
use Rattle.device_words.specs.Words.{device_at}
use Rattle.device_words.proofs.DeviceWords.{pins_length}
use Rattle.device_words.proofs.TableLaws.{past_bit}
use Rattle.device_words.proofs.WordLaws.{any_one}
use Rattle.device_words.proofs.pins.is_pinned.Goals as goal

pub returns-then-from-lt-BLOCKS-clause-value : goal.returns-then-from-lt-BLOCKS-clause-value
returns-then-from-lt-BLOCKS-clause-value c = let a = c.args in c.any_pinned.ensures ∙ any_one (is_pinned (device_at a.device.now)) a.b.0

pub returns-else-from-lt-BLOCKS-clause-value : goal.returns-else-from-lt-BLOCKS-clause-value
returns-else-from-lt-BLOCKS-clause-value c = let w = c.args.device.now in
    le-ltb c.from.result 1024 c.if-from-lt-BLOCKS.false ∙ sym (past_bit (device_at w).pinned c.args.b.0 (pins_length w c.told-device) (omega arith))
