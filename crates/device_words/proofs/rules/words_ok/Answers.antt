-- `device_words::rules::words_ok` meets its contract. Assumes nothing.
use mathlib.Core.Path.{sym, ◌∙◌}
use Rattle.device_words.proofs.DeviceWords.{setup_passed, setup_failed}
use Rattle.device_words.proofs.rules.words_ok.Goals as goal

pub returns-then-setup_ok : goal.returns-then-setup_ok
returns-then-setup_ok c = setup_passed c.args.device.now c.told-device (sym c.setup_ok.ensures ∙ c.if-setup_ok.true) c.tables_ok.ensures

pub returns-else-setup_ok : goal.returns-else-setup_ok
returns-else-setup_ok c = c.if-setup_ok.false ∙ setup_failed c.args.device.now c.told-device (sym c.setup_ok.ensures ∙ c.if-setup_ok.false)
