-- `device_words::rules::valid` meets its contract. Assumes nothing.
use Rattle.device_words.proofs.DeviceWords.{other_refused}
use Rattle.device_words.proofs.rules.valid.Goals as goal

pub returns-in_default : goal.returns-in_default
returns-in_default c = other_refused c.args.words.now c.in_default.ensures.cases
