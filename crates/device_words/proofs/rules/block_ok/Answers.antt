-- `device_words::rules::block_ok` meets its contract. Assumes nothing.
use Rattle.device_words.proofs.RuleLaws.{power_tested}
use Rattle.device_words.proofs.rules.block_ok.Goals as goal

pub returns : goal.returns
returns c = rw c.is_power_of_two.ensures (power_tested c.args.block)
