-- `memory_device::device::MemoryDevice::keeps_rules` meets its contract. Assumes nothing.
use mathlib.Core.Path.{ap, ◌∙◌}
use Rattle.device_words.specs.Device.{device_ok}
use Rattle.device_words.proofs.DeviceWords.{device_first}
use Rattle.memory_device.proofs.device.MemoryDevice.keeps_rules.Goals as goal

pub returns : goal.returns
returns c = c.device_ok.ensures ∙ device_first c.words_of.result ∙ ap device_ok c.words_of.ensures.1
