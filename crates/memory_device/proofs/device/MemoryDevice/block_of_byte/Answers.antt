-- `memory_device::device::MemoryDevice::block_of_byte` meets its contract. Assumes nothing.
use mathlib.Core.Path.{ap, ◌∙◌}
use Rattle.device_words.specs.Device.{MemoryDevice}
use Rattle.memory_device.specs.Host.{byte_block}
use Rattle.memory_device.proofs.device.MemoryDevice.block_of_byte.Goals as goal

pub returns : goal.returns
returns c = c.block_of_byte.ensures ∙ ap (λ (d : MemoryDevice). byte_block d c.args.offset.0) c.words_of.ensures.1
