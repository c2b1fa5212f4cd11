-- `device_words::words::block_size` meets its contract. Assumes nothing.
use mathlib.Core.Path.{ap, sym}
use Rattle.device_words.specs.Device.{MemoryDevice}
use Rattle.device_words.proofs.DeviceWords.{device_at_lem}
use Rattle.device_words.proofs.words.block_size.Goals as goal

pub returns : goal.returns
returns c = sym (ap (λ (d : MemoryDevice). d.block_size) (device_at_lem c.args.device.now c.told-device))
