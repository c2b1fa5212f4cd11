-- `device_words::words::plugged` meets its contract. Assumes nothing.
use mathlib.Core.Path.{◌∙◌, ap, sym}
use Rattle.device_words.specs.Device.{MemoryDevice}
use Rattle.device_words.proofs.DeviceWords.{device_at_lem}
use Rattle.device_words.proofs.words.plugged.Goals as goal

pub returns : goal.returns
returns c = c.plug_table.ensures ∙ sym (ap (λ (d : MemoryDevice). d.plugged) (device_at_lem c.args.device.now c.told-device))
