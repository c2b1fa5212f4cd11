-- `memory_device::device::device_of` meets its contract. Assumes nothing.
use Rattle.std.proofs.Common.{◌≡◌, sym, ◌∙◌, rules}
use Rattle.device_words.proofs.DeviceWords.{device_at_lem, device_none}
use Rattle.memory_device.proofs.device.device_of.Goals as goal

pub returns-in_default : goal.returns-in_default
returns-in_default c = c.no_device.ensures ∙ sym (device_none c.args.words.now c.in_default.ensures.cases)

pub returns : goal.returns
returns c =
    let p : c.in-Some.words.now ≡ c.args.words.now = search rules in
    rw (c.plug_table.ensures, c.pin_table.ensures, p) (sym (device_at_lem c.args.words.now c.in-Some.ensures.cases.long))
