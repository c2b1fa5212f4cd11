-- `memory_device::calls::configuration` meets its contract. Assumes nothing.
use mathlib.Core.Path.{◌≡◌}
use native.Mathlib.Omega.{arith}
use borrow.Author.Rules.{rules}
use Rattle.memory_device.proofs.CallLaws.{record_27, sound, configures, configures_27, configures_length}
use Rattle.memory_device.proofs.calls.configuration.Goals as goal

pub returns-then-bytes-ne-CONFIGURATION_BYTES : goal.returns-then-bytes-ne-CONFIGURATION_BYTES
returns-then-bytes-ne-CONFIGURATION_BYTES c = let a = c.args in configures_length a.device.now a.bytes.now c.if-bytes-ne-CONFIGURATION_BYTES.true

pub returns-in_err-device : goal.returns-in_err-device
returns-in_err-device c = let a = c.args in configures_27 a.device.now a.bytes.now c.in_err-device.ensures.judged _ (record_27 _ c.from_residual.ensures.0)

pub put_values-requires : goal.put_values-requires
put_values-requires c =
    let p : c.in_ok-device.device.now ≡ c.args.device.now = search rules in
    (rw p (sound c.args.device.now c.in_ok-device.ensures.judged), (omega arith))

pub returns : goal.returns
returns c =
    let a = c.args in
    let p : c.in_ok-device.device.now ≡ a.device.now = search rules in
    configures a.device.now a.bytes.now c.in_ok-device.ensures.judged (omega arith) _ (rw p at c.put_values.ensures)
