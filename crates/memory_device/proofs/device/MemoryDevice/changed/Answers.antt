-- `memory_device::device::MemoryDevice::changed` meets its contract. Assumes nothing.
use mathlib.Core.Path.{◌≡◌, refl}
use Rattle.std.proofs.Common.{rules}
use Rattle.std.specs.Result.{MatchResult}
use Rattle.memory_device.proofs.CallLaws.{refusal_by_value, change_by_value}
use Rattle.memory_device.proofs.device.MemoryDevice.changed.Goals as goal

pub returns-in_err-map_err : goal.returns-in_err-map_err
returns-in_err-map_err g c =
    let m : MatchResult c.call.result (λ x. ⊥) (λ e. c.in_err-map_err.field-0.0 ≡ record { fault = e; left = c.args.self }) = search rules in
    record {
      answer = c.call.result;
      words = c.call.new.arg2;
      call = record { shown = _; shows = c.words_of-words.ensures.0; left = _; met = c.call.ensures; leaves = refl };
      value = refusal_by_value _ c.args.self c.call.new.arg2 c.in_err-map_err.field-0.0 _ m c.from_residual.ensures.1;
    }

pub returns : goal.returns
returns g c =
    let m : MatchResult c.call.result (λ x. Unit) (λ e. ⊥) = search rules in
    record {
      answer = c.call.result;
      words = c.call.new.arg2;
      call = record { shown = _; shows = c.words_of-words.ensures.0; left = _; met = c.call.ensures; leaves = refl };
      value = change_by_value _ _ c.call.new.arg2 _ m c.device_of.ensures;
    }
