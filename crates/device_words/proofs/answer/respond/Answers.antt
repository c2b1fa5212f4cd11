-- `device_words::answer::respond` meets its contract. Assumes nothing.
use mathlib.Core.Path.{◌≡◌, sym, ap, ◌∙◌, subst}
use mathlib.Core.Bool.{Bool, ◌&&◌}
use Rattle.device_words.specs.Device.{any_pinned}
use Rattle.device_words.specs.Request.{type_number}
use Rattle.device_words.specs.Words.{device_at}
use Rattle.device_words.specs.Promises.{unplugs}
use Rattle.device_words.specs.Asked.{AsksFor}
use Rattle.device_words.proofs.DeviceWords.{plugged_length}
use Rattle.device_words.proofs.RespondLaws.{fits, leaves_error, leaves_carried}
use Rattle.device_words.proofs.answer.respond.Goals as goal
use Rattle.device_words.proofs.answer.respond.Goals.{then-unplugs, else-unplugs}

pub asked_of-requires : goal.asked_of-requires
asked_of-requires c = (rw c.sizes_of-sizes.ensures (fits c.args.device.now c.told-device c.requires), c.request_of.ensures.1)

pub returns-in_default : goal.returns-in_default
returns-in_default c = leaves_error c.args.device.now c.args.bytes c.told-device _ c.request_of.ensures.0 _ c.sizes_of-sizes.ensures _ c.in_default.ensures c.answer_bytes.ensures

pub carry_out-response-requires : goal.carry_out-response-requires
carry_out-response-requires c = (rw c.sizes_of-sizes.ensures (fits c.args.device.now c.told-device c.requires), plugged_length c.args.device.now c.told-device)

pub returns : goal.returns
returns c =
    let asked = subst (AsksFor c.sizes_of-sizes.result c.request_of.result) c.in-Some.is c.asked_of.ensures in
    let held : c.if-unplugs.held ≡ (unplugs (type_number c.in-Some.asked.kind) && any_pinned (device_at c.args.device.now) c.in-Some.asked.run.first.0 c.in-Some.asked.run.count)
    = elim c.if-unplugs.branch [
      | then-unplugs w ↦ w.held-is ∙ w.any_pinned-held.ensures
          ∙ ap (λ (x : Bool). x && any_pinned (device_at c.args.device.now) c.in-Some.asked.run.first.0 c.in-Some.asked.run.count) (sym w.if-unplugs.true ∙ c.unplugs.ensures)
      | else-unplugs w ↦ w.held-is ∙ w.if-unplugs.false
          ∙ ap (λ (x : Bool). x && any_pinned (device_at c.args.device.now) c.in-Some.asked.run.first.0 c.in-Some.asked.run.count) (sym w.if-unplugs.false ∙ c.unplugs.ensures)
    ] in
    leaves_carried c.args.device.now c.args.bytes c.told-device _ c.request_of.ensures.0 _ c.sizes_of-sizes.ensures _ _ _ asked.0 asked.1 _ _ _ _ held
    c.carry_out-response.ensures.answer c.carry_out-response.ensures.table c.answer_bytes-2.ensures
