-- `virtqueue::serve::judged_view` meets its contract. Assumes nothing.
use Rattle.std.proofs.Common.{◌≡◌, true, ◌&&◌, sym, ap, ap₂, ◌∙◌}
use Rattle.device_words.specs.Words.{device_of}
use Rattle.map_records.specs.Words.{view_of}
use Rattle.guest_view.specs.View.{view_ok}
use Rattle.virtqueue.specs.Step.{records_ok}
use Rattle.virtqueue.proofs.serve.judged_view.Goals as goal

pub returns-in_default : goal.returns-in_default
unfolding records_ok
returns-in_default c = rw (ap (view_ok (view_of c.args.view.now) c.args.memory_length) (sym c.region_size-region.ensures) ∙ c.in_default.ensures)

pub returns-then-not-words_ok-keeps_rules : goal.returns-then-not-words_ok-keeps_rules
unfolding records_ok
returns-then-not-words_ok-keeps_rules c =
    let seen : view_ok (view_of c.args.view.now) c.args.memory_length (device_of c.args.device.now).region_size ≡ true = ap (view_ok (view_of c.args.view.now) c.args.memory_length) (sym c.region_size-region.ensures) ∙ c.in-Some.ensures.1 in
    rw seen (sym (ap₂ ◌&&◌ c.words_ok.ensures c.keeps_rules.ensures) ∙ c.if-not-words_ok-keeps_rules.true)

pub returns : goal.returns
unfolding records_ok
returns c =
    let seen : view_ok (view_of c.args.view.now) c.args.memory_length (device_of c.args.device.now).region_size ≡ true = ap (view_ok (view_of c.args.view.now) c.args.memory_length) (sym c.region_size-region.ensures) ∙ c.in-Some.ensures.1 in
    (c.in-Some.ensures.0, rw seen (sym (ap₂ ◌&&◌ c.words_ok.ensures c.keeps_rules.ensures) ∙ c.if-not-words_ok-keeps_rules.false))
