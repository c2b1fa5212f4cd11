-- `virtqueue::in_place::records_ok` meets its contract. Assumes nothing.
use Rattle.std.proofs.Common.{◌≡◌, sym, rules}
use Rattle.virtqueue.proofs.DeviceLaws.{records_short}
use Rattle.virtqueue.proofs.in_place.records_ok.Goals as goal

pub returns-in_default : goal.returns-in_default
returns-in_default c = records_short _ _ _ _ c.in_default.ensures.cases

pub returns-in_default-judged_view : goal.returns-in_default-judged_view
returns-in_default-judged_view c = let same : c.in-Some.device.now ≡ c.args.device.now = search rules in
    rw (← same) (sym c.in_default-judged_view.ensures)

pub returns : goal.returns
returns c = let same : c.in-Some.device.now ≡ c.args.device.now = search rules in
    rw (← same) (sym c.in-Some-judged_view.ensures.1)
