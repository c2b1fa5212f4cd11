-- `memory_device::setup::managed_size` meets its contract. Assumes nothing.
use Rattle.std.proofs.Common.{rules, ap, ◌∙◌}
use Rattle.map_records.specs.Words.{map_of}
use Rattle.memory_device.specs.SetUp.{managed_in}
use Rattle.memory_device.proofs.LastManaged.{last_managed, sized}
use Rattle.memory_device.proofs.setup.managed_size.Goals as goal

pub returns : goal.returns
returns c =
    let ran = c.rfind.ensures.ran in
    sized c.rfind.result c.map_or.result _ c.map_or.ensures (λ r k. search rules)
    ∙ last_managed (map_of c.args.map.now) (λ n r q k. search rules) (λ x b q k. search rules) ran.0 c.map.result ran.2.0 _ c.rfind.result ran.1 c.map.ensures.closure (ap (λ r. r.start) c.map.ensures.source) ran.2.1 ran.2.2 ran.3 ran.4
    ∙ ap (managed_in (map_of c.args.map.now)) (ap (λ r. r.end) c.map.ensures.source ∙ c.count.ensures.count)
