-- `device_words::rules::tables_ok` meets its contract. Assumes nothing.
use native.Mathlib.Omega.{arith}
use Rattle.device_words.specs.Device.{is_pinned, tables_ok}
use Rattle.device_words.specs.Table.{bit_at}
use Rattle.device_words.specs.Words.{device_at}
use Rattle.device_words.proofs.RuleLaws.{blocks_bound, blocks_mono, tables_two, Ruled, setup_ruled}
use Rattle.device_words.proofs.rules.tables_ok.Goals as goal

pub blocks_in-blocks-requires : goal.blocks_in-blocks-requires
blocks_in-blocks-requires c = let d = device_at c.args.device.now in
    let r : Ruled d.block_size d.addr d.region_size d.usable_size d.requested_size = setup_ruled _ _ _ _ _ c.requires in
    omega (arith, r.least)

pub only_below-requires : goal.only_below-requires
only_below-requires c = let d = device_at c.args.device.now in
    let r : Ruled d.block_size d.addr d.region_size d.usable_size d.requested_size = setup_ruled _ _ _ _ _ c.requires in
    rw c.blocks_in-blocks.ensures (blocks_bound _ _ 1024 (omega (arith, r.least)) (omega (arith, r.usable, r.blocks)))

pub returns : goal.returns
unfolding tables_ok
returns c = let d = device_at c.args.device.now in
    let r : Ruled d.block_size d.addr d.region_size d.usable_size d.requested_size = setup_ruled _ _ _ _ _ c.requires in
    rw (c.only_below.ensures, c.plug_table.ensures, c.pins_plugged.ensures, c.blocks_in-blocks.ensures) (tables_two (bit_at d.plugged) (is_pinned d) _ _ (blocks_mono _ _ _ (omega (arith, r.least)) r.usable))
