-- `drawing::cell::cell` meets its contract. Assumes nothing.
use mathlib.Core.Path.{◌≡◌, ◌∙◌, ap}
use native.Mathlib.Omega.{arith}
use Prim.Native.Nat.{ℕ, ◌+◌, ◌-◌, ◌<◌}
use Rattle.map_records.specs.Map.{region}
use Rattle.map_records.specs.Words.{map_of}
use Rattle.map_records.specs.declared.map.Region.{Region}
use Rattle.map_records.specs.declared.map.RegionMap.{RegionMap}
use Rattle.region_map.specs.Flatten.{root_size}
use Rattle.region_map.specs.Walk.{walk_root}
use Rattle.drawing.specs.Drawing.{column_address, address_cell, answer_cell}
use Rattle.drawing.proofs.DrawLaws.{column_small, region_at_lem}
use Rattle.drawing.proofs.cell.cell.Goals as goal

-- the root's size
size_read : (m : RegionMap) (r : Region) (n : ℕ) → r ≡ region m (n - 1) → n ≡ m.count → r.size ≡ root_size m
size_read m r n e k = ap (λ (x : Region). x.size) e ∙ ap (λ (i : ℕ). (region m (i - 1)).size) k

-- the address of a column
column_read : (m : RegionMap) (size a c : ℕ) → size ≡ root_size m → a ≡ column_address size c → a ≡ column_address (root_size m) c
column_read m size a c e p = p ∙ ap (λ (s : ℕ). column_address s c) e

pub overflow_sub-count : goal.overflow_sub-count
overflow_sub-count c = omega (arith, c.count.ensures.count, c.count.ensures.climbable.some)

pub region-size-requires : goal.region-size-requires
region-size-requires c =
    omega (arith, c.count.ensures.count, c.count.ensures.climbable.some)

pub column_address-address-requires : goal.column_address-address-requires
column_address-address-requires c =
    let m = map_of c.args.map.now in
    let p = c.requires in
    let size = size_read m _ _ c.region-size.ensures.region c.count.ensures.count in
    (omega (arith, size, c.count.ensures.climbable.size), omega (arith, p.1))

pub overflow_add-c : goal.overflow_add-c
overflow_add-c c = omega (arith, c.requires.1)

pub column_address-next-requires : goal.column_address-next-requires
column_address-next-requires c =
    let m = map_of c.args.map.now in
    let p = c.requires in
    let size = size_read m _ _ c.region-size.ensures.region c.count.ensures.count in
    (omega (arith, size, c.count.ensures.climbable.size), omega (arith, p.1))

pub address_cell-requires : goal.address_cell-requires
address_cell-requires c =
    let m = map_of c.args.map.now in
    let p = c.requires in
    let size = size_read m _ _ c.region-size.ensures.region c.count.ensures.count in
    (omega (arith, size, c.count.ensures.climbable.size), p.1)

pub region_cell-requires : goal.region_cell-requires
region_cell-requires c =
    let m = map_of c.args.map.now in
    let p = c.requires in
    let h : c.in-Region.n < m.count = rw c.in-Region.is at p.0 in
    let size = size_read m _ _ c.region-size.ensures.region c.count.ensures.count in
    let first = column_read m c.region-size.result.size c.column_address-address.result.0 c.args.c size c.column_address-address.ensures in
    (h, omega (arith, first, column_small (root_size m) c.args.c c.count.ensures.climbable.size (omega (arith, p.1))))

pub returns-in-Addresses : goal.returns-in-Addresses
returns-in-Addresses c =
    let m = map_of c.args.map.now in
    let size = size_read m _ _ c.region-size.ensures.region c.count.ensures.count in
    rw c.in-Addresses.is (c.address_cell.ensures ∙ ap (λ (x : ℕ). address_cell x c.args.c) size)

pub returns-in-Ruler : goal.returns-in-Ruler
returns-in-Ruler c = rw c.in-Ruler.is c.ruler_cell.ensures

pub returns-in-Region : goal.returns-in-Region
returns-in-Region c =
    let m = map_of c.args.map.now in
    let size = size_read m _ _ c.region-size.ensures.region c.count.ensures.count in
    let first = column_read m c.region-size.result.size c.column_address-address.result.0 c.args.c size c.column_address-address.ensures in
    let next = column_read m c.region-size.result.size c.column_address-next.result.0 (c.args.c + 1) size c.column_address-next.ensures in
    rw c.in-Region.is (region_at_lem m c.in-Region.n c.args.c _ _ _ _ _ c.region_cell.ensures first next)

pub returns-in-FlatView : goal.returns-in-FlatView
returns-in-FlatView c =
    let m = map_of c.args.map.now in
    let size = size_read m _ _ c.region-size.ensures.region c.count.ensures.count in
    let first = column_read m c.region-size.result.size c.column_address-address.result.0 c.args.c size c.column_address-address.ensures in
    rw c.in-FlatView.is (c.answer_cell.ensures ∙ ap (λ (x : ℕ). answer_cell (walk_root m x)) first)
