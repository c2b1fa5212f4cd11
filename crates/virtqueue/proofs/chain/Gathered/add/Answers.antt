-- `virtqueue::chain::Gathered::add` meets its contract. Assumes nothing.
use Rattle.std.proofs.Common.{◌≡◌, ℕ, ◌+◌, ◌-◌, true, false, List, length, sym, ap, ◌∙◌, arith}
use Rattle.guest_view.specs.Guest.{byte_at}
use Rattle.virtqueue.specs.Promises.{place_of}
use Rattle.virtqueue.specs.declared.chain.Gathered.{Gathered}
use Rattle.virtqueue.proofs.ChainLaws.{added_written, added_read, stretch_stored}
use Rattle.virtqueue.proofs.chain.Gathered.add.Goals as goal

-- a record by its fields
abbrev put : Gathered → Gathered
put s = s

pub returns-then-is_writable : goal.returns-then-is_writable
returns-then-is_writable c = let s = c.args.self.now in
    let g = c.args.lent.now in
    let w = s.writable in
    let n = c.fitting.result in
    let e = c.fitting.ensures in
    let l : length s.places ≡ 10 = omega (arith, c.well_formed) in
    ap (λ (z : List ℕ). put (record { request = s.request; readable = s.readable; places = z; writable = w + n; late = true }))
    (stretch_stored (place_of g) s.places _ c.args.d.addr.0 w (w + n - w) n (omega arith) (omega (arith, e, c.requires.filled.few_written)) c.find_places.ensures)
    ∙ added_written (place_of g) g.mem.now s c.args.d (sym c.is_writable.ensures ∙ c.if-is_writable.true) n e

pub returns : goal.returns
returns c = let s = c.args.self.now in
    let g = c.args.lent.now in
    let w = s.readable in
    let n = c.fitting-2.result in
    let e = c.fitting-2.ensures in
    let l : length s.request ≡ 24 = omega (arith, c.well_formed) in
    ap (λ (z : List ℕ). put (record { request = z; readable = w + n; places = s.places; writable = s.writable; late = false }))
    (stretch_stored (byte_at (place_of g) g.mem.now) s.request _ c.args.d.addr.0 w (w + n - w) n (omega arith) (omega (arith, e, c.requires.filled.few_read)) c.read_bytes.ensures)
    ∙ added_read (place_of g) g.mem.now s c.args.d (sym c.is_writable.ensures ∙ c.if-is_writable.false) n e
