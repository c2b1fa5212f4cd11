-- `virtqueue::serve::step_judged` meets its contract. Assumes nothing.
use Rattle.std.proofs.Common.{◌≡◌, ℕ, Bool, List, length, sym, refl, ap, ◌∙◌, subst, ap₂, arith}
use Rattle.device_words.specs.Words.{device_of}
use Rattle.device_words.proofs.RuleLaws.{device_valid, valid_sizes}
use Rattle.map_records.specs.Words.{view_of}
use Rattle.guest_view.specs.Guest.{Guest, view_guest, by_view}
use Rattle.guest_view.specs.Promises.{place_in}
use Rattle.virtqueue.specs.Step.{Offer, offered, used_places}
use Rattle.virtqueue.specs.Promises.{guest_in, Ready, UsedIn}
use Rattle.virtqueue.specs.declared.chain.Gathered.{Gathered}
use Rattle.virtqueue.specs.declared.queue.SplitQueue.{SplitQueue}
use Rattle.virtqueue.proofs.DeviceLaws.{tables}
use Rattle.virtqueue.proofs.StepLaws.{within_moved, used_within, judged_stop, judged_idle, judged_used, judged_within, judged_ready}
use Rattle.virtqueue.proofs.serve.step_judged.Goals as goal

-- the guest that was lent is the device's
module _ (seen view device : List ℕ) (v : seen ≡ view) (q : SplitQueue) (mem : List ℕ) (block : ℕ) (table : List ℕ)
    (b : block ≡ (device_of device).block_size) (p : table ≡ (device_of device).plugged) where
  same : guest_in seen block table ≡ by_view (view_of view) (device_of device)
  same = ap (λ (w : List ℕ). guest_in w block table) v ∙ ap₂ (λ (b : ℕ) (t : List ℕ). view_guest (view_of view) b t) b p

  offer : (o : Offer) → offered (guest_in seen block table) mem q ≡ o → offered (by_view (view_of view) (device_of device)) mem q ≡ o
  offer o e = ap (λ (g : Guest). offered g mem q) (sym same) ∙ e

  its_chain : (h : ℕ) (notify : Bool) (t : Gathered) → Ready (guest_in seen block table) mem (offered (guest_in seen block table) mem q) h notify t
      → Ready (by_view (view_of view) (device_of device)) mem (offered (by_view (view_of view) (device_of device)) mem q) h notify t
  its_chain h notify t r = subst (λ (g : Guest). Ready g mem (offered g mem q) h notify t) same r

-- the places by the view that was lent are those by the view
placed : {seen view places : List ℕ} → seen ≡ view → (q : SplitQueue) → places ≡ used_places (place_in (view_of seen)) q → places ≡ used_places (place_in (view_of view)) q
placed {seen} {view} {places} e q p = subst (λ (w : List ℕ). places ≡ used_places (place_in (view_of w)) q) e p

pub invariant_of-blocks : goal.invariant_of-blocks
invariant_of-blocks c = let w = c.args.device.now in
    record {
      positive = omega (arith, c.block_size.ensures, (device_valid (device_of w) c.requires.valid).least);
      table = ap length c.plugged.ensures ∙ (tables w c.told-device).0;
    }

pub invariant_of-lent : goal.invariant_of-lent
invariant_of-lent c = record {
  backed = rw c.again.ensures c.requires.backed;
  large = omega (arith, c.block_size.ensures, (device_valid (device_of c.args.device.now) c.requires.valid).least);
  kept = c.requires.queue;
}

pub used_places-used-requires : goal.used_places-used-requires
used_places-used-requires c = let a = c.args in
    let r = its_chain _ a.view.now a.device.now c.again.ensures a.queue a.mem.now _ _ c.block_size.ensures c.plugged.ensures _ _ _ (rw c.in-Ok-Some.field-0-is at c.in-Ok-Some.ensures) in
    subst (λ (w : List ℕ). UsedIn (view_of w) a.queue) (sym c.again.ensures) (judged_used (view_of a.view.now) a.device.now c.told-device a.queue a.mem.now _ _ _ r)

pub serve-requires-clause-sized : goal.serve-requires-clause-sized
serve-requires-clause-sized c = valid_sizes _ (device_valid _ c.requires.valid)

pub serve-requires-clause-places_len : goal.serve-requires-clause-places_len
serve-requires-clause-places_len c = let a = c.args in
    let r = its_chain _ a.view.now a.device.now c.again.ensures a.queue a.mem.now _ _ c.block_size.ensures c.plugged.ensures _ _ _ (rw c.in-Ok-Some.field-0-is at c.in-Ok-Some.ensures) in
    (omega arith, judged_within (view_of a.view.now) a.device.now c.told-device a.queue a.mem.now _ _ _ r _ c.requires.backed)

pub serve-requires-clause-used_len : goal.serve-requires-clause-used_len
serve-requires-clause-used_len c = let a = c.args in
    let r = its_chain _ a.view.now a.device.now c.again.ensures a.queue a.mem.now _ _ c.block_size.ensures c.plugged.ensures _ _ _ (rw c.in-Ok-Some.field-0-is at c.in-Ok-Some.ensures) in (
      omega arith,
      within_moved _ _ _ _ (placed c.again.ensures c.args.queue c.used_places-used.ensures) refl (used_within (view_of a.view.now) a.queue _ c.requires.backed (judged_used (view_of a.view.now) a.device.now c.told-device a.queue a.mem.now _ _ _ r)),
    )

pub returns-in-Err : goal.returns-in-Err
returns-in-Err c = judged_stop (view_of c.args.view.now) c.args.device.now c.told-device c.args.queue c.args.mem.now _ _
    (offer _ c.args.view.now c.args.device.now c.again.ensures c.args.queue c.args.mem.now _ _ c.block_size.ensures c.plugged.ensures _ c.in-Err.ensures) c.stopped_by.ensures

pub returns-in-Ok-None : goal.returns-in-Ok-None
returns-in-Ok-None c = let e = rw c.in-Ok-None.field-0-is at c.in-Ok-None.ensures in
    judged_idle (view_of c.args.view.now) c.args.device.now c.told-device c.args.queue c.args.mem.now
    (offer _ c.args.view.now c.args.device.now c.again.ensures c.args.queue c.args.mem.now _ _ c.block_size.ensures c.plugged.ensures _ e)

pub returns-in-Ok-Some : goal.returns-in-Ok-Some
returns-in-Ok-Some c = let a = c.args in
    let r = its_chain _ a.view.now a.device.now c.again.ensures a.queue a.mem.now _ _ c.block_size.ensures c.plugged.ensures _ _ _ (rw c.in-Ok-Some.field-0-is at c.in-Ok-Some.ensures) in
    judged_ready (view_of a.view.now) a.device.now c.told-device a.queue a.mem.now _ _ _ r _ _ _ _ _ c.advanced.ensures (placed c.again.ensures c.args.queue c.used_places-used.ensures) c.used_bytes-bytes.ensures c.serve.ensures.0 c.serve.ensures.1
