-- `virtqueue::serve::used_places` meets its contract. Assumes nothing.
use Rattle.std.proofs.Common.{◌≡◌, ℕ, List, ◌++◌, map, replicate, length, take, drop, refl, ap, ◌∙◌, arith, length-drop, length-take}
use lib.Seq.{sets, length-sets}
use Rattle.map_records.specs.Words.{view_of}
use Rattle.guest_view.specs.Guest.{addresses}
use Rattle.guest_view.specs.Promises.{place_in}
use Rattle.virtqueue.specs.Queue.{used_entry, used_idx}
use Rattle.virtqueue.specs.declared.queue.SplitQueue.{SplitQueue}
use Rattle.virtqueue.proofs.ChainLaws.{stretch_stored}
use Rattle.virtqueue.proofs.QueueLaws.{queue_facts}
use Rattle.virtqueue.proofs.StepLaws.{used_laid, memory_as}
use Rattle.virtqueue.proofs.serve.used_places.Goals as goal

-- no places yet
abbrev blank : List ℕ
blank = replicate 10 0

-- the places after those of the slot, `found`, were stored
abbrev stored : List ℕ → List ℕ → List ℕ
stored out found = take 0 out ++ (found ++ drop 8 (drop 0 out))

module _ (place : ℕ → ℕ) (q : SplitQueue) (out found : List ℕ) (at : ℕ) (ten : length out ≡ 10) (entry : at ≡ used_entry q)
    (are : found ≡ map place (addresses at (length (take 8 (drop 0 out))))) where
  slot : stored out found ≡ sets out 0 (map place (addresses (used_entry q) 8))
  slot =
      stretch_stored place out found (used_entry q) 0 8 8 refl (omega (arith, ten))
      (are ∙ ap (λ (a : ℕ). map place (addresses a (length (take 8 (drop 0 out))))) entry)

  full : length (stored out found) ≡ 10
  full = ap length slot ∙ length-sets out 0 (map place (addresses (used_entry q) 8)) ∙ ten

pub used_entry-entry-requires : goal.used_entry-entry-requires
used_entry-entry-requires c = let f = queue_facts c.args.lent.now.queue c.args.lent.now.kept in (omega (arith, f.used), f.some)

pub used_idx-idx-requires : goal.used_idx-idx-requires
used_idx-idx-requires c = omega (arith, (queue_facts c.args.lent.now.queue c.args.lent.now.kept).used)

pub find_places-requires : goal.find_places-requires
find_places-requires c = let x = blank in
    record { in_memory = memory_as (view_of c.args.lent.now.guest.view) _ _ _ 8 c.used_entry-entry.ensures refl c.requires.entry }

pub find_places-requires-2 : goal.find_places-requires-2
find_places-requires-2 c = let x = stored blank c.find_places.new.out in
    let f : length x ≡ 10 = full (place_in (view_of c.args.lent.now.guest.view)) c.args.lent.now.queue blank _ _ refl c.used_entry-entry.ensures c.find_places.ensures in
    record { in_memory = memory_as (view_of c.args.lent.now.guest.view) _ _ _ 2 c.used_idx-idx.ensures (omega (arith, length-take 2 (drop 8 x), length-drop 8 x)) c.requires.idx }

pub returns : goal.returns
returns c = let x = stored blank c.find_places.new.out in
    let place = place_in (view_of c.args.lent.now.guest.view) in
    let f : length x ≡ 10 = full place c.args.lent.now.queue blank _ _ refl c.used_entry-entry.ensures c.find_places.ensures in
    stretch_stored place x _ (used_idx c.args.lent.now.queue) 8 2 2 refl (omega arith)
    (c.find_places-2.ensures ∙ ap (λ (a : ℕ). map place (addresses a (length (take 2 (drop 8 x))))) c.used_idx-idx.ensures)
    ∙ ap (λ (z : List ℕ). sets z 8 (map place (addresses (used_idx c.args.lent.now.queue) 2))) (slot place c.args.lent.now.queue blank _ _ refl c.used_entry-entry.ensures c.find_places.ensures)
    ∙ used_laid place c.args.lent.now.queue blank refl
