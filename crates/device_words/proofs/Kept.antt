-- A request keeps a valid record valid. Assumes nothing.
use mathlib.Core.Path.{◌≡◌, refl, sym, ap, ◌∙◌}
use mathlib.Core.Bool.{Bool, true, false, cond}
use mathlib.Core.List.{List}
use Prim.Native.Nat.{ℕ, suc, ◌+◌, ◌-◌, ◌/◌, ◌≤◌, ◌<◌}
use native.Mathlib.Omega.{arith}
use native.Mathlib.Nat.{div-mul-le_self, le-div_iff_mul-le, add-mul, mul-le-mul_right, zero-add}
use lib.Dec.{eqb, leb, ltb}
use borrow.Author.Tests.{leb-true, ltb-true, eqb-true, eqb-false}
use Rattle.map_check.proofs.Bools.{never, and_fst, and_snd}
use Rattle.device_words.specs.Table.{bit_at, within, table_of, held_in}
use Rattle.device_words.specs.Device.{MemoryDevice, pinned_in, is_pinned, any_pinned, sizes_of, no_plugs, with_plugged, setup_kept, tables_ok, device_ok}
use Rattle.device_words.specs.Promises.{Valid}
use Rattle.device_words.specs.Request.{block_of, in_range, unplug_answer, unplug_all_answer, nothing_further, pin_met, answered, is_ack, with_run, table_after_ack, table_by, changed_by}
use Rattle.device_words.specs.declared.request.Request.{Request}
use Rattle.device_words.specs.declared.request.Response.TheVariants as response
use Rattle.device_words.proofs.TableLaws.{table_bit, zero_bit}
use Rattle.device_words.proofs.WordLaws.{none_of}
use Rattle.device_words.proofs.AnswerLaws.{in_end, ack_range, ack_kind, all_answer, unplug_answer_lem}
use Rattle.device_words.proofs.RuleLaws.{implies_of, only_of, setup_ruled, device_valid, blocks_mono}

-- the setup part of a record that keeps its rules
pub setup_of : (d : MemoryDevice) → device_ok d ≡ true → setup_kept d ≡ true
unfolding device_ok
setup_of d h = and_fst (setup_kept d) (tables_ok d) h

-- a record keeps its rules where its sizes do, what is plugged is usable, and what is pinned is plugged
pub device_ok_lem : (d : MemoryDevice) → setup_kept d ≡ true
    → ((b : ℕ) → b < 1024 → bit_at d.plugged b ≡ true → b < d.usable_size / d.block_size)
    → ((b : ℕ) → b < 1024 → is_pinned d b ≡ true → bit_at d.plugged b ≡ true) → device_ok d ≡ true
unfolding device_ok tables_ok
device_ok_lem d s p q =
    let r = setup_ruled d.block_size d.addr d.region_size d.usable_size d.requested_size s in
    let wide : d.usable_size / d.block_size ≤ d.region_size / d.block_size = blocks_mono d.block_size d.usable_size d.region_size (omega (arith, r.least)) r.usable in
    rw (
      s,
      only_of (bit_at d.plugged) (d.region_size / d.block_size) (λ b l e. let z = p b l e in omega arith),
      only_of (is_pinned d) (d.region_size / d.block_size) (λ b l e. let z = p b l (q b l e) in omega arith),
      only_of (bit_at d.plugged) (d.usable_size / d.block_size) p,
      implies_of (is_pinned d) (bit_at d.plugged) q,
    )

-- a block inside or outside a run
pub inside_run : (from n b : ℕ) → within from n b ≡ true → (from ≤ b) × (b < from + n)
inside_run from n b h = (leb-true from b (and_fst (leb from b) (ltb b (from + n)) h), ltb-true b (from + n) (and_snd (leb from b) (ltb b (from + n)) h))

-- a table with a run set or not
module _ (t : List ℕ) (from n : ℕ) where
  pub run_set : (b : ℕ) → b < 1024 → bit_at (table_of (λ c. cond (within from n c) true (bit_at t c))) b ≡ true → (P : Type 0) → (within from n b ≡ true → P) → (bit_at t b ≡ true → P) → P
  run_set b l e P f g = go (within from n b) refl (sym (table_bit (λ c. cond (within from n c) true (bit_at t c)) b l) ∙ e)
    where
      go : (x : Bool) → within from n b ≡ x → cond x true (bit_at t b) ≡ true → P
      go true w h = f w
      go false w h = g h

  run_kept : (b : ℕ) → b < 1024 → bit_at t b ≡ true → bit_at (table_of (λ c. cond (within from n c) true (bit_at t c))) b ≡ true
  run_kept b l e = table_bit (λ c. cond (within from n c) true (bit_at t c)) b l ∙ go (within from n b)
    where
      go : (x : Bool) → cond x true (bit_at t b) ≡ true
      go true = refl
      go false = e

  pub run_cleared : (b : ℕ) → b < 1024 → bit_at (table_of (λ c. cond (within from n c) false (bit_at t c))) b ≡ true → bit_at t b ≡ true
  run_cleared b l e = go (within from n b) (sym (table_bit (λ c. cond (within from n c) false (bit_at t c)) b l) ∙ e)
    where
      go : (x : Bool) → cond x false (bit_at t b) ≡ true → bit_at t b ≡ true
      go true h = absurd (never (sym h))
      go false h = h

  run_left_lem : (b : ℕ) → b < 1024 → (within from n b ≡ true → ⊥) → bit_at t b ≡ true → bit_at (table_of (λ c. cond (within from n c) false (bit_at t c))) b ≡ true
  run_left_lem b l o e = table_bit (λ c. cond (within from n c) false (bit_at t c)) b l ∙ go (within from n b) refl
    where
      go : (x : Bool) → within from n b ≡ x → cond x false (bit_at t b) ≡ true
      go true w = absurd (o w)
      go false w = e

-- an acknowledged UNPLUG or UNPLUG ALL met no pin
unpinned_run : (x y : Bool) → is_ack (cond x response.Error (cond y response.Busy response.Ack)) ≡ true → y ≡ false
unpinned_run true y e = absurd (never (sym e))
unpinned_run false true e = absurd (never (sym e))
unpinned_run false false e = refl

unpinned_all : (y : Bool) → is_ack (cond y response.Busy response.Ack) ≡ true → y ≡ false
unpinned_all true e = absurd (never (sym e))
unpinned_all false e = refl

-- the blocks of a request in range are usable, and none of them is pinned where no pin was found
module _ (d : MemoryDevice) (r : Request) (h : device_ok d ≡ true) (i : in_range (sizes_of d) r ≡ true) where
  run_usable : (b : ℕ) → within (block_of (sizes_of d) r.addr.0) r.blocks b ≡ true → b < d.usable_size / d.block_size
  run_usable b w =
      let v = device_valid d h in
      let s = d.block_size in
      let k = block_of (sizes_of d) r.addr.0 in
      let z = inside_run k r.blocks b w in
      (le-div_iff_mul-le (let p : 0 < s = omega (arith, v.least) in p)).1
      (omega (arith, mul-le-mul_right s (let q : suc b ≤ k + r.blocks = omega arith in q), add-mul k r.blocks s, div-mul-le_self (r.addr.0 - d.addr) s, in_end (sizes_of d) r i))

  run_unpinned : any_pinned d (block_of (sizes_of d) r.addr.0) r.blocks ≡ false → (b : ℕ) → within (block_of (sizes_of d) r.addr.0) r.blocks b ≡ true → is_pinned d b ≡ false
  run_unpinned n b w =
      let k = block_of (sizes_of d) r.addr.0 in
      let z = inside_run k r.blocks b w in
      ap (is_pinned d) (let q : b ≡ k + (b - k) = omega arith in q) ∙ none_of (λ i. pinned_in d.pinned (k + i)) r.blocks n (b - k) (omega arith)

-- a request keeps the record valid
pub change_kept : (d : MemoryDevice) (r : Request) → device_ok d ≡ true → device_ok (changed_by d r (answered d r)) ≡ true
unfolding table_by
change_kept d r h = go (is_ack (answered d r)) refl
  where
    v : Valid d
    v = device_valid d h

    plugs : r.kind ≡ 0 → in_range (sizes_of d) r ≡ true → device_ok (with_plugged d (with_run (sizes_of d) d.plugged r true)) ≡ true
    plugs e i =
        device_ok_lem (with_plugged d (with_run (sizes_of d) d.plugged r true)) (setup_of d h)
        (λ b l s. run_set d.plugged (block_of (sizes_of d) r.addr.0) r.blocks b l s (b < d.usable_size / d.block_size) (run_usable d r h i b) (v.inside b l))
        (λ b l s. run_kept d.plugged (block_of (sizes_of d) r.addr.0) r.blocks b l (v.held b l s))

    unplugs : in_range (sizes_of d) r ≡ true → any_pinned d (block_of (sizes_of d) r.addr.0) r.blocks ≡ false → device_ok (with_plugged d (with_run (sizes_of d) d.plugged r false)) ≡ true
    unplugs i n =
        device_ok_lem (with_plugged d (with_run (sizes_of d) d.plugged r false)) (setup_of d h)
        (λ b l s. v.inside b l (run_cleared d.plugged (block_of (sizes_of d) r.addr.0) r.blocks b l s))
        (λ b l s. run_left_lem d.plugged (block_of (sizes_of d) r.addr.0) r.blocks b l (λ w. never (sym s ∙ run_unpinned d r h i n b w)) (v.held b l s))

    all : any_pinned d 0 1024 ≡ false → device_ok (with_plugged d no_plugs) ≡ true
    all n =
        device_ok_lem (with_plugged d no_plugs) (setup_of d h) (λ b l s. absurd (never (sym s ∙ zero_bit b)))
        (λ b l s. absurd (never (sym s ∙ ap (is_pinned d) (sym (zero-add b)) ∙ none_of (λ i. pinned_in d.pinned (0 + i)) 1024 n b l)))

    -- the pins that an UNPLUG ALL, and an UNPLUG, meets
    met_all : r.kind ≡ 2 → pin_met d r ≡ any_pinned d 0 1024
    met_all k = rw k

    met_run : r.kind ≡ 1 → pin_met d r ≡ any_pinned d (block_of (sizes_of d) r.addr.0) r.blocks
    met_run k = rw k

    by_kind : is_ack (answered d r) ≡ true → (x y : Bool) → eqb r.kind 2 ≡ x → eqb r.kind 0 ≡ y → device_ok (with_plugged d (table_after_ack (sizes_of d) d.plugged r)) ≡ true
    by_kind a true y e f =
        let k : r.kind ≡ 2 = eqb-true r.kind 2 e in
        let n = unpinned_all (any_pinned d 0 1024) (ap (λ (x : Bool). is_ack (unplug_all_answer x)) (sym (met_all k)) ∙ ap is_ack (all_answer nothing_further (sizes_of d) (pin_met d r) d.plugged r k) ∙ a) in
        rw k (all n)
    by_kind a false true e f =
        let k : r.kind ≡ 0 = eqb-true r.kind 0 f in
        rw k (plugs k (ack_range nothing_further (sizes_of d) (pin_met d r) d.plugged r a (eqb-false r.kind 2 e)))
    by_kind a false false e f =
        let k : r.kind ≡ 1 = ack_kind nothing_further (sizes_of d) (pin_met d r) d.plugged r a (eqb-false r.kind 2 e) (eqb-false r.kind 0 f) in
        let i = ack_range nothing_further (sizes_of d) (pin_met d r) d.plugged r a (eqb-false r.kind 2 e) in
        let n = unpinned_run (ltb (held_in d.plugged (block_of (sizes_of d) r.addr.0) r.blocks) r.blocks) (any_pinned d (block_of (sizes_of d) r.addr.0) r.blocks)
        (ap (λ (x : Bool). is_ack (unplug_answer x d.plugged (block_of (sizes_of d) r.addr.0) r.blocks)) (sym (met_run k)) ∙ ap is_ack (unplug_answer_lem nothing_further (sizes_of d) (pin_met d r) d.plugged r k i) ∙ a) in
        rw k (unplugs i n)

    go : (x : Bool) → is_ack (answered d r) ≡ x → device_ok (with_plugged d (cond x (table_after_ack (sizes_of d) d.plugged r) d.plugged)) ≡ true
    go true a = by_kind a (eqb r.kind 2) (eqb r.kind 0) refl refl
    go false a = h
