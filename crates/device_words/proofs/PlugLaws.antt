-- When a PLUG is acknowledged, as facts; a run plugged in two parts; and an UNPLUG of what was just plugged. Assumes nothing.
use mathlib.Core.Path.{◌≡◌, refl, ap, ◌∙◌, sym}
use mathlib.Core.Bool.{Bool, true, false, cond, ◌&&◌, not}
use mathlib.Core.List.{List}
use Prim.Native.Nat.{ℕ, ◌+◌, ◌-◌, ◌*◌, ◌/◌, ◌%◌, ◌≤◌}
use native.Mathlib.Nat.{add-mul, mul-add, mul_comm, add-mul-div_right, add-mul-mod_self_right}
use native.Mathlib.Omega.{arith}
use borrow.Author.Tests.{ltb-false, le-ltb, not-true}
use Rattle.map_check.proofs.Bools.{and_fst, and_snd}
use Rattle.device_words.specs.Table.{IsTable, bit_at, turned, held_in, set_in}
use Rattle.device_words.specs.Device.{MemoryDevice, pinned_in, is_pinned, any_pinned, sizes_of, with_plugged, size_in, plugged_size}
use Rattle.device_words.specs.Promises.{Valid}
use Rattle.device_words.specs.Request.{plug_type, plug_run, unplug_run, block_of, in_range, already_plugged, over_requested, answered_by, answered, is_ack}
use Rattle.device_words.specs.declared.words.Sizes.{Sizes}
use Rattle.device_words.specs.declared.request.Request.{Request}
use Rattle.device_words.specs.declared.request.Response.{Response}
use Rattle.device_words.specs.declared.request.Response.TheVariants as response
use Rattle.device_words.proofs.TableLaws.{held_none}
use Rattle.device_words.proofs.WordLaws.{within_after, any_none}
use Rattle.device_words.proofs.RunLaws.{turned_both, turned_back, held_both, held_turned, held_apart, set_turned}
use Rattle.device_words.proofs.RuleLaws.{valid_sizes}
use Rattle.device_words.proofs.AnswerLaws.{plug_answer_lem, in_of, in_aligned, in_some, in_above, in_end, blocks_fit}

-- the answer to a PLUG by its three checks: the range, a block already plugged, more than requested
abbrev pub by_checks : Bool → Bool → Bool → Response
by_checks x y z = cond x (cond y response.Error (cond z response.Nack response.Ack)) response.Error

-- what is asked of a PLUG further is its answer, where its own checks are passed
pub plug_further : (further : Request → Response) (s : Sizes) (held : Bool) (t : List ℕ) (r : Request) → r.kind ≡ plug_type → in_range s r ≡ true
    → already_plugged t (block_of s r.addr.0) r.blocks ≡ false → over_requested s t r.blocks ≡ false → answered_by further s held t r ≡ further r
plug_further further s held t r k i free asked = sym (plug_answer_lem further s held t r k i) ∙ rw (free, asked)

-- what an acknowledged PLUG of the n blocks from an address on has kept
pub record Plugs (d : MemoryDevice) (a n : ℕ) : Type 0 where
  pub aligned : a % d.block_size ≡ 0
  pub some : 1 ≤ n
  pub above : d.addr ≤ a
  pub room : a - d.addr + n * d.block_size ≤ d.usable_size
  pub free : held_in d.plugged (block_of (sizes_of d) a) n ≡ 0
  pub asked : plugged_size d + n * d.block_size ≤ d.requested_size

-- what it leaves
abbrev pub after_plug : MemoryDevice → ℕ → ℕ → MemoryDevice
after_plug d a n = with_plugged d (turned d.plugged (block_of (sizes_of d) a) n true)

module _ (d : MemoryDevice) (a n : ℕ) where
  pub ack_plugs : is_ack (answered d (plug_run a n)) ≡ true → Plugs d a n
  unfolding answered_by
  ack_plugs h =
      let r = plug_run a n in
      let t = sym (all (in_range (sizes_of d) r) (already_plugged d.plugged (block_of (sizes_of d) a) n) (over_requested (sizes_of d) d.plugged n)) ∙ h in
      let two = and_fst (in_range (sizes_of d) r && not (already_plugged d.plugged (block_of (sizes_of d) a) n)) (not (over_requested (sizes_of d) d.plugged n)) t in
      let i = and_fst (in_range (sizes_of d) r) (not (already_plugged d.plugged (block_of (sizes_of d) a) n)) two in
      record {
        aligned = in_aligned (sizes_of d) r i;
        some = in_some (sizes_of d) r i;
        above = in_above (sizes_of d) r i;
        room = in_end (sizes_of d) r i;
        free = omega (arith, ltb-false 0 (held_in d.plugged (block_of (sizes_of d) a) n) (not-true (already_plugged d.plugged (block_of (sizes_of d) a) n) (and_snd (in_range (sizes_of d) r) (not (already_plugged d.plugged (block_of (sizes_of d) a) n)) two)));
        asked =
            ltb-false d.requested_size (plugged_size d + n * d.block_size)
            (not-true (over_requested (sizes_of d) d.plugged n) (and_snd (in_range (sizes_of d) r && not (already_plugged d.plugged (block_of (sizes_of d) a) n)) (not (over_requested (sizes_of d) d.plugged n)) t));
      }
    where
      all : (x y z : Bool) → is_ack (by_checks x y z) ≡ (x && not y && not z)
      all true true z = refl
      all true false true = refl
      all true false false = refl
      all false y z = refl

  module _ (p : Plugs d a n) where
    pub plugs_ack : answered d (plug_run a n) ≡ response.Ack
    unfolding answered_by
    plugs_ack =
        rw (
          in_of (sizes_of d) (plug_run a n) p.aligned p.some p.above p.room,
          le-ltb 0 (held_in d.plugged (block_of (sizes_of d) a) n) (omega (arith, p.free)),
          le-ltb d.requested_size (plugged_size d + n * d.block_size) p.asked,
        )

    module _ (v : Valid d) where
      pub run_fits : block_of (sizes_of d) a + n ≤ 1024
      run_fits = blocks_fit (sizes_of d) a n (valid_sizes d v) p.room

      -- the run's blocks are added to the plugged size
      plugged_more : plugged_size (after_plug d a n) ≡ plugged_size d + n * d.block_size
      unfolding size_in
      plugged_more =
          let k = block_of (sizes_of d) a in
          let more : set_in (turned d.plugged k n true) 16 ≡ set_in d.plugged 16 + n = omega (arith, set_turned d.plugged k n true run_fits, p.free) in
          ap (λ (x : ℕ). d.block_size * x) more ∙ mul-add d.block_size (set_in d.plugged 16) n
          ∙ ap (λ (x : ℕ). d.block_size * set_in d.plugged 16 + x) (mul_comm d.block_size n)

-- the first block behind a run
block_behind : (d : MemoryDevice) (a n : ℕ) → Valid d → d.addr ≤ a → block_of (sizes_of d) (a + n * d.block_size) ≡ block_of (sizes_of d) a + n
block_behind d a n v h =
    let e : a + n * d.block_size - d.addr ≡ a - d.addr + n * d.block_size = omega arith in
    ap (λ (x : ℕ). x / d.block_size) e ∙ add-mul-div_right (a - d.addr) n (omega (arith, v.least))

-- ---- n blocks, and then the m that follow

module _ (d : MemoryDevice) (a n m : ℕ) (v : Valid d) where
  sizes : (n + m) * d.block_size ≡ n * d.block_size + m * d.block_size
  sizes = add-mul n m d.block_size

  pub plugs_first : 1 ≤ n → Plugs d a (n + m) → Plugs d a n
  plugs_first s p =
      record {
        aligned = p.aligned;
        some = s;
        above = p.above;
        room = omega (arith, p.room, sizes);
        free = omega (arith, p.free, held_both d.plugged (block_of (sizes_of d) a) n m);
        asked = omega (arith, p.asked, sizes);
      }

  -- the blocks that follow are as they were before the first part
  held_behind : d.addr ≤ a → block_of (sizes_of d) a + (n + m) ≤ 1024
      → held_in (turned d.plugged (block_of (sizes_of d) a) n true) (block_of (sizes_of d) (a + n * d.block_size)) m ≡ held_in d.plugged (block_of (sizes_of d) a + n) m
  held_behind h f =
      let k = block_of (sizes_of d) a in
      ap (λ (x : ℕ). held_in (turned d.plugged k n true) x m) (block_behind d a n v h)
      ∙ held_apart d.plugged k n true (k + n) m (omega arith) (λ b p q. within_after k n b p)

  pub plugs_second : 1 ≤ m → Plugs d a n → Plugs d a (n + m) → Plugs (after_plug d a n) (a + n * d.block_size) m
  plugs_second s p q =
      record {
        aligned = add-mul-mod_self_right a n d.block_size ∙ p.aligned;
        some = s;
        above = omega (arith, p.above);
        room = omega (arith, q.room, sizes, p.above);
        free = held_behind p.above (run_fits d a (n + m) q v) ∙ omega (arith, q.free, held_both d.plugged (block_of (sizes_of d) a) n m);
        asked = omega (arith, plugged_more d a n p v, q.asked, sizes);
      }

  pub plugs_one : Plugs d a n → Plugs (after_plug d a n) (a + n * d.block_size) m → Plugs d a (n + m)
  plugs_one p q =
      let room : a - d.addr + (n + m) * d.block_size ≤ d.usable_size = omega (arith, p.above, q.room, sizes) in
      record {
        aligned = p.aligned;
        some = omega (arith, p.some);
        above = p.above;
        room = room;
        free = omega (arith, held_both d.plugged (block_of (sizes_of d) a) n m, p.free, held_behind p.above (blocks_fit (sizes_of d) a (n + m) (valid_sizes d v) room), q.free);
        asked = omega (arith, plugged_more d a n p v, q.asked, sizes);
      }

  pub leaves_one : d.addr ≤ a → after_plug (after_plug d a n) (a + n * d.block_size) m ≡ after_plug d a (n + m)
  leaves_one h =
      let k = block_of (sizes_of d) a in
      ap (λ (x : ℕ). with_plugged d (turned (turned d.plugged k n true) x m true)) (block_behind d a n v h)
      ∙ ap (with_plugged d) (turned_both d.plugged k n m true)

-- ---- an UNPLUG of what was just plugged

module _ (d : MemoryDevice) (a n : ℕ) (v : Valid d) (p : Plugs d a n) where
  -- only plugged blocks are pinned
  free_unpinned : any_pinned d (block_of (sizes_of d) a) n ≡ false
  free_unpinned =
      any_none (λ i. pinned_in d.pinned (block_of (sizes_of d) a + i)) n
      (λ i l. let b = block_of (sizes_of d) a + i in
      unless (is_pinned d b) (bit_at d.plugged b) (v.held b (omega (arith, run_fits d a n p v))) (held_none d.plugged (block_of (sizes_of d) a) n p.free i l))
    where
      unless : (x y : Bool) → (x ≡ true → y ≡ true) → y ≡ false → x ≡ false
      unless true y f e = sym (f refl) ∙ e
      unless false y f e = refl

  pub unplug_ack : answered (after_plug d a n) (unplug_run a n) ≡ response.Ack
  unfolding answered_by
  unplug_ack =
      let held = held_turned d.plugged (block_of (sizes_of d) a) n true (run_fits d a n p v) in
      rw (
        in_of (sizes_of d) (unplug_run a n) p.aligned p.some p.above p.room,
        le-ltb (held_in (after_plug d a n).plugged (block_of (sizes_of d) a) n) n (omega (arith, held)),
        free_unpinned,
      )

  pub unplug_back : IsTable d.plugged → with_plugged d (turned (after_plug d a n).plugged (block_of (sizes_of d) a) n false) ≡ d
  unplug_back t = ap (with_plugged d) (turned_back d.plugged (block_of (sizes_of d) a) n true t p.free)
