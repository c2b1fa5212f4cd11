-- Laws of the answers to requests. Assumes nothing.
use mathlib.Core.Path.{◌≡◌, refl, sym, ap, ◌∙◌, subst}
use mathlib.Core.Bool.{Bool, true, false, cond, ◌&&◌, ◌||◌}
use mathlib.Core.List.{List}
use Prim.Native.Nat.{ℕ, ◌+◌, ◌-◌, ◌*◌, ◌/◌, ◌%◌, ◌≤◌, ◌<◌}
use native.Mathlib.Omega.{arith}
use native.Mathlib.Nat.{mul-le-mul, le_of_mul-le-mul_right, add-mul, add-zero, div-mul-le_self, div-add-mod', mul-add-mod_self_right}
use lib.Dec.{eqb, leb}
use lib.ListN.{length}
use borrow.Author.Tests.{le-leb, lt-leb, leb-true, leb-false, eqb-true, eqb-false, eq-eqb, ne_eqb}
use Rattle.device_words.specs.Table.{bit_at, within, turned, held_in}
use Rattle.device_words.specs.Device.{any_pinned, no_plugs, sizes_of}
use Rattle.device_words.specs.Request.{block_of, in_range, ranged, plug_answer, unplug_answer, unplug_all_answer, state_answer, nothing_further, answered_by, with_run, is_ack, table_after_ack, table_by, asked_from, pin_met}
use Rattle.device_words.specs.Promises.{Sized, answerable, RunOf, unplugs}
use Rattle.device_words.specs.declared.words.Sizes.{Sizes}
use Rattle.device_words.specs.declared.request.Response.{Response}
use Rattle.device_words.specs.declared.request.Response.TheVariants as response
use Rattle.device_words.specs.Device.{MemoryDevice}
use Rattle.device_words.specs.declared.request.Request.{Request}
use Rattle.map_records.proofs.NumberLaws.{sum_within}
use Rattle.device_words.proofs.TableLaws.{table_length_lem}
use Rattle.device_words.proofs.WordLaws.{cleared}
use Rattle.map_check.proofs.Bools.{never, or_left, or_right, and_fst, and_snd, and_off}

-- the range rule where the address is below the region, where the offset alone is past the usable part, and else
module _ (x : Bool) (low address : ℕ) (u size : ℕ) where
  range_low : address < low → false ≡ (x && leb low address && leb (address - low + size) u)
  range_low h = sym (ap (λ (t : Bool). x && t && leb (address - low + size) u) (lt-leb low address h) ∙ ap (λ (t : Bool). t && leb (address - low + size) u) (and_off x))

  range_past : u < address - low → false ≡ (x && leb low address && leb (address - low + size) u)
  range_past h = sym (ap (λ (t : Bool). x && leb low address && t) (lt-leb (address - low + size) u (omega arith)) ∙ and_off (x && leb low address))

  range_test : low ≤ address → address - low ≤ u → (x && leb size (u - (address - low))) ≡ (x && leb low address && leb (address - low + size) u)
  range_test h k =
      ap (λ (t : Bool). x && t) (sum_within size (address - low) u k ∙ ap (λ (n : ℕ). leb n u) (omega arith))
      ∙ ap (λ (t : Bool). t && leb (address - low + size) u) (sym (and_on x) ∙ ap (λ (t : Bool). x && t) (sym (le-leb low address h)))
    where
      and_on : (x : Bool) → (x && true) ≡ x
      and_on true = refl
      and_on false = refl

pub size_bound : (n b : ℕ) → n ≤ 65535 → b ≤ 1073741824 → n * b ≤ 70367670435840
size_bound n b h k = mul-le-mul h k

module _ (d : Sizes) (r : Request) where
  ahead : Bool
  ahead = eqb (r.addr.0 % d.block_size) 0 && leb 1 r.blocks

  pub in_low : r.addr.0 < d.addr.0 → false ≡ in_range d r
  unfolding ahead
  in_low h = range_low ahead d.addr.0 r.addr.0 d.usable_size (r.blocks * d.block_size) h

  pub in_past : d.usable_size < r.addr.0 - d.addr.0 → false ≡ in_range d r
  unfolding ahead
  in_past h = range_past ahead d.addr.0 r.addr.0 d.usable_size (r.blocks * d.block_size) h

  in_test : d.addr.0 ≤ r.addr.0 → r.addr.0 - d.addr.0 ≤ d.usable_size
      → (eqb (r.addr.0 % d.block_size) 0 && leb 1 r.blocks && leb (r.blocks * d.block_size) (d.usable_size - (r.addr.0 - d.addr.0))) ≡ in_range d r
  unfolding ahead
  in_test h k = range_test ahead d.addr.0 r.addr.0 d.usable_size (r.blocks * d.block_size) h k

-- an address is aligned as its offset in an aligned region is
offset_aligned : (b f a : ℕ) → f % b ≡ 0 → f ≤ a → eqb ((a - f) % b) 0 ≡ eqb (a % b) 0
offset_aligned b f a whole h =
    let e : f / b * b ≡ f = sym (add-zero (f / b * b)) ∙ ap (λ (x : ℕ). f / b * b + x) (sym whole) ∙ div-add-mod' f b in
    let parts : f / b * b + (a - f) ≡ a = ap (λ (x : ℕ). x + (a - f)) e ∙ omega arith in
    ap (λ (x : ℕ). eqb x 0) (sym (mul-add-mod_self_right (f / b) b (a - f)) ∙ ap (λ (x : ℕ). x % b) parts)

pub in_offset : (d : Sizes) (r : Request) → Sized d → d.addr.0 ≤ r.addr.0 → r.addr.0 - d.addr.0 ≤ d.usable_size
    → (eqb ((r.addr.0 - d.addr.0) % d.block_size) 0 && leb 1 r.blocks && leb (r.blocks * d.block_size) (d.usable_size - (r.addr.0 - d.addr.0))) ≡ in_range d r
in_offset d r z h k =
    ap (λ (x : Bool). x && leb 1 r.blocks && leb (r.blocks * d.block_size) (d.usable_size - (r.addr.0 - d.addr.0))) (offset_aligned d.block_size d.addr.0 r.addr.0 z.aligned h)
    ∙ in_test d r h k

-- the blocks up to the usable part's end are in the table
pub blocks_fit : (d : Sizes) (a n : ℕ) → Sized d → a - d.addr.0 + n * d.block_size ≤ d.usable_size → block_of d a + n ≤ 1024
blocks_fit d a n z h =
    let b = d.block_size in
    let k = block_of d a in
    le_of_mul-le-mul_right (omega (arith, add-mul k n b, div-mul-le_self (a - d.addr.0) b, h, z.room)) z.some

-- the four parts of the range rule
module _ (d : Sizes) (r : Request) where
  pub in_of : r.addr.0 % d.block_size ≡ 0 → 1 ≤ r.blocks → d.addr.0 ≤ r.addr.0 → r.addr.0 - d.addr.0 + r.blocks * d.block_size ≤ d.usable_size → in_range d r ≡ true
  in_of aligned some above room =
      rw (
        eq-eqb (r.addr.0 % d.block_size) 0 aligned,
        le-leb 1 r.blocks some,
        le-leb d.addr.0 r.addr.0 above,
        le-leb (r.addr.0 - d.addr.0 + r.blocks * d.block_size) d.usable_size room,
      )

  module _ (h : in_range d r ≡ true) where
    in_parts : (eqb (r.addr.0 % d.block_size) 0 ≡ true) × (leb 1 r.blocks ≡ true) × (leb d.addr.0 r.addr.0 ≡ true)
        × (leb (r.addr.0 - d.addr.0 + r.blocks * d.block_size) d.usable_size ≡ true)
    in_parts =
        four (eqb (r.addr.0 % d.block_size) 0) (leb 1 r.blocks) (leb d.addr.0 r.addr.0) (leb (r.addr.0 - d.addr.0 + r.blocks * d.block_size) d.usable_size) h
      where
        four : (w x y z : Bool) → (w && x && y && z) ≡ true → (w ≡ true) × (x ≡ true) × (y ≡ true) × (z ≡ true)
        four w x y z e =
            let three = and_fst (w && x && y) z e in
            let two = and_fst (w && x) y three in
            (and_fst w x two, and_snd w x two, and_snd (w && x) y three, and_snd (w && x && y) z e)

    pub in_aligned : r.addr.0 % d.block_size ≡ 0
    in_aligned = eqb-true (r.addr.0 % d.block_size) 0 in_parts.0

    pub in_some : 1 ≤ r.blocks
    in_some = leb-true 1 r.blocks in_parts.1

    pub in_above : d.addr.0 ≤ r.addr.0
    in_above = leb-true d.addr.0 r.addr.0 in_parts.2

    pub in_end : r.addr.0 - d.addr.0 + r.blocks * d.block_size ≤ d.usable_size
    in_end = leb-true (r.addr.0 - d.addr.0 + r.blocks * d.block_size) d.usable_size in_parts.3

-- a request in range has its blocks in the table
module _ (d : Sizes) (r : Request) (z : Sized d) (h : in_range d r ≡ true) where
  pub in_blocks : block_of d r.addr.0 + r.blocks ≤ 1024
  in_blocks = blocks_fit d r.addr.0 r.blocks z (in_end d r h)

  pub in_facts : (0 < d.block_size) × (d.addr.0 ≤ r.addr.0) × (block_of d r.addr.0 < 1024)
  in_facts = (z.some, in_above d r h, omega (arith, in_blocks, in_some d r h))

  pub in_run : (from : ℕ) → (r.kind ≡ 2 → ⊥) → r.kind ≤ 3 → from ≡ block_of d r.addr.0 → RunOf d r from r.blocks
  in_run from n k e =
      record {
        answers = rw (ne_eqb r.kind 2 n, le-leb r.kind 3 k) h;
        first = rw (ne_eqb r.kind 2 n) e;
        count = rw (ne_eqb r.kind 2 n);
        room = omega (arith, in_blocks, e);
      }

-- a request of a type past STATE, or out of range, may ask for no block; an UNPLUG ALL asks for all
module _ (d : Sizes) (r : Request) where
  pub past_state : 3 < r.kind → answerable d r ≡ false
  past_state h = rw (ne_eqb r.kind 2 (λ (e : r.kind ≡ 2). omega arith), lt-leb r.kind 3 h)

  pub out_of_range : (r.kind ≡ 2 → ⊥) → in_range d r ≡ false → answerable d r ≡ false
  out_of_range n h = subst (λ (x : Bool). (eqb r.kind 2 || (leb r.kind 3 && x)) ≡ false) (sym h) (rw (ne_eqb r.kind 2 n) (and_off (leb r.kind 3)))

  pub all_run : r.kind ≡ 2 → RunOf d r 0 1024
  all_run e = record { answers = rw (eq-eqb r.kind 2 e); first = rw (eq-eqb r.kind 2 e); count = rw (eq-eqb r.kind 2 e); room = omega arith }

  -- the run of a request of another type is in range, and begins at its address's block
  module _ {b n : ℕ} (f : RunOf d r b n) (other : r.kind ≡ 2 → ⊥) where
    parts : (leb r.kind 3 && in_range d r) ≡ true
    parts = let h : (eqb r.kind 2 || (leb r.kind 3 && in_range d r)) ≡ true = f.answers in rw (ne_eqb r.kind 2 other) at h

    pub run_range : in_range d r ≡ true
    run_range = and_snd (leb r.kind 3) (in_range d r) parts

    pub run_type : r.kind ≤ 3
    run_type = leb-true r.kind 3 (and_fst (leb r.kind 3) (in_range d r) parts)

    pub run_first : b ≡ block_of d r.addr.0
    run_first = let e : b ≡ cond (eqb r.kind 2) 0 (block_of d r.addr.0) = f.first in rw (ne_eqb r.kind 2 other) at e

    pub run_count : n ≡ r.blocks
    run_count = let e : n ≡ cond (eqb r.kind 2) 1024 r.blocks = f.count in rw (ne_eqb r.kind 2 other) at e

-- the answer by the request's type, for any table, pins and further question of a PLUG
module _ (further : Request → Response) (s : Sizes) (held : Bool) (t : List ℕ) (r : Request) where
  pub all_answer : r.kind ≡ 2 → unplug_all_answer held ≡ answered_by further s held t r
  unfolding answered_by
  all_answer e = rw e

  pub plug_answer_lem : r.kind ≡ 0 → in_range s r ≡ true → plug_answer (further r) s t (block_of s r.addr.0) r.blocks ≡ answered_by further s held t r
  unfolding answered_by
  plug_answer_lem e h = rw (e, h)

  pub unplug_answer_lem : r.kind ≡ 1 → in_range s r ≡ true → unplug_answer held t (block_of s r.addr.0) r.blocks ≡ answered_by further s held t r
  unfolding answered_by
  unplug_answer_lem e h = rw (e, h)

  pub state_answer_lem : r.kind ≡ 3 → in_range s r ≡ true → state_answer t (block_of s r.addr.0) r.blocks ≡ answered_by further s held t r
  unfolding answered_by
  state_answer_lem e h = rw (e, h)

  pub out_answer : (r.kind ≡ 2 → ⊥) → in_range s r ≡ false → response.Error ≡ answered_by further s held t r
  unfolding answered_by
  out_answer n h = rw (h, ne_eqb r.kind 2 n) (go (eqb r.kind 0) (eqb r.kind 1) (eqb r.kind 3))
    where
      go : (x y z : Bool) → response.Error ≡ cond x response.Error (cond y response.Error (cond z response.Error response.Error))
      go true y z = refl
      go false true z = refl
      go false false true = refl
      go false false false = refl

  pub unanswerable : answerable s r ≡ false → response.Error ≡ answered_by further s held t r
  unfolding answered_by
  unanswerable h =
      let n = eqb-false r.kind 2 (or_left (eqb r.kind 2) (leb r.kind 3 && in_range s r) h) in
      go n (leb r.kind 3) refl (or_right (eqb r.kind 2) (leb r.kind 3 && in_range s r) h)
    where
      go : (r.kind ≡ 2 → ⊥) → (x : Bool) → leb r.kind 3 ≡ x → (x && in_range s r) ≡ false → response.Error ≡ answered_by further s held t r
      go n true e i = out_answer n i
      go n false e i =
          let l = leb-false r.kind 3 e in
          rw (
            ne_eqb r.kind 0 (λ (z : r.kind ≡ 0). omega arith),
            ne_eqb r.kind 1 (λ (z : r.kind ≡ 1). omega arith),
            ne_eqb r.kind 2 n,
            ne_eqb r.kind 3 (λ (z : r.kind ≡ 3). omega arith),
          )

-- the same by the run that was found
module _ (s : Sizes) (held : Bool) (t : List ℕ) (r : Request) {b n : ℕ} (f : RunOf s r b n) where
  at_run : (g : ℕ → ℕ → Response) → (r.kind ≡ 2 → ⊥) → g b n ≡ g (block_of s r.addr.0) r.blocks
  at_run g o = ap (λ (x : ℕ). g x n) (run_first s r f o) ∙ ap (g (block_of s r.addr.0)) (run_count s r f o)

  pub plug_run_lem : r.kind ≡ 0 → plug_answer response.Ack s t b n ≡ answered_by nothing_further s held t r
  plug_run_lem e = let o : r.kind ≡ 2 → ⊥ = λ z. omega arith in at_run (plug_answer response.Ack s t) o ∙ plug_answer_lem nothing_further s held t r e (run_range s r f o)

  pub unplug_run_lem : r.kind ≡ 1 → unplug_answer held t b n ≡ answered_by nothing_further s held t r
  unplug_run_lem e = let o : r.kind ≡ 2 → ⊥ = λ z. omega arith in at_run (unplug_answer held t) o ∙ unplug_answer_lem nothing_further s held t r e (run_range s r f o)

  pub state_run : r.kind ≡ 3 → state_answer t b n ≡ answered_by nothing_further s held t r
  state_run e = let o : r.kind ≡ 2 → ⊥ = λ z. omega arith in at_run (state_answer t) o ∙ state_answer_lem nothing_further s held t r e (run_range s r f o)

-- what an acknowledgement says of the request
ack_error : (x : Bool) (y : Response) → is_ack (cond x y response.Error) ≡ true → x ≡ true
ack_error true y e = refl
ack_error false y e = e

module _ (further : Request → Response) (s : Sizes) (held : Bool) (t : List ℕ) (r : Request) (h : is_ack (answered_by further s held t r) ≡ true) (n : r.kind ≡ 2 → ⊥) where
  plugging : Response
  plugging = plug_answer (further r) s t (block_of s r.addr.0) r.blocks

  unplugging : Response
  unplugging = unplug_answer held t (block_of s r.addr.0) r.blocks

  asking : Response
  asking = state_answer t (block_of s r.addr.0) r.blocks

  pub ack_range : in_range s r ≡ true
  unfolding answered_by plugging unplugging asking
  ack_range = go (eqb r.kind 0) (eqb r.kind 1) (eqb r.kind 3) (rw (ne_eqb r.kind 2 n) at h)
    where
      go : (x y z : Bool)
          → is_ack (cond x (cond (in_range s r) plugging response.Error) (cond y (cond (in_range s r) unplugging response.Error) (cond z (cond (in_range s r) asking response.Error) response.Error))) ≡ true
          → in_range s r ≡ true
      go true y z e = ack_error (in_range s r) plugging e
      go false true z e = ack_error (in_range s r) unplugging e
      go false false true e = ack_error (in_range s r) asking e
      go false false false e = absurd (never (sym e))

  -- an acknowledged request that is no UNPLUG ALL is a PLUG or an UNPLUG
  pub ack_kind : (r.kind ≡ 0 → ⊥) → r.kind ≡ 1
  unfolding answered_by unplugging asking
  ack_kind m = go (eqb r.kind 1) refl (eqb r.kind 3) (rw (ne_eqb r.kind 0 m, ne_eqb r.kind 2 n) at h)
    where
      states : (x y z : Bool) → is_ack (cond x (cond y response.Plugged (cond z response.Unplugged response.Mixed)) response.Error) ≡ true → ⊥
      states true true z e = never (sym e)
      states true false true e = never (sym e)
      states true false false e = never (sym e)
      states false y z e = never (sym e)

      go : (x : Bool) → eqb r.kind 1 ≡ x → (z : Bool)
          → is_ack (cond x (cond (in_range s r) unplugging response.Error) (cond z (cond (in_range s r) asking response.Error) response.Error)) ≡ true → r.kind ≡ 1
      go true f z e = eqb-true r.kind 1 f
      go false f true e = absurd (states (in_range s r) (eqb (held_in t (block_of s r.addr.0) r.blocks) r.blocks) (eqb (held_in t (block_of s r.addr.0) r.blocks) 0) e)
      go false f false e = absurd (never (sym e))

-- the change
pub change_ack : (s : Sizes) (t : List ℕ) (r : Request) (x : Response) → is_ack x ≡ true → table_after_ack s t r ≡ table_by s t r x
unfolding table_by
change_ack s t r x h = rw h

pub change_none : (s : Sizes) (t : List ℕ) (r : Request) (x : Response) → is_ack x ≡ false → t ≡ table_by s t r x
unfolding table_by
change_none s t r x h = rw h

-- a table of sixteen words stays one
pub table_whole : (s : Sizes) (t : List ℕ) (r : Request) (x : Response) → length t ≡ 16 → length (table_by s t r x) ≡ 16
unfolding table_by
table_whole s t r x h = go (is_ack x)
  where
    ack : (p q z : Bool) → length (cond p (with_run s t r true) (cond q (with_run s t r false) (cond z no_plugs t))) ≡ 16
    ack true q z = table_length_lem (λ b. cond (within (block_of s r.addr.0) r.blocks b) true (bit_at t b))
    ack false true z = table_length_lem (λ b. cond (within (block_of s r.addr.0) r.blocks b) false (bit_at t b))
    ack false false true = refl
    ack false false false = h

    go : (y : Bool) → length (cond y (table_after_ack s t r) t) ≡ 16
    go true = ack (eqb r.kind 0) (eqb r.kind 1) (eqb r.kind 2)
    go false = h

-- PLUG sets the blocks that it asks for, UNPLUG and UNPLUG ALL clear them
pub table_run : (s : Sizes) (t : List ℕ) (r : Request) (b n : ℕ) → RunOf s r b n → ((r.kind ≡ 2 → ⊥) → (r.kind ≡ 0 → ⊥) → r.kind ≡ 1)
    → turned t b n (eqb r.kind 0) ≡ table_after_ack s t r
table_run s t r b n f k = go (eqb r.kind 2) refl
  where
    run : (r.kind ≡ 2 → ⊥) → (x : Bool) → turned t b n x ≡ with_run s t r x
    run o x = ap (λ (c : ℕ). turned t c n x) (run_first s r f o) ∙ ap (λ (c : ℕ). turned t (block_of s r.addr.0) c x) (run_count s r f o)

    go : (x : Bool) → eqb r.kind 2 ≡ x → turned t b n (eqb r.kind 0) ≡ table_after_ack s t r
    go true e =
        let z : r.kind ≡ 2 = eqb-true r.kind 2 e in
        let first : b ≡ 0 = f.first ∙ rw z in
        let count : n ≡ 1024 = f.count ∙ rw z in
        rw z (ap (λ (c : ℕ). turned t c n false) first ∙ ap (λ (c : ℕ). turned t 0 c false) count ∙ cleared t)
    go false e =
        let o = eqb-false r.kind 2 e in
        by_plug o (eqb r.kind 0) refl
      where
        by_plug : (r.kind ≡ 2 → ⊥) → (x : Bool) → eqb r.kind 0 ≡ x → turned t b n x ≡ cond x (with_run s t r true) (cond (eqb r.kind 1) (with_run s t r false) (cond (eqb r.kind 2) no_plugs t))
        by_plug o true p = run o true
        by_plug o false p = rw (eq-eqb r.kind 1 (k o (eqb-false r.kind 0 p))) (run o false)

-- what is asked of the pins answers for the device's own, as far as the answer goes
pub held_as : (d : MemoryDevice) (r : Request) (b n : ℕ) (t : List ℕ) → RunOf (sizes_of d) r b n
    → answered_by nothing_further (sizes_of d) (unplugs r.kind && any_pinned d b n) t r ≡ answered_by nothing_further (sizes_of d) (pin_met d r) t r
unfolding answered_by
held_as d r b n t f = go (eqb r.kind 0) (eqb r.kind 1) refl (eqb r.kind 2) refl
  where
    met : any_pinned d b n ≡ pin_met d r
    met = ap (λ (x : ℕ). any_pinned d x n) f.first ∙ ap (λ (x : ℕ). any_pinned d (asked_from (sizes_of d) r) x) f.count

    plugs : Response
    plugs = ranged (sizes_of d) r (plug_answer response.Ack (sizes_of d) t)

    states : Response
    states = cond (eqb r.kind 3) (ranged (sizes_of d) r (state_answer t)) response.Error

    go : (x y : Bool) → eqb r.kind 1 ≡ y → (z : Bool) → eqb r.kind 2 ≡ z
        → cond x plugs (cond y (ranged (sizes_of d) r (unplug_answer ((y || z) && any_pinned d b n) t)) (cond z (unplug_all_answer ((y || z) && any_pinned d b n)) states))
        ≡ cond x plugs (cond y (ranged (sizes_of d) r (unplug_answer (pin_met d r) t)) (cond z (unplug_all_answer (pin_met d r)) states))
    go true y e z f = refl
    go false true e z f = ap (λ (x : Bool). ranged (sizes_of d) r (unplug_answer x t)) met
    go false false e true f = ap unplug_all_answer met
    go false false e false f = refl
