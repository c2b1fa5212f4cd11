-- Req 09: two laws for plugging. Assumes nothing.
--
-- First, `plug_in_two`: a PLUG of n blocks and then one of the m blocks that follow are both acknowledged exactly when one PLUG of n + m
-- blocks is; and then both ways leave the same device, word for word.
--
-- Second, `plug_undone`: after an acknowledged PLUG an UNPLUG of the same run is acknowledged, and gives the device back, word for word.
--
-- No host call and no other request comes between the two: the second is carried out on the state that the first one left. `carried` is the
-- public definition, by which `carry_out` answers: 27 first, then the request that the bytes hold; it gives the answer, the ten bytes of the
-- response and the next state. Both laws hold of records that 27 refuses too, of which nothing is acknowledged, of every address and of every
-- padding. n and m are at least 1; that n + m is at most 65,535 is needed nowhere but to write it in a request's two bytes. The second law
-- asks that the plug table is sixteen words of 64 bits, as its type in the code says; of a host's words this holds (`plug_undone_words`).
-- On a record that 27 lets pass the laws by `-seen` say the same of the ten bytes that a guest gets, those by `-sent` of the 24 that it writes
-- and the ten that it gets.
--
-- The m blocks that follow begin at address + n * block size. A request has eight bytes for an address, so from 2^64 on it holds what they
-- keep of the sum (`behind`). The PLUG of the n blocks is then answered with ERROR (`past_the_end`), and so is the one of n + m, which ends
-- even later; where it is acknowledged, nothing of the sum was lost (`behind_whole`).
use mathlib.Core.Path.{◌≡◌, refl, ap, ◌∙◌, sym}
use mathlib.Core.Bool.{Bool, true, false, ◌&&◌}
use mathlib.Core.Logic.{⊎_elim}
use mathlib.Core.List.{List}
use Prim.Native.Nat.{ℕ, ◌+◌, ◌*◌, ◌%◌, ◌^◌, ◌≤◌, ◌<◌}
use native.Mathlib.Nat.{mod-eq_of_lt}
use native.Mathlib.Omega.{arith}
use lib.Dec.{eqb}
use lib.ListN.{length, get_or}
use Rattle.map_records.proofs.Order.{eq_or_not}
use Rattle.map_check.specs.Reply.{accepted, passes}
use Rattle.map_check.proofs.Bools.{never}
use Rattle.device_words.specs.Bytes.{le, number_by, le_number, response_bytes}
use Rattle.device_words.specs.Table.{IsTable}
use Rattle.device_words.specs.Device.{MemoryDevice, with_plugged, device_ok, sizes_of}
use Rattle.device_words.specs.Request.{RequestOutcome, plug_type, unplug_type, request_of, bytes_of, for_run, plug_run, unplug_run, type_of, state_of, in_range, already_plugged, over_requested, answered, is_ack, table_after_ack, carried_out, block_of, nothing_further, pin_met, answered_by, table_by}
use Rattle.device_words.specs.Words.{device_of, device_words, device_length}
use Rattle.device_words.specs.declared.request.Request.{Request}
use Rattle.device_words.specs.declared.request.Response.TheVariants as response
use Rattle.device_words.proofs.ByteLaws.{request_low}
use Rattle.device_words.proofs.AnswerLaws.{in_above, in_end, out_answer}
use Rattle.device_words.proofs.DeviceWords.{device_none, none_refused, words_table, words_of}
use Rattle.device_words.proofs.RuleLaws.{device_valid}
use Rattle.device_words.proofs.PlugLaws.{by_checks, Plugs, after_plug, ack_plugs, plugs_ack, plugs_first, plugs_second, plugs_one, leaves_one, unplug_ack, unplug_back}
use Rattle.memory_device.specs.Request.{carried_into, carried}
use Rattle.memory_device.specs.LawsForPlugging.{behind, Acknowledged, AckSeen, AsOne, GivesBack}
use Rattle.memory_device.proofs.Kept.{carry_through, carry_kept}

-- a request on a record that passes 27, and on one that does not
on_valid : (d : MemoryDevice) (s : List ℕ) (r : Request) → device_ok d ≡ true → request_of s ≡ r → carried d s ≡ carried_out d r
on_valid d s r h e = carry_through d s h ∙ ap (carried_out d) e

refused : (d : MemoryDevice) (s : List ℕ) → device_ok d ≡ false → Acknowledged (carried d s) → ⊥
unfolding carried_into
refused d s h = rw h (λ e. never (sym e))

-- the outcome of an acknowledged request
abbrev acked : MemoryDevice → RequestOutcome
acked d = record { reply = accepted; response = response_bytes 0 0; device = d }

acked_is : (d : MemoryDevice) → Acknowledged (acked d)
unfolding number_by response_bytes le
acked_is d = refl

carried_acked : (d : MemoryDevice) (r : Request) → answered d r ≡ response.Ack → carried_out d r ≡ acked (with_plugged d (table_after_ack (sizes_of d) d.plugged r))
unfolding table_by
carried_acked d r e = rw e

-- ---- a PLUG on a record that passes 27
module _ (d : MemoryDevice) (h : device_ok d ≡ true) (a n : ℕ) (s : List ℕ) (e : request_of s ≡ plug_run a n) where
  plugs_of : Acknowledged (carried d s) → Plugs d a n
  unfolding answered_by number_by response_bytes le
  plugs_of k = ack_plugs d a n (go (in_range (sizes_of d) (plug_run a n)) (already_plugged d.plugged (block_of (sizes_of d) a) n) (over_requested (sizes_of d) d.plugged n) (rw (on_valid d s (plug_run a n) h e) at k))
    where
      go : (x y z : Bool) → eqb (le_number (response_bytes (type_of (by_checks x y z)) (state_of (by_checks x y z))) 0 2) 0 ≡ true → is_ack (by_checks x y z) ≡ true
      go true true z q = absurd (never (sym q))
      go true false true q = absurd (never (sym q))
      go true false false q = refl
      go false y z q = absurd (never (sym q))

  of_plugs : Plugs d a n → carried d s ≡ acked (after_plug d a n)
  of_plugs p = on_valid d s (plug_run a n) h e ∙ carried_acked d (plug_run a n) (plugs_ack d a n p)

-- an acknowledged run ends at 2^48 at the latest
run_end : (d : MemoryDevice) (a n : ℕ) → device_ok d ≡ true → Plugs d a n → a + n * d.block_size < 2 ^ 64
run_end d a n h p = let v = device_valid d h in omega (arith, p.above, p.room, v.usable, v.end)

-- ---- the parts of the first law, on a record that passes 27

module _ (d : MemoryDevice) (h : device_ok d ≡ true) (a n m : ℕ) (s t u : List ℕ) (e : request_of s ≡ plug_run a n) (f : request_of t ≡ plug_run (behind d a n) m)
    (g : request_of u ≡ plug_run a (n + m)) where
  module _ (p : Plugs d a n) where
    first : carried d s ≡ acked (after_plug d a n)
    first = of_plugs d h a n s e p

    next_valid : device_ok (after_plug d a n) ≡ true
    next_valid = sym (ap (λ (o : RequestOutcome). device_ok o.device) first) ∙ carry_kept d s h

    next_asks : request_of t ≡ plug_run (a + n * d.block_size) m
    next_asks = f ∙ ap (λ (x : ℕ). plug_run x m) (mod-eq_of_lt (run_end d a n h p))

    second_plugs : Acknowledged (carried (carried d s).device t) → Plugs (after_plug d a n) (a + n * d.block_size) m
    second_plugs k = plugs_of (after_plug d a n) next_valid (a + n * d.block_size) m t next_asks (rw first at k)

    second : Plugs (after_plug d a n) (a + n * d.block_size) m → carried (carried d s).device t ≡ acked (after_plug (after_plug d a n) (a + n * d.block_size) m)
    second q = rw first (of_plugs (after_plug d a n) next_valid (a + n * d.block_size) m t next_asks q)

  one : Plugs d a (n + m) → carried d u ≡ acked (after_plug d a (n + m))
  one q = of_plugs d h a (n + m) u g q

  valid_in_two : 1 ≤ n → 1 ≤ m → AsOne Acknowledged (carried d s) (carried (carried d s).device t) (carried d u)
  valid_in_two i j =
      let v = device_valid d h in
      record {
        whole = λ k l.
            let p = plugs_of d h a n s e k in
            rw (one (plugs_one d a n m v p (second_plugs p l))) (acked_is (after_plug d a (n + m)));
        parts = λ k.
            let q = plugs_of d h a (n + m) u g k in
            let p = plugs_first d a n m v i q in
            (rw (first p) (acked_is (after_plug d a n)), rw (second p (plugs_second d a n m v j p q)) (acked_is (after_plug (after_plug d a n) (a + n * d.block_size) m)));
        device = λ k.
            let q = plugs_of d h a (n + m) u g k in
            let p = plugs_first d a n m v i q in
            ap (λ (o : RequestOutcome). o.device) (second p (plugs_second d a n m v j p q)) ∙ leaves_one d a n m v p.above ∙ sym (ap (λ (o : RequestOutcome). o.device) (one q));
      }

-- ---- the first law

pub plug_in_two : (d : MemoryDevice) (a n m : ℕ) → 1 ≤ n → 1 ≤ m → (s t u : List ℕ)
    → request_of s ≡ plug_run a n → request_of t ≡ plug_run (behind d a n) m → request_of u ≡ plug_run a (n + m)
    → AsOne Acknowledged (carried d s) (carried (carried d s).device t) (carried d u)
plug_in_two d a n m i j s t u e f g = go (device_ok d) refl
  where
    go : (x : Bool) → device_ok d ≡ x → AsOne Acknowledged (carried d s) (carried (carried d s).device t) (carried d u)
    go true h = valid_in_two d h a n m s t u e f g i j
    go false h = record { whole = λ k l. absurd (refused d s h k); parts = λ k. absurd (refused d u h k); device = λ k. absurd (refused d u h k) }

-- where the sum passes 2^64
pub behind_whole : (d : MemoryDevice) (a n : ℕ) (s : List ℕ) → request_of s ≡ plug_run a n → Acknowledged (carried d s) → behind d a n ≡ a + n * d.block_size
behind_whole d a n s e k = go (device_ok d) refl
  where
    go : (x : Bool) → device_ok d ≡ x → behind d a n ≡ a + n * d.block_size
    go true h = mod-eq_of_lt (run_end d a n h (plugs_of d h a n s e k))
    go false h = absurd (refused d s h k)

pub past_the_end : (d : MemoryDevice) (a n : ℕ) (s : List ℕ) → device_ok d ≡ true → request_of s ≡ plug_run a n → 2 ^ 64 ≤ a + n * d.block_size → (carried d s).response ≡ response_bytes 3 0
past_the_end d a n s h e l = rw (on_valid d s (plug_run a n) h e, ← out_answer nothing_further (sizes_of d) (pin_met d (plug_run a n)) d.plugged (plug_run a n) (λ (z : ◌≡◌ {A = ℕ} 0 2). omega arith) (go (in_range (sizes_of d) (plug_run a n)) refl))
  where
    go : (x : Bool) → in_range (sizes_of d) (plug_run a n) ≡ x → x ≡ false
    go true i = let v = device_valid d h in absurd (omega (arith, in_above (sizes_of d) (plug_run a n) i, in_end (sizes_of d) (plug_run a n) i, v.usable, v.end))
    go false i = refl

-- ---- the second law

-- the outcome of the UNPLUG, on a record that passes 27
undone : (d : MemoryDevice) (a n : ℕ) → device_ok d ≡ true → IsTable d.plugged → (s t : List ℕ) → request_of s ≡ plug_run a n → request_of t ≡ unplug_run a n
    → Plugs d a n → carried (carried d s).device t ≡ acked d
undone d a n h w s t e f p =
    let v = device_valid d h in
    let plugged = of_plugs d h a n s e p in
    rw plugged
    (on_valid (after_plug d a n) t (unplug_run a n) (sym (ap (λ (o : RequestOutcome). device_ok o.device) plugged) ∙ carry_kept d s h) f
    ∙ carried_acked (after_plug d a n) (unplug_run a n) (unplug_ack d a n v p) ∙ ap acked (unplug_back d a n v p w))

pub plug_undone : (d : MemoryDevice) (a n : ℕ) → IsTable d.plugged → (s t : List ℕ) → request_of s ≡ plug_run a n → request_of t ≡ unplug_run a n
    → Acknowledged (carried d s) → GivesBack Acknowledged d (carried (carried d s).device t)
plug_undone d a n w s t e f k = go (device_ok d) refl
  where
    go : (x : Bool) → device_ok d ≡ x → GivesBack Acknowledged d (carried (carried d s).device t)
    go false h = absurd (refused d s h k)
    go true h = let o = undone d a n h w s t e f (plugs_of d h a n s e k) in record { answer = rw o (acked_is d); device = ap (λ (x : RequestOutcome). x.device) o }

-- of a device in a host's words, of 64 bits each: they are as they were
pub plug_undone_words : (w : List ℕ) (a n : ℕ) → ((i : ℕ) → get_or w i 0 < 2 ^ 64) → (s t : List ℕ) → request_of s ≡ plug_run a n → request_of t ≡ unplug_run a n
    → Acknowledged (carried (device_of w) s)
    → Acknowledged (carried (carried (device_of w) s).device t) × (device_words (carried (carried (device_of w) s).device t).device ≡ w)
plug_undone_words w a n h s t e f k =
    let law = plug_undone (device_of w) a n (words_table w h) s t e f k in (
      law.answer,
      ap device_words law.device ∙ ⊎_elim (words_of w)
          (λ none. absurd (refused (device_of w) s (ap device_ok (device_none w none) ∙ none_refused) k)) (eq_or_not (length w) device_length),
    )

-- ---- both laws, by the ten bytes that a guest gets

-- ten zeros say ACK, and the ACK of a PLUG is ten zeros
seen_acked : (d : MemoryDevice) (s : List ℕ) → device_ok d ≡ true → AckSeen (carried d s) → Acknowledged (carried d s)
seen_acked d s h k =
    ap (λ (o : RequestOutcome). passes o.reply && eqb (le_number (carried d s).response 0 2) 0) (on_valid d s (request_of s) h refl)
    ∙ ap (λ (x : List ℕ). eqb (le_number x 0 2) 0) k ∙ acked_is d

acked_seen : (d : MemoryDevice) (a n : ℕ) (s : List ℕ) → device_ok d ≡ true → request_of s ≡ plug_run a n → Acknowledged (carried d s) → AckSeen (carried d s)
acked_seen d a n s h e k = ap (λ (o : RequestOutcome). o.response) (of_plugs d h a n s e (plugs_of d h a n s e k))

pub plug_in_two_seen : (d : MemoryDevice) (a n m : ℕ) → device_ok d ≡ true → 1 ≤ n → 1 ≤ m → (s t u : List ℕ)
    → request_of s ≡ plug_run a n → request_of t ≡ plug_run (behind d a n) m → request_of u ≡ plug_run a (n + m)
    → AsOne AckSeen (carried d s) (carried (carried d s).device t) (carried d u)
plug_in_two_seen d a n m h i j s t u e f g =
    let next = carry_kept d s h in
    let law = plug_in_two d a n m i j s t u e f g in
    record {
      whole = λ x y. acked_seen d a (n + m) u h g (law.whole (seen_acked d s h x) (seen_acked (carried d s).device t next y));
      parts = λ z.
          let both = law.parts (seen_acked d u h z) in
          (acked_seen d a n s h e both.0, acked_seen (carried d s).device (behind d a n) m t next f both.1);
      device = λ z. law.device (seen_acked d u h z);
    }

pub plug_undone_seen : (d : MemoryDevice) (a n : ℕ) → device_ok d ≡ true → IsTable d.plugged → (s t : List ℕ) → request_of s ≡ plug_run a n → request_of t ≡ unplug_run a n
    → AckSeen (carried d s) → GivesBack AckSeen d (carried (carried d s).device t)
plug_undone_seen d a n h w s t e f k =
    let o = undone d a n h w s t e f (plugs_of d h a n s e (seen_acked d s h k)) in
    record { answer = ap (λ (x : RequestOutcome). x.response) o; device = ap (λ (x : RequestOutcome). x.device) o }

-- ---- both laws, by the 24 bytes that a guest writes, padding 0, and the ten that it gets

-- such bytes ask for the run, at the low eight bytes of the address
run_asks : (kind a n : ℕ) → kind ≤ 65535 → n ≤ 65535 → request_of (bytes_of (for_run kind a n)) ≡ for_run kind (a % 2 ^ 64) n
run_asks kind a n h l =
    request_low (for_run kind a n) ∙ ap (λ (x : ℕ). for_run x (a % 2 ^ 64) (n % 65536)) (mod-eq_of_lt (omega arith)) ∙ ap (for_run kind (a % 2 ^ 64)) (mod-eq_of_lt (omega arith))

-- an address of eight bytes stays
run_asks_whole : (kind a n : ℕ) → kind ≤ 65535 → a < 2 ^ 64 → n ≤ 65535 → request_of (bytes_of (for_run kind a n)) ≡ for_run kind a n
run_asks_whole kind a n h q l = run_asks kind a n h l ∙ ap (λ (x : ℕ). for_run kind x n) (mod-eq_of_lt q)

pub plug_in_two_sent : (d : MemoryDevice) (a n m : ℕ) → device_ok d ≡ true → a < 2 ^ 64 → 1 ≤ n → 1 ≤ m → n + m ≤ 65535
    → AsOne AckSeen (carried d (bytes_of (plug_run a n))) (carried (carried d (bytes_of (plug_run a n))).device (bytes_of (plug_run (a + n * d.block_size) m)))
    (carried d (bytes_of (plug_run a (n + m))))
plug_in_two_sent d a n m h q i j k =
    plug_in_two_seen d a n m h i j (bytes_of (plug_run a n)) (bytes_of (plug_run (a + n * d.block_size) m)) (bytes_of (plug_run a (n + m)))
    (run_asks_whole plug_type a n (omega arith) q (omega arith)) (run_asks plug_type (a + n * d.block_size) m (omega arith) (omega arith)) (run_asks_whole plug_type a (n + m) (omega arith) q k)

pub plug_undone_sent : (d : MemoryDevice) (a n : ℕ) → device_ok d ≡ true → IsTable d.plugged → a < 2 ^ 64 → n ≤ 65535
    → AckSeen (carried d (bytes_of (plug_run a n))) → GivesBack AckSeen d (carried (carried d (bytes_of (plug_run a n))).device (bytes_of (unplug_run a n)))
plug_undone_sent d a n h w q k =
    plug_undone_seen d a n h w (bytes_of (plug_run a n)) (bytes_of (unplug_run a n)) (run_asks_whole plug_type a n (omega arith) q k) (run_asks_whole unplug_type a n (omega arith) q k)
