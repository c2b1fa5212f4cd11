-- Laws of the calls on a device's words, and of those on a record by value. Assumes nothing.
use mathlib.Core.Path.{◌≡◌, refl, sym, ap, ◌∙◌, subst}
use mathlib.Core.Bool.{Bool, true, false, cond, ◌&&◌, ◌||◌, not}
use mathlib.Core.List.{List, [], ◌∷◌}
use mathlib.Core.Logic.{◌⊎◌, inl, inr, ⊎_elim}
use Prim.Native.Nat.{ℕ, ◌/◌, ◌≤◌, ◌<◌, min, max}
use native.Mathlib.Omega.{arith}
use native.Mathlib.Decide.{dec_le}
use lib.Dec.{eqb, ltb}
use lib.ListN.{length, set}
use borrow.Author.Tests.{le-ltb, lt-ltb, eq-eqb, ne_eqb, eqb-true, eqb-false}
use Rattle.std.specs.Result.{IsErr, IsErrAnd, MatchResult}
use Rattle.std.specs.Prelude.{Result, Ok, Err, Option}
use Rattle.map_check.specs.Reply.{Reply, accepted, plain, passes, reply_by}
use Rattle.map_check.specs.declared.answer.RecordFault.{RecordFault}
use Rattle.map_check.proofs.Bools.{and_off, never}
use Rattle.device_words.specs.Table.{bit_at, within}
use Rattle.device_words.specs.Device.{MemoryDevice, is_pinned, sizes_of, with_pins, with_pin, fresh, device_ok}
use Rattle.device_words.specs.Promises.{Valid, Responds}
use Rattle.device_words.specs.Request.{answered, changed_by, request_of, carried_out, RequestOutcome as Carried}
use Rattle.device_words.specs.Words.{device_at, device_of, device_words, device_length}
use Rattle.device_words.specs.declared.request.Request.{Request}
use Rattle.device_words.specs.declared.request.Response.{Response}
use Rattle.device_words.proofs.TableLaws.{table_length_lem, past_bit}
use Rattle.device_words.proofs.AnswerLaws.{table_whole}
use Rattle.device_words.proofs.DeviceWords.{device_at_lem, device_none, halves, record_back, plugged_length, pins_length, ok_length, device_first}
use Rattle.device_words.proofs.RuleLaws.{device_valid, blocks_bound, blocks_mono}
use Rattle.memory_device.specs.Record.{record_of, HostOutcome, host_fault_reply, host_reply, record_reply, outcome_by}
use Rattle.memory_device.specs.Host.{host_refusal, done, if_ok, pin_fault, turn_fault, with_requested, configuration_of, ConfigurationRead, configured_into, read_of, byte_block, byte_of}
use Rattle.memory_device.specs.Request.{carried_into, request_outcome_of}
use Rattle.memory_device.specs.Leaves.{words_left, LeavesDevice, ReadsConfiguration, Carries, ByValue}
use Rattle.memory_device.specs.declared.device.HostFault.{HostFault}
use Rattle.memory_device.specs.declared.device.HostFault.TheVariants.{Size, Pin, Record}
use Rattle.memory_device.specs.declared.device.MemoryDevice as value
use Rattle.memory_device.specs.declared.refused.Refused.{Refused}
use Rattle.memory_device.specs.declared.request.Carried as value-carried
use Rattle.device_words.specs.declared.block.BlockNumber.{BlockNumber}

-- ---- the 27 that `?` passes on
pub host_27 : {A : Type 0} (r : Result A HostFault) → IsErrAnd r (λ e. e ≡ Record) → host_reply r ≡ plain 27
host_27 (Ok _) h = absurd h
host_27 (Err e) h = ap host_fault_reply h

pub record_27 : {A : Type 0} (r : Result A RecordFault) → IsErr r → record_reply r ≡ plain 27
record_27 (Ok _) h = absurd (never (sym h))
record_27 (Err e) h = refl

-- ---- a call on words: 27, then a fault of its own, then a change
pub left_27 : (w : List ℕ) → false ≡ device_ok (device_of w) → (o : HostOutcome) (r : Reply) → r ≡ plain 27
    → LeavesDevice (if_ok (device_of w) o) w r w
left_27 w e o r h = rw (sym e) (record { reply = h; words = refl })

module _ (w : List ℕ) (e : true ≡ device_ok (device_of w)) where
  pub sound_length : length w ≡ device_length
  sound_length = ok_length w true (e ∙ sym (device_first w)) refl

  pub sound_device : device_ok (device_of w) ≡ true
  sound_device = sym e

  pub sound : Valid (device_at w)
  sound = rw (device_at_lem w sound_length) at (device_valid (device_of w) sound_device)

  module _ (fault : MemoryDevice → Bool) (k : ℕ) (next : MemoryDevice → MemoryDevice) where
    pub left_fault : fault (device_at w) ≡ true
        → LeavesDevice (if_ok (device_of w) (cond (fault (device_of w)) (host_refusal k (device_of w)) (done (next (device_of w))))) w (plain k) w
    left_fault f = rw (sound_device, ap fault (device_at_lem w sound_length) ∙ f) (record { reply = refl; words = refl })

    pub left_done : (w' : List ℕ) → fault (device_at w) ≡ false → w' ≡ device_words (next (device_at w))
        → LeavesDevice (if_ok (device_of w) (cond (fault (device_of w)) (host_refusal k (device_of w)) (done (next (device_of w))))) w accepted w'
    left_done w' f p =
        rw (sound_device, ap fault (device_at_lem w sound_length) ∙ f)
        (record { reply = refl; words = p ∙ ap (λ (d : MemoryDevice). device_words (next d)) (sym (device_at_lem w sound_length)) })

-- a host's number as a block: the same number, or one that is outside every region as that number is
pub host_same : (n b : ℕ) → b ≡ min n 65535 → b < 1024 → b ≡ n
host_same n b e h = omega (arith, e, h)

host_block : (P : ℕ → Type 0) (n b : ℕ) → b ≡ min n 65535 → P n → (1024 ≤ b → 1024 ≤ n → P b) → P b
host_block P n b e p far = go (dec_le n 65535)
  where
    go : Dec (n ≤ 65535) → P b
    go (yes h) = subst P (let z : n ≡ b = omega (arith, e, h) in z) p
    go (no h) = far (omega (arith, e, h)) (omega (arith, e, h))

pub host_fault : (d : MemoryDevice) → Valid d → (n b : ℕ) → b ≡ min n 65535 → pin_fault d b ≡ pin_fault d n
host_fault d v n b e = host_block (λ x. pin_fault d x ≡ pin_fault d n) n b e refl (λ p q. outside b p ∙ sym (outside n q))
  where
    outside : (x : ℕ) → 1024 ≤ x → pin_fault d x ≡ true
    outside x h =
        let room = blocks_bound d.block_size d.region_size 1024 (omega (arith, v.least)) v.blocks in
        rw (le-ltb x (d.region_size / d.block_size) (omega (arith, room, h)))

pub host_pinned : (d : MemoryDevice) → length d.pinned ≡ 16 → (n b : ℕ) → b ≡ min n 65535 → is_pinned d b ≡ is_pinned d n
host_pinned d l n b e = host_block (λ x. is_pinned d x ≡ is_pinned d n) n b e refl (λ p q. past_bit d.pinned b l p ∙ sym (past_bit d.pinned n l q))

-- both as one
pub host_turn : (d : MemoryDevice) → Valid d → length d.pinned ≡ 16 → (n b : ℕ) → b ≡ min n 65535 → (on : Bool) → turn_fault d b on ≡ turn_fault d n on
host_turn d v l n b e true = host_fault d v n b e
host_turn d v l n b e false = ap not (host_pinned d l n b e)

-- a block that is outside the region or unplugged is not pinned either, so that it is neither pinned nor let go
pub turn_refused : (d : MemoryDevice) → Valid d → length d.pinned ≡ 16 → (b : ℕ) (on : Bool) → (ltb b (d.region_size / d.block_size) && bit_at d.plugged b) ≡ false → turn_fault d b on ≡ true
turn_refused d v l b true h = go (ltb b (d.region_size / d.block_size)) (bit_at d.plugged b) h
  where
    go : (x y : Bool) → (x && y) ≡ false → (not x || not y || is_pinned d b) ≡ true
    go true true e = absurd (never e)
    go true false e = refl
    go false y e = refl
turn_refused d v l b false h = ap not (go (is_pinned d b) refl)
  where
    held : is_pinned d b ≡ true → b < 1024 → (ltb b (d.region_size / d.block_size) && bit_at d.plugged b) ≡ true
    held e m =
        let plugged = v.held b m e in
        let below = v.inside b m plugged in
        let more = blocks_mono d.block_size d.usable_size d.region_size (omega (arith, v.least)) v.usable in
        rw (lt-ltb b (d.region_size / d.block_size) (omega (arith, below, more)), plugged)

    go : (x : Bool) → is_pinned d b ≡ x → x ≡ false
    go false e = refl
    go true e = far (dec_le 1024 b)
      where
        far : Dec (1024 ≤ b) → true ≡ false
        far (yes k) = sym e ∙ past_bit d.pinned b l k
        far (no k) = sym (held e (omega (arith, k))) ∙ h

-- ---- the words that the changes leave
pub requested_stored : (w : List ℕ) (usable size : ℕ) → length w ≡ device_length → usable ≡ max (device_at w).usable_size size
    → set (set w 3 usable) 4 size ≡ device_words (with_requested (device_at w) size)
unfolding device_words
requested_stored [] usable size l p = absurd (omega arith)
requested_stored (a ∷ []) usable size l p = absurd (omega arith)
requested_stored (a ∷ b ∷ []) usable size l p = absurd (omega arith)
requested_stored (a ∷ b ∷ c ∷ []) usable size l p = absurd (omega arith)
requested_stored (a ∷ b ∷ c ∷ d ∷ []) usable size l p = absurd (omega arith)
requested_stored (a ∷ b ∷ c ∷ d ∷ e ∷ v) usable size l p =
    ap (λ (u : ℕ). a ∷ b ∷ c ∷ u ∷ size ∷ v) p ∙ ap (λ (r : List ℕ). a ∷ b ∷ c ∷ max d size ∷ size ∷ r) (sym (halves v (omega arith)))

-- ---- both tables of a record have sixteen words
pub record Whole (d : MemoryDevice) : Type 0 where
  pub plugged : length d.plugged ≡ 16
  pub pins : length d.pinned ≡ 16

pub whole_words : (w : List ℕ) → Whole (device_of w)
whole_words w = go (eqb (length w) device_length) refl
  where
    go : (x : Bool) → eqb (length w) device_length ≡ x → Whole (device_of w)
    go true p = let l = eqb-true (length w) device_length p in rw (device_at_lem w l) (record { plugged = plugged_length w l; pins = pins_length w l })
    go false p = rw (device_none w (eqb-false (length w) device_length p)) (record { plugged = refl; pins = refl })

-- ---- a call by value: the words of the record, the call on them, and the record read back
-- a refusal gives the state back, and a next state is as P says
abbrev pub Gives : (MemoryDevice → Type 0) → MemoryDevice → Reply → MemoryDevice → Type 0
Gives P d reply next = ((passes reply ≡ false) × (next ≡ d)) ⊎ ((passes reply ≡ true) × P next)

-- and has whole tables
abbrev Fair : MemoryDevice → Reply → MemoryDevice → Type 0
Fair = Gives Whole

pub given_back : (P : MemoryDevice → Type 0) (d : MemoryDevice) (reply : Reply) (next : MemoryDevice) → Gives P d reply next → passes reply ≡ false → next ≡ d
given_back P d reply next g refused =
    ⊎_elim (λ (r : (passes reply ≡ false) × (next ≡ d)). r.1) (λ (r : (passes reply ≡ true) × P next). absurd (never (sym (sym refused ∙ r.0)))) g

read_back : (d : MemoryDevice) (reply : Reply) (next : MemoryDevice) (w w' : List ℕ) → device_of w ≡ d → w' ≡ words_left reply next w → Fair d reply next → device_of w' ≡ next
read_back d reply next w w' e p f =
    ⊎_elim
    (λ (r : (passes reply ≡ false) × (next ≡ d)). ap device_of (p ∙ ap (λ (x : Bool). cond x (device_words next) w) r.0) ∙ e ∙ sym r.1)
    (λ (r : (passes reply ≡ true) × Whole next). ap device_of (p ∙ ap (λ (x : Bool). cond x (device_words next) w) r.0) ∙ record_back next r.1.plugged r.1.pins)
    f

-- the answer by value, of a call whose outcome on a record d is `o d`
module _ {E : Type 0} (reply : E → Reply) (refuses : (e : E) → passes (reply e) ≡ false) (d : MemoryDevice) (h : Whole d) (o : MemoryDevice → HostOutcome) (f : Fair d (o d).reply (o d).device) where
  refused_state : (e : E) → reply e ≡ (o d).reply → (o d).device ≡ d
  refused_state e p = given_back Whole d (o d).reply (o d).device f (sym (ap passes p) ∙ refuses e)

  pub by_value : (w : List ℕ) → w ≡ device_words d → (answer : Result Unit E) (w' : List ℕ) → LeavesDevice (o (device_of w)) w (reply_by reply answer) w'
      → (r : Result value.MemoryDevice (Refused E value.MemoryDevice)) → ByValue d answer w' r → outcome_by reply r ≡ o d
  by_value w s answer w' l r g =
      let e : device_of w ≡ d = ap device_of s ∙ record_back d h.plugged h.pins in
      let h : LeavesDevice (o d) w (reply_by reply answer) w' = rw e at l in
      go answer r g h.reply (read_back d (o d).reply (o d).device w w' e h.words f)
    where
      go : (a : Result Unit E) (r : Result value.MemoryDevice (Refused E value.MemoryDevice)) → ByValue d a w' r → reply_by reply a ≡ (o d).reply → device_of w' ≡ (o d).device
          → outcome_by reply r ≡ o d
      go (Ok _) (Ok next) g p q = λ i. record { reply = p i; device = (g ∙ q) i }
      go (Ok _) (Err x) g p q = absurd g
      go (Err y) (Ok next) g p q = absurd g
      go (Err y) (Err x) g p q =
          let s : reply x.fault ≡ (o d).reply = ap reply g.0 ∙ p in
          let t : record_of x.left ≡ (o d).device = g.1 ∙ sym (refused_state x.fault s) in
          λ i. record { reply = s i; device = t i }

-- what `?` passes on of a call with the answer a is its fault, with the record that was passed; else the record is what the words are then
pub refusal_by_value : {E : Type 0} (a : Result Unit E) (v : value.MemoryDevice) (w : List ℕ) (q : Refused E value.MemoryDevice) (r : Result value.MemoryDevice (Refused E value.MemoryDevice))
    → MatchResult a (λ x. ⊥) (λ e. q ≡ record { fault = e; left = v }) → IsErrAnd r (λ e. e ≡ q) → ByValue (record_of v) a w r
refusal_by_value (Ok _) v w q r m p = absurd m
refusal_by_value (Err e) v w q (Ok _) m p = absurd p
refusal_by_value (Err e) v w q (Err s) m p = let h = p ∙ m in
    (λ i. (h i).fault, λ i. record_of (h i).left)

pub change_by_value : {E : Type 0} (a : Result Unit E) (d : MemoryDevice) (w : List ℕ) (next : value.MemoryDevice) → MatchResult a (λ x. Unit) (λ e. ⊥) → record_of next ≡ device_of w
    → ByValue d a w (Ok next)
change_by_value (Ok _) d w next m p = p
change_by_value (Err e) d w next m p = absurd m

pub host_refuses : (e : HostFault) → passes (host_fault_reply e) ≡ false
host_refuses Size = refl
host_refuses Pin = refl
host_refuses Record = refl

-- the tables of the next states
pub whole_requested : (d : MemoryDevice) (size : ℕ) → Whole d → Whole (with_requested d size)
whole_requested d size h = record { plugged = h.plugged; pins = h.pins }

pub whole_pinned : (d : MemoryDevice) (b : ℕ) (on : Bool) → Whole d → Whole (with_pins d (with_pin d.pinned b on))
whole_pinned d b on h = record { plugged = h.plugged; pins = table_length_lem (λ c. cond (within b 1 c) on (is_pinned d c)) }

pub whole_fresh : (d : MemoryDevice) → Whole d → Whole (fresh d)
whole_fresh d h = record { plugged = refl; pins = refl }

whole_changed : (d : MemoryDevice) (r : Request) (x : Response) → Whole d → Whole (changed_by d r x)
whole_changed d r x h = record { plugged = table_whole (sizes_of d) d.plugged r x h.plugged; pins = h.pins }

-- ---- an outcome that may be 27, 14 or 15: each next state is one of whole tables, where the given one has them
pub gives : (P : MemoryDevice → Type 0) (d : MemoryDevice) (fault : Bool) (k : ℕ) (next : MemoryDevice) → P next
    → Gives P d (if_ok d (cond fault (host_refusal k d) (done next))).reply (if_ok d (cond fault (host_refusal k d) (done next))).device
gives P d fault k next p = go (device_ok d) fault
  where
    go : (x y : Bool) → Gives P d (cond x (cond y (host_refusal k d) (done next)) (host_refusal 27 d)).reply (cond x (cond y (host_refusal k d) (done next)) (host_refusal 27 d)).device
    go true true = inl (refl, refl)
    go true false = inr (refl, p)
    go false y = inl (refl, refl)

pub fair : (d : MemoryDevice) → Whole d → (fault : Bool) (k : ℕ) (next : MemoryDevice) → (Whole d → Whole next)
    → Fair d (if_ok d (cond fault (host_refusal k d) (done next))).reply (if_ok d (cond fault (host_refusal k d) (done next))).device
fair d h fault k next f = gives Whole d fault k next (f h)

-- ---- a request
pub carries_done : (w s out : List ℕ) → true ≡ device_ok (device_of w) → length out ≡ 10 → (out' response w' : List ℕ) → out' ≡ response → Responds w s response w'
    → Carries (carried_into (device_of w) s out) w accepted out' w'
unfolding carried_into
carries_done w s out e l out' response w' p q = rw (eq-eqb (length out) 10 l, sound_device w e) (refl, p ∙ q.0, q.1)

pub carries_27 : (w s out : List ℕ) → false ≡ device_ok (device_of w) → (r : Reply) → r ≡ plain 27 → Carries (carried_into (device_of w) s out) w r out w
unfolding carried_into
carries_27 w s out e r h = rw (sym e, and_off (eqb (length out) 10)) (h, refl, refl)

pub carries_length : (w s out : List ℕ) → (length out ≡ 10 → ⊥) → Carries (carried_into (device_of w) s out) w (plain 27) out w
unfolding carried_into
carries_length w s out n = rw (ne_eqb (length out) 10 n) (refl, refl, refl)

-- by value: what is carried out, or the refusal
module _ (d : MemoryDevice) (s out : List ℕ) where
  carried_fair : Whole d → Fair d (carried_into d s out).reply (carried_into d s out).device
  unfolding carried_into
  carried_fair h = go (eqb (length out) 10 && device_ok d)
    where
      go : (y : Bool) → Fair d (cond y (carried_out d (request_of s)) (record { reply = plain 27; response = out; device = d })).reply
          (cond y (carried_out d (request_of s)) (record { reply = plain 27; response = out; device = d })).device
      go true = inr (refl, whole_changed d (request_of s) (answered d (request_of s)) h)
      go false = inl (refl, refl)

  pub carried_value : (w : List ℕ) {w' out' : List ℕ} {r : Reply} {m : MemoryDevice} → device_of w ≡ d → Carries (carried_into (device_of w) s out) w r out' w' → m ≡ device_of w'
      → ◌≡◌ {A = Carried} (record { reply = r; response = out'; device = m }) (carried_into d s out)
  carried_value w {w'} {out'} {r} {m} e l g =
      let o = carried_into d s out in
      let h : Carries o w r out' w' = rw e at l in
      let k : m ≡ o.device = g ∙ read_back d o.reply o.device w w' e h.2 (carried_fair (rw e at (whole_words w))) in
      λ i. record { reply = h.0 i; response = h.1 i; device = k i }

  -- 27 alone refuses
  pub carried_refused : plain 27 ≡ (carried_into d s out).reply → ◌≡◌ {A = Carried} (record { reply = plain 27; response = out; device = d }) (carried_into d s out)
  unfolding carried_into
  carried_refused = go (eqb (length out) 10 && device_ok d)
    where
      go : (y : Bool) → plain 27 ≡ (cond y (carried_out d (request_of s)) (record { reply = plain 27; response = out; device = d })).reply
          → record { reply = plain 27; response = out; device = d } ≡ cond y (carried_out d (request_of s)) (record { reply = plain 27; response = out; device = d })
      go true h = absurd (never (ap passes (sym h)))
      go false h = refl

  pub carried_27 : (w : List ℕ) {w' out' : List ℕ} → device_of w ≡ d → Carries (carried_into (device_of w) s out) w (plain 27) out' w'
      → ◌≡◌ {A = Carried} (record { reply = plain 27; response = out; device = d }) (carried_into d s out)
  carried_27 w e l = carried_refused (rw e at l.0)

-- ---- the configuration
pub configures : (w out : List ℕ) → true ≡ device_ok (device_of w) → length out ≡ 56 → (out' : List ℕ) → out' ≡ configuration_of (device_at w)
    → ReadsConfiguration (configured_into (device_of w) out) accepted out'
unfolding configured_into
configures w out e l out' p = rw (eq-eqb (length out) 56 l, sound_device w e) (refl, p ∙ ap configuration_of (sym (device_at_lem w (sound_length w e))))

pub configures_27 : (w out : List ℕ) → false ≡ device_ok (device_of w) → (r : Reply) → r ≡ plain 27 → ReadsConfiguration (configured_into (device_of w) out) r out
unfolding configured_into
configures_27 w out e r h = rw (sym e, and_off (eqb (length out) 56)) (h, refl)

pub configures_length : (w out : List ℕ) → (length out ≡ 56 → ⊥) → ReadsConfiguration (configured_into (device_of w) out) (plain 27) out
unfolding configured_into
configures_length w out n = rw (ne_eqb (length out) 56 n) (refl, refl)

pub configured_value : (d : MemoryDevice) (w out : List ℕ) {out' : List ℕ} {r : Reply} → device_of w ≡ d → ReadsConfiguration (configured_into (device_of w) out) r out'
    → ◌≡◌ {A = ConfigurationRead} (record { reply = r; bytes = out' }) (configured_into d out)
configured_value d w out {out'} {r} e l =
    let h : ReadsConfiguration (configured_into d out) r out' = rw e at l in
    λ i. record { reply = h.0 i; bytes = h.1 i }

pub configured_refused : (d : MemoryDevice) (out : List ℕ) → plain 27 ≡ (configured_into d out).reply → ◌≡◌ {A = ConfigurationRead} (record { reply = plain 27; bytes = out }) (configured_into d out)
unfolding configured_into
configured_refused d out = go (eqb (length out) 56 && device_ok d)
  where
    go : (y : Bool) → plain 27 ≡ (cond {A = ConfigurationRead} y (record { reply = accepted; bytes = configuration_of d }) (record { reply = plain 27; bytes = out })).reply
        → ◌≡◌ {A = ConfigurationRead} (record { reply = plain 27; bytes = out }) (cond y (record { reply = accepted; bytes = configuration_of d }) (record { reply = plain 27; bytes = out }))
    go true h = absurd (never (ap passes (sym h)))
    go false h = refl

pub configured_27 : (d : MemoryDevice) (w out : List ℕ) {out' : List ℕ} → device_of w ≡ d → ReadsConfiguration (configured_into (device_of w) out) (plain 27) out'
    → ◌≡◌ {A = ConfigurationRead} (record { reply = plain 27; bytes = out }) (configured_into d out)
configured_27 d w out e l = configured_refused d out (rw e at l.0)

-- ---- a block of a byte
pub byte_27 : (w : List ℕ) (o : ℕ) → false ≡ device_ok (device_of w) → (r : Result (Option BlockNumber) RecordFault) → IsErr r → byte_of r ≡ byte_block (device_of w) o
unfolding byte_block
byte_27 w o e (Ok _) h = absurd (never (sym h))
byte_27 w o e (Err _) h = rw (sym e)

-- ---- what a method by value passes on
pub configuration_27 : (r : Result (List ℕ) (Refused RecordFault (List ℕ))) (bytes : List ℕ) → IsErrAnd r (λ e. e.left ≡ bytes) → read_of r ≡ record { reply = plain 27; bytes = bytes }
configuration_27 (Ok _) bytes h = absurd h
configuration_27 (Err e) bytes h = λ i. record { reply = plain 27; bytes = h i }

pub request_27 : (r : Result value-carried.Carried (Refused RecordFault value-carried.Carried)) (v : value-carried.Carried) → IsErrAnd r (λ e. e.left ≡ v)
    → request_outcome_of r ≡ record { reply = plain 27; response = v.response; device = record_of v.device }
request_27 (Ok _) v h = absurd h
request_27 (Err e) v h = λ i. record { reply = plain 27; response = (h i).response; device = record_of (h i).device }
