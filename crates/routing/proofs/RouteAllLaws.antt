-- Laws of many accesses at once: four words stored, the answers written in turn, and what judging the records once gives. Assumes nothing.
use mathlib.Core.Path.{◌≡◌, refl, sym, ap, ◌∙◌, fun_ext}
use mathlib.Core.Bool.{Bool, true, false, ◌&&◌}
use mathlib.Core.List.{List}
use Prim.Native.Nat.{ℕ, zero, suc, ◌+◌, ◌-◌, ◌*◌, ◌/◌, ◌%◌, ◌≤◌, ◌<◌}
use native.Mathlib.Numerals.{add-one}
use native.Mathlib.Omega.{arith}
use lib.Dec.{eqb}
use lib.ListN.{replicate, length, get_or, drop, length-append}
use Rattle.std.specs.Simd.{first_chunks}
use Rattle.std.proofs.lemmas.List.{get_or-drop}
use lib.Seq.{get_or-take}
use native.Mathlib.Nat.{suc-mul}
use lib.Seq.{sets}
use borrow.Author.Tests.{eqb-true, eqb-false, eq-eqb, ne_eqb}
use Rattle.map_check.proofs.Bools.{never, and_fst, and_snd, and_true, and_off}
use Rattle.map_records.specs.View.{entries}
use Rattle.map_records.specs.declared.view.FlatView.{FlatView}
use Rattle.device_words.specs.Device.{MemoryDevice, device_ok, plugged_in}
use Rattle.device_words.specs.Words.{device_of, device_length}
use Rattle.device_words.proofs.DeviceWords.{device_at_lem, plugged_length}
use Rattle.device_words.proofs.RuleLaws.{device_valid}
use Rattle.guest_view.specs.Guest.{leaf_at}
use Rattle.guest_view.specs.View.{view_ok, no_region_bound}
use Rattle.routing.specs.Route.{Routed, refused, to_memory, to_port, routed, routed_with, routed_without, answer_words, answers_to, answers_fit, all_routed, routed_given, all_given, routed_by, fault_number, all_number}
use Rattle.routing.specs.Promises.{given_ok}
use Rattle.std.specs.Prelude.{Option, None, Some, Result, Ok, Err}
use Rattle.std.specs.Result.{IsErr, IsErrAnd}
use Rattle.map_check.specs.declared.answer.RecordFault.{RecordFault}
use Rattle.routing.specs.declared.answer.Route.{Route}
use Rattle.routing.specs.declared.answer.RouteFault.{RouteFault}
use Rattle.routing.specs.declared.answer.RouteFault.TheVariants.{Record}
use Rattle.map_records.proofs.StoreLaws.{sets_append, over}
use Rattle.routing.proofs.RouteLaws.{nothing_plugged}

-- ---- do the answers fit the accesses?

-- twice a number, without the product
double : (n m : ℕ) → (eqb (n % 2) 0 && eqb (n / 2) m) ≡ eqb n (2 * m)
double n m = go (eqb (n % 2) 0) refl (eqb (n / 2) m) refl
  where
    go : (x : Bool) → eqb (n % 2) 0 ≡ x → (y : Bool) → eqb (n / 2) m ≡ y → (x && y) ≡ eqb n (2 * m)
    go true e true f = sym (eq-eqb n (2 * m) (omega (arith, eqb-true (n % 2) 0 e, eqb-true (n / 2) m f)))
    go true e false f = sym (ne_eqb n (2 * m) (λ q. eqb-false (n / 2) m f (omega (arith, q))))
    go false e y f = sym (ne_eqb n (2 * m) (λ q. eqb-false (n % 2) 0 e (omega (arith, q))))

module _ (accesses answers : List ℕ) where
  pub fit_halves : ((eqb (length accesses % 2) 0 && eqb (length answers % 2) 0) && eqb (length answers / 2) (length accesses)) ≡ answers_fit accesses answers
  fit_halves = go (eqb (length accesses % 2) 0)
    where
      go : (b : Bool) → ((b && eqb (length answers % 2) 0) && eqb (length answers / 2) (length accesses)) ≡ (b && eqb (length answers) (2 * length accesses))
      go true = double (length answers) (length accesses)
      go false = refl

  pub fit_length : answers_fit accesses answers ≡ true → length answers ≡ 4 * (length accesses / 2)
  fit_length e =
      let x = eqb (length accesses % 2) 0 in
      let y = eqb (length answers) (2 * length accesses) in
      omega (arith, eqb-true (length accesses % 2) 0 (and_fst x y e), eqb-true (length answers) (2 * length accesses) (and_snd x y e))

-- ---- the accesses two by two
chunk_at : (n k : ℕ) (xs : List ℕ) (i j : ℕ) (d : List ℕ) → i < k → j < n → get_or (get_or (first_chunks n k xs) i d) j 0 ≡ get_or xs (i * n + j) 0
chunk_at n zero xs i j d h b = absurd (omega arith)
chunk_at n (suc k) xs zero j d h b = get_or-take n xs j 0 b ∙ ap (λ (z : ℕ). get_or xs z 0) (omega arith)
chunk_at n (suc k) xs (suc i) j d h b =
    chunk_at n k (drop n xs) i j d (omega arith) b ∙ get_or-drop n xs (i * n + j) 0 ∙ ap (λ (z : ℕ). get_or xs z 0) (let e : n + (i * n + j) ≡ suc i * n + j = omega (arith, suc-mul i n) in e)

module _ (k : ℕ) (xs : List ℕ) {pairs : List (List ℕ)} (same : pairs ≡ first_chunks 2 k xs) (i : ℕ) (d : List ℕ) (h : i < k) where
  pub pair_first : get_or (get_or pairs i d) 0 0 ≡ get_or xs (2 * i) 0
  pair_first = rw same (chunk_at 2 k xs i 0 d h (omega arith) ∙ ap (λ (z : ℕ). get_or xs z 0) (let z : i * 2 + 0 ≡ 2 * i = omega arith in z))

  pub pair_second : get_or (get_or pairs i d) 1 0 ≡ get_or xs (2 * i + 1) 0
  pair_second = rw same (chunk_at 2 k xs i 1 d h (omega arith) ∙ ap (λ (z : ℕ). get_or xs z 0) (let z : i * 2 + 1 ≡ 2 * i + 1 = omega arith in z))

-- ---- the answers in turn
pub answer_length : (r : Routed) → length (answer_words r) ≡ 4
answer_length (refused n) = refl
answer_length (to_memory p) = refl
answer_length (to_port p o) = refl

module _ (f : ℕ → ℕ → Routed) (accesses : List ℕ) where
  answers_length : (i n : ℕ) → length (answers_to f accesses i n) ≡ 4 * n
  unfolding answers_to
  answers_length i zero = refl
  answers_length i (suc n) =
      let r = f (get_or accesses (2 * i) 0) (get_or accesses (2 * i + 1) 0) in
      length-append (answer_words r) (answers_to f accesses (suc i) n) ∙ omega (arith, answer_length r, answers_length (suc i) n)

  pub answers_start : (w : List ℕ) (n : ℕ) → length w ≡ 4 * n → sets w (4 * 0) (answers_to f accesses 0 (n - 0)) ≡ answers_to f accesses 0 n
  answers_start w n e =
      let z : n - 0 ≡ n = omega arith in
      rw z (over (answers_to f accesses 0 n) w (e ∙ sym (answers_length 0 n)))

  turn : (w : List ℕ) (i n : ℕ)
      → sets w (4 * i) (answers_to f accesses i (suc n))
      ≡ sets (sets w (4 * i) (answer_words (f (get_or accesses (2 * i) 0) (get_or accesses (2 * i + 1) 0)))) (4 * suc i) (answers_to f accesses (suc i) n)
  unfolding answers_to
  turn w i n =
      let r = f (get_or accesses (2 * i) 0) (get_or accesses (2 * i + 1) 0) in
      let e : 4 * i + length (answer_words r) ≡ 4 * suc i = omega (arith, answer_length r) in
      sets_append w (4 * i) (answer_words r) (answers_to f accesses (suc i) n)
      ∙ ap (λ (k : ℕ). sets (sets w (4 * i) (answer_words r)) k (answers_to f accesses (suc i) n)) e

  pub answers_turn : (w : List ℕ) (i n : ℕ) → i < n
      → sets (sets w (4 * i) (answer_words (f (get_or accesses (2 * i) 0) (get_or accesses (2 * i + 1) 0)))) (4 * (i + 1)) (answers_to f accesses (i + 1) (n - (i + 1)))
      ≡ sets w (4 * i) (answers_to f accesses i (n - i))
  answers_turn w i n h =
      let e : n - i ≡ suc (n - suc i) = omega arith in
      rw (add-one i, e) (sym (turn w i (n - suc i)))

  pub answers_end : (w : List ℕ) (at i n : ℕ) → n ≤ i → sets w at (answers_to f accesses i (n - i)) ≡ w
  unfolding answers_to
  answers_end w at i n h = let e : n - i ≡ 0 = omega arith in rw e

-- ---- the records judged once
module _ (ok : Bool) (f : ℕ → ℕ → Routed) (accesses answers : List ℕ) where
  pub all_refused : (ok && answers_fit accesses answers) ≡ false → all_routed ok f accesses answers ≡ record { number = 27; answers = answers }
  unfolding all_routed
  all_refused e = rw e

  all_answered : (ok && answers_fit accesses answers) ≡ true → (g : ℕ → ℕ → Routed) → f ≡ g
      → all_routed ok f accesses answers ≡ record { number = 0; answers = answers_to g accesses 0 (length accesses / 2) }
  unfolding all_routed
  all_answered e g s = rw (e, s)

-- ---- a device whose words 27 accepts
module _ (words : List ℕ) (size : length words ≡ device_length) (ok : device_ok (device_of words) ≡ true) where
  pub block_big : (block : ℕ) → block ≡ (device_of words).block_size → 8 ≤ block
  block_big block e = omega (arith, (device_valid (device_of words) ok).least)

  pub table_words : (table : List ℕ) → table ≡ (device_of words).plugged → length table ≡ 16
  table_words table e = ap length e ∙ ap (λ (d : MemoryDevice). length d.plugged) (device_at_lem words size) ∙ plugged_length words size

-- ---- 27 first, then the access
module _ (v : FlatView) (memory : ℕ) (d : MemoryDevice) where
  pub view_and_device : view_ok v memory d.region_size ≡ true → device_ok d ≡ true → (view_ok v memory d.region_size && device_ok d) ≡ true
  view_and_device p q = and_true (view_ok v memory d.region_size) (device_ok d) p q

  pub device_off : device_ok d ≡ false → (view_ok v memory d.region_size && device_ok d) ≡ false
  device_off q = ap (λ (x : Bool). view_ok v memory d.region_size && x) q ∙ and_off (view_ok v memory d.region_size)

  pub view_off : view_ok v memory d.region_size ≡ false → (view_ok v memory d.region_size && device_ok d) ≡ false
  view_off p = ap (λ (x : Bool). x && device_ok d) p

  pub judged_with : (block : ℕ) (table : List ℕ) → block ≡ d.block_size → table ≡ d.plugged → (view_ok v memory d.region_size && device_ok d) ≡ true
      → routed_with v memory d ≡ routed (leaf_at (entries v)) (plugged_in block table)
  unfolding routed_with
  judged_with block table is holds ok = fun_ext (λ a. fun_ext (λ w. rw (ok, is, holds)))

module _ (v : FlatView) (memory : ℕ) where
  pub judged_without : (block : ℕ) → view_ok v memory no_region_bound ≡ true → routed_without v memory ≡ routed (leaf_at (entries v)) (plugged_in block (replicate 16 0))
  unfolding routed_without
  judged_without block e = fun_ext (λ a. fun_ext (λ w. rw (e, nothing_plugged block)))

  -- an access is refused with 27
  pub refused_given : (d : Option MemoryDevice) → given_ok v memory d ≡ false → (a w : ℕ) → refused 27 ≡ routed_given v memory d a w
  unfolding routed_with routed_without
  refused_given None e a w = rw e
  refused_given (Some d) e a w = rw e

  -- many accesses are refused, or each is answered
  module _ (accesses answers : List ℕ) where
    all_by : (d : Option MemoryDevice) → all_given v memory d accesses answers ≡ all_routed (given_ok v memory d) (routed_given v memory d) accesses answers
    all_by None = refl
    all_by (Some d) = refl

    pub given_refused : (d : Option MemoryDevice) → (given_ok v memory d && answers_fit accesses answers) ≡ false → all_given v memory d accesses answers ≡ record { number = 27; answers = answers }
    given_refused d e = all_by d ∙ all_refused (given_ok v memory d) (routed_given v memory d) accesses answers e

    pub given_answered : (d : Option MemoryDevice) → given_ok v memory d ≡ true → answers_fit accesses answers ≡ true → (g : ℕ → ℕ → Routed) → routed_given v memory d ≡ g
        → all_given v memory d accesses answers ≡ record { number = 0; answers = answers_to g accesses 0 (length accesses / 2) }
    given_answered d ok fit g s = all_by d ∙ all_answered (given_ok v memory d) (routed_given v memory d) accesses answers (and_true (given_ok v memory d) (answers_fit accesses answers) ok fit) g s

-- ---- what a `?` after judging the records returns
pub record_given : (r : Result Route RouteFault) → IsErrAnd r (λ e. e ≡ Record) → routed_by r ≡ refused 27
record_given (Err e) h = ap (λ (f : RouteFault). refused (fault_number f)) h
record_given (Ok a) h = absurd h

pub record_counts : (r : Result Unit RecordFault) → IsErr r → all_number r ≡ 27
record_counts (Err e) h = refl
record_counts (Ok a) h = absurd (never (sym h))
