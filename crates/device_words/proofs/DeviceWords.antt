-- Laws of a device's 37 words: what they stand for, and what a store into a part of them leaves. Assumes nothing.
use mathlib.Core.Path.{◌≡◌, refl, sym, ap, ◌∙◌}
use mathlib.Core.Bool.{Bool, true, false, ◌&&◌}
use mathlib.Core.List.{List, [], ◌∷◌, ◌++◌, append-nil}
use mathlib.Core.Logic.{⊎_elim}
use Prim.Native.Nat.{ℕ, ◌+◌, ◌^◌, ◌<◌}
use native.Mathlib.Omega.{arith}
use lib.Dec.{lit<}
use lib.ListN.{length, get_or, take, drop, length-append, length-take, length-drop, take-append-drop, drop_of_length-le}
use lib.Seq.{take_all, take_at, drop_at, get_or-take, get_or-drop}
use borrow.Author.Tests.{eq-eqb, ne_eqb, eqb-true, eqb-false}
use Rattle.map_records.proofs.Order.{eq_or_not}
use Rattle.map_check.proofs.Bools.{and_fst, and_snd}
use Rattle.device_words.specs.Table.{IsTable}
use Rattle.device_words.specs.Device.{MemoryDevice, no_device, with_tables, with_plugged, with_pins, power_below, setup_ok, setup_kept, tables_ok, device_ok}
use Rattle.device_words.specs.Words.{is_device, device_at, device_of, device_words, device_length}
use Rattle.device_words.proofs.TableLaws.{zero_word}

-- what words stand for
pub device_at_lem : (w : List ℕ) → length w ≡ device_length → device_of w ≡ device_at w
unfolding device_of
device_at_lem w l = rw (eq-eqb (length w) device_length l)

pub device_none : (w : List ℕ) → (length w ≡ device_length → ⊥) → device_of w ≡ no_device
unfolding device_of
device_none w n = rw (ne_eqb (length w) device_length n)

-- 27 refuses the record of zeros
pub none_refused : device_ok no_device ≡ false
unfolding device_ok setup_ok power_below
none_refused = refl

-- the lengths of the two tables
pub plugged_length : (w : List ℕ) → length w ≡ device_length → length (take 16 (drop 5 w)) ≡ 16
plugged_length w l = omega (arith, length-take 16 (drop 5 w), length-drop 5 w)

pub pins_length : (w : List ℕ) → length w ≡ device_length → length (take 16 (drop 21 w)) ≡ 16
pins_length w l = omega (arith, length-take 16 (drop 21 w), length-drop 21 w)

-- the plug table of words of 64 bits, however many there are, is sixteen such words
pub words_table : (w : List ℕ) → ((i : ℕ) → get_or w i 0 < 2 ^ 64) → IsTable (device_of w).plugged
words_table w h =
    ⊎_elim
    (λ (l : length w ≡ device_length). rw (device_at_lem w l)
    (record { size = plugged_length w l; words = λ i p. rw (get_or-take 16 (drop 5 w) i 0 p, get_or-drop 5 w i 0) (h (5 + i)) }))
    (λ n. rw (device_none w n) (record { size = refl; words = λ i p. rw (zero_word 16 i) (lit< tt) }))
    (eq_or_not (length w) device_length)

-- the two halves of 32 words
pub halves : (v : List ℕ) → length v ≡ 32 → take 16 v ++ take 16 (drop 16 v) ≡ v
halves v l = ap (λ (r : List ℕ). take 16 v ++ r) (take_all 16 (drop 16 v) (omega (arith, length-drop 16 v))) ∙ take-append-drop 16 v

-- what the words of a record are where its parts were stored; each goes by the five numbers ahead
pub words_back : (w : List ℕ) → length w ≡ device_length → device_words (device_at w) ≡ w
unfolding device_words
words_back [] l = absurd (omega arith)
words_back (a ∷ []) l = absurd (omega arith)
words_back (a ∷ b ∷ []) l = absurd (omega arith)
words_back (a ∷ b ∷ c ∷ []) l = absurd (omega arith)
words_back (a ∷ b ∷ c ∷ d ∷ []) l = absurd (omega arith)
words_back (a ∷ b ∷ c ∷ d ∷ e ∷ v) l = ap (λ (r : List ℕ). a ∷ b ∷ c ∷ d ∷ e ∷ r) (halves v (omega arith))

-- words stand for a record whose words they are
pub words_of : (w : List ℕ) → length w ≡ device_length → device_words (device_of w) ≡ w
words_of w l = ap device_words (device_at_lem w l) ∙ words_back w l

-- other words in the plug table, or in the pins
pub plug_stored : (w t : List ℕ) → length w ≡ device_length → take 5 w ++ (t ++ drop 16 (drop 5 w)) ≡ device_words (with_plugged (device_at w) t)
unfolding device_words
plug_stored [] t l = absurd (omega arith)
plug_stored (a ∷ []) t l = absurd (omega arith)
plug_stored (a ∷ b ∷ []) t l = absurd (omega arith)
plug_stored (a ∷ b ∷ c ∷ []) t l = absurd (omega arith)
plug_stored (a ∷ b ∷ c ∷ d ∷ []) t l = absurd (omega arith)
plug_stored (a ∷ b ∷ c ∷ d ∷ e ∷ v) t l =
    ap (λ (r : List ℕ). a ∷ b ∷ c ∷ d ∷ e ∷ (t ++ r)) (sym (take_all 16 (drop 16 v) (omega (arith, length-drop 16 v))))

pub pins_stored : (w t : List ℕ) → length w ≡ device_length → take 21 w ++ (t ++ drop 16 (drop 21 w)) ≡ device_words (with_pins (device_at w) t)
unfolding device_words
pins_stored [] t l = absurd (omega arith)
pins_stored (a ∷ []) t l = absurd (omega arith)
pins_stored (a ∷ b ∷ []) t l = absurd (omega arith)
pins_stored (a ∷ b ∷ c ∷ []) t l = absurd (omega arith)
pins_stored (a ∷ b ∷ c ∷ d ∷ []) t l = absurd (omega arith)
pins_stored (a ∷ b ∷ c ∷ d ∷ e ∷ v) t l =
    ap (λ (r : List ℕ). a ∷ b ∷ c ∷ d ∷ e ∷ (take 16 v ++ (t ++ r))) (drop_of_length-le (drop 16 v) {i = 16} (omega (arith, length-drop 16 v)))
    ∙ ap (λ (r : List ℕ). a ∷ b ∷ c ∷ d ∷ e ∷ (take 16 v ++ r)) (append-nil t)

-- the record of a record's words
pub words_length : (d : MemoryDevice) → length d.plugged ≡ 16 → length d.pinned ≡ 16 → length (device_words d) ≡ device_length
unfolding device_words
words_length d p q = omega (arith, length-append d.plugged d.pinned)

pub record_back : (d : MemoryDevice) → length d.plugged ≡ 16 → length d.pinned ≡ 16 → device_of (device_words d) ≡ d
unfolding device_words
record_back d p q =
    device_at_lem (device_words d) (words_length d p q)
    ∙ ap (λ (t : List ℕ). with_tables d t (take 16 (drop 16 (d.plugged ++ d.pinned)))) (take_at d.plugged d.pinned 16 p)
    ∙ ap (λ (t : List ℕ). with_tables d d.plugged (take 16 t)) (drop_at d.plugged d.pinned 16 p)
    ∙ ap (λ (t : List ℕ). with_tables d d.plugged t) (take_all 16 d.pinned (omega arith))

-- other words in both tables, one after the other
pub tables_stored : (w t u p q : List ℕ) → length w ≡ device_length → t ≡ p → u ≡ q → length p ≡ 16
    → take 21 (take 5 w ++ (t ++ drop 16 (drop 5 w))) ++ (u ++ drop 16 (drop 21 (take 5 w ++ (t ++ drop 16 (drop 5 w))))) ≡ device_words (with_tables (device_at w) p q)
tables_stored w t u p q l e f h =
    let d = with_plugged (device_at w) p in
    let size = words_length d h (pins_length w l) in
    rw (e, f)
    (ap (λ (x : List ℕ). take 21 x ++ (q ++ drop 16 (drop 21 x))) (plug_stored w p l) ∙ pins_stored (device_words d) q size
    ∙ ap (λ (m : MemoryDevice). device_words (with_pins m q)) (sym (device_at_lem (device_words d) size) ∙ record_back d h (pins_length w l)))

-- the test of as many words goes on to the tables where SETUP's rules are kept
module _ (w : List ℕ) (l : length w ≡ device_length) where
  pub setup_passed : {x : Bool} → setup_kept (device_at w) ≡ true → x ≡ tables_ok (device_at w) → x ≡ device_ok (device_of w)
  unfolding device_ok
  setup_passed k e = rw (device_at_lem w l, k) e

  pub setup_failed : setup_kept (device_at w) ≡ false → false ≡ device_ok (device_of w)
  unfolding device_ok
  setup_failed k = rw (device_at_lem w l, k)

pub other_refused : (w : List ℕ) → (length w ≡ device_length → ⊥) → device_ok (device_of w) ≡ false
other_refused w other = ap device_ok (device_none w other) ∙ none_refused

-- what the test of the words says
module _ (w : List ℕ) (x : Bool) (e : x ≡ (is_device w && device_ok (device_of w))) where
  pub ok_length : x ≡ true → length w ≡ device_length
  ok_length h = eqb-true (length w) device_length (and_fst (is_device w) (device_ok (device_of w)) (sym e ∙ h))

  pub ok_device : x ≡ true → device_ok (device_of w) ≡ true
  ok_device h = and_snd (is_device w) (device_ok (device_of w)) (sym e ∙ h)

  pub not_device : x ≡ false → device_ok (device_of w) ≡ false
  not_device h = go (is_device w) refl (sym e ∙ h)
    where
      go : (y : Bool) → is_device w ≡ y → (y && device_ok (device_of w)) ≡ false → device_ok (device_of w) ≡ false
      go true p q = q
      go false p q = ap device_ok (device_none w (eqb-false (length w) device_length p)) ∙ none_refused

-- the one test gives both
pub device_first : (w : List ℕ) → (is_device w && device_ok (device_of w)) ≡ device_ok (device_of w)
device_first w = go (is_device w && device_ok (device_of w)) refl
  where
    go : (x : Bool) → (is_device w && device_ok (device_of w)) ≡ x → x ≡ device_ok (device_of w)
    go true h = sym (ok_device w true (sym h) refl)
    go false h = sym (not_device w false (sym h) refl)
