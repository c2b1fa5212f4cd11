-- Laws of numbers as text, and of texts that are put into a buffer. Assumes nothing.
use mathlib.Core.Path.{◌≡◌, refl, sym, ap, subst, ◌∙◌}
use mathlib.Core.Bool.{false}
use mathlib.Core.List.{List, [], ◌∷◌, ◌++◌, append_assoc}
use Prim.Native.Nat.{ℕ, zero, suc, ◌-◌, ◌*◌, ◌/◌, ◌^◌, ◌≤◌, ◌<◌}
use native.Mathlib.Nat.{div-lt_iff_lt-mul, le-div_iff_mul-le, pow-zero, pow-suc, one-mul, one-le-pow, pow-le-pow_right, mul-le-mul_right}
use native.Mathlib.Decide.{dec_le}
use native.Mathlib.Omega.{arith}
use borrow.Author.Tests.{lt-ltb, le-ltb}
use Rattle.io.specs.Digits.{last_digits, IsDigitCount}
use Rattle.std.specs.Prelude.{Result, Ok, Err}
use Rattle.map_check.specs.Reply.{Reply, accepted, passes, number_of, if_accepted}
use Rattle.map_check.proofs.Replies.{refused_first}
use Rattle.map_records.specs.Words.{map_of}
use Rattle.map_records.specs.declared.map.RegionMap.{RegionMap}
use Rattle.sheet.specs.Answer.{sheet_fault_reply}
use Rattle.sheet.specs.Sheet.{SheetOutcome}
use Rattle.sheet.specs.declared.answer.SheetFault.{SheetFault}
use Rattle.sheet.proofs.ReadLaws.{ReadAs, read_accepted, read_refused, fault_not}
use Rattle.listing.specs.Text.{places, hex_text, decimal_text, refusal_text, refused_text, Fills}

-- ---- numbers

power_one : (b : ℕ) → b ^ 1 ≡ b
power_one b = pow-suc b 0 ∙ ap (λ (x : ℕ). x * b) (pow-zero b) ∙ one-mul b

-- the number of digits is what the fewest are
pub fewest_places : (b k f n : ℕ) → 1 < b → k ≤ f → IsDigitCount b 1 n (suc k) → places b f n ≡ suc k
unfolding places
fewest_places b zero zero n h l w = refl
fewest_places b zero (suc f) n h l w = rw (lt-ltb n b (rw power_one at w.1))
fewest_places b (suc k) zero n h l w = absurd (omega arith)
fewest_places b (suc k) (suc f) n h l w =
    let pos : 0 < b = omega arith in
    let e : suc (suc k) - 1 ≡ suc k = omega arith in
    let low : b ^ suc k ≤ n = rw e at (w.2 (omega arith)) in
    let unit = one-le-pow k b pos in
    let big : b ≤ n = omega (arith, pow-suc b k, low, mul-le-mul_right b unit, one-mul b) in
    let step : IsDigitCount b 1 (n / b) (suc k) = (
      omega arith,
      (div-lt_iff_lt-mul pos).1 (rw (← pow-suc b (suc k)) w.1),
      λ _. let z : suc k - 1 ≡ k = omega arith in rw z ((le-div_iff_mul-le pos).1 (rw (← pow-suc b k) low)),
    ) in
    rw (le-ltb n b big) (ap suc (fewest_places b k f (n / b) h (omega arith) step))

-- the digits that the kit spells are a number's text
module _ (b f : ℕ) (base : 1 < b) where
  spelled : (n k : ℕ) → k ≤ suc f → IsDigitCount b 1 n k → last_digits b k n ≡ last_digits b (places b f n) n
  spelled n zero h w = absurd (omega (arith, w.0))
  spelled n (suc k) h w = ap (λ (j : ℕ). last_digits b j n) (sym (fewest_places b k f n base (omega arith) w))

pub hex_spelled : (n k : ℕ) → k ≤ 16 → IsDigitCount 16 1 n k → last_digits 16 k n ≡ hex_text n
unfolding hex_text
hex_spelled n k h w = spelled 16 15 (omega arith) n k h w

pub decimal_spelled : (n k : ℕ) → k ≤ 20 → IsDigitCount 10 1 n k → last_digits 10 k n ≡ decimal_text n
unfolding decimal_text
decimal_spelled n k h w = spelled 10 19 (omega arith) n k h w

-- a number below b ^ f has at most f digits
pub fewest_bound : (b f n k : ℕ) → 0 < b → 0 < f → n < b ^ f → IsDigitCount b 1 n k → k ≤ f
fewest_bound b f n k p q h w = go (dec_le k f)
  where
    go : Dec (k ≤ f) → k ≤ f
    go (yes l) = l
    go (no l) =
        let low : b ^ (k - 1) ≤ n = w.2 (omega arith) in
        let up : b ^ f ≤ b ^ (k - 1) = pow-le-pow_right p (omega arith) in
        absurd (omega arith)

-- the digits of a number at the end of a text, with a byte behind them
pub pushed : (digits t old : List ℕ) {more new : List ℕ} (byte : ℕ) → digits ≡ t → more ≡ old ++ digits → new ≡ more ++ (byte ∷ []) → new ≡ old ++ (t ++ (byte ∷ []))
pushed digits t old byte d m e =
    e ∙ ap (λ (l : List ℕ). l ++ (byte ∷ [])) (m ∙ ap (λ (l : List ℕ). old ++ l) d) ∙ append_assoc old t (byte ∷ [])

-- ---- texts in a buffer

-- the text of a call that goes on only where nothing is refused
module _ (r : Reply) (x : List ℕ) {old new : List ℕ} {k : ℕ} where
  pub fills_refused : {n : ℕ} → passes r ≡ false → n ≡ number_of r → Fills (refusal_text n) old k new → Fills (if_accepted r refused_text x) old k new
  fills_refused p e f = subst (λ (t : List ℕ). Fills t old k new) (ap refusal_text e ∙ refused_first refused_text x r r refl p) f

  pub fills_passed : r ≡ accepted → Fills x old k new → Fills (if_accepted r refused_text x) old k new
  fills_passed e f = subst (λ (q : Reply). Fills (if_accepted q refused_text x) old k new) (sym e) f

-- the same of a sheet that was read: `made` is the text of its map
module _ {o : SheetOutcome} {a : Result Unit SheetFault} {words : List ℕ} (told : ReadAs o a words) (made : RegionMap → List ℕ) {old new : List ℕ} {k : ℕ} where
  pub sheet_refused : {f : SheetFault} {n : ℕ} → a ≡ Err f → n ≡ number_of (sheet_fault_reply f)
      → Fills (refusal_text n) old k new → Fills (if_accepted o.reply refused_text (made o.map)) old k new
  sheet_refused {f} z e x =
      let q : o.reply ≡ sheet_fault_reply f = read_refused told z in
      fills_refused o.reply (made o.map) (ap passes q ∙ fault_not f) (e ∙ ap number_of (sym q)) x

  pub sheet_passed : {u : Unit} → a ≡ Ok u → Fills (made (map_of words)) old k new → Fills (if_accepted o.reply refused_text (made o.map)) old k new
  sheet_passed z f = fills_passed o.reply (made o.map) (read_accepted told z) (subst (λ (m : RegionMap). Fills (made m) old k new) (told.map z) f)
