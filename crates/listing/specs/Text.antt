-- Numbers and refusals as text, and a text in a lent buffer. Assumes nothing: these are definitions.
use Rattle.std.specs.Prelude.{◌≡◌, cond, List, [], ◌∷◌, ◌++◌, ℕ, zero, suc, ◌/◌, leb, ltb, length, drop}
use Rattle.io.specs.Digits.{last_digits}
use Rattle.map_check.specs.Reply.{Reply, number_of}

-- how many digits n has in base b, up to k + 1
unfoldable pub places : ℕ → ℕ → ℕ → ℕ
places b zero n = 1
places b (suc k) n = cond (ltb n b) 1 (suc (places b k (n / b)))

-- a number below 2^64 in hexadecimal, 'in lower case without prefix', and in decimal
unfoldable pub hex_text : ℕ → List ℕ
hex_text n = last_digits 16 (places 16 15 n) n

unfoldable pub decimal_text : ℕ → List ℕ
decimal_text n = last_digits 10 (places 10 19 n) n

-- a word with a space behind it, and one at the end of its line
abbrev pub spaced : List ℕ → List ℕ
spaced word = word ++ (0x20 ∷ [])

abbrev pub ended_line : List ℕ → List ℕ
ended_line word = word ++ (0x0a ∷ [])

-- 'A refused sheet prints `refused N`'
unfoldable pub refusal_text : ℕ → List ℕ
refusal_text n = (0x72 ∷ 0x65 ∷ 0x66 ∷ 0x75 ∷ 0x73 ∷ 0x65 ∷ 0x64 ∷ 0x20 ∷ []) ++ ended_line (decimal_text n)

abbrev pub refused_text : Reply → List ℕ
refused_text r = refusal_text (number_of r)

-- A text in a lent buffer, from `old` to `new`, where r is returned: r is the text's length; where the buffer has room its first bytes are the text and the others are as they were, and where it has not all are.
pub record Fills (text old : List ℕ) (r : ℕ) (new : List ℕ) : Type 0 where
  pub size : r ≡ length text
  pub bytes : new ≡ cond (leb (length text) (length old)) (text ++ drop (length text) old) old
