-- A table of 1,024 blocks in sixteen words of 64 bits, block b in bit b % 64 of word b / 64. Assumes nothing: these are definitions.
use Rattle.std.specs.Prelude.{Bool, true, false, cond, ◌&&◌, ◌||◌, not, List, [], ◌∷◌, ◌≡◌, ℕ, zero, suc, ◌+◌, ◌*◌, ◌/◌, ◌%◌, ◌^◌, ◌<◌, eqb, leb, ltb, length, get_or}

-- 'at most 1,024 blocks', in sixteen words
abbrev pub most_blocks : ℕ
most_blocks = 1024

abbrev pub table_length : ℕ
table_length = 16

-- sixteen words of 64 bits: what the type of a table in the code, [u64; 16], says
pub record IsTable (t : List ℕ) : Type 0 where
  pub size : length t ≡ table_length
  pub words : (i : ℕ) → i < table_length → get_or t i 0 < 2 ^ 64

-- bit k of a word
abbrev pub bit_of : ℕ → ℕ → Bool
bit_of w k = eqb (w / 2 ^ k % 2) 1

-- block b of a table
abbrev pub bit_at : List ℕ → ℕ → Bool
bit_at t b = bit_of (get_or t (b / 64) 0) (b % 64)

-- the word whose bits below n are those of f
unfoldable pub word_of : (ℕ → Bool) → ℕ → ℕ
word_of f zero = 0
word_of f (suc k) = word_of f k + cond (f k) (2 ^ k) 0

-- n words of the blocks from word i on, and the table whose blocks are those of f
unfoldable pub words_of : (ℕ → Bool) → ℕ → ℕ → List ℕ
words_of f i zero = []
words_of f i (suc n) = word_of (λ k. f (i * 64 + k)) 64 ∷ words_of f (suc i) n

unfoldable pub table_of : (ℕ → Bool) → List ℕ
table_of f = words_of f 0 table_length

-- block b is one of the n blocks from `from` on
abbrev pub within : ℕ → ℕ → ℕ → Bool
within from n b = leb from b && ltb b (from + n)

-- a table with the n blocks from `from` on set or not
abbrev pub turned : List ℕ → ℕ → ℕ → Bool → List ℕ
turned t from n on = table_of (λ b. cond (within from n b) on (bit_at t b))

-- how many of the n blocks from `from` on are set
unfoldable pub held_in : List ℕ → ℕ → ℕ → ℕ
held_in t from zero = 0
held_in t from (suc n) = held_in t from n + cond (bit_at t (from + n)) 1 0

-- how many of a word's lowest n bits are set; how many blocks of the first n words of a table are set
unfoldable pub bits_in : ℕ → ℕ → ℕ
bits_in w zero = 0
bits_in w (suc n) = bits_in w n + cond (bit_of w n) 1 0

unfoldable pub set_in : List ℕ → ℕ → ℕ
set_in t zero = 0
set_in t (suc n) = set_in t n + bits_in (get_or t n 0) 64

-- f holds of each of the first n blocks; of one of them
unfoldable pub all_below : (ℕ → Bool) → ℕ → Bool
all_below f zero = true
all_below f (suc n) = all_below f n && f n

unfoldable pub any_below : (ℕ → Bool) → ℕ → Bool
any_below f zero = false
any_below f (suc n) = any_below f n || f n

-- every block of a table's 1,024 of which f holds is one of which g holds too; is below n
abbrev pub implies : (ℕ → Bool) → (ℕ → Bool) → Bool
implies f g = all_below (λ b. not (f b) || g b) most_blocks

abbrev pub only : (ℕ → Bool) → ℕ → Bool
only f n = implies f (λ b. ltb b n)
