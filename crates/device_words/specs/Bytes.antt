-- Numbers as little-endian bytes, and the layouts of source 000. Assumes nothing: these are definitions.
use Rattle.std.specs.Prelude.{List, [], ◌∷◌, ◌++◌, ℕ, zero, suc, ◌+◌, ◌*◌, ◌/◌, ◌%◌, get_or, replicate}

-- the k bytes of n, the lowest first
unfoldable pub le : ℕ → ℕ → List ℕ
le zero n = []
le (suc k) n = (n % 256) ∷ le k (n / 256)

-- the number in the k bytes from a place on, the lowest first, where `byte` gives the byte at each place; of a list of bytes
unfoldable pub number_by : (ℕ → ℕ) → ℕ → ℕ → ℕ
number_by byte at zero = 0
number_by byte at (suc k) = byte at + 256 * number_by byte (suc at) k

abbrev pub le_number : List ℕ → ℕ → ℕ → ℕ
le_number s at k = number_by (λ i. get_or s i 0) at k

-- 'Requests: 24 bytes .. responses 10'; 'The configuration is 56 bytes'
abbrev pub request_length : ℕ
request_length = 24

abbrev pub response_length : ℕ
response_length = 10

abbrev pub configuration_length : ℕ
configuration_length = 56

-- a response: type, padding, state
unfoldable pub response_bytes : ℕ → ℕ → List ℕ
response_bytes kind state = le 2 kind ++ replicate 6 0 ++ le 2 state

-- 'The configuration is 56 bytes in 000's layout, node_id and padding 0': block size, node_id, padding, addr, region, usable, plugged and requested size
unfoldable pub configuration_bytes : ℕ → ℕ → ℕ → ℕ → ℕ → ℕ → List ℕ
configuration_bytes block addr region usable plugged requested =
    le 8 block ++ le 2 0 ++ replicate 6 0 ++ le 8 addr ++ le 8 region ++ le 8 usable ++ le 8 plugged ++ le 8 requested
