-- 'Numbers in groups of seven bits, lowest group first, high bit set where another group follows; at most 8 groups; shortest form'. Assumes nothing: these are definitions.
use Rattle.std.specs.Prelude.{Bool, true, false, cond, ◌&&◌, List, ℕ, zero, suc, ◌+◌, ◌-◌, ◌*◌, eqb, leb, ltb, length, get_or}
use Rattle.map_check.specs.Reply.{place}
use Rattle.sheet.specs.Answer.{Read, got, refused}
use Rattle.map_records.specs.Refusal as refusal

-- a low group in front of a number's higher groups
abbrev pub joined : ℕ → Read ℕ → Read ℕ
joined low (got v at) = got (low + 128 * v) at
joined low (refused r) = refused r

-- the byte of a group without another after it: 2 where it is the last of several and 0
abbrev pub last_group : Bool → ℕ → ℕ → Read ℕ
last_group several b at = cond (several && eqb b 0) (refused (place refusal.NUMBER at)) (got b (at + 1))

-- one group of the sheet s, at a place; `several` where groups stand before it, and `higher` the number of those behind it. 1 at the end.
abbrev pub group : List ℕ → Bool → ℕ → Read ℕ → Read ℕ
group s several at higher =
    cond (leb (length s) at) (refused (place refusal.SHORT (length s)))
    (cond (ltb (get_or s at 0) 128) (last_group several (get_or s at 0) at) higher)

-- a group, and up to k behind it: 2 at one with its high bit where none may follow
unfoldable pub groups : List ℕ → ℕ → Bool → ℕ → Read ℕ
groups s zero several at = group s several at (refused (place refusal.NUMBER at))
groups s (suc k) several at = group s several at (joined (get_or s at 0 - 128) (groups s k true (at + 1)))

-- the number at a place of the sheet s: 'at most 8 groups'
abbrev pub most_groups : ℕ
most_groups = 8

abbrev pub sheet_number : List ℕ → ℕ → Read ℕ
sheet_number s at = groups s (most_groups - 1) false at
