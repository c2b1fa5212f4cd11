-- The whole sheet: 'First the node count, then for each node ..', left to right; then the check of the map. Assumes nothing: these are definitions.
use Rattle.std.specs.Prelude.{cond, List, ℕ, zero, suc, ltb, length, set}
use Rattle.map_records.specs.Map.{blank_map}
use Rattle.map_records.specs.Words.{map_words}
use Rattle.map_check.specs.Reply.{Reply, accepted, place, plain, if_accepted, Laid, laid_into}
use Rattle.map_check.specs.Check.{count_fault, judged}
use Rattle.map_records.specs.Refusal as refusal
use Rattle.map_records.specs.Limits.{is_map}
use Rattle.map_records.specs.declared.map.Region.{Region}
use Rattle.map_records.specs.declared.map.RegionMap.{RegionMap}
use Rattle.sheet.specs.Answer.{Read, got, refused, next}
use Rattle.sheet.specs.Number.{sheet_number}
use Rattle.sheet.specs.Region.{sheet_region}

abbrev pub with_region : ℕ → Region → RegionMap → RegionMap
with_region n r m = record { count = m.count; regions = set m.regions n r }

-- k more regions, the next of them region n, put into the map m
unfoldable pub regions_from : List ℕ → ℕ → ℕ → RegionMap → ℕ → Read RegionMap
regions_from s zero n m at = got m at
regions_from s (suc k) n m at = next (sheet_region s at) (λ r then. regions_from s k (suc n) (with_region n r m) then)

-- the map of a sheet, without what may follow it: 3 at the count's first byte, at once
unfoldable pub map_at : List ℕ → Read RegionMap
map_at s = next (sheet_number s 0) (λ n then. cond (count_fault n) (refused (place refusal.COUNT 0)) (regions_from s n 0 (blank_map n) then))

-- document 01's answer, and the map: the empty map with every refusal
pub record SheetOutcome : Type 0 where
  pub reply : Reply
  pub map : RegionMap

abbrev pub sheet_refusal : Reply → SheetOutcome
sheet_refusal r = record { reply = r; map = blank_map 0 }

-- 'Then 6 to 11 in order'
abbrev pub checked : RegionMap → Reply → SheetOutcome
checked m r = if_accepted r sheet_refusal (record { reply = accepted; map = m })

-- 5: 'bytes remain', at the first left over
abbrev pub read_to_end : List ℕ → ℕ → Read RegionMap → SheetOutcome
read_to_end s memory (got m at) = cond (ltb at (length s)) (sheet_refusal (place refusal.TAIL at)) (checked m (judged m memory))
read_to_end s memory (refused r) = sheet_refusal r

-- the sheet s over a memory of so many bytes
unfoldable pub read_sheet : List ℕ → ℕ → SheetOutcome
read_sheet s memory = read_to_end s memory (map_at s)

-- what reading a sheet leaves in the lent words; words that are not a map's are refused as a record is
abbrev pub map_laid : SheetOutcome → List ℕ → Laid
map_laid o old = laid_into o.reply (map_words o.map) old

unfoldable pub read_into : List ℕ → ℕ → List ℕ → Laid
read_into s memory map = cond (is_map map) (map_laid (read_sheet s memory) map) (record { reply = plain refusal.RECORD; words = map })
