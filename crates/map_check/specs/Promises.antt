-- What the functions inside the crate promise each other, and what inner functions above it rely on of a map's words (`Counted`, `Tree`). No promise of an entry point cites these. Assumes nothing: these are definitions.
use Rattle.std.specs.Prelude.{◌≡◌, ◌≢◌, Bool, List, ℕ, ◌≤◌, ◌<◌, length, Option, Some, None}
use Rattle.map_records.specs.Map.{alias, region}
use Rattle.map_records.specs.Words.{map_of}
use Rattle.map_check.specs.Reply.{Reply, accepted, nodes, ◌then◌, lowest, first_pair}
use Rattle.map_check.specs.Fault.{kind_fault, field_fault, link_fault, memory_fault}
use Rattle.map_check.specs.Clash.{priority_of, memory_clash, managed_clash, port_clash, sibling_clash}
use Rattle.map_records.specs.Refusal as refusal
use Rattle.map_records.specs.Limits.{limit, most_regions, most_in_byte, map_length}
use Rattle.map_records.specs.declared.map.Region.{Region}
use Rattle.map_records.specs.declared.map.RegionMap.{RegionMap}

-- words of a map whose count is one that a map can have
pub record Counted (w : List ℕ) : Type 0 where
  pub words : length w ≡ map_length
  pub some : (map_of w).count ≢ 0
  pub few : (map_of w).count ≤ most_regions

-- what a closure answers for each number below n is what the rule says of it
abbrev pub Tests : ℕ → (ℕ → Bool) → (ℕ → Bool → Type 0) → Type 0
Tests n rule answers = (i : ℕ) (b : Bool) → i < n → answers i b → b ≡ rule i

-- and for each two regions
abbrev pub TestsPairs : (Region → Region → Bool) → (Region → Region → Bool → Type 0) → Type 0
TestsPairs rule answers = (a b : Region) (clash : Bool) → answers a b clash → clash ≡ rule a b

-- a rule over two regions, by their numbers in a map
abbrev pub pairs : RegionMap → (Region → Region → Bool) → ℕ → ℕ → Bool
pairs m rule i j = rule (region m i) (region m j)

-- what a search for the lowest region finds, whatever number goes with it
abbrev pub on_lowest : ℕ → Option ℕ → Reply
on_lowest k (Some i) = nodes k i i
on_lowest k None = accepted

abbrev pub LowestIs : (ℕ → Bool) → ℕ → Option ℕ → Type 0
LowestIs f n found = (k : ℕ) → lowest k f n ≡ on_lowest k found

-- what a search for the first pair finds
abbrev pub on_first : ℕ → Option (ℕ × ℕ) → Reply
on_first k (Some pair) = nodes k pair.0 pair.1
on_first k None = accepted

abbrev pub FirstIs : (ℕ → ℕ → Bool) → ℕ → Option (ℕ × ℕ) → Type 0
FirstIs f n found = (k : ℕ) → first_pair k f n ≡ on_first k found

-- the part of the check that goes over one region, and the part that goes over two
unfoldable pub on_regions : RegionMap → ℕ → Reply
on_regions m memory =
    lowest refusal.KIND (λ n. kind_fault (region m n).kind) m.count
    then lowest refusal.FIELD (λ n. field_fault (region m n)) m.count
    then lowest refusal.LINK (λ n. link_fault m n) m.count
    then lowest refusal.MEMORY (λ n. memory_fault memory (region m n)) m.count

unfoldable pub on_pairs : RegionMap → Reply
on_pairs m =
    first_pair refusal.MEMORY (λ i j. memory_clash (region m i) (region m j)) m.count
    then first_pair refusal.MANAGED (λ i j. managed_clash (region m i) (region m j)) m.count
    then first_pair refusal.PORT (λ i j. port_clash (region m i) (region m j)) m.count
    then first_pair refusal.OVERLAP (λ i j. sibling_clash priority_of m i j) m.count

-- what the walk needs of a map; `Sound` gives it
pub record Walkable (m : RegionMap) : Type 0 where
  pub count : m.count ≤ most_regions
  pub targets : (n : ℕ) → n < m.count → (region m n).kind ≡ alias → (region m n).target < n
  pub sizes : (n : ℕ) → n < m.count → (region m n).size ≤ limit
  pub aliases : (n : ℕ) → n < m.count → (region m n).alias_offset ≤ limit
  pub priorities : (n : ℕ) → n < m.count → (region m n).priority ≤ most_in_byte

-- words of a map that can be gone through
pub record Tree (w : List ℕ) : Type 0 where
  pub words : length w ≡ map_length
  pub walkable : Walkable (map_of w)
