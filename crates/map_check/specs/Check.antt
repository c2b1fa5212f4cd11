-- The check of a given map against the length of guest memory: 3, 4 and 6 to 11. Assumes nothing: these are definitions.
use Rattle.std.specs.Prelude.{Bool, cond, ◌||◌, ◌≡◌, List, ℕ, eqb, ltb, Result}
use Rattle.map_records.specs.Map.{region}
use Rattle.map_records.specs.Words.{map_of}
use Rattle.map_check.specs.Reply.{Reply, accepted, nodes, reply_by, ◌then◌, lowest, first_pair}
use Rattle.map_check.specs.Fault.{kind_fault, field_fault, link_fault, memory_fault}
use Rattle.map_check.specs.Clash.{priority_of, memory_clash, managed_clash, port_clash, sibling_clash}
use Rattle.map_records.specs.Refusal as refusal
use Rattle.map_records.specs.Limits.{most_regions}
use Rattle.map_records.specs.declared.map.Region.{Region}
use Rattle.map_records.specs.declared.map.RegionMap.{RegionMap}
use Rattle.map_check.specs.declared.check.MapFault.{MapFault}
use Rattle.map_check.specs.declared.check.MapFault.TheVariants as fault

-- document 01's number and nodes for each fault of a map
abbrev pub fault_reply : MapFault → Reply
fault_reply fault.Count = nodes refusal.COUNT 0 0
fault_reply (fault.Kind n) = nodes refusal.KIND n n
fault_reply (fault.Field n) = nodes refusal.FIELD n n
fault_reply (fault.Link n) = nodes refusal.LINK n n
fault_reply (fault.Memory i j) = nodes refusal.MEMORY i j
fault_reply (fault.Managed i j) = nodes refusal.MANAGED i j
fault_reply (fault.Port i j) = nodes refusal.PORT i j
fault_reply (fault.Overlap i j) = nodes refusal.OVERLAP i j

-- and for each answer of the check
abbrev pub reply : {A : Type 0} → Result A MapFault → Reply
reply = reply_by fault_reply

-- 3: 'node count 0 or over 32'
abbrev pub count_fault : ℕ → Bool
count_fault n = eqb n 0 || ltb most_regions n

-- 'A call that is given a map repeats 3 (node 0 twice), 4 (the node twice) and 6 to 11', each over the whole map; 'in 8, ends past the memory come before pairs'. 11 goes by what a region's priority is.
unfoldable pub judged_by : (Region → ℕ) → RegionMap → ℕ → Reply
judged_by priority m memory =
    cond (count_fault m.count) (nodes refusal.COUNT 0 0) accepted
    then lowest refusal.KIND (λ n. kind_fault (region m n).kind) m.count
    then lowest refusal.FIELD (λ n. field_fault (region m n)) m.count
    then lowest refusal.LINK (λ n. link_fault m n) m.count
    then lowest refusal.MEMORY (λ n. memory_fault memory (region m n)) m.count
    then first_pair refusal.MEMORY (λ i j. memory_clash (region m i) (region m j)) m.count
    then first_pair refusal.MANAGED (λ i j. managed_clash (region m i) (region m j)) m.count
    then first_pair refusal.PORT (λ i j. port_clash (region m i) (region m j)) m.count
    then first_pair refusal.OVERLAP (λ i j. sibling_clash priority m i j) m.count

-- the check, with a priority's present meaning
abbrev pub judged : RegionMap → ℕ → Reply
judged = judged_by priority_of

-- 'A map that 1 to 11 let pass is accepted'
unfoldable pub Accepted : RegionMap → ℕ → Type 0
Accepted m memory = judged m memory ≡ accepted

-- words that the check accepted, over some length of guest memory
pub record Checked (w : List ℕ) : Type 0 where
  pub memory : ℕ
  pub accepted : Accepted (map_of w) memory
