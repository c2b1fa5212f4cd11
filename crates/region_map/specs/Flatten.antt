-- The flat view of a given map, and demand 3's first half. Assumes nothing: these are definitions.
use Rattle.std.specs.Prelude.{◌≡◌, cond, List, [], ◌++◌, ℕ, ◌-◌, eqb, ltb, length, replicate, Result}
use Rattle.map_records.specs.Map.{mmio, has_memory, region}
use Rattle.map_records.specs.View.{no_range}
use Rattle.map_records.specs.Words.{view_words}
use Rattle.map_check.specs.Reply.{Reply, accepted, plain, reply_by, if_accepted, Laid, laid_into}
use Rattle.map_check.specs.Check.{fault_reply, judged}
use Rattle.region_map.specs.Walk.{walk_root}
use Rattle.region_map.specs.FlatList.{flat, lookup, Longest}
use Rattle.map_records.specs.Refusal as refusal
use Rattle.map_records.specs.Limits.{most_ranges, is_view}
use Rattle.map_records.specs.declared.map.Region.{Region}
use Rattle.map_records.specs.declared.map.RegionMap.{RegionMap}
use Rattle.map_records.specs.declared.view.FlatRange.{FlatRange}
use Rattle.map_records.specs.declared.view.FlatView.{FlatView}
use Rattle.region_map.specs.declared.view.FlatFault.{FlatFault}
use Rattle.region_map.specs.declared.view.FlatFault.TheVariants as fault
use Rattle.region_map.specs.declared.flat.Backing.{Backing}

-- 'its node's kind and memory start or port'; a kind that has neither has 0
abbrev pub base_of : Region → ℕ
base_of r = cond (has_memory r.kind) r.memory_start (cond (eqb r.kind mmio) r.port 0)

abbrev pub backing_of : RegionMap → ℕ → Backing
backing_of m n = record { kind = (region m n).kind; base = base_of (region m n) }

-- the addresses that the root has; past them the walk answers nothing
abbrev pub root_size : RegionMap → ℕ
root_size m = (region m (m.count - 1)).size

-- the runs of the addresses below an end, made from the walk, address by address
abbrev pub flat_below : RegionMap → ℕ → List FlatRange
flat_below m end = flat (backing_of m) (walk_root m) end

-- 'The list holds all runs, ascending'
unfoldable pub flat_list : RegionMap → List FlatRange
flat_list m = flat_below m (root_size m)

-- the view of a list of at most 256: past the count all is zero
unfoldable pub view_holding : List FlatRange → FlatView
view_holding l = record { count = length l; ranges = l ++ replicate (most_ranges - length l) no_range }

-- document 01's answer, and the view: the empty view with every refusal
pub record FlatOutcome : Type 0 where
  pub reply : Reply
  pub view : FlatView

abbrev pub flat_refusal : Reply → FlatOutcome
flat_refusal r = record { reply = r; view = view_holding [] }

-- 12: 'more than 256 runs, from making the list alone'
unfoldable pub listed : List FlatRange → FlatOutcome
listed l = cond (ltb most_ranges (length l)) (flat_refusal (plain refusal.RUNS)) (record { reply = accepted; view = view_holding l })

-- the given map m over a guest memory of so many bytes: 3, 4 and 6 to 11 come first
unfoldable pub flattened : RegionMap → ℕ → FlatOutcome
flattened m memory = if_accepted (judged m memory) flat_refusal (listed (flat_list m))

-- what making the view leaves in the lent words; words that are not a view's are refused as a record is
abbrev pub view_laid : FlatOutcome → List ℕ → Laid
view_laid o old = laid_into o.reply (view_words o.view) old

unfoldable pub flattened_into : RegionMap → ℕ → List ℕ → Laid
flattened_into m memory view =
    cond (is_view view) (view_laid (flattened m memory) view) (record { reply = plain refusal.RECORD; words = view })

-- document 01's number for each fault of making a view, with the map's nodes
abbrev pub flat_fault_reply : FlatFault → Reply
flat_fault_reply (fault.Map f) = fault_reply f
flat_fault_reply fault.TooMany = plain refusal.RUNS
flat_fault_reply fault.Record = plain refusal.RECORD

-- and for each answer
abbrev pub flat_reply : Result Unit FlatFault → Reply
flat_reply = reply_by flat_fault_reply

-- Demand 3, first half: at every address l gives what the walk from the root gives, it is a list of longest runs, and every such list with these answers is equal to it
pub record FirstHalf (m : RegionMap) (l : List FlatRange) : Type 0 where
  pub gives : (a : ℕ) → lookup l a ≡ walk_root m a
  pub longest : Longest (backing_of m) l
  pub only : (other : List FlatRange) → Longest (backing_of m) other → ((a : ℕ) → lookup other a ≡ walk_root m a) → other ≡ l
