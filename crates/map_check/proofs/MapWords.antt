-- Laws of a map as words: words of another number are refused, and an accepted map's can be gone through. Assumes nothing.
use mathlib.Core.Path.{◌≡◌, ap, ◌∙◌}
use mathlib.Core.Logic.{⊎_elim}
use mathlib.Core.List.{List}
use Prim.Native.Nat.{ℕ, ◌+◌, ◌<◌, ◌≤◌}
use native.Mathlib.Omega.{arith}
use mathlib.Core.Bool.{true}
use mathlib.Core.Path.{refl}
use lib.ListN.{length}
use Rattle.map_records.specs.Limits.{limit, map_length, most_regions}
use Rattle.map_records.specs.Words.{map_of}
use Rattle.map_records.proofs.Order.{eq_or_not}
use Rattle.map_records.proofs.WordLaws.{map_other}
use Rattle.map_check.specs.Reply.{Reply, accepted, nodes, place, plain}
use Rattle.map_check.specs.Check.{count_fault, judged_by, judged, Accepted, Checked}
use Rattle.map_check.specs.Promises.{Walkable, Tree}
use Rattle.map_check.proofs.Accepted.{accepted_sound, sound_accepted, accepted_walkable}

pub count_other : (w : List ℕ) → (length w ≡ map_length → ⊥) → count_fault (map_of w).count ≡ true
count_other w other = rw (map_other w other) refl

pub judged_other : (w : List ℕ) → (length w ≡ map_length → ⊥) → (memory : ℕ) → nodes 3 0 0 ≡ judged (map_of w) memory
unfolding judged_by
judged_other w other memory = rw (map_other w other)

module _ (w : List ℕ) (memory : ℕ) (ok : Accepted (map_of w) memory) where
  pub accepted_words : length w ≡ map_length
  unfolding Accepted
  accepted_words = ⊎_elim (λ e. e) (λ ne. let z : ◌≡◌ {A = ℕ} 0 1 = ap number (judged_other w ne memory ∙ ok) in absurd (omega (arith, z))) (eq_or_not (length w) map_length)
    where
      number : Reply → ℕ
      number accepted = 1
      number (nodes k i j) = 0
      number (place k p) = 0
      number (plain k) = 0

  pub accepted_tree : Tree w
  accepted_tree = record { words = accepted_words; walkable = accepted_walkable (map_of w) memory ok }

  pub accepted_some : 0 < (map_of w).count
  accepted_some = (accepted_sound (map_of w) memory ok).some

pub checked_tree : (w : List ℕ) → Checked w → Tree w
checked_tree w known = accepted_tree w known.memory known.accepted

pub checked_some : (w : List ℕ) → Checked w → 0 < (map_of w).count
checked_some w known = accepted_some w known.memory known.accepted

pub checked_walkable : (w : List ℕ) → Checked w → Walkable (map_of w)
checked_walkable w known = accepted_walkable (map_of w) known.memory known.accepted

pub checked_few : (w : List ℕ) → Checked w → (map_of w).count ≤ most_regions
checked_few w known = (checked_walkable w known).count

-- No region's memory ends past twice 2^48, so words that are accepted for some length of memory are accepted for every length from there on. So a caller that knows this of words has their `CheckedMap` from `checked_map` and the longest memory.
pub checked_long : (w : List ℕ) → Checked w → (memory : ℕ) → limit + limit ≤ memory → Accepted (map_of w) memory
checked_long w known memory long =
    let s = accepted_sound (map_of w) known.memory known.accepted in
    sound_accepted (map_of w) memory (record {
      some = s.some;
      count = s.count;
      kinds = s.kinds;
      bounded = s.bounded;
      parents = s.parents;
      targets = s.targets;
      root = s.root;
      ends = λ n h has. omega (arith, (s.bounded n h).start, (s.bounded n h).size);
      bytes = s.bytes;
      single = s.single;
      ports = s.ports;
      siblings = s.siblings;
    })
