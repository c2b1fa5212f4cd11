use mathlib.Core.Path.{◌≡◌}
use Prim.Native.Nat.{◌*◌, ◌≤◌}
use lib.ListN.{take}
use Rattle.map_records.specs.Words.{view_of}
use Rattle.listing.specs.Listing.{ranges_text}
use Rattle.arrayvec.specs.ArrayVec.{array_vec_len}
use Rattle.listing.proofs.listing.push_ranges.Given as goal

abbrev pub invariant-loop-k : goal.invariant-loop-k
invariant-loop-k l = (array_vec_len l.text ≤ 80 * l.k) × (l.text.items ≡ ranges_text (take l.k (view_of l.view).ranges))
