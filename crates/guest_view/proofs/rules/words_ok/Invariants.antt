use mathlib.Core.Path.{◌≡◌}
use mathlib.Core.Bool.{true}
use Prim.Native.Nat.{◌≤◌}
use lib.ListN.{length}
use Rattle.device_words.specs.Table.{all_below}
use Rattle.map_records.specs.Words.{view_of}
use Rattle.guest_view.specs.View.{entry_ok}
use Rattle.guest_view.specs.Promises.{Owners}
use Rattle.guest_view.proofs.rules.words_ok.Given as goal

abbrev pub invariant-loop-k : goal.invariant-loop-k
invariant-loop-k l = (l.k ≤ l.count) × (l.count ≤ 256) × (all_below (entry_ok (view_of l.view) l.memory l.region) l.k ≡ true) × Owners (view_of l.view) l.k l.owner × (length l.owner ≡ 32)
