-- What the functions inside the crate promise each other. No promise of an entry point cites these. Assumes nothing: these are definitions.
use Rattle.std.specs.Prelude.{◌≡◌, Bool, true, false, ◌&&◌, List, Option, None, Some, Result, Ok, Err, ℕ, ◌+◌, ◌≤◌}
use Rattle.map_check.specs.declared.answer.RecordFault.{RecordFault}
use Rattle.map_records.specs.View.{entries}
use Rattle.map_records.specs.Words.{view_of}
use Rattle.map_records.specs.declared.view.FlatView.{FlatView}
use Rattle.device_words.specs.Table.{all_below}
use Rattle.device_words.specs.Device.{MemoryDevice, device_ok, plugged_in}
use Rattle.guest_view.specs.Guest.{leaf_at}
use Rattle.guest_view.specs.View.{view_ok, no_region_bound}
use Rattle.routing.specs.Route.{Routed, follows, routed, routed_given}
use Rattle.guest_view.specs.declared.reach.Guest.{Guest}

-- over a judged view: is an access whole, and what it is answered
abbrev pub is_whole : List ℕ → ℕ → ℕ → Bool
is_whole view a w = all_below (λ i. follows (leaf_at (entries (view_of view)) a) i (leaf_at (entries (view_of view)) (a + i))) w

abbrev pub routed_in : List ℕ → ℕ → List ℕ → ℕ → ℕ → Routed
routed_in view block plugged = routed (leaf_at (entries (view_of view))) (plugged_in block plugged)

-- does 27 let the view pass, and the device where there is one?
abbrev pub given_ok : FlatView → ℕ → Option MemoryDevice → Bool
given_ok v memory None = view_ok v memory no_region_bound
given_ok v memory (Some d) = view_ok v memory d.region_size && device_ok d

-- what to ask about, where it does: no block is shorter than an access
pub record AskedOk (view : List ℕ) (memory : ℕ) (d : Option MemoryDevice) (g : Guest) : Type 0 where
  pub ok : given_ok (view_of view) memory d ≡ true
  pub large : 8 ≤ g.blocks.size
  pub routes : routed_given (view_of view) memory d ≡ routed_in g.view g.blocks.size g.blocks.plugged.now

abbrev pub Asked : List ℕ → ℕ → Option MemoryDevice → Result Guest RecordFault → Type 0
Asked view memory d (Ok g) = AskedOk view memory d g
Asked view memory d (Err e) = given_ok (view_of view) memory d ≡ false
