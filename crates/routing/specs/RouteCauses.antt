-- The causes of 23 to 27, number by number, for demand 2: 'each number has its exact cause'. Assumes nothing: these are definitions.
use Rattle.std.specs.Prelude.{Bool, false, ◌&&◌, not, ℕ, ◌+◌, eqb}
use Rattle.map_records.specs.declared.view.FlatView.{FlatView}
use Rattle.device_words.specs.Table.{all_below}
use Rattle.device_words.specs.Device.{MemoryDevice, device_ok}
use Rattle.guest_view.specs.Guest.{Leaf}
use Rattle.guest_view.specs.View.{view_ok, no_region_bound}
use Rattle.routing.specs.Route.{Routed, refused, to_memory, to_port, width_ok, is_nowhere, follows, is_open}

-- an answer is the refusal with this number
abbrev pub route_refused_by : ℕ → Routed → Bool
route_refused_by k (refused n) = eqb n k
route_refused_by k (to_memory p) = false
route_refused_by k (to_port p o) = false

-- of an access of w bytes at a, by what the view answers at an address and which blocks are plugged
module _ (answers : ℕ → Leaf) (plugged : ℕ → Bool) (a w : ℕ) where
  abbrev pub cause23 : Bool
  cause23 = not (width_ok w)

  abbrev pub cause24 : Bool
  cause24 = width_ok w && is_nowhere (answers a)

  abbrev pub cause25 : Bool
  cause25 = width_ok w && not (is_nowhere (answers a)) && not (all_below (λ i. follows (answers a) i (answers (a + i))) w)

  abbrev pub cause26 : Bool
  cause26 =
      width_ok w && not (is_nowhere (answers a)) && all_below (λ i. follows (answers a) i (answers (a + i))) w
      && not (all_below (λ i. is_open plugged (answers (a + i))) w)

-- 27: 'a given run list, device or queue record breaks its own rules'; given no device, the run list alone
abbrev pub cause27 : FlatView → ℕ → MemoryDevice → Bool
cause27 v memory d = not (view_ok v memory d.region_size && device_ok d)

abbrev pub cause27_without : FlatView → ℕ → Bool
cause27_without v memory = not (view_ok v memory no_region_bound)
