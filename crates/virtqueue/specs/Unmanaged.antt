-- A step over the view of a map that has no managed region. Assumes nothing: these are definitions.
use Rattle.std.specs.Prelude.{ℕ, ◌<◌, false, cond, ◌&&◌, List, length, ◌≢◌}
use Rattle.map_records.specs.Map.{managed, region}
use Rattle.map_records.specs.Refusal as refusal
use Rattle.map_records.specs.declared.map.RegionMap.{RegionMap}
use Rattle.map_records.specs.declared.view.FlatView.{FlatView}
use Rattle.device_words.specs.Device.{MemoryDevice, device_ok}
use Rattle.guest_view.specs.Guest.{Guest, tree_leaf, guest_by}
use Rattle.guest_view.specs.View.{view_ok, no_region_bound}
use Rattle.virtqueue.specs.Queue.{queue_ok}
use Rattle.virtqueue.specs.Step.{Effect, refused, unmoved, stepped_by}
use Rattle.virtqueue.specs.declared.queue.SplitQueue.{SplitQueue}

abbrev pub NoManaged : RegionMap → Type 0
NoManaged m = (n : ℕ) → n < m.count → (region m n).kind ≢ managed

-- plain RAM alone is reachable: no block is, whatever a device record says of it
abbrev pub ram_guest : RegionMap → Guest
ram_guest m = guest_by (tree_leaf m) (λ o. false)

-- 27 judges the view with no region in mind, and the device record by its own rules, whatever its region. Its requests are carried out and answered, and no byte of the guest lies in its blocks.
unfoldable pub unmanaged_step : RegionMap → FlatView → MemoryDevice → SplitQueue → List ℕ → Effect MemoryDevice
unmanaged_step m v d q memory =
    cond (view_ok v (length memory) no_region_bound && (device_ok d && queue_ok q)) (stepped_by (ram_guest m) d q memory) (unmoved (refused refusal.RECORD) d q memory)
