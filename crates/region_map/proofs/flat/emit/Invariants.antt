use Rattle.map_records.specs.View.{entries}
use Rattle.map_records.specs.Words.{map_of, view_of}
use Rattle.region_map.specs.Walk.{walk_root}
use Rattle.region_map.specs.Flatten.{backing_of}
use Rattle.region_map.specs.Promises.{Viewed, Blank}
use Rattle.region_map.proofs.RenderLaws.{Emitted}
use Rattle.region_map.proofs.flat.emit.Given as goal

abbrev pub invariant-loop-piece : goal.invariant-loop-piece
invariant-loop-piece l = Viewed l.view × Emitted (backing_of (map_of l.map)) (walk_root (map_of l.map)) l.table l.piece-index (entries (view_of l.view)) × (Blank (view_of l.initial.view) → Blank (view_of l.view))
