-- The walk through a region map ('The tree'; source 001, Visibility): what a region answers at an address inside it, on every map. What a priority field means is a parameter: `walk` has the present meaning, and document 02's Req 07 speaks of the walk with the old one too. Assumes nothing: these are definitions.
use Rattle.std.specs.Prelude.{Bool, ◌&&◌, cond, ℕ, zero, suc, ◌+◌, ◌-◌, ◌*◌, ◌%◌, eqb, leb, ltb}
use Rattle.map_records.specs.Map.{container, alias, region}
use Rattle.map_check.specs.Clash.{priority_of}
use Rattle.map_records.specs.Limits.{most_regions}
use Rattle.map_records.specs.declared.map.Region.{Region}
use Rattle.map_records.specs.declared.map.RegionMap.{RegionMap}
use Rattle.std.specs.Prelude.{Option, Some, None}
use Rattle.map_records.specs.declared.map.Found.{Found}

-- c is a child of n: a region below n that names it as its parent
unfoldable pub child : RegionMap → ℕ → ℕ → Bool
child m n c = ltb c n && eqb (region m c).parent (n + 1)

-- an answer: region n at offset o
abbrev pub found : ℕ → ℕ → Option Found
found n o = Some (record { region = n; offset = record { 0 = o } })

-- the first that answers
abbrev pub or_else : Option Found → Option Found → Option Found
or_else None b = b
or_else (Some x) b = Some x

-- 'whose range [offset, offset + size) holds the address'
unfoldable pub holds : RegionMap → ℕ → ℕ → Bool
holds m c a = leb (region m c).offset a && ltb a ((region m c).offset + (region m c).size)

-- 'each walked with address - offset': child c at the address a of its parent, where it holds a; `under` walks a region at an address inside it
unfoldable pub asked : RegionMap → (ℕ → ℕ → Option Found) → ℕ → ℕ → Option Found
asked m under c a = cond (holds m c a) (under c (a - (region m c).offset)) None

-- 'If none does: a container answers nothing, any other kind answers itself at that address'
unfoldable pub own : RegionMap → ℕ → ℕ → Option Found
own m n a = cond (eqb (region m n).kind container) None (found n a)

-- more than every rank of a child: 256 priorities of 32 regions
abbrev pub ranks : ℕ
ranks = 8192

-- by what a region's priority is, with 128 added
module _ (priority : Region → ℕ) where
  -- The order of children: by priority, and among equal priorities by number. In an accepted map equal priorities never share an address that the parent has, and no other is searched, so there the numbers settle nothing.
  unfoldable pub rank : RegionMap → ℕ → ℕ
  rank m c = priority (region m c) * most_regions + c

  -- r is the rank of a child of n, the region r % 32
  unfoldable pub ranked : RegionMap → ℕ → ℕ → Bool
  ranked m n r = child m n (r % most_regions) && eqb (rank m (r % most_regions)) r

  -- what the child of rank r answers, where there is one
  unfoldable pub rank_answer : RegionMap → (ℕ → ℕ → Option Found) → ℕ → ℕ → ℕ → Option Found
  rank_answer m under n r a = cond (ranked m n r) (asked m under (r % most_regions) a) None

  -- 'highest priority first .. the first that answers wins': the children of n whose ranks are below r; if none answers, n itself
  unfoldable pub tried : RegionMap → (ℕ → ℕ → Option Found) → ℕ → ℕ → ℕ → Option Found
  tried m under n zero a = own m n a
  tried m under n (suc r) a = or_else (rank_answer m under n r a) (tried m under n r a)

  -- region n at a, where `under` walks the regions below n: 'address not below the size: nothing; alias: walk at the target with address + alias offset; otherwise take the children'. With the priority fields that 6 lets pass every rank is below `ranks`.
  unfoldable pub walk_at : RegionMap → (ℕ → ℕ → Option Found) → ℕ → ℕ → Option Found
  walk_at m under n a =
      cond (leb (region m n).size a) None
      (cond (eqb (region m n).kind alias) (under (region m n).target (a + (region m n).alias_offset))
      (tried m under n ranks a))

  -- the walk at the regions below k; nothing at others
  unfoldable pub walk_below : RegionMap → ℕ → ℕ → ℕ → Option Found
  walk_below m zero n a = None
  walk_below m (suc k) n a = cond (eqb n k) (walk_at m (walk_below m k) n a) (walk_below m k n a)

  -- the walk at region n
  unfoldable pub walk_by : RegionMap → ℕ → ℕ → Option Found
  walk_by m n a = walk_at m (walk_below m n) n a

  -- 'The root is the last. .. A guest address is walked from the root.'
  unfoldable pub walk_root_by : RegionMap → ℕ → Option Found
  walk_root_by m a = walk_by m (m.count - 1) a

-- the walk, with a priority's present meaning
abbrev pub walk : RegionMap → ℕ → ℕ → Option Found
walk = walk_by priority_of

abbrev pub walk_root : RegionMap → ℕ → Option Found
walk_root = walk_root_by priority_of
