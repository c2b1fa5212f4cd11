-- `drawing::map::DrawnMap::found` meets its contract. Assumes nothing.
use mathlib.Core.Path.{◌≡◌, ap, ◌∙◌}
use mathlib.Core.List.{List}
use borrow.Author.Rules.{rules}
use Prim.Native.Nat.{ℕ}
use Rattle.map_records.specs.Words.{map_of}
use Rattle.region_map.specs.Walk.{walk_root}
use Rattle.drawing.proofs.DrawLaws.{led_to}
use Rattle.drawing.proofs.map.DrawnMap.found.Goals as goal

pub unwrap-requires : goal.unwrap-requires
unwrap-requires c = rw (led_to _ _ _ _ c.self.invariant c.resolve_address.ensures) (search rules)

pub returns : goal.returns
returns c =
    let led = led_to _ _ _ _ c.self.invariant c.resolve_address.ensures in
    let e : c.unwrap.result ≡ walk_root (map_of c.self.inside.words.now) c.args.address.0 = cc (led, c.unwrap.ensures) in
    e ∙ ap (λ (w : List ℕ). walk_root (map_of w) c.args.address.0) c.self.view_is
