-- The search for the managed region, from the last region down. Assumes nothing.
use mathlib.Core.Path.{◌≡◌, sym, ap, subst, ◌∙◌}
use mathlib.Core.Bool.{Bool, true, false}
use mathlib.Core.List.{List, [], ◌∷◌}
use Prim.Native.Nat.{ℕ, ◌+◌, ◌-◌, ◌<◌}
use native.Mathlib.Omega.{arith}
use borrow.Author.Tests.{eqb-true, eqb-false}
use lib.Dec.{eqb}
use denote.Ref.{Bor}
use denote.Param.Members.{Mut}
use Rattle.std.specs.Prelude.{Option, Some, None, MatchOption, IfSome}
use Rattle.std.specs.Fn.{Called, CalledAt}
use Rattle.std.specs.Iterator.{Yields}
use Rattle.std.specs.Iterator.Adapters.{map_steps}
use Rattle.std.specs.List.{FoldsTo}
use Rattle.std.specs.declared.iter.Map.{Map}
use Rattle.std.specs.declared.ops.Range.{Range}
use Rattle.map_records.specs.Map.{managed, region}
use Rattle.map_records.specs.declared.map.Region.{Region}
use Rattle.map_records.specs.declared.map.RegionMap.{RegionMap}
use Rattle.memory_device.specs.SetUp.{managed_in}
use Rattle.memory_device.proofs.SetUpLaws.{managed_here, managed_not}

-- a range of numbers, from its end down
abbrev down : Range ℕ → Option ℕ → Range ℕ → Type 0
down s r t = (t.start ≡ s.start) × MatchOption r ((s.end - s.start ≡ 0) × (t.end ≡ s.end)) (λ x. (0 < s.end - s.start) × (x ≡ t.end) × (s.end ≡ t.end + 1))

abbrev pub size_of : Option Region → ℕ
size_of None = 0
size_of (Some r) = r.size

module _ {F G : Type 0} (m : RegionMap) {read : Mut F (ℕ × Unit {0}) Region} {f : F} (reads : (n : ℕ) (r : Region) (q : F) → Called read f (n, tt) r q → (q ≡ f) × (r ≡ region m n))
    {test : Mut G (Bor Region × Unit {0}) Bool} {p : G} (tests : (x : Region) (b : Bool) (q : G) → CalledAt test p x b q → (q ≡ p) × (b ≡ eqb x.kind managed)) where
  -- one step reads the region before the end
  step : (s t : Map (Range ℕ) F) (r : Region) → s.f ≡ f → map_steps down read s (Some r) t → (t.f ≡ f) × (t.iter.start ≡ s.iter.start) × (s.iter.end ≡ t.iter.end + 1) × (r ≡ region m t.iter.end)
  step s t r e (x, w, c) =
      let k = reads x r t.f (subst (λ (g : F). Called read g (x, tt) r t.f) e c) in
      (k.0, w.0, w.1.2, k.1 ∙ ap (region m) w.1.1)

  pub last_managed : (xs : List Region) (s t u : Map (Range ℕ) F) (r : Option Region) (q : G) → s.f ≡ f → s.iter.start ≡ 0 → Yields (map_steps down read) s xs t → map_steps down read t r u
      → FoldsTo (λ j x k. CalledAt test j x false k) p xs q → IfSome r (λ x. (h : G) × CalledAt test q x true h) → size_of r ≡ managed_in m s.iter.end
  unfolding managed_in
  last_managed [] s t u None q e z y w d i =
      let none : s.iter.end ≡ 0 = omega (arith, w.0.1.0, ap (λ (v : Map (Range ℕ) F). v.iter.end) y, ap (λ (v : Map (Range ℕ) F). v.iter.start) y) in
      rw none
  last_managed [] s t u (Some r) q e z y w d i =
      let k = step t u r (sym (ap (λ (v : Map (Range ℕ) F). v.f) y) ∙ e) w in
      let is = eqb-true r.kind managed (sym (tests r true i.0 (subst (λ (j : G). CalledAt test j r true i.0) (sym d) i.1)).1) in
      ap (λ (x : Region). x.size) k.3 ∙ sym (managed_here m u.iter.end (ap (λ (x : Region). x.kind) (sym k.3) ∙ is)) ∙ ap (managed_in m) (sym k.2 ∙ sym (ap (λ (v : Map (Range ℕ) F). v.iter.end) y))
  last_managed (x ∷ xs) s t u r q e z (j, w', y) w (l, c, d) i =
      let k = step s j x e w' in
      let a = tests x false l c in
      let none = managed_not m j.iter.end (λ h. eqb-false x.kind managed (sym a.1) (ap (λ (v : Region). v.kind) k.3 ∙ h)) in
      last_managed xs j t u r q k.0 (k.1 ∙ z) y w (subst (λ (g : G). FoldsTo (λ j x k. CalledAt test j x false k) g xs q) a.0 d) i ∙ sym none ∙ ap (managed_in m) (sym k.2)

-- what `map_or` makes of it
pub sized : (o : Option Region) (n : ℕ) (of : Region → Type 0) → MatchOption o (n ≡ 0) of → ((r : Region) → of r → n ≡ r.size) → n ≡ size_of o
sized None n of h f = h
sized (Some r) n of h f = f r h
