-- Laws of bytes side by side: the number, bytes and places read there, and the memory that holds them. Assumes nothing.
use mathlib.Core.Path.{◌≡◌, refl, sym, ap, ◌∙◌}
use mathlib.Core.List.{List, map}
use Prim.Native.Nat.{ℕ, zero, suc, ◌+◌, ◌-◌, ◌^◌, ◌≤◌, ◌<◌}
use native.Mathlib.Nat.{add-zero}
use native.Mathlib.Omega.{arith}
use lib.ListN.{get_or}
use Rattle.map_records.specs.declared.view.FlatView.{FlatView}
use Rattle.device_words.proofs.ByteLaws.{numbers_agree}
use Rattle.guest_view.specs.Guest.{addresses, byte_at, number_at}
use Rattle.guest_view.specs.Promises.{Ordered, Backed, InMemory, Runs, place_in}
use Rattle.guest_view.proofs.GuestLaws.{place_below}

pub some : {n : ℕ} → (n ≡ 0 → ⊥) → 0 < n
some h = omega arith

-- the place of the first of them
pub runs_first : (v : FlatView) (a p left : ℕ) → Runs v a p left → p ≡ place_in v a
runs_first v a p left runs = sym (ap (place_in v) (sym (add-zero a)) ∙ runs.each 0 (omega arith) ∙ add-zero p)

-- what is read of bytes side by side is what is read by their addresses
map_runs : {T : Type 0} (f g : ℕ → T) (a p n : ℕ) → ((i : ℕ) → i < n → f (a + i) ≡ g (p + i)) → map g (addresses p n) ≡ map f (addresses a n)
unfolding addresses
map_runs f g a p zero h = refl
map_runs f g a p (suc n) h =
    let e : f a ≡ g p = ap f (sym (add-zero a)) ∙ h 0 (omega arith) ∙ ap g (add-zero p) in
    let r : map g (addresses (suc p) n) ≡ map f (addresses (suc a) n) =
    map_runs f g (suc a) (suc p) n (λ i b. let x : suc a + i ≡ a + suc i = omega arith in let y : p + suc i ≡ suc p + i = omega arith in ap f x ∙ h (suc i) (omega arith) ∙ ap g y) in
    cc

module _ (v : FlatView) (a p left n : ℕ) (runs : Runs v a p left) (some : 0 < n) (few : n - 1 ≤ left) where
  pub runs_number : (mem : List ℕ) → number_at (λ x. x) mem p n ≡ number_at (place_in v) mem a n
  runs_number mem = numbers_agree (byte_at (λ x. x) mem) (byte_at (place_in v) mem) p a n (λ i b. ap (λ (x : ℕ). get_or mem x 0) (sym (runs.each i (omega arith))))

  -- and what is made of their places is what is made of the places of their addresses
  pub runs_made : {T : Type 0} (f : ℕ → T) → map f (addresses p n) ≡ map (λ (x : ℕ). f (place_in v x)) (addresses a n)
  runs_made f = map_runs (λ x. f (place_in v x)) f a p n (λ i b. ap f (runs.each i (omega arith)))

  -- the memory that holds them
  pub runs_room : (memory : ℕ) → InMemory v a n → Backed v memory → p + n ≤ memory
  runs_room memory m b = omega (arith, runs.each (n - 1) few, place_below v (a + (n - 1)) (m.each (n - 1) (omega arith)) memory b)

pub ordered_room : (v : FlatView) → Ordered v → Backed v (2 ^ 64)
ordered_room v o = record { room = o.place }
