-- What the calls that route say where the words of a device do not fit. Assumes nothing.
use mathlib.Core.Path.{◌≡◌, refl}
use mathlib.Core.Bool.{Bool, true, false, ◌&&◌, ◌||◌}
use mathlib.Core.List.{List}
use Prim.{⊥}
use Prim.Native.Nat.{ℕ}
use lib.ListN.{length}
use borrow.Author.Tests.{eq-eqb}
use Rattle.map_records.specs.Refusal as refusal
use Rattle.map_records.specs.Words.{view_of}
use Rattle.guest_view.specs.View.{view_ok}
use Rattle.device_words.specs.Device.{no_device}
use Rattle.device_words.specs.Words.{is_device, device_length}
use Rattle.device_words.proofs.DeviceWords.{device_none, none_refused}
use Rattle.routing.specs.Route.{Routed, RoutesAll, all_routed, routed_with}
use Rattle.wicktumble.specs.Routes.{is_none, device_fits, route_all_call}

neither : (a b : Bool) → (a || b) ≡ false → (a ≡ false) × (b ≡ false)
neither true b e = cc
neither false b e = (refl, e)

-- neither no words nor those of a device
unfit : (w : List ℕ) → device_fits w ≡ false → (is_none w ≡ false) × (length w ≡ device_length → ⊥)
unfit w e =
    let n = neither (is_none w) (is_device w) e in
    (n.0, λ l. let t = eq-eqb (length w) device_length l in cc)

refused_by : (a : Bool) {b : Bool} (f : ℕ → ℕ → Routed) (x y : List ℕ) → b ≡ false → all_routed (a && b) f x y ≡ record { number = refusal.RECORD; answers = y }
unfolding all_routed
refused_by true f x y e = rw e
refused_by false f x y e = refl

pub routes_refused : (view : List ℕ) (memory : ℕ) (w x y : List ℕ) {n : ℕ} → device_fits w ≡ false → n ≡ refusal.RECORD → RoutesAll (route_all_call view memory w x y) n y
unfolding route_all_call
routes_refused view memory w x y e k =
    let u = unfit w e in
    let v = view_of view in
    let r = refused_by (view_ok v memory no_device.region_size) (routed_with v memory no_device) x y none_refused in
    rw (u.0, device_none w u.1, r) (k, refl)
