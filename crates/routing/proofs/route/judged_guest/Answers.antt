-- `routing::route::judged_guest` meets its contract. Assumes nothing.
use native.Mathlib.Omega.{arith}
use mathlib.Core.Path.{◌≡◌, refl, sym, ap, ◌∙◌}
use mathlib.Core.Bool.{true}
use mathlib.Core.List.{List}
use Prim.Native.Nat.{ℕ}
use lib.ListN.{replicate}
use Rattle.device_words.specs.Words.{device_of}
use Rattle.device_words.proofs.DeviceWords.{ok_length, device_first}
use Rattle.map_records.specs.Words.{view_of}
use Rattle.guest_view.specs.View.{view_ok}
use Rattle.routing.specs.Promises.{routed_in}
use Rattle.routing.proofs.RouteAllLaws.{block_big, table_words, view_and_device, judged_with, judged_without}
use Rattle.routing.proofs.route.judged_guest.Goals as goal

pub returns-in_default : goal.returns-in_default
returns-in_default c =
    let ok = c.in-Some-new.ensures.1 in
    rw c.in_default.is (record {
      ok = ok;
      large = omega arith;
      routes = judged_without (view_of c.args.view.now) c.args.memory_length 4096 ok ∙ ap (λ (w : List ℕ). routed_in w 4096 (replicate 16 0)) (sym c.in-Some-new.ensures.0);
    })

pub invariant_of-blocks-2 : goal.invariant_of-blocks-2
invariant_of-blocks-2 c =
    let d = c.in-Some.device.now in
    let same = c.in-Some-valid.ensures.0 in
    let good = c.in-Some-valid.ensures.1 in
    let size = ok_length d true (sym (device_first d ∙ good)) refl in
    record {
      positive = omega (arith, block_big d size good c.block_size.result (c.block_size.ensures ∙ ap (λ (w : List ℕ). (device_of w).block_size) same));
      table = table_words d size good c.plugged.result.now (c.plugged.ensures ∙ ap (λ (w : List ℕ). (device_of w).plugged) same);
    }

pub returns : goal.returns
returns c =
    let d = c.in-Some.device.now in
    let same = c.in-Some-valid.ensures.0 in
    let good = c.in-Some-valid.ensures.1 in
    let size = ok_length d true (sym (device_first d ∙ good)) refl in
    let v = view_of c.args.view.now in
    let m = c.args.memory_length in
    let region = c.region_size.ensures ∙ ap (λ (w : List ℕ). (device_of w).region_size) same in
    let seen : view_ok v m (device_of d).region_size ≡ true = sym (ap (view_ok v m) region) ∙ c.in-Some-new-2.ensures.1 in
    let both = view_and_device v m (device_of d) seen good in
    let block = c.block_size.ensures ∙ ap (λ (w : List ℕ). (device_of w).block_size) same in
    let table = c.plugged.ensures ∙ ap (λ (w : List ℕ). (device_of w).plugged) same in
    rw c.in-Some.is (record {
      ok = both;
      large = block_big d size good c.block_size.result block;
      routes = judged_with v m (device_of d) c.block_size.result c.plugged.result.now block table both ∙ ap (λ (w : List ℕ). routed_in w c.block_size.result c.plugged.result.now) (sym c.in-Some-new-2.ensures.0);
    })
