-- Laws of a buffer that is filled by several reads. Assumes nothing.
use mathlib.Core.Path.{◌≡◌, sym, ap, subst, ◌∙◌}
use mathlib.Core.List.{List, ◌++◌, append_assoc}
use Prim.Native.Nat.{ℕ, ◌+◌, ◌-◌, ◌≤◌}
use native.Mathlib.Omega.{arith}
use lib.ListN.{length, take, drop, length-append}
use lib.Seq.{take_at, length-take-le}
use Rattle.std.proofs.lemmas.List.{take-append-drop}
use borrow.Rule.Slice.PartMut.{put_mid}
use Rattle.std.specs.Prelude.{Option, None, Some}
use Rattle.std.specs.Io.KnownBytes.{Consumes}

-- known bytes that are consumed one part after the other
consumes_both : (a b c : Option (List ℕ)) (xs ys : List ℕ) → Consumes a b xs → Consumes b c ys → Consumes a c (xs ++ ys)
consumes_both None b c xs ys p q = tt
consumes_both (Some x) None c xs ys p q = absurd p
consumes_both (Some x) (Some y) None xs ys p q = absurd q
consumes_both (Some x) (Some y) (Some z) xs ys p q = p ∙ ap (λ (l : List ℕ). xs ++ l) q ∙ sym (append_assoc xs ys z)

-- n bytes more that were read behind the first `done` of a buffer
module _ (done n : ℕ) (old part : List ℕ) (room : done ≤ length old) (fits : n ≤ length part) where
  take_part : take (done + n) (put_mid done (length old - done) old part) ≡ take done old ++ take n part
  take_part =
      let read = take done old ++ take n part in
      let rest = drop (length old - done) (drop done old) in
      let whole : put_mid done (length old - done) old part ≡ read ++ (drop n part ++ rest) =
      ap (λ (l : List ℕ). take done old ++ (l ++ rest)) (sym (take-append-drop n part))
      ∙ ap (λ (l : List ℕ). take done old ++ l) (append_assoc (take n part) (drop n part) rest)
      ∙ sym (append_assoc (take done old) (take n part) (drop n part ++ rest)) in
      ap (take (done + n)) whole
      ∙ take_at read (drop n part ++ rest) (done + n) (omega (arith, length-append (take done old) (take n part), length-take-le done old room, length-take-le n part fits))

pub read_more : (a b c : Option (List ℕ)) (done n : ℕ) (old part : List ℕ) → done ≤ length old → n ≤ length part
    → Consumes a b (take done old) → Consumes b c (take n part) → Consumes a c (take (done + n) (put_mid done (length old - done) old part))
read_more a b c done n old part h l p q = subst (λ (x : List ℕ). Consumes a c x) (sym (take_part done n old part h l)) (consumes_both a b c (take done old) (take n part) p q)
