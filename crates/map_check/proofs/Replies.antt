-- The law of a call that goes on only where nothing is refused. Assumes nothing.
use mathlib.Core.Path.{◌≡◌, refl, ap, ◌∙◌}
use mathlib.Core.Bool.{false}
use Rattle.map_check.specs.Reply.{Reply, accepted, nodes, place, plain, passes, if_accepted}
use Rattle.map_check.proofs.Bools.{never}

pub refused_first : {A : Type 0} (refusal : Reply → A) (x : A) (r j : Reply) → r ≡ j → passes r ≡ false → refusal r ≡ if_accepted j refusal x
refused_first refusal x r j e p = go r p ∙ ap (λ (k : Reply). if_accepted k refusal x) e
  where
    go : (r : Reply) → passes r ≡ false → refusal r ≡ if_accepted r refusal x
    go accepted q = absurd (never q)
    go (nodes k i l) q = refl
    go (place k l) q = refl
    go (plain k) q = refl
