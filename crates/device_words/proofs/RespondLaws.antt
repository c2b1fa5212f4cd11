-- Laws of a request carried out on a device's words. Assumes nothing.
use mathlib.Core.Path.{◌≡◌, refl, sym, ap, ◌∙◌, subst}
use mathlib.Core.Bool.{Bool, true, false, ◌&&◌}
use mathlib.Core.List.{List, ◌++◌}
use Prim.Native.Nat.{ℕ}
use lib.Dec.{eqb}
use lib.ListN.{length, take, drop}
use Rattle.device_words.specs.Table.{turned}
use Rattle.device_words.specs.Bytes.{response_bytes}
use Rattle.device_words.specs.Device.{MemoryDevice, any_pinned, sizes_of, with_plugged}
use Rattle.device_words.specs.Request.{request_of, type_of, state_of, type_number, asked_answer, asked_table, nothing_further, answered_by, pin_met, answered, is_ack, table_by, carried_out}
use Rattle.device_words.specs.Words.{device_at, device_of, device_words, device_length}
use Rattle.device_words.specs.Promises.{Sized, answerable, RunOf, unplugs, CarriesTable, Responds}
use Rattle.device_words.specs.declared.words.Sizes.{Sizes}
use Rattle.device_words.specs.declared.request.Request.{Request}
use Rattle.device_words.specs.declared.request.RequestKind.{RequestKind}
use Rattle.device_words.specs.declared.request.RequestKind.TheVariants as kind
use Rattle.device_words.specs.declared.request.Response.{Response}
use Rattle.device_words.specs.declared.request.Response.TheVariants as response
use Rattle.device_words.proofs.DeviceWords.{device_at_lem, words_back, plug_stored}
use Rattle.device_words.proofs.AnswerLaws.{unanswerable, all_answer, plug_run_lem, unplug_run_lem, state_run, ack_kind, change_ack, change_none, table_run, held_as}

pub fits : (w : List ℕ) → length w ≡ device_length → Sized (sizes_of (device_of w)) → Sized (sizes_of (device_at w))
fits w l z = rw (device_at_lem w l) at z

-- what a request on a device record leaves, of which `Responds` speaks over words
abbrev Leaves : MemoryDevice → Request → List ℕ → List ℕ → Type 0
Leaves d q out w' = (out ≡ (carried_out d q).response) × (w' ≡ device_words (carried_out d q).device)

-- a request of a type, for the blocks that it may ask for: its answer, and the table that it leaves
module _ (s : Sizes) (held : Bool) (t : List ℕ) (r : Request) (k : RequestKind) (i : r.kind ≡ type_number k) {b n : ℕ} (f : RunOf s r b n) where
  pub answer_asked : asked_answer s held t k b n ≡ answered_by nothing_further s held t r
  answer_asked = go k i
    where
      go : (k : RequestKind) → r.kind ≡ type_number k → asked_answer s held t k b n ≡ answered_by nothing_further s held t r
      go kind.Plug e = plug_run_lem s held t r f e
      go kind.Unplug e = unplug_run_lem s held t r f e
      go kind.UnplugAll e = all_answer nothing_further s held t r e
      go kind.State e = state_run s held t r f e

  pub table_asked : (x : Response) → x ≡ answered_by nothing_further s held t r → asked_table t k b n x ≡ table_by s t r x
  table_asked x e = go (is_ack x) refl
    where
      go : (y : Bool) → is_ack x ≡ y → asked_table t k b n x ≡ table_by s t r x
      go true a =
          rw a (ap (λ (y : ℕ). turned t b n (eqb y 0)) (sym i)
          ∙ table_run s t r b n f (ack_kind nothing_further s held t r (ap is_ack (sym e) ∙ a)) ∙ change_ack s t r x a)
      go false a = rw a (change_none s t r x a)

  -- so the core carries it out
  pub asked_carried : (x : Response) (out t' : List ℕ) → x ≡ asked_answer s held t k b n → t' ≡ asked_table t k b n x
      → out ≡ response_bytes (type_of x) (state_of x) → CarriesTable s held t r out t'
  asked_carried x out t' e p o =
      let a : x ≡ answered_by nothing_further s held t r = e ∙ answer_asked in
      (o ∙ ap (λ (y : Response). response_bytes (type_of y) (state_of y)) a, p ∙ table_asked x a ∙ ap (table_by s t r) a)

module _ (w s : List ℕ) (l : length w ≡ device_length) (q : Request) (e : q ≡ request_of s) (z : Sizes) (f : z ≡ sizes_of (device_at w)) where
  over_words : (out w' : List ℕ) → Leaves (device_at w) q out w' → Responds w s out w'
  over_words out w' p = subst (λ (y : Request). Leaves (device_of w) y out w') e (subst (λ (d : MemoryDevice). Leaves d q out w') (sym (device_at_lem w l)) p)

  -- a request that may ask for no block: an ERROR, and the words as they are
  pub leaves_error : (out : List ℕ) → answerable z q ≡ false → out ≡ response_bytes (type_of response.Error) (state_of response.Error) → Responds w s out w
  leaves_error out h o =
      let d = device_at w in
      let x = unanswerable nothing_further (sizes_of d) (pin_met d q) d.plugged q (subst (λ (y : Sizes). answerable y q ≡ false) f h) in
      over_words out w (
        o ∙ ap (λ (y : Response). response_bytes (type_of y) (state_of y)) x,
        sym (words_back w l) ∙ ap (λ (t : List ℕ). device_words (with_plugged d t)) (change_none (sizes_of d) d.plugged q (answered d q) (ap is_ack (sym x))),
      )

  -- any other, carried out on the plug table by what was asked of the pins
  pub leaves_carried : (k : RequestKind) (b n : ℕ) → q.kind ≡ type_number k → RunOf z q b n → (held : Bool) (x : Response) (out t' : List ℕ)
      → held ≡ (unplugs (type_number k) && any_pinned (device_at w) b n)
      → x ≡ asked_answer z held (device_at w).plugged k b n → t' ≡ asked_table (device_at w).plugged k b n x → out ≡ response_bytes (type_of x) (state_of x)
      → Responds w s out (take 5 w ++ (t' ++ drop 16 (drop 5 w)))
  leaves_carried k b n i run held x out t' p a c o =
      let d = device_at w in
      let asked : RunOf (sizes_of d) q b n = subst (λ (y : Sizes). RunOf y q b n) f run in
      let there : CarriesTable (sizes_of d) held d.plugged q out t'
      = subst (λ (y : Sizes). CarriesTable y held d.plugged q out t') f (asked_carried z held d.plugged q k i run x out t' a c o) in
      let same : answered_by nothing_further (sizes_of d) held d.plugged q ≡ answered d q
      = ap (λ (y : Bool). answered_by nothing_further (sizes_of d) y d.plugged q) (p ∙ ap (λ (y : ℕ). unplugs y && any_pinned d b n) (sym i)) ∙ held_as d q b n d.plugged asked in
      over_words out (take 5 w ++ (t' ++ drop 16 (drop 5 w))) (
        there.0 ∙ ap (λ (y : Response). response_bytes (type_of y) (state_of y)) same,
        plug_stored w t' l ∙ ap (λ (t : List ℕ). device_words (with_plugged d t)) (there.1 ∙ ap (λ (y : Response). table_by (sizes_of d) d.plugged q y) same),
      )
