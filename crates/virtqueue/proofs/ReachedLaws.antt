-- What a step takes of a chain is reachable: of every chain the elements that were accepted are, and so is each address of their first bytes. Assumes nothing.
use Rattle.std.proofs.Common.{◌≡◌, ℕ, zero, suc, ◌+◌, ◌-◌, ◌*◌, ◌≤◌, min, Bool, true, false, cond, List, [], ◌∷◌, ◌++◌, map, get_or, refl, ap, ap₂, arith}
use Rattle.map_check.proofs.Bools.{and_fst, and_snd}
use Rattle.guest_view.specs.Guest.{Guest, all_reach, addresses, byte_at, number_at}
use Rattle.device_words.specs.Bytes.{number_by}
use Rattle.virtqueue.specs.Chain.{Chain, Entry, out, here, whole, ended, rejected, element, Following, onward, astray, next_below, go_on, misplaced, has_next, is_writable, visit, follow, readable, writable, first_bytes, fetched, chain_at}
use Rattle.virtqueue.specs.declared.chain.Descriptor.{Descriptor}

-- a fact of each of a list
abbrev pub Every : {A : Type 0} → (A → Type 0) → List A → Type 0
Every P [] = Unit {0}
Every P (x ∷ xs) = P x × Every P xs

pub every_append : {A : Type 0} (P : A → Type 0) (xs ys : List A) → Every P xs → Every P ys → Every P (xs ++ ys)
every_append P [] ys p q = q
every_append P (x ∷ xs) ys p q = (p.0, every_append P xs ys p.1 q)

pub every_weaken : {A : Type 0} (P Q : A → Type 0) → ((x : A) → P x → Q x) → (xs : List A) → Every P xs → Every Q xs
every_weaken P Q f [] p = tt
every_weaken P Q f (x ∷ xs) p = (f x p.0, every_weaken P Q f xs p.1)

pub map_same : (f g : ℕ → ℕ) (xs : List ℕ) → Every (λ x. f x ≡ g x) xs → map f xs ≡ map g xs
map_same f g [] p = refl
map_same f g (x ∷ xs) p = λ i. p.0 i ∷ map_same f g xs p.1 i

module _ (reach : ℕ → Bool) where
  abbrev pub Reaches : ℕ → Type 0
  Reaches a = reach a ≡ true

  -- the first of a stretch that is reachable
  pub every_address : (a n k : ℕ) → k ≤ n → all_reach reach a n ≡ true → Every Reaches (addresses a k)
  unfolding all_reach addresses
  every_address a n zero h p = tt
  every_address a zero (suc k) h p = absurd (omega arith)
  every_address a (suc n) (suc k) h p =
      (and_fst (reach a) (all_reach reach (suc a) n) p, every_address (suc a) n k (omega arith) (and_snd (reach a) (all_reach reach (suc a) n) p))

  -- two readings of the places of reachable bytes give one number
  pub number_same : (f g : ℕ → ℕ) (memory : List ℕ) → ((a : ℕ) → reach a ≡ true → f a ≡ g a) → (a k : ℕ) → all_reach reach a k ≡ true
      → number_at f memory a k ≡ number_at g memory a k
  unfolding number_by all_reach
  number_same f g memory same a zero p = refl
  number_same f g memory same a (suc k) p =
      let x : byte_at f memory a ≡ byte_at g memory a = ap (λ (i : ℕ). get_or memory i 0) (same a (and_fst (reach a) (all_reach reach (suc a) k) p)) in
      let y = number_same f g memory same (suc a) k (and_snd (reach a) (all_reach reach (suc a) k) p) in
      ap₂ (λ (b r : ℕ). b + 256 * r) x y

  abbrev pub Whole : Descriptor → Type 0
  Whole d = all_reach reach d.addr.0 d.length ≡ true

  pub every_byte : (k : ℕ) (ds : List Descriptor) → Every Whole ds → Every Reaches (first_bytes k ds)
  unfolding first_bytes
  every_byte k [] p = tt
  every_byte k (d ∷ ds) p =
      every_append Reaches (addresses d.addr.0 (min k d.length)) (first_bytes (k - d.length) ds)
      (every_address d.addr.0 d.length (min k d.length) (omega arith) p.0) (every_byte (k - d.length) ds p.1)

  -- a chain whose accepted elements are reachable, and the one refused is not
  abbrev pub Judged : Chain → Type 0
  Judged whole = Unit {0}
  Judged (ended k) = Unit {0}
  Judged (rejected d) = all_reach reach d.addr.0 d.length ≡ false
  Judged (element d c) = Whole d × Judged c

  abbrev test : Descriptor → Bool
  test d = all_reach reach d.addr.0 d.length

  visit_judged : (next : Descriptor → ℕ → Following) (i : ℕ) (late : Bool) (rest : ℕ → Bool → Chain) → ((j : ℕ) (w : Bool) → Judged (rest j w)) → (x : Entry) → Judged (visit test next i late rest x)
  unfolding visit
  visit_judged next i late rest f out = tt
  visit_judged next i late rest f (here d) = go (misplaced late d) (test d) refl
    where
      on : (x : Bool) (n : Following) → Judged (cond x (go_on (λ j. rest j (is_writable d)) n) whole)
      on true (onward j) = f j (is_writable d)
      on true astray = tt
      on false n = tt

      go : (x y : Bool) → test d ≡ y
          → Judged (cond x (ended 20) (cond y (element d (cond (has_next d) (go_on (λ j. rest j (is_writable d)) (next d i)) whole)) (rejected d)))
      go true y e = tt
      go false true e = (e, on (has_next d) (next d i))
      go false false e = e

  pub follow_judged : (fetch : ℕ → Entry) (next : Descriptor → ℕ → Following) (left i : ℕ) (late : Bool) → Judged (follow fetch test next left i late)
  unfolding follow
  follow_judged fetch next zero i late = tt
  follow_judged fetch next (suc left) i late = visit_judged next i late (follow fetch test next left) (λ j w. follow_judged fetch next left j w) (fetch i)

  pub every_readable : (c : Chain) → Judged c → Every Whole (readable c)
  unfolding readable
  every_readable whole p = tt
  every_readable (ended k) p = tt
  every_readable (rejected d) p = tt
  every_readable (element d c) p = go (is_writable d) (every_readable c p.1)
    where
      go : (x : Bool) → Every Whole (readable c) → Every Whole (cond x (readable c) (d ∷ readable c))
      go true q = q
      go false q = (p.0, q)

  pub every_writable : (c : Chain) → Judged c → Every Whole (writable c)
  unfolding writable
  every_writable whole p = tt
  every_writable (ended k) p = tt
  every_writable (rejected d) p = tt
  every_writable (element d c) p = go (is_writable d) (every_writable c p.1)
    where
      go : (x : Bool) → Every Whole (writable c) → Every Whole (cond x (d ∷ writable c) (writable c))
      go true q = (p.0, q)
      go false q = q

-- the chain of a guest's table
pub chain_judged : (g : Guest) (memory : List ℕ) (table size head : ℕ) → Judged g.reach (chain_at g memory table size head)
unfolding chain_at
chain_judged g memory table size head = follow_judged g.reach (fetched g memory table) (next_below size) size head false
