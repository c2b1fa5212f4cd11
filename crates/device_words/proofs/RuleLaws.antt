-- Laws of the device's rules. Assumes nothing.
use mathlib.Core.Path.{◌≡◌, refl, sym, ap, ◌∙◌}
use mathlib.Core.Bool.{Bool, true, false, ◌&&◌, ◌||◌, not}
use mathlib.Core.Logic.{⊎_elim}
use Prim.Native.Nat.{ℕ, zero, suc, ◌+◌, ◌-◌, ◌*◌, ◌/◌, ◌%◌, ◌^◌, ◌≤◌, ◌<◌}
use native.Mathlib.Nat.{eq-or-lt_of_le, div-lt_iff_lt-mul, le-div_iff_mul-le, div-add-mod', add-mul, one-mul}
use native.Mathlib.Omega.{arith}
use lib.Dec.{eqb, leb, ltb}
use lib.Pow.{pow_mono}
use borrow.Author.Tests.{le-leb, leb-true, ltb-true, lt-ltb, eqb-true, eqb-false, not-true, eq-eqb}
use Rattle.device_words.specs.Table.{bit_at, only, implies}
use Rattle.map_records.specs.Limits.{limit}
use Rattle.device_words.specs.Device.{MemoryDevice, is_pinned, sizes_of, power_below, block_ok, region_ok, addr_ok, sizes_ok, setup_ok, setup_kept, tables_ok, device_ok}
use Rattle.device_words.specs.Promises.{Valid, Sized}
use lib.Count.{ones}
use Rattle.std.specs.Int.{is_power_of_two}
use Rattle.map_records.proofs.Order.{side}
use Rattle.device_words.proofs.ListTests.{same_test}
use Rattle.device_words.proofs.CountOnes.{ones_pow, pow_of_ones}
use Rattle.device_words.proofs.TableLaws.{all_true, all_of}
use Rattle.map_check.proofs.Bools.{never, and_fst, and_snd, and_off}

-- the powers of two that a block size may be
module _ (b : ℕ) where
  pub power_is : (n k : ℕ) → k < n → b ≡ 2 ^ (12 + k) → power_below b n ≡ true
  unfolding power_below
  power_is zero k h e = absurd (omega arith)
  power_is (suc n) k h e =
      ⊎_elim (λ (q : k ≡ n). ap (λ (t : Bool). power_below b n || t) (eq-eqb b (2 ^ (12 + n)) (e ∙ ap (λ (j : ℕ). 2 ^ (12 + j)) q)) ∙ or_on (power_below b n))
      (λ q. rw (power_is n k q e)) (eq-or-lt_of_le {n = k} {m = n} (omega arith))
    where
      or_on : (t : Bool) → (t || true) ≡ true
      or_on true = refl
      or_on false = refl

  pub power_bounds : (n : ℕ) → n ≤ 19 → power_below b n ≡ true → (4096 ≤ b) × (b ≤ 2 ^ 30)
  unfolding power_below
  power_bounds zero l h = absurd (let z : ◌≡◌ {A = ℕ} 0 1 = cc in omega arith)
  power_bounds (suc n) l h = go (power_bounds n (omega arith)) (power_below b n) refl (eqb b (2 ^ (12 + n))) refl h
    where
      go : (power_below b n ≡ true → (4096 ≤ b) × (b ≤ 2 ^ 30)) → (t : Bool) → power_below b n ≡ t → (u : Bool) → eqb b (2 ^ (12 + n)) ≡ u → (t || u) ≡ true → (4096 ≤ b) × (b ≤ 2 ^ 30)
      go ih true e u f g = ih e
      go ih false e true f g =
          let is : b ≡ 2 ^ (12 + n) = eqb-true b (2 ^ (12 + n)) f in
          let low : 2 ^ 12 ≤ 2 ^ (12 + n) = pow_mono {i = 12} {j = 12 + n} (omega arith) in
          let high : 2 ^ (12 + n) ≤ 2 ^ 30 = pow_mono {i = 12 + n} {j = 30} (omega arith) in
          (omega arith, omega arith)
      go ih false e false f g = absurd (let z : ◌≡◌ {A = ℕ} 0 1 = cc in omega arith)

  power_some : (n : ℕ) → power_below b n ≡ true → (k : ℕ) × (b ≡ 2 ^ k)
  unfolding power_below
  power_some zero e = absurd (never (sym e))
  power_some (suc n) e = go (power_below b n) (power_some n) (eqb b (2 ^ (12 + n))) refl e
    where
      go : (x : Bool) → (x ≡ true → (k : ℕ) × (b ≡ 2 ^ k)) → (y : Bool) → eqb b (2 ^ (12 + n)) ≡ y → (x || y) ≡ true → (k : ℕ) × (b ≡ 2 ^ k)
      go true ih y q h = ih refl
      go false ih true q h = (12 + n, eqb-true b (2 ^ (12 + n)) q)
      go false ih false q h = absurd (never (sym h))

  -- the same by the language's test of a power of two
  pub power_tested : (leb 4096 b && leb b 1073741824 && is_power_of_two b) ≡ block_ok b
  power_tested =
      same_test (leb 4096 b && leb b 1073741824 && is_power_of_two b) (block_ok b)
      (λ e. let two = and_fst (leb 4096 b && leb b 1073741824) (is_power_of_two b) e in
      let least : 4096 ≤ b = leb-true 4096 b (and_fst (leb 4096 b) (leb b 1073741824) two) in
      let most : b ≤ 1073741824 = leb-true b 1073741824 (and_snd (leb 4096 b) (leb b 1073741824) two) in
      let found = pow_of_ones 31 b (omega arith) (eqb-true (ones b) 1 (and_snd (leb 4096 b && leb b 1073741824) (is_power_of_two b) e)) in
      placed found.0 found.1 found.2 least)
      (λ e. let bounds = power_bounds 19 (omega arith) e in
      let found = power_some 19 e in
      rw (le-leb 4096 b bounds.0, le-leb b 1073741824 bounds.1) (eq-eqb (ones b) 1 (ap ones found.1 ∙ ones_pow found.0)))
    where
      placed : (k : ℕ) → k < 31 → b ≡ 2 ^ k → 4096 ≤ b → block_ok b ≡ true
      placed k h e least =
          ⊎_elim
          (λ (low : k < 12). absurd (let top : 2 ^ k ≤ 2 ^ 11 = pow_mono {i = k} {j = 11} (omega arith) in omega arith))
          (λ (high : 12 ≤ k). let at : 12 + (k - 12) ≡ k = omega arith in power_is 19 (k - 12) (omega arith) (e ∙ ap (λ (x : ℕ). 2 ^ x) (sym at)))
          (side k 12)

-- blocks of a size
pub blocks_bound : (b s n : ℕ) → 0 < b → s ≤ n * b → s / b ≤ n
blocks_bound b s n p h = let l : s / b < n + 1 = (div-lt_iff_lt-mul p).1 (omega (arith, add-mul n 1 b, one-mul b)) in omega arith

pub blocks_mono : (b s t : ℕ) → 0 < b → s ≤ t → s / b ≤ t / b
blocks_mono b s t p h = (le-div_iff_mul-le p).1 (omega (arith, div-add-mod' s b))

-- blocks of which one thing holds are blocks of which another does, as a test and as a fact
module _ (f g : ℕ → Bool) where
  pub implies_true : implies f g ≡ true → (b : ℕ) → b < 1024 → f b ≡ true → g b ≡ true
  implies_true h b l e = go (f b) (all_true (λ b. not (f b) || g b) 1024 h b l) e
    where
      go : (x : Bool) → (not x || g b) ≡ true → x ≡ true → g b ≡ true
      go true p q = p
      go false p q = absurd (never (sym q))

  pub implies_of : ((b : ℕ) → b < 1024 → f b ≡ true → g b ≡ true) → implies f g ≡ true
  implies_of h = all_of (λ b. not (f b) || g b) 1024 (λ b l. go (f b) (h b l))
    where
      go : {y : Bool} (x : Bool) → (x ≡ true → y ≡ true) → (not x || y) ≡ true
      go true k = k refl
      go false k = refl

-- they are below n
module _ (f : ℕ → Bool) (n : ℕ) where
  pub only_true : only f n ≡ true → (b : ℕ) → b < 1024 → f b ≡ true → b < n
  only_true h b l e = ltb-true b n (implies_true f (λ b. ltb b n) h b l e)

  pub only_of : ((b : ℕ) → b < 1024 → f b ≡ true → b < n) → only f n ≡ true
  only_of h = implies_of f (λ b. ltb b n) (λ b l e. lt-ltb b n (h b l e))

-- two of 27's tests give the other two: p are the plugged blocks, q the pinned ones
pub tables_two : (p q : ℕ → Bool) (u r : ℕ) → u ≤ r → (only p u && implies q p) ≡ (only p r && only q r && only p u && implies q p)
tables_two p q u r h = go (only p u) refl (implies q p) refl
  where
    go : (x : Bool) → only p u ≡ x → (y : Bool) → implies q p ≡ y → (x && y) ≡ (only p r && only q r && x && y)
    go true e true f =
        rw (only_of p r (λ b l k. let z = only_true p u e b l k in omega arith), only_of q r (λ b l k. let z = only_true p u e b l (implies_true q p f b l k) in omega arith))
    go true e false f = sym (and_off (only p r && only q r && true))
    go false e y f = sym (ap (λ (t : Bool). t && y) (and_off (only p r && only q r)))

-- SETUP's rules as facts
pub record Ruled (b addr size used asked : ℕ) : Type 0 where
  pub least : 4096 ≤ b
  pub most : b ≤ 2 ^ 30
  pub some : 0 < size
  pub region : size % b ≡ 0
  pub blocks : size ≤ 1024 * b
  pub aligned : addr % b ≡ 0
  pub end : addr + size ≤ limit
  pub requested : asked ≤ used
  pub usable : used ≤ size
  pub whole_usable : used % b ≡ 0
  pub whole_requested : asked % b ≡ 0

pub setup_ruled : (b addr region usable requested : ℕ) → setup_ok b addr region usable requested ≡ true → Ruled b addr region usable requested
unfolding setup_ok
setup_ruled b addr region usable requested h =
    let rest = and_snd (block_ok b) (region_ok b region && (addr_ok b addr region && sizes_ok b region usable requested)) h in
    let block = power_bounds b 19 (omega arith) (and_fst (block_ok b) (region_ok b region && (addr_ok b addr region && sizes_ok b region usable requested)) h) in
    let r = and_fst (region_ok b region) (addr_ok b addr region && sizes_ok b region usable requested) rest in
    let others = and_snd (region_ok b region) (addr_ok b addr region && sizes_ok b region usable requested) rest in
    let a = and_fst (addr_ok b addr region) (sizes_ok b region usable requested) others in
    let s = and_snd (addr_ok b addr region) (sizes_ok b region usable requested) others in
    let r2 = and_fst (not (eqb region 0) && eqb (region % b) 0) (leb region (1024 * b)) r in
    let nonzero = eqb-false region 0 (not-true (eqb region 0) (and_fst (not (eqb region 0)) (eqb (region % b) 0) r2)) in
    let s3 = and_fst (leb requested usable && leb usable region && eqb (usable % b) 0) (eqb (requested % b) 0) s in
    let s2 = and_fst (leb requested usable && leb usable region) (eqb (usable % b) 0) s3 in
    record {
      least = block.0;
      most = block.1;
      some = omega arith;
      region = eqb-true (region % b) 0 (and_snd (not (eqb region 0)) (eqb (region % b) 0) r2);
      blocks = leb-true region (1024 * b) (and_snd (not (eqb region 0) && eqb (region % b) 0) (leb region (1024 * b)) r);
      aligned = eqb-true (addr % b) 0 (and_fst (eqb (addr % b) 0) (leb (addr + region) limit) a);
      end = leb-true (addr + region) limit (and_snd (eqb (addr % b) 0) (leb (addr + region) limit) a);
      requested = leb-true requested usable (and_fst (leb requested usable) (leb usable region) s2);
      usable = leb-true usable region (and_snd (leb requested usable) (leb usable region) s2);
      whole_usable = eqb-true (usable % b) 0 (and_snd (leb requested usable && leb usable region) (eqb (usable % b) 0) s3);
      whole_requested = eqb-true (requested % b) 0 (and_snd (leb requested usable && leb usable region && eqb (usable % b) 0) (eqb (requested % b) 0) s);
    }

-- a record that keeps its rules is valid
pub device_valid : (d : MemoryDevice) → device_ok d ≡ true → Valid d
unfolding device_ok tables_ok
device_valid d h =
    let b = d.block_size in
    let s = setup_ruled b d.addr d.region_size d.usable_size d.requested_size (and_fst (setup_kept d) (tables_ok d) h) in
    let t = and_snd (setup_kept d) (tables_ok d) h in
    let plugs = bit_at d.plugged in
    let two = only plugs (d.region_size / b) && only (is_pinned d) (d.region_size / b) in
    let three = two && only plugs (d.usable_size / b) in
    record {
      least = s.least;
      most = s.most;
      some = s.some;
      region = s.region;
      blocks = s.blocks;
      aligned = s.aligned;
      end = s.end;
      requested = s.requested;
      usable = s.usable;
      whole_usable = s.whole_usable;
      whole_requested = s.whole_requested;
      inside = only_true plugs (d.usable_size / b) (and_snd two (only plugs (d.usable_size / b)) (and_fst three (implies (is_pinned d) plugs) t));
      held = implies_true (is_pinned d) plugs (and_snd three (implies (is_pinned d) plugs) t);
    }

-- the sizes that carrying out a request needs are a valid record's
pub valid_sizes : (d : MemoryDevice) → Valid d → Sized (sizes_of d)
valid_sizes d v = record { some = omega (arith, v.least); most = v.most; aligned = v.aligned; room = omega (arith, v.usable, v.blocks) }
