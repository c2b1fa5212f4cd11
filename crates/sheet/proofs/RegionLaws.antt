-- Laws of the fields of one region. Assumes nothing.
use mathlib.Core.Path.{◌≡◌, refl, sym, ◌∙◌}
use mathlib.Core.Bool.{true, false}
use mathlib.Core.List.{List}
use Prim.Native.Nat.{ℕ, ◌+◌, ◌≤◌, ◌<◌}
use native.Mathlib.Numerals.{add-one}
use lib.ListN.{get_or, drop, drop_of_length-le}
use lib.Seq.{drop-cons}
use borrow.Author.Tests.{lt-leb}
use Rattle.map_records.specs.Map.{managed, has, with_value, kind_number}
use Rattle.map_records.specs.declared.kind.Kind.{Kind}
use Rattle.map_records.specs.declared.kind.Kind.TheVariants as kind
use Rattle.map_check.specs.Fault.{kind_fault}
use Rattle.map_check.specs.Reply.{Reply, place}
use Rattle.map_records.specs.declared.map.Region.{Region}
use Rattle.map_records.specs.declared.map.Field.{Field}
use Rattle.map_records.specs.declared.map.Field.TheVariants.{Parent}
use Rattle.sheet.specs.Answer.{got, refused, next}
use Rattle.sheet.specs.Number.{sheet_number}
use Rattle.sheet.specs.Region.{sheet_fields, field_at, fields_from, of_kind, sheet_region}

module _ (s : List ℕ) (f : Field) (r : Region) (at : ℕ) where
  pub field_read : (v then : ℕ) → has r.kind f ≡ true → sheet_number s at ≡ got v then → field_at s f r at ≡ got (with_value f v r) then
  unfolding field_at
  field_read v then h n = rw (h, n)

  pub field_refused : (a : Reply) → has r.kind f ≡ true → sheet_number s at ≡ refused a → field_at s f r at ≡ refused a
  unfolding field_at
  field_refused a h n = rw (h, n)

  pub field_lacked : has r.kind f ≡ false → field_at s f r at ≡ got r at
  unfolding field_at
  field_lacked h = rw h

-- the fields from the i-th on
module _ (s : List ℕ) (r : Region) (at i : ℕ) (inside : i < 8) (f : Field) (e : f ≡ get_or sheet_fields i Parent) where
  parted : fields_from s (drop i sheet_fields) r at ≡ next (field_at s f r at) (λ known then. fields_from s (drop (i + 1) sheet_fields) known then)
  unfolding fields_from
  parted = rw (add-one, drop-cons sheet_fields i Parent inside, e)

  pub fields_more : (known : Region) (then : ℕ) → field_at s f r at ≡ got known then
      → fields_from s (drop (i + 1) sheet_fields) known then ≡ fields_from s (drop i sheet_fields) r at
  fields_more known then h = sym (parted ∙ rw h)

  pub fields_refused : (a : Reply) → field_at s f r at ≡ refused a → refused a ≡ fields_from s (drop i sheet_fields) r at
  fields_refused a h = sym (parted ∙ rw h)

pub fields_done : (s : List ℕ) (r : Region) (at i : ℕ) → 8 ≤ i → got r at ≡ fields_from s (drop i sheet_fields) r at
unfolding fields_from
fields_done s r at i h = rw (drop_of_length-le sheet_fields {i = i} h)

-- a kind's number is no fault, and one that names no kind is
kind_named : (k : Kind) → kind_fault (kind_number k) ≡ false
kind_named kind.Container = refl
kind_named kind.Ram = refl
kind_named kind.Mmio = refl
kind_named kind.Alias = refl
kind_named kind.Managed = refl

module _ (s : List ℕ) (at : ℕ) where
  pub region_refused : (a : Reply) → sheet_number s at ≡ refused a → refused a ≡ sheet_region s at
  unfolding sheet_region
  region_refused a n = rw n

  pub region_unknown : (k then : ℕ) → sheet_number s at ≡ got k then → managed < k → refused (place 4 at) ≡ sheet_region s at
  unfolding sheet_region
  region_unknown k then n h = rw (n, lt-leb k managed h)

  pub region_read : (k : Kind) (n then : ℕ) → sheet_number s at ≡ got n then → n ≡ kind_number k → fields_from s sheet_fields (of_kind (kind_number k)) then ≡ sheet_region s at
  unfolding sheet_region
  region_read k n then e h = rw (e, h, kind_named k)
