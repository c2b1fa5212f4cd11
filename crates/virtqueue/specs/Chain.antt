-- A chain of descriptors, stated apart from where descriptors are read, how elements are reached and which entry follows. Assumes nothing: these are definitions.
use Rattle.std.specs.Prelude.{ℕ, zero, suc, ◌+◌, ◌-◌, ◌*◌, ◌/◌, ◌%◌, min, Bool, false, cond, not, ◌&&◌, ◌||◌, List, [], ◌∷◌, ◌++◌, ◌==◌, nat_lt}
use Rattle.guest_view.specs.Guest.{Guest, all_reach, addresses, number_at}
use Rattle.map_records.specs.Refusal as refusal
use Rattle.device_words.specs.Bytes.{request_length, response_length}
use Rattle.virtqueue.specs.declared.chain.Descriptor.{Descriptor}

-- 'NEXT is 1, WRITE 2, INDIRECT 4'
abbrev pub flag_next : ℕ
flag_next = 1

abbrev pub flag_write : ℕ
flag_write = 2

abbrev pub flag_indirect : ℕ
flag_indirect = 4

abbrev pub has_next : Descriptor → Bool
has_next d = d.flags / flag_next % 2 == 1

abbrev pub is_writable : Descriptor → Bool
is_writable d = d.flags / flag_write % 2 == 1

abbrev pub is_indirect : Descriptor → Bool
is_indirect d = d.flags / flag_indirect % 2 == 1

-- What a step meets along a chain: its end; a number that ends it; an element that it comes to and whose addresses it does not accept; an element that it comes to and accepts, and then the rest.
pub data Chain : Type 0 where
  whole : Chain
  ended : ℕ → Chain
  rejected : Descriptor → Chain
  element : Descriptor → Chain → Chain

-- what stands at an entry of a table: a descriptor, or bytes that are not all reachable
pub data Entry : Type 0 where
  out : Entry
  here : Descriptor → Entry

-- 20: 'INDIRECT set; a readable element after a writable one'
abbrev pub misplaced : Bool → Descriptor → Bool
misplaced late d = is_indirect d || (late && not (is_writable d))

-- which entry follows a descriptor that has NEXT: one of the table, or none, which is 20
pub data Following : Type 0 where
  onward : ℕ → Following
  astray : Following

-- in a table of `size` descriptors: 20, 'next not below the queue size'
abbrev pub next_below : ℕ → Descriptor → ℕ → Following
next_below size d i = cond (nat_lt d.next size) (onward d.next) astray

abbrev pub go_on : (ℕ → Chain) → Following → Chain
go_on rest (onward j) = rest j
go_on rest astray = ended refusal.CHAIN

-- The descriptor at entry i, `late` saying whether a writable element came before, `next` which entry follows and `rest` the chain from there on: 'per descriptor 17, INDIRECT, readable late, 21, next or length'.
unfoldable pub visit : (Descriptor → Bool) → (Descriptor → ℕ → Following) → ℕ → Bool → (ℕ → Bool → Chain) → Entry → Chain
visit reached next i late rest out = ended refusal.RING
visit reached next i late rest (here d) =
    cond (misplaced late d) (ended refusal.CHAIN)
    (cond (reached d) (element d (cond (has_next d) (go_on (λ j. rest j (is_writable d)) (next d i)) whole)) (rejected d))

-- The chain from entry i on, of at most `left` more descriptors. With none left, NEXT was 'set in the descriptor that is the queue-size-th of the chain'. Where descriptors are read, which are reached, which entry follows and how many there may be are parameters, so that another ring can share it.
unfoldable pub follow : (ℕ → Entry) → (Descriptor → Bool) → (Descriptor → ℕ → Following) → ℕ → ℕ → Bool → Chain
follow fetch reached next zero i late = ended refusal.CHAIN
follow fetch reached next (suc left) i late = visit reached next i late (follow fetch reached next left) (fetch i)

-- the number that ends a chain, and 0 for a whole one
unfoldable pub end_of : Chain → ℕ
end_of whole = 0
end_of (ended k) = k
end_of (rejected d) = refusal.REACH
end_of (element d c) = end_of c

-- its readable and its writable elements, as far as they are accepted
unfoldable pub readable : Chain → List Descriptor
readable whole = []
readable (ended k) = []
readable (rejected d) = []
readable (element d c) = cond (is_writable d) (readable c) (d ∷ readable c)

unfoldable pub writable : Chain → List Descriptor
writable whole = []
writable (ended k) = []
writable (rejected d) = []
writable (element d c) = cond (is_writable d) (d ∷ writable c) (writable c)

-- the bytes of elements, one element after the other: how many, and the addresses of the first k
unfoldable pub total : List Descriptor → ℕ
total [] = 0
total (d ∷ ds) = d.length + total ds

unfoldable pub first_bytes : ℕ → List Descriptor → List ℕ
first_bytes k [] = []
first_bytes k (d ∷ ds) = addresses d.addr.0 (min k d.length) ++ first_bytes (k - d.length) ds

-- 22: 'fewer than 24 readable or 10 writable bytes', after what ended the chain
unfoldable pub shape_of : Chain → ℕ
shape_of c = cond (end_of c == 0) (cond (nat_lt (total (readable c)) request_length || nat_lt (total (writable c)) response_length) refusal.SHAPE 0) (end_of c)

-- VIRTIO 2.6.5: a descriptor of 16 bytes, address, length, flags and next
abbrev pub descriptor_length : ℕ
descriptor_length = 16

unfoldable pub descriptor_at : (ℕ → ℕ) → List ℕ → ℕ → Descriptor
descriptor_at place memory a =
    record {
      addr = record { 0 = number_at place memory a 8 };
      length = number_at place memory (a + 8) 4;
      flags = number_at place memory (a + 12) 2;
      next = number_at place memory (a + 14) 2;
    }

-- entry i of a table in guest memory, where its bytes are reachable
unfoldable pub fetched : Guest → List ℕ → ℕ → ℕ → Entry
fetched g memory table i =
    cond (all_reach g.reach (table + descriptor_length * i) descriptor_length) (here (descriptor_at g.place memory (table + descriptor_length * i))) out

-- 'An element of length 0 has no bytes and any address; no element wraps'
abbrev pub reached : Guest → Descriptor → Bool
reached g d = all_reach g.reach d.addr.0 d.length

-- the chain in a guest's table of `size` descriptors that starts at `head`: as many may come as the table has
unfoldable pub chain_at : Guest → List ℕ → ℕ → ℕ → ℕ → Chain
chain_at g memory table size head = follow (fetched g memory table) (reached g) (next_below size) size head false
