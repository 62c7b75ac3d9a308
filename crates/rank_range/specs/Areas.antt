-- A rank's memory as its program sees it: three areas as lists, and the live blocks of its heap. What a list doesn't hold
-- isn't there. All of it is this profile's own.
use Rattle.std.specs.Prelude.{ℕ, ◌≡◌, ◌≢◌, ◌+◌, ◌-◌, ◌==◌, ◌&&◌, ◌↔◌, if◌then◌else◌, Bool, IsTrue, nat_lt, nat_le, Option, Some, None, option_map, option_and_then, List, [], ◌∷◌, ◌++◌, length, replicate, take, drop}
use Rattle.std.specs.List.{AllByRecursion}
use Rattle.byteorder.specs.Endian.{little_number, little_bytes}
use Rattle.rank_range.specs.declared.heap.Block.{Block}
use Rattle.rank_range.specs.Layout.{base_of, globals_start, heap_start, stack_start, range_bytes, Accessible, IsRange}
use Rattle.rank_range.specs.Parts.{part, with_part, StayBeside}
use Rattle.rank_range.specs.Heap.{first_fit, rounded, with_block, without, is_live}
use Rattle.rank_range.specs.Nodes.{blocks_of}

-- The rank's number, its globals, its heap, and its data stack below the top.
pub record Areas : Type 0 where
  pub rank : ℕ
  pub globals : List ℕ
  pub heap : List ℕ
  pub stack : List ℕ

-- The areas with the live blocks of the heap, in the order of their addresses.
pub record Memory : Type 0 where
  pub areas : Areas
  pub blocks : List Block

abbrev pub with_areas : Areas → Memory → Memory
with_areas areas memory = record { areas = areas; blocks = memory.blocks }

-- a lies from `start` on, and before `end`
abbrev pub is_between : ℕ → ℕ → ℕ → Bool
is_between start end a = nat_le start a && nat_lt a end

-- where an area begins
abbrev pub globals_at : Areas → ℕ
globals_at areas = base_of areas.rank + globals_start

abbrev pub heap_at : Areas → ℕ
heap_at areas = base_of areas.rank + heap_start

abbrev pub stack_at : Areas → ℕ
stack_at areas = base_of areas.rank + stack_start

-- whether the address a lies in the area with these bytes from `start` on
abbrev pub is_in : ℕ → List ℕ → ℕ → Bool
is_in start bytes a = is_between start (start + length bytes) a

-- the bytes from the address a on, to the end of the area that it lies in
unfoldable pub bytes_from : Areas → ℕ → List ℕ
bytes_from areas a =
    if is_in (globals_at areas) areas.globals a then drop (a - globals_at areas) areas.globals
    else (if is_in (heap_at areas) areas.heap a then drop (a - heap_at areas) areas.heap
    else (if is_in (stack_at areas) areas.stack a then drop (a - stack_at areas) areas.stack
    else []))

-- the n bytes from the address a on, where they are all in one area
unfoldable pub bytes_at : Areas → ℕ → ℕ → Option (List ℕ)
bytes_at areas a n = if nat_le n (length (bytes_from areas a)) then Some (take n (bytes_from areas a)) else None

-- the areas with others in the place of the bytes from the address a on
unfoldable pub put_at : Areas → ℕ → List ℕ → Areas
put_at areas a new =
    if is_in (globals_at areas) areas.globals a
    then record { rank = areas.rank; globals = with_part areas.globals (a - globals_at areas) new; heap = areas.heap; stack = areas.stack }
    else (if is_in (heap_at areas) areas.heap a
    then record { rank = areas.rank; globals = areas.globals; heap = with_part areas.heap (a - heap_at areas) new; stack = areas.stack }
    else (if is_in (stack_at areas) areas.stack a
    then record { rank = areas.rank; globals = areas.globals; heap = areas.heap; stack = with_part areas.stack (a - stack_at areas) new }
    else areas))

-- the same, where these bytes are all in one area
unfoldable pub with_bytes_at : Areas → ℕ → List ℕ → Option Areas
with_bytes_at areas a new = if nat_le (length new) (length (bytes_from areas a)) then Some (put_at areas a new) else None

-- the areas with the n bytes from the address `from` on also from the address `to` on, as if by a buffer
unfoldable pub copied_at : Areas → ℕ → ℕ → ℕ → Option Areas
copied_at areas to from n = option_and_then (with_bytes_at areas to) (bytes_at areas from n)

-- the number in the n bytes from the address a on, and the areas with the lowest n bytes of v there
unfoldable pub number_of : Areas → ℕ → ℕ → Option ℕ
number_of areas a n = option_map (little_number n) (bytes_at areas a n)

unfoldable pub with_number_of : Areas → ℕ → ℕ → ℕ → Option Areas
with_number_of areas a n v = with_bytes_at areas a (little_bytes n v)

-- the bytes before the first zero, if there is one
abbrev pub before_zero : List ℕ → Option (List ℕ)
before_zero [] = None
before_zero (b ∷ bs) = if b == 0 then Some [] else option_map (λ rest. b ∷ rest) (before_zero bs)

-- the text from the address a up to a zero, where both are in one area
unfoldable pub text_at : Areas → ℕ → Option (List ℕ)
text_at areas a = before_zero (bytes_from areas a)

-- The text and the zero behind it stand there, and the text has no other zero.
abbrev pub IsTextAt : Areas → ℕ → List ℕ → Type 0
IsTextAt areas a text =
    (bytes_at areas a (length text + 1) ≡ Some (text ++ 0 ∷ [])) × AllByRecursion (λ b. b ≢ 0) text

-- ---- the heap's calls

-- What `malloc` answers, and the memory behind it: a block of zeros at the first fit, or 0 and nothing changed.
unfoldable pub take_block : ℕ → Memory → ℕ × Memory
take_block size memory =
    if first_fit memory.areas.rank memory.blocks size == 0 then (0, memory)
    else (
      first_fit memory.areas.rank memory.blocks size,
      record {
        areas = put_at memory.areas (first_fit memory.areas.rank memory.blocks size) (replicate (rounded size) 0);
        blocks = with_block (record { address = first_fit memory.areas.rank memory.blocks size; length = rounded size }) memory.blocks;
      },
    )

-- the memory after `free`, where the address is that of a live block
unfoldable pub give_block : ℕ → Memory → Option Memory
give_block address memory =
    if is_live address memory.blocks
    then Some (record { areas = memory.areas; blocks = without address memory.blocks })
    else None

-- ---- the areas in a rank's bytes

unfoldable pub areas_of : ℕ → ℕ → List ℕ → Areas
areas_of rank top bytes =
    record {
      rank = rank;
      globals = part bytes globals_start (heap_start - globals_start);
      heap = part bytes heap_start (stack_start - heap_start);
      stack = part bytes stack_start (top - stack_start);
    }

unfoldable pub memory_of : ℕ → ℕ → List ℕ → Memory
memory_of rank top bytes = record { areas = areas_of rank top bytes; blocks = blocks_of rank bytes }

-- how many bytes there are from the address a to the end of the area that it lies in
abbrev pub room_at : ℕ → ℕ → ℕ → ℕ
room_at rank top a =
    if is_between (base_of rank + globals_start) (base_of rank + heap_start) a then base_of rank + heap_start - a
    else (if is_between (base_of rank + heap_start) (base_of rank + stack_start) a then base_of rank + stack_start - a
    else (if is_between (base_of rank + stack_start) (base_of rank + top) a then base_of rank + top - a
    else 0))

unfoldable pub is_accessible : ℕ → ℕ → ℕ → ℕ → Bool
is_accessible rank top a n = nat_le n (room_at rank top a)

-- The test tells of just the accessible bytes.
abbrev pub TellsAccessible : Type 0
TellsAccessible = (rank top a n : ℕ) → IsTrue (is_accessible rank top a n) ↔ Accessible rank top a n

-- What is read by areas is what stands in the rank's bytes, and nothing where the bytes aren't accessible.
abbrev pub AreRead : Type 0
AreRead =
    (rank top a n : ℕ) (bytes : List ℕ) → IsRange top bytes
    → bytes_at (areas_of rank top bytes) a n
    ≡ (if is_accessible rank top a n then Some (part bytes (a - base_of rank) n) else None)

-- What is put by areas is what is put into the rank's bytes, and nothing where the bytes aren't accessible.
abbrev pub ArePut : Type 0
ArePut =
    (rank top a : ℕ) (bytes new : List ℕ) → IsRange top bytes
    → with_bytes_at (areas_of rank top bytes) a new
    ≡ (if is_accessible rank top a (length new) then Some (areas_of rank top (with_part bytes (a - base_of rank) new)) else None)

-- The text at an address is the one that the relation tells.
abbrev pub AreTexts : Type 0
AreTexts = (areas : Areas) (a : ℕ) (text : List ℕ) → (text_at areas a ≡ Some text) ↔ IsTextAt areas a text

-- The areas become these, where there are some: no byte before the globals changes, and no block.
pub record Becomes (rank top : ℕ) (old new : List ℕ) (areas : Option Areas) : Type 0 where
  pub areas_are : areas ≡ Some (areas_of rank top new)
  pub blocks_are : blocks_of rank new ≡ blocks_of rank old
  pub beside : StayBeside old new globals_start range_bytes
  pub whole : length new ≡ length old
