-- How a rank's bytes spell its heap: a header of four numbers, and nodes of 16 bytes that are linked by their numbers.
-- This profile's own.
use Rattle.std.specs.Prelude.{ℕ, zero, suc, ◌≡◌, ◌+◌, ◌*◌, ◌<◌, ◌≤◌, ◌==◌, ◌⊎◌, ⊤, if◌then◌else◌, nat_lt, List, [], ◌∷◌, ◌++◌, length, slice_index}
use Rattle.std.specs.List.{All}
use Rattle.rank_range.specs.Layout.{base_of, descriptors_start, globals_start, heap_start}
use Rattle.rank_range.specs.Numbers.{number_at}
use Rattle.rank_range.specs.Heap.{most_blocks}
use Rattle.rank_range.specs.declared.heap.Block.{Block}

-- how many nodes there are
abbrev pub node_count : ℕ
node_count = 8001

-- stands where there is no node
abbrev pub no_node : ℕ
no_node = 65535

-- how many units of 16 bytes the heap has
abbrev pub heap_units : ℕ
heap_units = 24576

-- The header: the first node in address order, the first unused node, the number of live blocks and of holes.
abbrev pub first_node : List ℕ → ℕ
first_node bytes = number_at bytes 0 4

abbrev pub first_unused : List ℕ → ℕ
first_unused bytes = number_at bytes 4 4

abbrev pub live_blocks : List ℕ → ℕ
live_blocks bytes = number_at bytes 8 4

abbrev pub hole_count : List ℕ → ℕ
hole_count bytes = number_at bytes 12 4

-- A node: where its piece of the heap begins and how long it is, in units of 16 bytes from the heap's start, the nodes
-- before and behind it, and what it is, 0 unused, 1 a hole, 2 a block.
pub record Node : Type 0 where
  pub start : ℕ
  pub units : ℕ
  pub previous : ℕ
  pub next : ℕ
  pub kind : ℕ
  pub rest : ℕ

abbrev pub node_place : ℕ → ℕ
node_place number = descriptors_start + 16 * number

abbrev pub node_at : List ℕ → ℕ → Node
node_at bytes number =
    record {
      start = number_at bytes (node_place number) 4;
      units = number_at bytes (node_place number + 4) 4;
      previous = number_at bytes (node_place number + 8) 2;
      next = number_at bytes (node_place number + 10) 2;
      kind = number_at bytes (node_place number + 12) 1;
      rest = number_at bytes (node_place number + 13) 3;
    }

abbrev pub IsUnused : List ℕ → ℕ → Type 0
IsUnused bytes number = (node_at bytes number).kind ≡ 0

abbrev pub IsHole : List ℕ → ℕ → Type 0
IsHole bytes number = (node_at bytes number).kind ≡ 1

abbrev pub IsBlock : List ℕ → ℕ → Type 0
IsBlock bytes number = (node_at bytes number).kind ≡ 2

-- the first of the nodes
abbrev pub first_of : List ℕ → ℕ
first_of [] = no_node
first_of (number ∷ numbers) = number

-- Each node names the node behind it.
abbrev pub AreLinked : List ℕ → List ℕ → Type 0
AreLinked bytes [] = ⊤
AreLinked bytes (number ∷ numbers) = ((node_at bytes number).next ≡ first_of numbers) × AreLinked bytes numbers

-- Each node names the node before it, and the first one `before`.
abbrev pub AreLinkedBack : List ℕ → ℕ → List ℕ → Type 0
AreLinkedBack bytes before [] = ⊤
AreLinkedBack bytes before (number ∷ numbers) =
    ((node_at bytes number).previous ≡ before) × AreLinkedBack bytes number numbers

-- The nodes' pieces follow each other from the unit `from` to the end of the heap, and none is empty.
abbrev pub Cover : List ℕ → ℕ → List ℕ → Type 0
Cover bytes from [] = from ≡ heap_units
Cover bytes from (number ∷ numbers) =
    ((node_at bytes number).start ≡ from) × (1 ≤ (node_at bytes number).units)
    × Cover bytes (from + (node_at bytes number).units) numbers

-- the block or hole of a node
abbrev pub piece_of : ℕ → List ℕ → ℕ → Block
piece_of rank bytes number =
    record {
      address = base_of rank + heap_start + 16 * (node_at bytes number).start;
      length = 16 * (node_at bytes number).units;
    }

-- the pieces of the nodes of that kind
abbrev pub pieces_of : ℕ → List ℕ → ℕ → List ℕ → List Block
pieces_of rank bytes kind [] = []
pieces_of rank bytes kind (number ∷ numbers) =
    if (node_at bytes number).kind == kind
    then piece_of rank bytes number ∷ pieces_of rank bytes kind numbers
    else pieces_of rank bytes kind numbers

-- how often the number stands in the list
abbrev pub times_in : ℕ → List ℕ → ℕ
times_in number [] = 0
times_in number (other ∷ others) = (if number == other then 1 else 0) + times_in number others

-- The bytes spell a heap whose used nodes, in address order, and unused nodes, in the order of their links, are these.
pub record IsSoundHeap (bytes : List ℕ) (used unused : List ℕ) : Type 0 where
  pub used_below : All (λ number. number < node_count) used
  pub unused_below : All (λ number. number < node_count) unused
  pub each_once : (number : ℕ) → number < node_count → times_in number (used ++ unused) ≡ 1
  pub first : first_node bytes ≡ first_of used
  pub unused_first : first_unused bytes ≡ first_of unused
  pub blocks : live_blocks bytes ≡ length (pieces_of 0 bytes 2 used)
  pub holes : hole_count bytes ≡ length (pieces_of 0 bytes 1 used)
  pub few : live_blocks bytes ≤ most_blocks
  pub header_rest : (at : ℕ) → 16 ≤ at → at < 4096 → slice_index bytes at ≡ 0
  pub node_rest : (number : ℕ) → number < node_count → (node_at bytes number).rest ≡ 0
  pub used_kind : All (λ number. IsHole bytes number ⊎ IsBlock bytes number) used
  pub unused_kind : All (IsUnused bytes) unused
  pub linked : AreLinked bytes used
  pub linked_back : AreLinkedBack bytes no_node used
  pub unused_linked : AreLinked bytes unused
  pub cover : Cover bytes 0 used
  pub joined : (k : ℕ) → k + 1 < length used → IsHole bytes (slice_index used k) → IsBlock bytes (slice_index used (k + 1))

-- The rank's bytes spell these live blocks, in address order.
pub record SpellsBlocks (rank : ℕ) (bytes : List ℕ) (blocks : List Block) : Type 0 where
  pub used : List ℕ
  pub unused : List ℕ
  pub sound : IsSoundHeap bytes used unused
  pub are : blocks ≡ pieces_of rank bytes 2 used

-- the node of that number and those behind it, by their links, and no more than so many
abbrev pub chain_of : List ℕ → ℕ → ℕ → List ℕ
chain_of bytes zero number = []
chain_of bytes (suc k) number =
    if nat_lt number node_count then number ∷ chain_of bytes k (node_at bytes number).next else []

-- the live blocks of a rank, in the order of their addresses
unfoldable pub blocks_of : ℕ → List ℕ → List Block
blocks_of rank bytes = pieces_of rank bytes 2 (chain_of bytes heap_units (first_node bytes))

-- The rank's bytes spell a heap with these live blocks.
abbrev pub HasHeap : ℕ → List ℕ → Type 0
HasHeap rank bytes = SpellsBlocks rank bytes (blocks_of rank bytes)

-- The bytes in which a heap is spelled are as they were: the header's page, and the descriptors.
abbrev pub HeapBytesStay : List ℕ → List ℕ → Type 0
HeapBytesStay old new =
    (i : ℕ) → (i < 4096) ⊎ ((descriptors_start ≤ i) × (i < globals_start)) → slice_index new i ≡ slice_index old i

-- So no other byte tells which blocks are read along the links.
abbrev pub BlocksStay : Type 0
BlocksStay = (rank : ℕ) (old new : List ℕ) → HeapBytesStay old new → blocks_of rank new ≡ blocks_of rank old

-- The blocks that the rank's bytes spell are those that are read along the links.
abbrev pub AreSpelled : Type 0
AreSpelled = (rank : ℕ) (bytes : List ℕ) (blocks : List Block) → SpellsBlocks rank bytes blocks → blocks ≡ blocks_of rank bytes

-- No bytes spell two lists of live blocks.
abbrev pub IsOneHeap : Type 0
IsOneHeap =
    (rank : ℕ) (bytes : List ℕ) (xs ys : List Block)
    → SpellsBlocks rank bytes xs → SpellsBlocks rank bytes ys → xs ≡ ys
