-- What private functions find among the nodes, and what they do to the blocks.
use Rattle.std.specs.Prelude.{ℕ, ◌≡◌, ◌+◌, ◌*◌, ◌<◌, ◌≤◌, List, ◌∷◌, ◌++◌}
use Rattle.rank_range.specs.Layout.{base_of, heap_start}
use Rattle.rank_range.specs.Heap.{Fits, rounded}
use Rattle.rank_range.specs.Nodes.{IsSoundHeap, SpellsBlocks, IsHole, IsBlock, node_at}
use Rattle.rank_range.specs.declared.heap.Block.{Block}
use Rattle.rank_range.specs.Heap.{IsLive, with_block, without}

-- The bytes spell some heap.
pub record IsAnyHeap (bytes : List ℕ) : Type 0 where
  pub used : List ℕ
  pub unused : List ℕ
  pub sound : IsSoundHeap bytes used unused

-- The node is one of a sound heap's used nodes.
pub record IsUsed (bytes : List ℕ) (number : ℕ) : Type 0 where
  pub left : List ℕ
  pub right : List ℕ
  pub unused : List ℕ
  pub sound : IsSoundHeap bytes (left ++ number ∷ right) unused

-- A block of that size may stand nowhere.
abbrev pub FitsNowhere : ℕ → List ℕ → ℕ → Type 0
FitsNowhere rank bytes size =
    (blocks : List Block) → SpellsBlocks rank bytes blocks → (b : ℕ) → Fits rank blocks size b → ⊥

-- The node is a hole with room for that size, and before its first unit a block of that size may stand nowhere.
pub record IsFirstHole (rank : ℕ) (bytes : List ℕ) (size number : ℕ) : Type 0 where
  pub used : IsUsed bytes number
  pub hole : IsHole bytes number
  pub room : rounded size ≤ 16 * (node_at bytes number).units
  pub least : (blocks : List Block) → SpellsBlocks rank bytes blocks
      → (k : ℕ) → k < (node_at bytes number).start → Fits rank blocks size (base_of rank + heap_start + 16 * k) → ⊥

-- No live block has the address.
abbrev pub IsDead : ℕ → List ℕ → ℕ → Type 0
IsDead rank bytes address = (blocks : List Block) → SpellsBlocks rank bytes blocks → IsLive address blocks → ⊥

-- The node is a block of the address.
pub record IsBlockAt (rank : ℕ) (bytes : List ℕ) (address number : ℕ) : Type 0 where
  pub used : IsUsed bytes number
  pub block : IsBlock bytes number
  pub here : address ≡ base_of rank + heap_start + 16 * (node_at bytes number).start

-- The first units of the hole are a live block, and all else is as it was.
abbrev pub Occupies : List ℕ → List ℕ → ℕ → ℕ → Type 0
Occupies old new start units =
    (rank : ℕ) (blocks : List Block) → SpellsBlocks rank old blocks
    → SpellsBlocks rank new (
    with_block (record { address = base_of rank + heap_start + 16 * start; length = 16 * units }) blocks
    )

-- The block that starts at that unit is no more, and all else is as it was.
abbrev pub Vacates : List ℕ → List ℕ → ℕ → Type 0
Vacates old new start =
    (rank : ℕ) (blocks : List Block) → SpellsBlocks rank old blocks
    → SpellsBlocks rank new (without (base_of rank + heap_start + 16 * start) blocks)
