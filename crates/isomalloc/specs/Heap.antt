-- What the calls of a rank's heap do to its live blocks and to its bytes. This profile's own.
use Rattle.std.specs.Prelude.{ℕ, ◌≡◌, ◌+◌, ◌<◌, ◌≤◌, ◌⊎◌, List, length, slice_index}
use Rattle.rank_range.specs.Layout.{range_bytes, descriptors_start, globals_start}
use Rattle.rank_range.specs.Nodes.{HasHeap, HeapBytesStay}

-- No byte but the header's page and the descriptors tells of the heap.
abbrev pub OthersTellNothing : Type 0
OthersTellNothing = (rank : ℕ) (old new : List ℕ) → HeapBytesStay old new → HasHeap rank old → HasHeap rank new

-- Each byte but the header's page and the descriptors is as it was.
abbrev pub OthersStay : List ℕ → List ℕ → Type 0
OthersStay old new =
    (i : ℕ) → 4096 ≤ i → (i < descriptors_start) ⊎ (globals_start ≤ i) → slice_index new i ≡ slice_index old i

-- Each byte is as it was, but for the header's four numbers, the nodes, and the bytes from `start` up to `end`.
abbrev pub BytesStay : List ℕ → List ℕ → ℕ → ℕ → Type 0
BytesStay old new start end =
    (i : ℕ) → 16 ≤ i → (i < descriptors_start) ⊎ (globals_start ≤ i) → (i < start) ⊎ (end ≤ i)
    → slice_index new i ≡ slice_index old i

-- The n bytes from `start` on are zero.
abbrev pub AreZero : List ℕ → ℕ → ℕ → Type 0
AreZero bytes start n = (i : ℕ) → i < n → slice_index bytes (start + i) ≡ 0

-- A range has all its bytes, and its header's page and its descriptors are zero.
pub record IsCleared (bytes : List ℕ) : Type 0 where
  pub whole : length bytes ≡ range_bytes
  pub header : (i : ℕ) → i < 4096 → slice_index bytes i ≡ 0
  pub nodes : AreZero bytes descriptors_start 131072
