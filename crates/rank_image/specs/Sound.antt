-- That the tests by which images are read are the relations that they stand for.
use Rattle.std.specs.Prelude.{ℕ, ◌≡◌, ◌<◌, ◌≤◌, ◌+◌, ◌↔◌, true, List, [], ◌++◌}
use Rattle.byte_formats.specs.Lawful.{Spells, AreBytes}
use Rattle.rank_range.specs.Layout.{range_bytes, stack_start}
use Rattle.rank_range.specs.Nodes.{IsSoundHeap}
use Rattle.rank_image.specs.HeapTest.{is_sound_heap}
use Rattle.rank_image.specs.Image.{Rank, image, is_image, IsImage, frame_start, frame_end, operand_count, fit_records}

-- The bytes spell a heap.
abbrev pub HasNodes : List ℕ → Type 0
HasNodes bytes = (used : List ℕ) × (unused : List ℕ) × IsSoundHeap bytes used unused

-- The test of a heap tells whether the bytes spell one.
abbrev pub HeapIsTested : Type 0
HeapIsTested = (bytes : List ℕ) → (is_sound_heap bytes ≡ true) ↔ HasNodes bytes

-- The frame of a call lies in the data stack, and its record has room for its operands.
pub record IsRecord (bytes : List ℕ) (k : ℕ) : Type 0 where
  pub above : stack_start ≤ frame_start bytes k
  pub ordered : frame_start bytes k ≤ frame_end bytes k
  pub below : frame_end bytes k ≤ range_bytes
  pub few : operand_count bytes k ≤ 32

-- The test of records tells whether so it is with each of them.
abbrev pub RecordsAreTested : Type 0
RecordsAreTested = (bytes : List ℕ) (depth : ℕ) → (fit_records bytes depth ≡ true) ↔ ((k : ℕ) → k < depth → IsRecord bytes k)

-- The test of bytes tells whether they are an image.
abbrev pub ImagesAreTested : Type 0
ImagesAreTested = (bytes : List ℕ) → AreBytes bytes → (is_image bytes ≡ true) ↔ IsImage bytes

-- Bytes are the image of one rank at most.
abbrev pub IsOneImage : Type 0
IsOneImage = (bytes : List ℕ) (x y : Rank) → Spells image bytes x → Spells image bytes y → x ≡ y

-- A rank has one image.
abbrev pub HasOneImage : Type 0
HasOneImage = (a b : List ℕ) (x : Rank) → Spells image a x → Spells image b x → a ≡ b

-- Bytes in front of an image's end, and behind it, are none.
abbrev pub NoneIsLonger : Type 0
NoneIsLonger = (bytes more : List ℕ) (x y : Rank) → Spells image bytes x → Spells image (bytes ++ more) y → more ≡ []
