-- Where a rank's memory stands, which of it its program may reach, and which pages are marked. All of it is this
-- profile's own.
use Rattle.std.specs.Prelude.{ℕ, ◌≡◌, ◌+◌, ◌*◌, ◌^◌, ◌<◌, ◌≤◌, ◌⊎◌, Bool, true, List, length, take, drop, slice_index}

-- how many bytes a rank has
abbrev pub range_bytes : ℕ
range_bytes = 1048576

-- The offsets at which the block descriptors, the globals, the heap and the data stack begin. The heap ends where the
-- data stack begins.
abbrev pub descriptors_start : ℕ
descriptors_start = 77824

abbrev pub globals_start : ℕ
globals_start = 208896

abbrev pub heap_start : ℕ
heap_start = 524288

abbrev pub stack_start : ℕ
stack_start = 917504

-- the address of a rank's first byte
abbrev pub base_of : ℕ → ℕ
base_of rank = (rank + 1) * 2 ^ 32

-- Each of the n bytes from the address a on lies from `start` up to `end`.
abbrev pub AllIn : ℕ → ℕ → ℕ → ℕ → Type 0
AllIn start end a n = (i : ℕ) → i < n → (start ≤ a + i) × (a + i < end)

-- The n bytes from the address a on are all in one of the rank's accessible areas: its globals, its heap, or its data
-- stack below the top. Where there are no bytes, all of them are.
abbrev pub Accessible : ℕ → ℕ → ℕ → ℕ → Type 0
Accessible rank top a n =
    AllIn (base_of rank + globals_start) (base_of rank + heap_start) a n
    ⊎ AllIn (base_of rank + heap_start) (base_of rank + stack_start) a n
    ⊎ AllIn (base_of rank + stack_start) (base_of rank + top) a n

-- The bytes of a page.
abbrev pub page_of : List ℕ → ℕ → List ℕ
page_of bytes page = take 4096 (drop (4096 * page) bytes)

-- The page has its mark. Marks are told by the page's number.
abbrev pub IsMarked : (ℕ → Bool) → ℕ → Type 0
IsMarked marks page = marks page ≡ true

-- Each page is as it was, or has its mark, and no page lost its mark.
pub record MarksChanges (old new : List ℕ) (old_marks new_marks : ℕ → Bool) : Type 0 where
  pub changed : (page : ℕ) → page < 256 → (page_of new page ≡ page_of old page) ⊎ IsMarked new_marks page
  pub kept : (page : ℕ) → page < 256 → IsMarked old_marks page → IsMarked new_marks page

-- A range has all its bytes, and its top in the data stack or at its end.
pub record IsRange (top : ℕ) (bytes : List ℕ) : Type 0 where
  pub whole : length bytes ≡ range_bytes
  pub above : stack_start ≤ top
  pub below : top ≤ range_bytes

-- All bytes of a range, and each of them zero.
pub record IsZeroed (bytes : List ℕ) : Type 0 where
  pub whole : length bytes ≡ range_bytes
  pub zeros : (i : ℕ) → slice_index bytes i ≡ 0
