-- The memory of a rank before its first instruction.
use Rattle.std.specs.Prelude.{ℕ, ◌≡◌, ◌+◌, ◌-◌, ◌<◌, ◌≤◌, ◌⊎◌, Bool, All, List, length, slice_index}
use Rattle.std.specs.List.{fold}
use Rattle.rank_range.specs.Layout.{base_of, descriptors_start, globals_start, heap_start}
use Rattle.rank_range.specs.Parts.{part, StayBeside, Keeps}
use Rattle.rank_range.specs.declared.run.Segment.{Segment}
use Rattle.vm_code.specs.Memory.{with_base}

-- The globals have room for the segment, and each address that wants the rank's base lies in it.
pub record FitsGlobals (segment : Segment) : Type 0 where
  pub room : length segment.bytes ≤ heap_start - globals_start
  pub inside : All (λ at. at + 8 ≤ length segment.bytes) segment.fixes

-- Beside the header's page, the descriptors and the globals each byte is zero.
abbrev pub RestIsZero : List ℕ → Type 0
RestIsZero bytes = (i : ℕ) → 4096 ≤ i → (i < descriptors_start) ⊎ (heap_start ≤ i) → slice_index bytes i ≡ 0

-- the bytes of the globals
abbrev pub globals_of : List ℕ → List ℕ
globals_of bytes = part bytes globals_start (heap_start - globals_start)

-- The rank's base was added at this offset of the globals.
pub record HasBase (old_rank new_rank old_top new_top : ℕ) (old new : List ℕ) (old_marks new_marks : ℕ → Bool) (at : ℕ) : Type 0 where
  pub globals : globals_of new ≡ with_base (base_of old_rank) (globals_of old) at
  pub beside : StayBeside old new globals_start heap_start
  pub kept : Keeps old_rank new_rank old_top new_top old new old_marks new_marks

-- It was added at all of these offsets but those that are left.
pub record HasBases (old_rank new_rank old_top new_top : ℕ) (old new : List ℕ) (old_marks new_marks : ℕ → Bool) (fixes left : List ℕ) : Type 0 where
  pub globals : fold (with_base (base_of old_rank)) (globals_of new) left ≡ fold (with_base (base_of old_rank)) (globals_of old) fixes
  pub beside : StayBeside old new globals_start heap_start
  pub kept : Keeps old_rank new_rank old_top new_top old new old_marks new_marks
