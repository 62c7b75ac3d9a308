-- How rooms of bytes lie behind one another: the members of a structure (C11, 6.7.2.1p15 and p17), and the parameters and
-- locals of a frame. The order of a frame and that it is a multiple of 16 bytes are this profile's own.
use Rattle.std.specs.Prelude.{ℕ, ◌≡◌, ◌+◌, ◌%◌, ◌≤◌, ◌<◌, if◌then◌else◌, nat_lt}
use Rattle.std.specs.Int.{next_multiple_of}
use Rattle.rank_range.specs.Numbers.{bytes_in}
use Rattle.rank_range.specs.declared.width.Width.{Width}
use Rattle.rank_range.specs.declared.width.Width.TheVariants.{One}
use Rattle.c_types.specs.declared.rooms.Rooms.{Rooms}

-- the greater of two alignments
abbrev pub wider : Width → Width → Width
wider a b = if nat_lt (bytes_in a) (bytes_in b) then b else a

-- Before the first one nothing is taken, and an alignment of 1 asks for nothing.
abbrev pub no_rooms : Rooms
no_rooms = record { end = 0; align = One }

-- Each lies at the first multiple of its alignment that isn't below the end of the one before.
abbrev pub offset_behind : Width → Rooms → ℕ
offset_behind align rooms = next_multiple_of rooms.end (bytes_in align)

-- one more room of so many bytes
abbrev pub with_room : ℕ → Width → Rooms → Rooms
with_room size align rooms = record {
  end = offset_behind align rooms + size;
  align = wider rooms.align align;
}

-- A structure is padded at its end to its greatest alignment, so that each element of an array of it is aligned.
abbrev pub padded : Rooms → ℕ
padded rooms = next_multiple_of rooms.end (bytes_in rooms.align)

-- how many bytes a frame has
abbrev pub frame_bytes : Rooms → ℕ
frame_bytes rooms = next_multiple_of rooms.end 16

-- the number is the least multiple of `step` that isn't below `from`
pub record IsLeastMultiple (from step number : ℕ) : Type 0 where
  pub multiple : number % step ≡ 0
  pub not_below : from ≤ number
  pub least : (other : ℕ) → other % step ≡ 0 → from ≤ other → number ≤ other

abbrev pub NextIsLeast : Type 0
NextIsLeast = (from step : ℕ) → 0 < step → IsLeastMultiple from step (next_multiple_of from step)
