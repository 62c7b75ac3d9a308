-- A rank's memory that is filled with given bytes from its start on.
use Rattle.std.specs.Prelude.{ℕ, ◌≡◌, ◌<◌, List, length, slice_index}
use Rattle.rank_range.specs.Layout.{range_bytes}

-- Up to a place the bytes are those of the other list.
pub record IsFilled (bytes given : List ℕ) (place : ℕ) : Type 0 where
  pub at : (i : ℕ) → i < place → slice_index bytes i ≡ slice_index given i

-- A memory that is filled with all given bytes is that list.
abbrev pub FilledIsSame : Type 0
FilledIsSame = (bytes given : List ℕ) → length bytes ≡ range_bytes → length given ≡ range_bytes → IsFilled bytes given range_bytes → bytes ≡ given
