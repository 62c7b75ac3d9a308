-- What the field readers give.
use Rattle.std.specs.Prelude.{◌≡◌, ℕ, ◌+◌, ◌<◌, List, ◌++◌, length, slice_range}
use Rattle.std.specs.Int.{Width, byte_len, to_le_bytes, from_le_bytes}

-- The number is the one whose field stands there, read either way, and the place is the one behind it.
pub record Takes (w : Width) (bytes : List ℕ) (at : ℕ) (taken : ℕ × ℕ) : Type 0 where
  pub number : taken.0 ≡ from_le_bytes w (slice_range bytes at (at + byte_len w))
  pub field : slice_range bytes at (at + byte_len w) ≡ to_le_bytes w taken.0
  pub next : taken.1 ≡ at + byte_len w

-- What is taken at the place of a number's field is that number and the place behind the field.
abbrev pub AreTakenBack : Width → ℕ → Type 0
AreTakenBack w end =
    (before after : List ℕ) (v : ℕ) (taken : ℕ × ℕ) → v < end
    → Takes w (before ++ to_le_bytes w v ++ after) (length before) taken
    → (taken.0 ≡ v) × (taken.1 ≡ length (before ++ to_le_bytes w v))
