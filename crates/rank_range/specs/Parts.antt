-- Parts of a list of bytes, and what stays beside a part that changes.
use Rattle.std.specs.Prelude.{ℕ, ◌≡◌, ◌+◌, ◌<◌, ◌≤◌, ◌⊎◌, Bool, List, ◌++◌, length, take, drop, slice_index}
use Rattle.rank_range.specs.Layout.{MarksChanges}

-- the n bytes from `at` on, or as many as there are
unfoldable pub part : List ℕ → ℕ → ℕ → List ℕ
part bytes at n = take n (drop at bytes)

-- the bytes with others in the place of those from `at` on
unfoldable pub with_part : List ℕ → ℕ → List ℕ → List ℕ
with_part bytes at new = take at bytes ++ (new ++ drop (at + length new) bytes)

-- Each byte that doesn't lie from `start` up to `end` is as it was.
pub record StayBeside (old new : List ℕ) (start end : ℕ) : Type 0 where
  pub at : (i : ℕ) → (i < start) ⊎ (end ≤ i) → slice_index new i ≡ slice_index old i

-- What each change leaves: whose memory it is, its top, how many bytes there are, and the marks.
pub record Keeps (old_rank new_rank old_top new_top : ℕ) (old new : List ℕ) (old_marks new_marks : ℕ → Bool) : Type 0 where
  pub owner : new_rank ≡ old_rank
  pub stack : new_top ≡ old_top
  pub whole : length new ≡ length old
  pub marks : MarksChanges old new old_marks new_marks
