-- Bytes in one area, and pages that are always marked.
use Rattle.std.proofs.Common.{◌≡◌, ℕ, ◌≤◌, inr, true, List, length, refl, Result, Ok, Err, OnErr}
use Rattle.rank_range.specs.Layout.{MarksChanges, IsRange, range_bytes, stack_start}

-- where every page is marked, all is told
pub always_marked : (old new : List ℕ) → MarksChanges old new (λ page. true) (λ page. true)
always_marked old new = record { changed = λ page below. inr refl; kept = λ page below marked. refl }

pub is_range : (top : ℕ) (bytes : List ℕ) → length bytes ≡ range_bytes → stack_start ≤ top → top ≤ range_bytes
    → IsRange top bytes
is_range top bytes whole above below = record { whole = whole; above = above; below = below }

-- what is said of an error holds of any answer for which it is known
pub on_err : {T E : Type 0} (r : Result T E) (P : Type 0) → P → OnErr r P
on_err (Ok x) P p = tt
on_err (Err e) P p = p
