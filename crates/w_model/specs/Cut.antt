-- Marks in a history: what is up to the last one, and which lines each releases.
use Rattle.std.specs.Prelude.{ℕ, ◌≡◌, if◌then◌else◌, false, List, [], ◌∷◌, ◌++◌, length, drop, codes}
use Rattle.std.specs.List.{flat_map, range_with_len, AllByRecursion}
use Rattle.std.specs.Fmt.{decimal}
use Rattle.am_base.specs.Released.{released_line}
use Rattle.w_model.specs.Printed.{lines_of}
use Rattle.mpi_types.specs.declared.entries.Entry.{Entry}
use Rattle.w_model.specs.World.{Setting, World, start_world, after, outcome_at}
use Rattle.mpi_types.specs.Runs.{is_mark}

-- an entry before a part that is cut: it is kept where that part has a mark, and where it is a mark itself
abbrev pub before_cut : Entry → List Entry → List Entry
before_cut e (c ∷ cs) = e ∷ c ∷ cs
before_cut e [] = if is_mark e then e ∷ [] else []

-- the history up to and with its last mark, and nothing where it has none
abbrev pub cut : List Entry → List Entry
cut [] = []
cut (e ∷ h) = before_cut e (cut h)

-- no entry is a mark
abbrev pub HasNoMark : List Entry → Type 0
HasNoMark h = AllByRecursion (λ e. is_mark e ≡ false) h

-- the numbers of the ranks, in order
abbrev pub rank_numbers : Setting → List ℕ
rank_numbers s = range_with_len 0 s.ranks

-- the lines of a rank at a world
abbrev pub lines_at : Setting → World → ℕ → List (List ℕ)
lines_at s w r = lines_of (outcome_at s w r)

-- what a rank printed since the mark before, as written
abbrev pub lines_since : Setting → World → World → ℕ → List ℕ
lines_since s marked w r = flat_map (released_line r) (drop (length (lines_at s marked r)) (lines_at s w r))

-- what a mark at the world w releases, where the mark before stood at the world marked: rank by rank
abbrev pub released_at : Setting → World → World → List ℕ
released_at s marked w = flat_map (lines_since s marked w) (rank_numbers s)

abbrev pub released_from : Setting → World → World → List Entry → List ℕ
released_from s marked w [] = []
released_from s marked w (e ∷ h) =
    if is_mark e then released_at s marked w ++ released_from s w w h else released_from s marked (after w e) h

-- the released lines of a history, mark by mark
abbrev pub released_lines : Setting → List Entry → List ℕ
released_lines s h = released_from s start_world start_world h
