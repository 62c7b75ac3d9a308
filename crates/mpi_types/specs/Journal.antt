-- How a journal spells a history.
use Rattle.std.specs.Prelude.{ℕ, List, ◌++◌, codes}
use Rattle.std.specs.List.{flat_map}
use Rattle.std.specs.Fmt.{decimal}
use Rattle.mpi_types.specs.declared.entries.Entry.{Entry}
use Rattle.mpi_types.specs.declared.entries.Entry.TheVariants.{Tick, Match, Gather, Commit}
use Rattle.mpi_types.specs.declared.entries.EntryRun.{EntryRun}
use Rattle.mpi_types.specs.Runs.{runs_of}

-- The line of an entry that stands so many times in a row. Only ticks of one rank share a line, and only their line
-- has the number of times.
abbrev pub run_line : Entry → ℕ → List ℕ
run_line (Tick rank) times = codes "T " ++ decimal rank.0 ++ codes " " ++ decimal times ++ codes "\n"
run_line (Match rank request sender) times =
    codes "M " ++ decimal rank.0 ++ codes " " ++ decimal request ++ codes " " ++ decimal sender.0 ++ codes "\n"
run_line (Gather rank) times = codes "G " ++ decimal rank.0 ++ codes "\n"
run_line Commit times = codes "C\n"

-- the lines of runs
abbrev pub run_lines : List EntryRun → List ℕ
run_lines runs = flat_map (λ run. run_line run.entry run.times) runs

-- the first line: the number of ranks and the bound on ticks
abbrev pub header_line : ℕ → ℕ → List ℕ
header_line ranks bound = codes "ampi-journal 1 " ++ decimal ranks ++ codes " " ++ decimal bound ++ codes "\n"

-- the journal of a history of so many ranks under a bound on ticks
abbrev pub journal_text : ℕ → ℕ → List Entry → List ℕ
journal_text ranks bound h = header_line ranks bound ++ run_lines (runs_of h)
