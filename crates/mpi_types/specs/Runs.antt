-- Histories as lists of entries, and as runs of equal entries.
use Rattle.std.specs.Prelude.{ℕ, ◌≡◌, ◌+◌, ◌==◌, if◌then◌else◌, Bool, true, false, List, [], ◌∷◌, replicate}
use Rattle.std.specs.List.{flat_map}
use Rattle.mpi_types.specs.declared.entries.Entry.{Entry}
use Rattle.mpi_types.specs.declared.entries.Entry.TheVariants.{Tick, Match, Gather, Commit}
use Rattle.mpi_types.specs.declared.entries.EntryRun.{EntryRun}

-- the entry is a mark
abbrev pub is_mark : Entry → Bool
is_mark (Tick rank) = false
is_mark (Match rank request sender) = false
is_mark (Gather rank) = false
is_mark Commit = true

-- the second entry may stand in one run with the first: both are ticks of one rank
abbrev pub are_one_run : Entry → Entry → Bool
are_one_run (Tick r) (Tick q) = r.0 == q.0
are_one_run (Tick r) (Match q request sender) = false
are_one_run (Tick r) (Gather q) = false
are_one_run (Tick r) Commit = false
are_one_run (Match r request sender) e = false
are_one_run (Gather r) e = false
are_one_run Commit e = false

-- an entry before runs: one more of the first run, where it may stand in that one
abbrev pub run_before : Entry → List EntryRun → List EntryRun
run_before e [] = record { entry = e; times = 1 } ∷ []
run_before e (run ∷ runs) =
    if are_one_run e run.entry then record { entry = run.entry; times = run.times + 1 } ∷ runs
    else record { entry = e; times = 1 } ∷ run ∷ runs

-- A history as runs of equal entries: as many ticks of one rank as stand in a row are one run, and any other entry is
-- a run of its own.
abbrev pub runs_of : List Entry → List EntryRun
runs_of [] = []
runs_of (e ∷ h) = run_before e (runs_of h)

-- the entries that runs stand for
abbrev pub entries_of : List EntryRun → List Entry
entries_of runs = flat_map (λ run. replicate run.times run.entry) runs

-- ticks may stand any number of times in a row, any other entry once
abbrev pub MayRepeat : Entry → ℕ → Type 0
MayRepeat (Tick r) times = Unit {0}
MayRepeat (Match r request sender) times = times ≡ 1
MayRepeat (Gather r) times = times ≡ 1
MayRepeat Commit times = times ≡ 1

-- an entry that stands so many times in a row
abbrev pub run_of_entry : Entry → ℕ → EntryRun
run_of_entry e n = record { entry = e; times = n }

-- two runs made one
abbrev pub merged : EntryRun → EntryRun → EntryRun
merged run more = run_of_entry run.entry (run.times + more.times)

-- a run added behind runs: into the last one, where it may stand in that one
abbrev pub run_behind : List EntryRun → EntryRun → List EntryRun
run_behind [] new = new ∷ []
run_behind (run ∷ []) new = if are_one_run new.entry run.entry then merged run new ∷ [] else run ∷ new ∷ []
run_behind (run ∷ more ∷ runs) new = run ∷ run_behind (more ∷ runs) new
