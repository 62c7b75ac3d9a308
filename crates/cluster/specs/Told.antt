-- What is told of a whole run.
use Rattle.std.specs.Prelude.{ℕ, ◌≡◌, Bool, List, [], ◌∷◌, ◌++◌}
use Rattle.std.specs.List.{flat_map}
use Rattle.mpi_types.specs.declared.entries.Entry.{Entry}
use Rattle.mpi_types.specs.declared.entries.Entry.TheVariants.{Commit}
use Rattle.w_model.specs.World.{Setting, world_of, start_world}
use Rattle.w_model.specs.Cut.{released_lines, released_at, rank_numbers}
use Rattle.w_model.specs.Texts.{report_text, rank_line_at, end_line, end_at, is_at_bound, is_unended, is_trapped}
use Rattle.mpi_types.specs.Journal.{run_lines}
use Rattle.mpi_types.specs.Runs.{runs_of}
use Rattle.w_model.specs.Drain.{IsDrain}
use Rattle.vm_code.specs.declared.code.Code.{Code}
use Rattle.cluster.specs.declared.rank.Rank.{Rank}
use Rattle.cluster.specs.Rank.{StandsFor}
use Rattle.cluster.specs.declared.told.Told.{Told}

-- all ranks are on processor 0
abbrev pub on_first : ℕ → ℕ
on_first r = 0

-- The texts are those of ranks that stand for the world after h, behind which the whole history has entries that
-- change nothing.
pub record Tells (files : List (List ℕ)) (s : Setting) (h whole : List Entry) (told : Told) : Type 0 where
  pub journal : told.journal ≡ run_lines (runs_of whole)
  pub lines : told.lines ≡ released_at s start_world (world_of h)
  pub report : told.report ≡ flat_map (rank_line_at files s (world_of h) on_first) (rank_numbers s) ++ end_line (end_at s (world_of h))
  pub end : told.end ≡ end_at s (world_of h)

-- The texts are those of a drain from the start and its mark, and the end is that run's.
pub record TellsOfRun (files : List (List ℕ)) (s : Setting) (told : Told) : Type 0 where
  pub body : List Entry
  pub drained : IsDrain s start_world body
  pub journal : told.journal ≡ run_lines (runs_of (body ++ Commit ∷ []))
  pub lines : told.lines ≡ released_lines s (body ++ Commit ∷ [])
  pub report : told.report ≡ report_text files s on_first (body ++ Commit ∷ [])
  pub end : told.end ≡ end_at s (world_of (body ++ Commit ∷ []))

-- a rank of this number that took no tick yet
pub record IsNew (code : Code) (s : Setting) (number : ℕ) (rank : Rank) : Type 0 where
  pub stands : StandsFor code s number rank
  pub no_tick : rank.regs.ticks ≡ 0

-- the rank can take no more ticks and hasn't ended; it hasn't ended
abbrev pub is_rank_at_bound : ℕ → Rank → Bool
is_rank_at_bound bound rank = is_at_bound rank.ending rank.regs.ticks bound

abbrev pub is_rank_unended : Rank → Bool
is_rank_unended rank = is_unended rank.ending

abbrev pub is_rank_trapped : Rank → Bool
is_rank_trapped rank = is_trapped rank.ending
