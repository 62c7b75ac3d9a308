-- A whole run: a drain and then the one mark.
use Rattle.std.specs.Prelude.{◌≡◌, List, [], ◌∷◌, ◌++◌}
use Rattle.mpi_types.specs.declared.entries.Entry.{Entry}
use Rattle.mpi_types.specs.declared.entries.Entry.TheVariants.{Commit}
use Rattle.w_model.specs.World.{Setting, start_world, world_of, IsLegal, IsStuck}
use Rattle.w_model.specs.Cut.{HasNoMark, cut, released_at, released_lines}
use Rattle.w_model.specs.Drain.{IsDrain}

-- The history ends with its one mark, and what is before it is a drain from the start.
pub record IsMarkedDrain (s : Setting) (h : List Entry) : Type 0 where
  pub body : List Entry
  pub history_is : h ≡ body ++ Commit ∷ []
  pub unmarked : HasNoMark body
  pub drained : IsDrain s start_world body

-- A drain and its mark close a run: they are legal and end where the run is stuck; all of it is up to the mark, and the mark releases
-- all that was printed.
pub record ClosesRun (s : Setting) (body : List Entry) : Type 0 where
  pub marked : IsMarkedDrain s (body ++ Commit ∷ [])
  pub legal : IsLegal s (body ++ Commit ∷ [])
  pub stuck : IsStuck s (body ++ Commit ∷ [])
  pub same_world : world_of (body ++ Commit ∷ []) ≡ world_of body
  pub all_kept : cut (body ++ Commit ∷ []) ≡ body ++ Commit ∷ []
  pub released : released_lines s (body ++ Commit ∷ []) ≡ released_at s start_world (world_of body)

abbrev pub MarkedDrainsAreWhole : Type 0
MarkedDrainsAreWhole = (s : Setting) (body : List Entry) → IsDrain s start_world body → ClosesRun s body
