-- What the program puts of a run.
use Rattle.std.specs.Prelude.{ℕ, ◌≡◌, if◌then◌else◌, List, [], ◌∷◌, ◌++◌, ◌⊎◌}
use Rattle.mpi_types.specs.declared.entries.Entry.{Entry}
use Rattle.w_model.specs.declared.report.End.{End}
use Rattle.w_model.specs.World.{Setting, World, start_world, after, world_of, IsLegal, IsStuck}
use Rattle.mpi_types.specs.Runs.{is_mark}
use Rattle.w_model.specs.Cut.{released_at, released_lines}
use Rattle.w_model.specs.Texts.{report_text, end_at}
use Rattle.mpi_types.specs.Journal.{header_line, run_lines, journal_text}
use Rattle.mpi_types.specs.Runs.{runs_of}
use Rattle.w_model.specs.Whole.{IsMarkedDrain}
use Rattle.cluster.specs.Told.{on_first}
use Rattle.ampi.specs.Puts.{Piece, ToOut, ToJournal, out_of, journal_of, Puts, GotWhole, GotPart}

-- What each mark puts in its turn: the journal's text since the mark before, and the lines that it releases. `since` has
-- the entries since that mark, which stood at the world `marked`, and w is the world behind them.
abbrev pub marked_pieces : Setting → World → World → List Entry → List Entry → List Piece
marked_pieces s marked w since [] = []
marked_pieces s marked w since (e ∷ h) =
    if is_mark e then ToJournal (run_lines (runs_of (since ++ e ∷ []))) ∷ ToOut (released_at s marked w) ∷ marked_pieces s w w [] h
    else marked_pieces s marked (after w e) (since ++ e ∷ []) h

-- What is put of a run: the journal's first line, what each mark puts, and the report.
abbrev pub run_pieces : List (List ℕ) → Setting → List Entry → List Piece
run_pieces names s history =
    ToJournal (header_line s.ranks s.bound) ∷ marked_pieces s start_world start_world [] history
    ++ ToOut (report_text names s on_first history) ∷ []

-- A whole run of the program in files of these names, in the setting: its history, the pieces that tell of it, and how it ended.
pub record IsRun (names : List (List ℕ)) (s : Setting) (history : List Entry) (pieces : List Piece) (end : End) : Type 0 where
  pub cut_and_marked : IsMarkedDrain s history
  pub allowed : IsLegal s history
  pub ended : IsStuck s history
  pub texts : (journal_of pieces ≡ journal_text s.ranks s.bound history)
      × (out_of pieces ≡ released_lines s history ++ report_text names s on_first history)
  pub in_order : pieces ≡ run_pieces names s history
  pub status : end ≡ end_at s (world_of history)

-- The output and the journal got the pieces of a whole run with this end.
pub record PutsRun (names : List (List ℕ)) (s : Setting) (p : Puts) (end : End) : Type 0 where
  pub history : List Entry
  pub pieces : List Piece
  pub run : IsRun names s history pieces end
  pub got : GotWhole p pieces

-- They got a first part of the pieces of a whole run.
pub record GotRunPart (names : List (List ℕ)) (s : Setting) (p : Puts) : Type 0 where
  pub history : List Entry
  pub pieces : List Piece
  pub end : End
  pub run : IsRun names s history pieces end
  pub got : GotPart p pieces

-- What a run that is broken off has put: nothing but a first part of the journal's first line, or a first part of the
-- pieces of a whole run.
abbrev pub PutsRunPart : List (List ℕ) → Setting → Puts → Type 0
PutsRunPart names s p = GotPart p (ToJournal (header_line s.ranks s.bound) ∷ []) ⊎ GotRunPart names s p
