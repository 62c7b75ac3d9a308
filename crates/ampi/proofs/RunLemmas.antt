-- The pieces that tell of a run, put one after another.
use Rattle.std.proofs.Common.{ℕ, ◌≡◌, List, [], ◌∷◌, ◌++◌, Option, refl, sym, ap, ◌∙◌, append_assoc, inl, inr}
use Rattle.std.proofs.lemmas.List.{append-nil}
use Rattle.std.specs.Io.KnownBytes.{Appends}
use Rattle.am_io.specs.Pieces.{AppendsPart}
use Rattle.am_io.proofs.PieceLemmas.{Appends-append, AppendsPart-whole}
use Rattle.mpi_types.specs.declared.entries.Entry.{Entry}
use Rattle.mpi_types.specs.declared.entries.Entry.TheVariants.{Commit}
use Rattle.w_model.specs.World.{Setting, World, start_world, world_of, after, after_all}
use Rattle.w_model.specs.Cut.{HasNoMark, released_lines, released_at}
use Rattle.w_model.specs.Texts.{report_text}
use Rattle.mpi_types.specs.Journal.{header_line, run_lines}
use Rattle.mpi_types.specs.Runs.{runs_of}
use Rattle.w_model.proofs.DrainLemmas.{drain-whole, marked-whole}
use Rattle.cluster.specs.declared.told.Told.{Told}
use Rattle.cluster.specs.Told.{TellsOfRun, on_first}
use Rattle.ampi.specs.Puts.{Piece, ToOut, ToJournal, puts, GotPart}
use Rattle.ampi.specs.Runs.{marked_pieces, IsRun, PutsRun, PutsRunPart}
use Rattle.ampi.proofs.PutLemmas.{appends-none, appends-one, part-out, part-journal}

-- what the one mark behind unmarked entries puts
one-mark : (s : Setting) (marked w : World) (since body : List Entry) → HasNoMark body
    → marked_pieces s marked w since (body ++ Commit ∷ [])
    ≡ ToJournal (run_lines (runs_of (since ++ (body ++ Commit ∷ [])))) ∷ ToOut (released_at s marked (after_all w body)) ∷ []
one-mark s marked w since [] none = refl
one-mark s marked w since (e ∷ body) none =
    rw none.0 (one-mark s marked (after w e) (since ++ e ∷ []) body none.1
    ∙ ap (λ h. ToJournal (run_lines (runs_of h)) ∷ ToOut (released_at s marked (after_all (after w e) body)) ∷ [])
    (append_assoc since (e ∷ []) (body ++ Commit ∷ [])))

-- the pieces of a run that is told
abbrev pub told_pieces : Setting → Told → List Piece
told_pieces s told =
    ToJournal (header_line s.ranks s.bound) ∷ ToJournal told.journal ∷ ToOut told.lines ∷ ToOut told.report ∷ []

-- they are those of a whole run
is-run : (names : List (List ℕ)) (s : Setting) (told : Told) (tells : TellsOfRun names s told)
    → IsRun names s (tells.body ++ Commit ∷ []) (told_pieces s told) told.end
is-run names s told tells =
    let whole = marked-whole s tells.body tells.drained in
    let history = tells.body ++ Commit ∷ [] in
    let header = header_line s.ranks s.bound in
    let marks = one-mark s start_world start_world [] tells.body (drain-whole s tells.body tells.drained).2 in
    record {
      cut_and_marked = whole.marked;
      allowed = whole.legal;
      ended = whole.stuck;
      texts = (
        ap (λ x. header ++ x) (append-nil told.journal ∙ tells.journal),
        ap (λ x. x ++ (told.report ++ [])) tells.lines
            ∙ ap (λ x. released_lines s history ++ x) (append-nil told.report ∙ tells.report),
      );
      in_order = ap (λ x. ToJournal header ∷ ToJournal x ∷ ToOut told.lines ∷ ToOut told.report ∷ []) tells.journal
          ∙ ap (λ x. ToJournal header ∷ ToJournal (run_lines (runs_of history)) ∷ ToOut x ∷ ToOut told.report ∷ [])
          (tells.lines ∙ whole.released)
          ∙ ap (λ x. ToJournal header ∷ ToJournal (run_lines (runs_of history)) ∷ ToOut (released_at s start_world (world_of tells.body)) ∷ ToOut x ∷ [])
          tells.report
          ∙ sym (ap (λ x. ToJournal header ∷ x ++ ToOut (report_text names s on_first history) ∷ []) marks);
      status = tells.end;
    }

pub put-all : (names : List (List ℕ)) (s : Setting) (told : Told) (o0 o1 o2 j0 j1 j2 : Option (List ℕ)) → TellsOfRun names s told
    → Appends j0 j1 (header_line s.ranks s.bound) → Appends j1 j2 told.journal → Appends o0 o1 told.lines → Appends o1 o2 told.report
    → PutsRun names s (puts o0 o2 j0 j2) told.end
put-all names s told o0 o1 o2 j0 j1 j2 tells header journal lines report = record {
  history = tells.body ++ Commit ∷ [];
  pieces = told_pieces s told;
  run = is-run names s told tells;
  got = record {
    out_got = Appends-append o0 o1 o2 told.lines (told.report ++ []) lines (appends-one o1 o2 told.report report);
    journal_got = Appends-append j0 j1 j2 (header_line s.ranks s.bound) (told.journal ++ []) header (appends-one j1 j2 told.journal journal);
  };
}

part-of-run : (names : List (List ℕ)) (s : Setting) (told : Told) (o0 o1 j0 j1 : Option (List ℕ)) → TellsOfRun names s told
    → GotPart (puts o0 o1 j0 j1) (told_pieces s told) → PutsRunPart names s (puts o0 o1 j0 j1)
part-of-run names s told o0 o1 j0 j1 tells got = inr (record {
  history = tells.body ++ Commit ∷ [];
  pieces = told_pieces s told;
  end = told.end;
  run = is-run names s told tells;
  got = got;
})

-- broken off in the journal's first line, where no more is known
pub put-header : (names : List (List ℕ)) (s : Setting) (o j0 j1 : Option (List ℕ)) → AppendsPart j0 j1 (header_line s.ranks s.bound)
    → PutsRunPart names s (puts o o j0 j1)
put-header names s o j0 j1 header = inl (part-journal [] (header_line s.ranks s.bound) [] o o j0 j0 j1 (appends-none o) (appends-none j0) header)

-- broken off behind the journal's first line, where no more is known
pub put-header-whole : (names : List (List ℕ)) (s : Setting) (o j0 j1 : Option (List ℕ)) → Appends j0 j1 (header_line s.ranks s.bound)
    → PutsRunPart names s (puts o o j0 j1)
put-header-whole names s o j0 j1 header = put-header names s o j0 j1 (AppendsPart-whole j0 j1 (header_line s.ranks s.bound) header)

-- broken off in the journal's text
pub put-journal : (names : List (List ℕ)) (s : Setting) (told : Told) (o j0 j1 j2 : Option (List ℕ)) → TellsOfRun names s told
    → Appends j0 j1 (header_line s.ranks s.bound) → AppendsPart j1 j2 told.journal → PutsRunPart names s (puts o o j0 j2)
put-journal names s told o j0 j1 j2 tells header journal =
    part-of-run names s told o o j0 j2 tells (part-journal (ToJournal (header_line s.ranks s.bound) ∷ []) told.journal
    (ToOut told.lines ∷ ToOut told.report ∷ []) o o j0 j1 j2 (appends-none o) (appends-one j0 j1 (header_line s.ranks s.bound) header) journal)

-- broken off in the lines
pub put-lines : (names : List (List ℕ)) (s : Setting) (told : Told) (o0 o1 j0 j1 j2 : Option (List ℕ)) → TellsOfRun names s told
    → Appends j0 j1 (header_line s.ranks s.bound) → Appends j1 j2 told.journal → AppendsPart o0 o1 told.lines
    → PutsRunPart names s (puts o0 o1 j0 j2)
put-lines names s told o0 o1 j0 j1 j2 tells header journal lines =
    let whole = Appends-append j0 j1 j2 (header_line s.ranks s.bound) (told.journal ++ []) header (appends-one j1 j2 told.journal journal) in
    part-of-run names s told o0 o1 j0 j2 tells (part-out (ToJournal (header_line s.ranks s.bound) ∷ ToJournal told.journal ∷ []) told.lines
    (ToOut told.report ∷ []) o0 o0 o1 j0 j2 (appends-none o0) whole lines)

-- broken off in the report
pub put-report : (names : List (List ℕ)) (s : Setting) (told : Told) (o0 o1 o2 j0 j1 j2 : Option (List ℕ)) → TellsOfRun names s told
    → Appends j0 j1 (header_line s.ranks s.bound) → Appends j1 j2 told.journal → Appends o0 o1 told.lines → AppendsPart o1 o2 told.report
    → PutsRunPart names s (puts o0 o2 j0 j2)
put-report names s told o0 o1 o2 j0 j1 j2 tells header journal lines report =
    let whole = Appends-append j0 j1 j2 (header_line s.ranks s.bound) (told.journal ++ []) header (appends-one j1 j2 told.journal journal) in
    part-of-run names s told o0 o2 j0 j2 tells
    (part-out (ToJournal (header_line s.ranks s.bound) ∷ ToJournal told.journal ∷ ToOut told.lines ∷ []) told.report [] o0 o1 o2 j0 j2
    (appends-one o0 o1 told.lines lines) whole report)
