-- What each answer of the program means, and when it comes.
use Rattle.std.specs.Prelude.{ℕ, ◌≡◌, List, [], ◌∷◌, ◌++◌, codes, ◌⊎◌}
use Rattle.am_io.specs.Contents.{Held}
use Rattle.am_io.specs.Faults.{Rose}
use Rattle.run_words.specs.Words.{Asked, AskForRun, AskForCode}
use Rattle.vm_code.specs.Listing.{listing_from}
use Rattle.c_compile.specs.declared.compiled.Compiled.{Compiled}
use Rattle.c_compile.specs.declared.error.Refusal.{Refusal}
use Rattle.c_compile.specs.Causes.{cause_number}
use Rattle.c_compile.specs.Programs.{IsCompiled}
use Rattle.mpi_types.specs.declared.entries.Entry.{Entry}
use Rattle.w_model.specs.declared.report.End.{End}
use Rattle.w_model.specs.declared.report.End.TheVariants as end
use Rattle.w_model.specs.World.{world_of, IsLegal, IsStuck}
use Rattle.w_model.specs.Cut.{released_lines}
use Rattle.w_model.specs.Texts.{report_text, end_at}
use Rattle.mpi_types.specs.Journal.{header_line, journal_text}
use Rattle.w_model.specs.Whole.{IsMarkedDrain}
use Rattle.cluster.specs.Told.{on_first}
use Rattle.ampi.specs.declared.status.Status.{Status}
use Rattle.ampi.specs.declared.status.Status.TheVariants.{Done, Usage, ReadFault, TooLong, Source, Deadlock, OutOfTicks, Trapped, WriteFault, NoMemory}
use Rattle.ampi.specs.Puts.{Piece, ToOut, ToJournal, out_of, journal_of, Puts, GotWhole, GotPart}
use Rattle.ampi.specs.Runs.{run_pieces}
use Rattle.ampi.specs.Sources.{AskForFiles, AreLoaded, IsReached, IsTooLong, AreRun, AreNotDone, source_text, setting_of}

-- The texts of the refusals.
abbrev pub usage_text : List ℕ
usage_text =
    codes "usage: ampi run [options] FILE...\n       ampi code FILE...\n       ampi make-schedule --seed S --events M --ranks N --procs P\n"

abbrev pub cannot_read_text : List ℕ → List ℕ
cannot_read_text name = codes "ampi: cannot read " ++ name ++ codes "\n"

abbrev pub too_long_text : List ℕ → List ℕ
too_long_text name = codes "ampi: " ++ name ++ codes " is too long\n"

-- What a call saw of the files: what they hold, and how many loads had failed before it and behind it.
pub record Reads : Type 0 where
  pub held : Held
  pub faults_old : ℕ
  pub faults_new : ℕ

abbrev pub reads : Held → ℕ → ℕ → Reads
reads held faults_old faults_new = record { held = held; faults_old = faults_old; faults_new = faults_new }

-- The words ask for nothing that is built.
pub record IsUsage (words : List (List ℕ)) : Type 0 where
  pub no_run : (asked : Asked) → AskForRun words asked → ⊥
  pub no_code : (names : List (List ℕ)) → AskForCode words names → ⊥

-- The words ask for a run of files that are loaded within the limit, and their texts are compiled to this and can be run.
pub record IsAccepted (words : List (List ℕ)) (held : Held) (asked : Asked) (compiled : Compiled) : Type 0 where
  pub asks : AskForRun words asked
  pub texts : List (List ℕ)
  pub loaded : AreLoaded held asked.files texts
  pub is_run : AreRun texts compiled

-- The headline. The journal is a run which MPI's matching rules allow to ranks that never move, each with a private
-- memory, over perfect queues; the lines and statuses that are written are that run's, each line once; and it ends
-- only where that run is stuck or at the bound on ticks, in the way that is told.
pub record Headline (words : List (List ℕ)) (held : Held) (end : End) (pieces : List Piece) : Type 0 where
  pub asked : Asked
  pub compiled : Compiled
  pub history : List Entry
  pub accepted : IsAccepted words held asked compiled
  pub cut_and_marked : IsMarkedDrain (setting_of asked compiled) history
  pub allowed : IsLegal (setting_of asked compiled) history
  pub ended : IsStuck (setting_of asked compiled) history
  pub texts : (journal_of pieces ≡ journal_text asked.ranks asked.ticks history)
      × (out_of pieces
      ≡ released_lines (setting_of asked compiled) history ++ report_text asked.files (setting_of asked compiled) on_first history)
  pub in_order : pieces ≡ run_pieces asked.files (setting_of asked compiled) history
  pub status : end_at (setting_of asked compiled) (world_of history) ≡ end

-- The words ask for the listing of files, and this is the listing of code that means their program.
pub record Listed (words : List (List ℕ)) (held : Held) (pieces : List Piece) : Type 0 where
  pub names : List (List ℕ)
  pub asks : AskForCode words names
  pub texts : List (List ℕ)
  pub loaded : AreLoaded held names texts
  pub compiled : Compiled
  pub is_compiled : IsCompiled texts compiled
  pub text_is : pieces ≡ ToOut (listing_from 0 compiled.code.instrs) ∷ []

-- The words are refused.
pub record ToldUsage (words : List (List ℕ)) (pieces : List Piece) : Type 0 where
  pub refused : IsUsage words
  pub text_is : pieces ≡ ToOut usage_text ∷ []

-- The file of this number is refused, and those before it are loaded: for this reason and in these words.
pub record ToldOfFile (words : List (List ℕ)) (held : Held) (file : ℕ) (reason : List ℕ → Type 0) (text : List ℕ → List ℕ)
    (pieces : List Piece) : Type 0 where
  pub names : List (List ℕ)
  pub asks : AskForFiles words names
  pub name : List ℕ
  pub reached : IsReached held names file name
  pub because : reason name
  pub text_is : pieces ≡ ToOut (text name) ∷ []

-- The source is refused: for this cause, in the file of this number, at this line.
pub record ToldOfSource (words : List (List ℕ)) (held : Held) (file line cause : ℕ) (pieces : List Piece) : Type 0 where
  pub names : List (List ℕ)
  pub asks : AskForFiles words names
  pub texts : List (List ℕ)
  pub loaded : AreLoaded held names texts
  pub refusal : Refusal
  pub because : AreNotDone words names texts refusal
  pub file_is : file ≡ refusal.unit
  pub line_is : line ≡ refusal.line
  pub cause_is : cause ≡ cause_number refusal.cause
  pub text_is : pieces ≡ ToOut (source_text names refusal) ∷ []

-- What an answer tells of these words and files, by these pieces. That a file can't be read is told only where a load
-- failed in this call. The last two answers break off another one.
abbrev pub Explains : List (List ℕ) → Reads → Status → List Piece → Type 0
Explains words r Done pieces = Headline words r.held end.Done pieces ⊎ Listed words r.held pieces
Explains words r Deadlock pieces = Headline words r.held end.Deadlock pieces
Explains words r OutOfTicks pieces = Headline words r.held end.OutOfTicks pieces
Explains words r (Trapped rank) pieces = Headline words r.held (end.Trapped (record { 0 = rank })) pieces
Explains words r Usage pieces = ToldUsage words pieces
Explains words r (ReadFault file) pieces =
    ToldOfFile words r.held file (λ name. Rose r.faults_old r.faults_new) cannot_read_text pieces
Explains words r (TooLong file) pieces = ToldOfFile words r.held file (IsTooLong r.held) too_long_text pieces
Explains words r (Source file line cause) pieces = ToldOfSource words r.held file line cause pieces
Explains words r WriteFault pieces = ⊥
Explains words r NoMemory pieces = ⊥

-- The pieces of an answer were put whole.
pub record IsTold (words : List (List ℕ)) (r : Reads) (p : Puts) (status : Status) : Type 0 where
  pub pieces : List Piece
  pub explains : Explains words r status pieces
  pub got : GotWhole p pieces

-- A first part of the pieces of some answer was put.
pub record IsPartTold (words : List (List ℕ)) (r : Reads) (p : Puts) : Type 0 where
  pub status : Status
  pub pieces : List Piece
  pub explains : Explains words r status pieces
  pub got : GotPart p pieces

-- Of an accepted run a first part of the journal's first line was put.
pub record IsRunBegun (words : List (List ℕ)) (r : Reads) (p : Puts) : Type 0 where
  pub asked : Asked
  pub compiled : Compiled
  pub accepted : IsAccepted words r.held asked compiled
  pub got : GotPart p (ToJournal (header_line asked.ranks asked.ticks) ∷ [])

abbrev pub IsBrokenOff : List (List ℕ) → Reads → Puts → Type 0
IsBrokenOff words r p = IsPartTold words r p ⊎ IsRunBegun words r p

-- What was put at each answer.
abbrev pub Answers : List (List ℕ) → Reads → Puts → Status → Type 0
Answers words r p Done = IsTold words r p Done
Answers words r p Deadlock = IsTold words r p Deadlock
Answers words r p OutOfTicks = IsTold words r p OutOfTicks
Answers words r p (Trapped rank) = IsTold words r p (Trapped rank)
Answers words r p Usage = IsTold words r p Usage
Answers words r p (ReadFault file) = IsTold words r p (ReadFault file)
Answers words r p (TooLong file) = IsTold words r p (TooLong file)
Answers words r p (Source file line cause) = IsTold words r p (Source file line cause)
Answers words r p WriteFault = IsBrokenOff words r p
Answers words r p NoMemory = GotWhole p [] ⊎ IsBrokenOff words r p

-- the answer that tells of this end of a run
abbrev pub status_of : End → Status
status_of end.Done = Done
status_of end.Deadlock = Deadlock
status_of end.OutOfTicks = OutOfTicks
status_of (end.Trapped rank) = Trapped rank.0
