-- What the words and the texts of the files are to the program.
use Rattle.std.specs.Prelude.{ℕ, ◌≡◌, ◌+◌, ◌≤◌, ◌++◌, ◌⊎◌, Bool, true, Some, List, ◌∷◌, length, codes, slice_get}
use Rattle.std.specs.List.{list_any, AllZip}
use Rattle.std.specs.Fmt.{decimal}
use Rattle.am_io.specs.Contents.{Held, Loads}
use Rattle.run_words.specs.Words.{Asked, AskForRun, AskForCode}
use Rattle.vm_code.specs.declared.code.Code.{Code}
use Rattle.rank_machine.specs.Ran.{is_mpi}
use Rattle.c_compile.specs.declared.cause.Cause.TheVariants.{NotBuilt}
use Rattle.c_compile.specs.declared.compiled.Compiled.{Compiled}
use Rattle.c_compile.specs.declared.error.Refusal.{Refusal}
use Rattle.c_compile.specs.Causes.{cause_text}
use Rattle.c_compile.specs.Programs.{IsCompiled, AreRefused, AreShort, refused_whole}
use Rattle.cluster.specs.Job.{CallsNoMpi}
use Rattle.w_model.specs.World.{Setting}
use Rattle.w_model.specs.Texts.{name_of}

-- The longest source, in bytes.
abbrev pub source_limit : ℕ
source_limit = 1048576

-- The words ask for a run of the program in these files, or for its listing.
abbrev pub AskForRunOf : List (List ℕ) → List (List ℕ) → Type 0
AskForRunOf words names = (asked : Asked) × AskForRun words asked × (asked.files ≡ names)

abbrev pub AskForFiles : List (List ℕ) → List (List ℕ) → Type 0
AskForFiles words names = AskForRunOf words names ⊎ AskForCode words names

-- The file's bytes are these, and within the limit. Where files tell nothing, it says no more than the limit.
pub record IsLoaded (held : Held) (name text : List ℕ) : Type 0 where
  pub loads : Loads held name source_limit text
  pub within : length text ≤ source_limit

-- Each file is loaded: these are their texts, in the same order.
abbrev pub AreLoaded : Held → List (List ℕ) → List (List ℕ) → Type 0
AreLoaded held names texts = AllZip (IsLoaded held) names texts

-- The file of this number has this name, and those before it are loaded.
pub record IsReached (held : Held) (names : List (List ℕ)) (file : ℕ) (name : List ℕ) : Type 0 where
  pub before : List (List ℕ)
  pub behind : List (List ℕ)
  pub texts : List (List ℕ)
  pub names_are : names ≡ before ++ name ∷ behind
  pub file_is : file ≡ length before
  pub loaded : AreLoaded held before texts

-- The file has more bytes than the limit.
pub record IsTooLong (held : Held) (name : List ℕ) : Type 0 where
  pub text : List ℕ
  pub loads : Loads held name source_limit text
  pub past : length text ≡ source_limit + 1

-- some instruction is a call of MPI
pub record CallsMpi (code : Code) : Type 0 where
  pub place : ℕ
  pub call : is_mpi (slice_get code.instrs place) ≡ true

-- whether one is
abbrev pub calls_mpi : Code → Bool
calls_mpi code = list_any (λ i. is_mpi (Some i)) code.instrs

-- at most 16 files, each of fewer bytes than what is compiled may have
abbrev pub AreFewAndShort : List (List ℕ) → Type 0
AreFewAndShort texts = (length texts ≤ 16) × AreShort texts

-- The texts are a program that calls MPI.
pub record CallMpi (texts : List (List ℕ)) : Type 0 where
  pub compiled : Compiled
  pub is_compiled : IsCompiled texts compiled
  pub calls : CallsMpi compiled.code

-- They are a program that doesn't, with its segment and code: it can be run.
pub record AreRun (texts : List (List ℕ)) (compiled : Compiled) : Type 0 where
  pub is_compiled : IsCompiled texts compiled
  pub without_mpi : CallsNoMpi compiled.code

-- A program that calls MPI isn't run yet. That is told at the first file's first line.
pub record AreNotRun (words names texts : List (List ℕ)) (refusal : Refusal) : Type 0 where
  pub asks : AskForRunOf words names
  pub calls : CallMpi texts
  pub refusal_is : refusal ≡ refused_whole NotBuilt

-- Nothing is done with the texts, and this is told: they are no program, or not one that is run yet.
abbrev pub AreNotDone : List (List ℕ) → List (List ℕ) → List (List ℕ) → Refusal → Type 0
AreNotDone words names texts refusal = AreRefused texts refusal ⊎ AreNotRun words names texts refusal

-- the text that tells of a refusal, by the names of the files
abbrev pub source_text : List (List ℕ) → Refusal → List ℕ
source_text names refusal =
    codes "ampi: " ++ name_of names refusal.unit ++ codes ":" ++ decimal refusal.line ++ codes ": " ++ cause_text refusal.cause ++ codes "\n"

-- the run that accepted words and what their files are compiled to stand for
abbrev pub setting_of : Asked → Compiled → Setting
setting_of asked compiled = record {
  program = compiled.program;
  segment = compiled.segment;
  ranks = asked.ranks;
  bound = asked.ticks;
}
