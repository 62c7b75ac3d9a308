-- An answer comes, or yields to a write that fails or to want of memory.
use Rattle.std.specs.Prelude.{ℕ, ◌≡◌, List, Some}
use Rattle.am_io.specs.Contents.{Held}
use Rattle.run_words.specs.Words.{Asked, AskForCode}
use Rattle.c_compile.specs.declared.compiled.Compiled.{Compiled}
use Rattle.c_compile.specs.declared.error.Refusal.{Refusal}
use Rattle.c_compile.specs.Causes.{cause_number}
use Rattle.c_compile.specs.Programs.{IsCompiled}
use Rattle.ampi.specs.Sources.{AskForFiles, AreLoaded, IsReached, IsTooLong, AreNotDone}
use Rattle.ampi.specs.Answers.{IsAccepted}
use Rattle.ampi.specs.declared.status.Status.{Status}
use Rattle.ampi.specs.declared.status.Status.TheVariants.{Done, Usage, ReadFault, TooLong, Source, Deadlock, OutOfTicks, Trapped, WriteFault, NoMemory}

abbrev pub Yields : Status → Status → Type 0
Yields wanted WriteFault = Unit {0}
Yields wanted NoMemory = Unit {0}
Yields wanted Done = wanted ≡ Done
Yields wanted Usage = wanted ≡ Usage
Yields wanted (ReadFault file) = wanted ≡ ReadFault file
Yields wanted (TooLong file) = wanted ≡ TooLong file
Yields wanted (Source file line cause) = wanted ≡ Source file line cause
Yields wanted Deadlock = wanted ≡ Deadlock
Yields wanted OutOfTicks = wanted ≡ OutOfTicks
Yields wanted (Trapped rank) = wanted ≡ Trapped rank

-- the answer tells how a run ended, or is one to which such an answer yields
abbrev pub EndsRun : Status → Type 0
EndsRun Done = Unit {0}
EndsRun Deadlock = Unit {0}
EndsRun OutOfTicks = Unit {0}
EndsRun (Trapped rank) = Unit {0}
EndsRun WriteFault = Unit {0}
EndsRun NoMemory = Unit {0}
EndsRun Usage = ⊥
EndsRun (ReadFault file) = ⊥
EndsRun (TooLong file) = ⊥
EndsRun (Source file line cause) = ⊥

-- Where the files are told and none of their loads failed, an answer comes wherever its reason is there.
abbrev pub TooLongComes : List (List ℕ) → Held → Status → Type 0
TooLongComes words held status =
    (files : List (List ℕ × List ℕ)) (names : List (List ℕ)) (file : ℕ) (name : List ℕ) → held ≡ Some files → AskForFiles words names
    → IsReached (Some files) names file name → IsTooLong (Some files) name → Yields (TooLong file) status

abbrev pub RefusalComes : List (List ℕ) → Held → Status → Type 0
RefusalComes words held status =
    (files : List (List ℕ × List ℕ)) (names texts : List (List ℕ)) (r : Refusal) → held ≡ Some files → AskForFiles words names
    → AreLoaded (Some files) names texts → AreNotDone words names texts r → Yields (Source r.unit r.line (cause_number r.cause)) status

abbrev pub CodeComes : List (List ℕ) → Held → Status → Type 0
CodeComes words held status =
    (files : List (List ℕ × List ℕ)) (names texts : List (List ℕ)) (compiled : Compiled) → held ≡ Some files → AskForCode words names
    → AreLoaded (Some files) names texts → IsCompiled texts compiled → Yields Done status

abbrev pub RunComes : List (List ℕ) → Held → Status → Type 0
RunComes words held status =
    (files : List (List ℕ × List ℕ)) (asked : Asked) (compiled : Compiled) → held ≡ Some files
    → IsAccepted words (Some files) asked compiled → EndsRun status

pub record Comes (words : List (List ℕ)) (held : Held) (status : Status) : Type 0 where
  pub too_long : TooLongComes words held status
  pub refusal : RefusalComes words held status
  pub code : CodeComes words held status
  pub run : RunComes words held status

-- the same where no write can fail
abbrev pub EndsRunOrNoMemory : Status → Type 0
EndsRunOrNoMemory WriteFault = ⊥
EndsRunOrNoMemory Done = Unit {0}
EndsRunOrNoMemory Deadlock = Unit {0}
EndsRunOrNoMemory OutOfTicks = Unit {0}
EndsRunOrNoMemory (Trapped rank) = Unit {0}
EndsRunOrNoMemory NoMemory = Unit {0}
EndsRunOrNoMemory Usage = ⊥
EndsRunOrNoMemory (ReadFault file) = ⊥
EndsRunOrNoMemory (TooLong file) = ⊥
EndsRunOrNoMemory (Source file line cause) = ⊥
