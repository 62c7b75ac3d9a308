-- What the calls give where the words ask for a run.
use Rattle.std.specs.Prelude.{◌≡◌, ℕ, List, Option, map, Vec, String, string_bytes}
use Rattle.std.specs.declared.alloc.Global.{Global}
use Rattle.run_words.specs.Words.{Asked, AskForRun}
use Rattle.run_words.specs.declared.command.Command.{Command}

-- the words, each as its bytes
abbrev pub bytes_of_words : Vec (String Global) Global → List (List ℕ)
bytes_of_words words = map string_bytes words.items

-- the words ask for some run
abbrev pub AreAccepted : List (List ℕ) → Type 0
AreAccepted words = (asked : Asked) × AskForRun words asked

-- The words ask for a run with the command's files, ranks and ticks.
pub record IsAskedBy (words : List (List ℕ)) (command : Command) : Type 0 where
  pub asked : Asked
  pub asks : AskForRun words asked
  pub files : map string_bytes command.files.items ≡ asked.files
  pub ranks : command.ranks ≡ asked.ranks
  pub ticks : command.ticks ≡ asked.ticks

-- The words ask for a run with this journal, or with none.
pub record IsJournalOf (words : List (List ℕ)) (journal : Option (List ℕ)) : Type 0 where
  pub asked : Asked
  pub asks : AskForRun words asked
  pub same : asked.journal ≡ journal
