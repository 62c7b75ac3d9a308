-- What the words of a command line ask for, read from the first word on. It agrees with the relation `AskForRun`.
use Rattle.std.specs.Prelude.{ℕ, ◌+◌, ◌&&◌, ◌||◌, nat_le, nat_lt, Bool, true, false, if◌then◌else◌, ◌==◌, List, [], ◌∷◌, length, Option, None, Some, is_none, unwrap_or, option_and_then, codes}
use Rattle.std.specs.List.{list_all}
use Rattle.std.specs.Str.{bytes_eq}
use Rattle.run_words.specs.Words.{Asked, is_digit, number_of}

-- What the words so far have said.
pub record Said : Type 0 where
  -- how many files
  pub files : ℕ
  pub ranks : Option ℕ
  pub ticks : Option ℕ
  pub journal : Option (List ℕ)

abbrev pub nothing_said : Said
nothing_said = record { files = 0; ranks = None; ticks = None; journal = None }

abbrev pub is_plain : List ℕ → Bool
is_plain [] = false
is_plain (b ∷ bs) = if b == 45 then false else true

-- 1 to 20 decimal digits
abbrev pub is_number : List ℕ → Bool
is_number word = nat_le 1 (length word) && nat_le (length word) 20 && list_all is_digit word

abbrev pub is_ranks_value : List ℕ → Bool
is_ranks_value word = is_number word && nat_le 1 (number_of word) && nat_le (number_of word) 256

abbrev pub is_ticks_value : List ℕ → Bool
is_ticks_value word = is_number word && nat_le (number_of word) 16000000

-- what is said with one part more, if it may stand there
abbrev pub with_file : Said → List ℕ → Option Said
with_file said name = if is_plain name && nat_lt said.files 16 then Some (record said { files = said.files + 1 }) else None

-- the number that a value of `--ranks` writes, if it may be one
abbrev pub ranks_said : List ℕ → Option ℕ
ranks_said value = if is_ranks_value value then Some (number_of value) else None

abbrev pub with_ranks : Said → List ℕ → Option Said
with_ranks said value =
    if is_none said.ranks && is_ranks_value value then Some (record said { ranks = Some (number_of value) }) else None

-- the number that a value of `--ticks` writes, if it may be one
abbrev pub ticks_said : List ℕ → Option ℕ
ticks_said value = if is_ticks_value value then Some (number_of value) else None

abbrev pub with_ticks : Said → List ℕ → Option Said
with_ticks said value =
    if is_none said.ticks && is_ticks_value value then Some (record said { ticks = Some (number_of value) }) else None

abbrev pub with_journal : Said → List ℕ → Option Said
with_journal said name = if is_plain name && is_none said.journal then Some (record said { journal = Some name }) else None

-- what is said with all of these words
abbrev pub said_with : List (List ℕ) → Said → Option Said
said_with [] said = Some said
said_with (word ∷ []) said = with_file said word
said_with (word ∷ value ∷ words) said =
    if bytes_eq word (codes "--ranks") then option_and_then (said_with words) (with_ranks said value)
    else (if bytes_eq word (codes "--journal") then option_and_then (said_with words) (with_journal said value)
    else (if bytes_eq word (codes "--ticks") then option_and_then (said_with words) (with_ticks said value)
    else option_and_then (said_with (value ∷ words)) (with_file said word)))

-- an option with a value
abbrev pub has_value : List ℕ → Bool
has_value word = bytes_eq word (codes "--ranks") || bytes_eq word (codes "--journal") || bytes_eq word (codes "--ticks")

-- the words that are neither options nor their values
abbrev pub files_in : List (List ℕ) → List (List ℕ)
files_in [] = []
files_in (word ∷ []) = if has_value word then [] else word ∷ []
files_in (word ∷ value ∷ words) = if has_value word then files_in words else word ∷ files_in (value ∷ words)

-- one rank and 1,000,000 ticks where the words don't say how many
abbrev pub asked_by : List (List ℕ) → Said → Option Asked
asked_by files said =
    if nat_lt 0 said.files then Some (record {
      files = files;
      ranks = unwrap_or said.ranks 1;
      ticks = unwrap_or said.ticks 1000000;
      journal = said.journal;
    }) else None

abbrev pub asked_of : List (List ℕ) → Option Asked
asked_of [] = None
asked_of (word ∷ words) =
    if bytes_eq word (codes "run") then option_and_then (asked_by (files_in words)) (said_with words nothing_said) else None

-- 1 to 16 names of files
abbrev pub are_files : List (List ℕ) → Bool
are_files names = nat_le 1 (length names) && nat_le (length names) 16 && list_all is_plain names
