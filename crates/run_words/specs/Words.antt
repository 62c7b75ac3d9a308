-- The words of a command line that `ampi` accepts, as a relation between the whole list of words and what they ask for.
-- A word is the list of its bytes. Behind `run` the words are parts in any order: a file's name, or an option's name
-- and its value.
use Rattle.std.specs.Prelude.{◌≡◌, ◌≢◌, ℕ, ◌+◌, ◌-◌, ◌*◌, ◌≤◌, ◌&&◌, nat_le, Bool, IsTrue, List, [], ◌∷◌, length, Option, None, Some, codes}
use Rattle.std.specs.List.{flat_map, fold, AllByRecursion}

-- What one or two of the words say.
pub data Part : Type 0 where
  -- a source, by its name
  Source : List ℕ → Part
  -- `--ranks`, with the word of its value
  Ranks : List ℕ → Part
  -- `--ticks`, with the word of its value
  Ticks : List ℕ → Part
  -- `--journal`, with the word of its value
  Journal : List ℕ → Part

abbrev pub words_of : Part → List (List ℕ)
words_of (Source name) = name ∷ []
words_of (Ranks value) = codes "--ranks" ∷ value ∷ []
words_of (Ticks value) = codes "--ticks" ∷ value ∷ []
words_of (Journal name) = codes "--journal" ∷ name ∷ []

-- a value or a file's name: it isn't empty, and no dash begins it
abbrev pub IsPlain : List ℕ → Type 0
IsPlain [] = ⊥
IsPlain (b ∷ bs) = b ≢ 45

abbrev pub is_digit : ℕ → Bool
is_digit b = nat_le 48 b && nat_le b 57

-- 1 to 20 decimal digits; leading zeros are allowed
abbrev pub IsNumber : List ℕ → Type 0
IsNumber word = (1 ≤ length word) × (length word ≤ 20) × AllByRecursion (λ b. IsTrue (is_digit b)) word

-- the number that digits spell
abbrev pub number_of : List ℕ → ℕ
number_of word = fold (λ n b. 10 * n + (b - 48)) 0 word

abbrev pub IsWellFormed : Part → Type 0
IsWellFormed (Source name) = IsPlain name
IsWellFormed (Ranks value) = IsNumber value × (1 ≤ number_of value) × (number_of value ≤ 256)
IsWellFormed (Ticks value) = IsNumber value × (number_of value ≤ 16000000)
IsWellFormed (Journal name) = IsPlain name

-- the names of the sources, and the values of each option, in order
abbrev pub sources_in : List Part → List (List ℕ)
sources_in [] = []
sources_in (Source name ∷ parts) = name ∷ sources_in parts
sources_in (Ranks value ∷ parts) = sources_in parts
sources_in (Ticks value ∷ parts) = sources_in parts
sources_in (Journal name ∷ parts) = sources_in parts

abbrev pub ranks_in : List Part → List (List ℕ)
ranks_in [] = []
ranks_in (Source name ∷ parts) = ranks_in parts
ranks_in (Ranks value ∷ parts) = value ∷ ranks_in parts
ranks_in (Ticks value ∷ parts) = ranks_in parts
ranks_in (Journal name ∷ parts) = ranks_in parts

abbrev pub ticks_in : List Part → List (List ℕ)
ticks_in [] = []
ticks_in (Source name ∷ parts) = ticks_in parts
ticks_in (Ranks value ∷ parts) = ticks_in parts
ticks_in (Ticks value ∷ parts) = value ∷ ticks_in parts
ticks_in (Journal name ∷ parts) = ticks_in parts

abbrev pub journals_in : List Part → List (List ℕ)
journals_in [] = []
journals_in (Source name ∷ parts) = journals_in parts
journals_in (Ranks value ∷ parts) = journals_in parts
journals_in (Ticks value ∷ parts) = journals_in parts
journals_in (Journal name ∷ parts) = name ∷ journals_in parts

-- an option that stands once at most chooses its value, and where it doesn't stand the default is chosen
abbrev pub Chooses : {X : Type 0} → List (List ℕ) → (List ℕ → X) → X → X → Type 0
Chooses [] value default chosen = chosen ≡ default
Chooses (word ∷ []) value default chosen = chosen ≡ value word
Chooses (word ∷ more ∷ words) value default chosen = ⊥

-- 1 to 16 files
abbrev pub AreSomeFiles : List (List ℕ) → Type 0
AreSomeFiles files = (1 ≤ length files) × (length files ≤ 16)

-- What accepted words that begin with `run` ask for: the files of the program in the order in which they stand, the number of
-- ranks, the bound on each rank's ticks, and the journal's file.
pub record Asked : Type 0 where
  pub files : List (List ℕ)
  pub ranks : ℕ
  pub ticks : ℕ
  pub journal : Option (List ℕ)

-- The words ask for this run.
pub record AskForRun (words : List (List ℕ)) (asked : Asked) : Type 0 where
  pub parts : List Part
  pub spelled : words ≡ codes "run" ∷ flat_map words_of parts
  pub well_formed : AllByRecursion IsWellFormed parts
  pub files : sources_in parts ≡ asked.files
  pub some_files : AreSomeFiles asked.files
  pub ranks : Chooses (ranks_in parts) number_of 1 asked.ranks
  pub ticks : Chooses (ticks_in parts) number_of 1000000 asked.ticks
  pub journal : Chooses (journals_in parts) Some None asked.journal

-- The words ask for the listing of the code of the program in these files.
pub record AskForCode (words : List (List ℕ)) (files : List (List ℕ)) : Type 0 where
  pub spelled : words ≡ codes "code" ∷ files
  pub plain : AllByRecursion IsPlain files
  pub some_files : AreSomeFiles files
