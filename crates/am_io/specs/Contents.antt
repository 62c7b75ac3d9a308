-- The files that a source holds, and what a load gives of them.
use Rattle.std.specs.Prelude.{◌≡◌, ℕ, ◌+◌, Bool, List, [], ◌∷◌, take, Option, None, Some, ⊤, is_some, unwrap_or, if◌then◌else◌}
use Rattle.std.specs.Str.{bytes_eq}

-- Names with their bytes, where they are told.
abbrev pub Held : Type 0
Held = Option (List (List ℕ × List ℕ))

-- The bytes of the first file of that name.
abbrev pub file_of : List (List ℕ × List ℕ) → List ℕ → Option (List ℕ)
file_of [] name = None
file_of (file ∷ files) name = if bytes_eq file.0 name then Some file.1 else file_of files name

-- Some file has that name.
abbrev pub is_held : List (List ℕ × List ℕ) → List ℕ → Bool
is_held files name = is_some (file_of files name)

-- The bytes of the first file of that name. A name outside stands for an empty file.
abbrev pub bytes_of : List (List ℕ × List ℕ) → List ℕ → List ℕ
bytes_of files name = unwrap_or (file_of files name) []

-- A load gives the file's bytes, and of a file above the limit one byte more than the limit.
abbrev pub Loads : Held → List ℕ → ℕ → List ℕ → Type 0
Loads None name limit bytes = ⊤
Loads (Some files) name limit bytes = bytes ≡ take (limit + 1) (bytes_of files name)
