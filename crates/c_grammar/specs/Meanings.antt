-- What a table of names holds beside the declarations that are in scope. Only private functions cite it.
use Rattle.std.specs.Prelude.{ℕ, Vec, ◌≡◌, ◌++◌, if◌then◌else◌, Bool, List, [], ◌∷◌, Option, None, Some}
use Rattle.std.specs.Option.{unwrap_or}
use Rattle.std.specs.Str.{bytes_eq}
use Rattle.std.specs.Map.{lookup}
use Rattle.std.specs.Global.{Global}
use Rattle.c_grammar.specs.declared.scope.KnownName.{KnownName}
use Rattle.c_grammar.specs.Names.{Names, Known, of_known}

-- the entries of a table: whether a name stands for a type, and nothing where it isn't declared any more
abbrev pub Entries : Type 0
Entries = List (Vec ℕ Global × Option Bool)

-- what the name stands for by a table
abbrev pub meaning_of : Entries → List ℕ → Option Bool
meaning_of entries name = unwrap_or (lookup (λ key. bytes_eq name key.items) entries) None

-- what the name stands for by its innermost declaration
abbrev pub meaning_in : Names → List ℕ → Option Bool
meaning_in [] name = None
meaning_in (k ∷ ks) name = if bytes_eq k.name name then Some k.is_type else meaning_in ks name

abbrev pub Agrees : Entries → Names → Type 0
Agrees entries names = (name : List ℕ) → meaning_of entries name ≡ meaning_in names name

abbrev pub known_of : KnownName → Known
known_of k = record { name = k.name; is_type = k.is_type }

-- each of the declarations, the first one first, keeps what it hides among those before it
abbrev pub Hide : Names → List KnownName → Type 0
Hide under [] = Unit {0}
Hide under (k ∷ ks) = (k.hidden ≡ meaning_in under k.name) × Hide (known_of k ∷ under) ks

-- What holds of each scope.
pub record IsScope (names : List KnownName) (entries : Entries) : Type 0 where
  pub agrees : Agrees entries (of_known names)
  pub hide : Hide [] names

-- Of a table behind another one: where the declaration of this name was the last one, what it hid stands again.
abbrev pub Restores : KnownName → Entries → Entries → Type 0
Restores k old new = (under : Names) → Agrees old (known_of k ∷ under) → k.hidden ≡ meaning_in under k.name → Agrees new under

-- and where these declarations were the last ones
abbrev pub RestoresAll : List KnownName → Entries → Entries → Type 0
RestoresAll ks old new = (under : Names) → Agrees old (of_known ks ++ under) → Hide under ks → Agrees new under
