-- What a table of names holds beside the names in scope. Only private functions cite it.
use Rattle.std.specs.Prelude.{ℕ, Vec, ◌≡◌, ◌++◌, List, [], ◌∷◌, Option, None, map}
use Rattle.std.specs.Option.{unwrap_or}
use Rattle.std.specs.Str.{bytes_eq}
use Rattle.std.specs.Map.{lookup}
use Rattle.std.specs.Global.{Global}
use Rattle.c_types.specs.declared.table.DeclaredName.{DeclaredName}
use Rattle.c_types.specs.Names.{innermost}

-- the entries of a table: the place of a name's innermost declaration, and nothing where it isn't declared any more
abbrev pub Entries : Type 0
Entries = List (Vec ℕ Global × Option ℕ)

-- the place of a name by a table
abbrev pub meaning_of : Entries → List ℕ → Option ℕ
meaning_of entries name = unwrap_or (lookup (λ key. bytes_eq name key.items) entries) None

abbrev pub names_of : List DeclaredName → List (List ℕ)
names_of ks = map (λ k. k.name) ks

abbrev pub Agrees : Entries → List (List ℕ) → Type 0
Agrees entries names = (name : List ℕ) → meaning_of entries name ≡ innermost names name

-- each of the declarations, the first one first, keeps what it hides among those before it
abbrev pub Hide : List (List ℕ) → List DeclaredName → Type 0
Hide before [] = Unit {0}
Hide before (k ∷ ks) = (k.hidden ≡ innermost before k.name) × Hide (before ++ k.name ∷ []) ks

-- What holds of each table: it tells of the names in scope.
pub record IsTable (ks : List DeclaredName) (entries : Entries) : Type 0 where
  pub agrees : Agrees entries (names_of ks)
  pub hide : Hide [] ks

-- Of a table behind another one: where the declaration of this name was the last one, what it hid stands again.
abbrev pub Restores : DeclaredName → Entries → Entries → Type 0
Restores k old new =
    (before : List (List ℕ)) → Agrees old (before ++ k.name ∷ []) → k.hidden ≡ innermost before k.name → Agrees new before
