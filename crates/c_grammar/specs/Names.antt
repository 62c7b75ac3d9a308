-- Which names are in scope, and what they stand for as far as the grammar asks (C11, 6.2.1): types, or other things.
use Rattle.std.specs.Prelude.{ℕ, ◌≡◌, ◌&&◌, ◌||◌, if◌then◌else◌, Bool, true, false, List, [], ◌∷◌, ◌++◌, codes}
use Rattle.std.specs.List.{list_any}
use Rattle.std.specs.Str.{bytes_eq}
use Rattle.c_lex.specs.declared.token.Token.{Token}
use Rattle.c_lex.specs.declared.token.TokenKind.TheVariants as kind
use Rattle.c_lex.specs.declared.token.Headers.{Headers}
use Rattle.c_ast.specs.declared.words.Name.{Name}
use Rattle.c_grammar.specs.declared.scope.KnownName.{KnownName}

-- a name that is declared: by a typedef, or otherwise
pub record Known : Type 0 where
  pub name : List ℕ
  pub is_type : Bool

-- The names in scope, the one that was declared last in the innermost scope first.
abbrev pub Names : Type 0
Names = List Known

-- the types of mpi.h; size_t is in the three others
abbrev pub mpi_types : List (List ℕ)
mpi_types =
    codes "MPI_Comm" ∷ codes "MPI_Datatype" ∷ codes "MPI_Op" ∷ codes "MPI_Request" ∷ codes "MPI_Info" ∷ codes "MPI_Status" ∷ []

-- A header's types are known at file scope from its `#include` on.
abbrev pub is_type_of : Headers → List ℕ → Bool
is_type_of headers name =
    (headers.mpi && list_any (λ other. bytes_eq name other) mpi_types)
    || ((headers.stdio || (headers.stdlib || headers.strings)) && bytes_eq name (codes "size_t"))

-- The innermost declaration of a name decides; where there is none, the headers do.
abbrev pub is_type_in : Names → Headers → List ℕ → Bool
is_type_in [] headers name = is_type_of headers name
is_type_in (k ∷ ks) headers name = if bytes_eq k.name name then k.is_type else is_type_in ks headers name

-- where nothing is declared yet
abbrev pub nothing : Names
nothing = []

-- The token is a name that stands for a type where these names are in scope, or for no type.
abbrev pub IsTypeName : Names → Token → Type 0
IsTypeName names t = (t.kind ≡ kind.Name) × (is_type_in names t.headers t.text ≡ true)

abbrev pub IsOrdinary : Names → Token → Type 0
IsOrdinary names t = (t.kind ≡ kind.Name) × (is_type_in names t.headers t.text ≡ false)

abbrev pub declared : Names → List ℕ → Bool → Names
declared names name is_type = record { name = name; is_type = is_type } ∷ names

-- a name at this token
abbrev pub name_at : ℕ → Token → Name
name_at number t = record { token = number; text = t.text }

-- the names of a list whose last one was declared last
abbrev pub of_known : List KnownName → Names
of_known [] = []
of_known (k ∷ ks) = of_known ks ++ record { name = k.name; is_type = k.is_type } ∷ []
