-- What the specifiers of a declaration say (C11, 6.7.1 to 6.7.3).
use Rattle.std.specs.Prelude.{ℕ, if◌then◌else◌, Bool, true, false, List, [], ◌∷◌, Option, Some, None}
use Rattle.am_base.specs.declared.headers.HeaderItem.{HeaderItem}
use Rattle.am_base.specs.declared.headers.HeaderItem.TheVariants as item
use Rattle.c_ast.specs.declared.words.Storage.{Storage}
use Rattle.c_ast.specs.declared.words.Storage.TheVariants as storage
use Rattle.c_ast.specs.declared.words.Qualifier.{Qualifier}
use Rattle.c_ast.specs.declared.words.Qualifier.TheVariants as qualifier
use Rattle.c_ast.specs.declared.words.TypeWord.{TypeWord}
use Rattle.c_types.specs.declared.ctype.CType.{CType}
use Rattle.c_types.specs.declared.names.Named.{Named}
use Rattle.c_types.specs.declared.names.Named.TheVariants as named
use Rattle.c_typing.specs.Types.{with_const}
use Rattle.c_judge.specs.declared.gathered.Gathered.{Gathered}
use Rattle.c_judge.specs.declared.gathered.Specified.{Specified}
use Rattle.c_judge.specs.declared.gathered.Specified.TheVariants as specified
use Rattle.c_judge.specs.declared.headers.KnownHeaders.{KnownHeaders}
use Rattle.c_judge.specs.declared.shapes.Built.{Built}
use Rattle.c_judge.specs.declared.shapes.Built.TheVariants as built
use Rattle.c_judge.specs.declared.sight.Sight.{Sight}
use Rattle.c_judge.specs.Sight.{meaning_in}
use Rattle.c_judge.specs.Headers.{item_at, header_type}
use Rattle.c_judge.specs.Words.{no_words, with_word, base_of}

abbrev pub nothing : Gathered
nothing = record {
  is_typedef = false;
  is_extern = false;
  is_static = false;
  is_const = false;
  is_named = false;
  words = no_words;
  of = specified.Words;
}

-- `auto`, `register`, `inline`, `volatile` and `restrict` have no effect.
abbrev pub with_storage : Storage → Gathered → Gathered
with_storage storage.Typedef g = record g { is_typedef = true }
with_storage storage.Extern g = record g { is_extern = true }
with_storage storage.Static g = record g { is_static = true }
with_storage storage.Auto g = g
with_storage storage.Register g = g
with_storage storage.Inline g = g

abbrev pub with_qualifier : Qualifier → Gathered → Gathered
with_qualifier qualifier.Const g = record g { is_const = true }
with_qualifier qualifier.Volatile g = g
with_qualifier qualifier.Restrict g = g

abbrev pub with_type_word : TypeWord → Gathered → Gathered
with_type_word w g = record g { words = with_word w g.words }

abbrev pub with_type : Bool → Specified → Gathered → Gathered
with_type is_named t g = record g { is_named = is_named; of = t }

-- the type that specifiers are, if no part has a broken rule
abbrev pub qualified : Bool → CType → CType
qualified true t = with_const t
qualified false t = t

abbrev pub built_by : Gathered → Specified → Option Built
built_by g specified.Words = Some (built.Object (record { base = base_of g.words; is_const = g.is_const; parts = [] }))
built_by g (specified.Known (built.Object t)) = Some (built.Object (qualified g.is_const t))
built_by g (specified.Known (built.Function t)) = Some (built.Function t)
built_by g specified.Unknown = None

abbrev pub built_of : Gathered → Option Built
built_of g = built_by g g.of

-- The type of a typedef's name. A name that is none has no type.
abbrev pub type_by : Named → Specified
type_by (named.Type t) = specified.Known (built.Object t)
type_by (named.FunctionType t) = specified.Known (built.Function t)
type_by (named.Constant k value) = specified.Unknown
type_by (named.NullPointer t) = specified.Unknown
type_by (named.Local offset t) = specified.Unknown
type_by (named.Object n t) = specified.Unknown
type_by (named.Function n t) = specified.Unknown
type_by (named.Library call t) = specified.Unknown
type_by (named.Mpi call t) = specified.Unknown

abbrev pub type_of_item : Option HeaderItem → Specified
type_of_item (Some (item.TypeName t)) = specified.Known (built.Object (header_type t))
type_of_item i = specified.Unknown

abbrev pub type_found : Option (Option Named) → Option HeaderItem → Specified
type_found (Some (Some n)) i = type_by n
type_found (Some None) i = specified.Unknown
type_found None i = type_of_item i

unfoldable pub type_named : Sight → KnownHeaders → ℕ → List ℕ → Specified
type_named s known token name = type_found (meaning_in s name) (item_at known token name)
