-- Units, one behind the other: the typed program, or the broken rule that is told (C11, 6.9).
use Rattle.std.specs.Prelude.{ℕ, ◌≡◌, ◌+◌, ◌^◌, ◌%◌, is_some, if◌then◌else◌, Bool, true, false, List, [], ◌∷◌, Option, Some, None, Result, Ok, Err, map, codes}
use Rattle.rank_range.specs.declared.kinds.Kind.TheVariants as kind
use Rattle.rank_range.specs.declared.width.Width.TheVariants.{Four}
use Rattle.c_ast.specs.declared.declaration.External.{External}
use Rattle.c_ast.specs.declared.declaration.External.TheVariants as external
use Rattle.c_types.specs.declared.ctype.CType.{CType}
use Rattle.c_types.specs.declared.ctype.Member.{Member}
use Rattle.c_types.specs.declared.ctype.StructType.{StructType}
use Rattle.c_types.specs.declared.program.Program.{Program}
use Rattle.c_types.specs.declared.scope.Scope.{Scope}
use Rattle.c_types.specs.Rooms.{no_rooms}
use Rattle.c_types.specs.Sizes.{Structs, alignment_of}
use Rattle.c_typing.specs.declared.rules.Rule.TheVariants as rule
use Rattle.c_typing.specs.Types.{measured, without_last}
use Rattle.c_typing.specs.Values.{whole_type}
use Rattle.c_judge.specs.declared.broken.Broken.{Broken}
use Rattle.c_judge.specs.declared.checker.Checker.{Checker}
use Rattle.c_judge.specs.declared.headers.KnownHeaders.{KnownHeaders}
use Rattle.c_judge.specs.declared.sight.Sight.{Sight}
use Rattle.c_judge.specs.Judging.{specifier, declarator}
use Rattle.c_judge.specs.Sight.{in_scope}
use Rattle.c_check.specs.declared.draft.Begun.{Begun}
use Rattle.c_check.specs.declared.draft.Draft.{Draft}
use Rattle.c_check.specs.declared.units.CheckError.{CheckError}
use Rattle.c_check.specs.declared.units.CheckError.TheVariants as error
use Rattle.c_check.specs.declared.units.Source.{Source}
use Rattle.c_check.specs.Declarations.{declaration}
use Rattle.c_check.specs.Draft.{with_broken}
use Rattle.c_check.specs.Functions.{with_function}
use Rattle.c_check.specs.Labels.{no_labels}
use Rattle.c_check.specs.Objects.{at, empty_object, is_open_array}
use Rattle.c_check.specs.Running.{item_of}
use Rattle.c_check.specs.Statics.{type_of, with_object_at}

-- An answer is what is meant, unless memory runs out.
abbrev pub Tells : Result Program CheckError → Result Program CheckError → Type 0
Tells (Ok p) meant = meant ≡ Ok p
Tells (Err (error.Rule r unit token)) meant = meant ≡ Err (error.Rule r unit token)
Tells (Err error.Memory) meant = Unit {0}

abbrev pub no_scope : {A : Type 0} → Scope A
no_scope = record { names = []; meanings = [] }

-- Before a unit no name is in scope; structures and what has external linkage are kept.
abbrev pub begun_unit : ℕ → KnownHeaders → Draft → Draft
begun_unit unit known d = record d {
  checker = record d.checker {
    unit = unit;
    known = known;
    least = None;
    sight = record d.checker.sight { file = no_scope; block = no_scope; file_tags = no_scope; block_tags = no_scope; opened = None };
  };
  internal = no_scope;
  begun = no_scope;
}

-- declarations and definitions outside all functions, in their order
abbrev pub with_external : List ℕ → External → Draft → Draft
with_external lines (external.Declaration of) d = (declaration lines of d).1
with_external lines (external.Function token specs of is) d =
    with_function lines (map specifier specs.specifiers) (declarator of) (map (item_of lines) is) d

abbrev pub with_externals : List ℕ → List External → Draft → Draft
with_externals lines [] d = d
with_externals lines (e ∷ es) d = with_externals lines es (with_external lines e d)

-- At the end of a unit a tentative definition is one with zeros; an array whose size isn't told has one element, and what has no complete type
-- breaks a rule (C11, 6.9.2p2 and p5).
abbrev pub or_else : Option ℕ → Option ℕ → Option ℕ
or_else (Some n) m = Some n
or_else None m = m

abbrev pub tentative_size : Structs → CType → Option ℕ
tentative_size structs t = or_else (measured structs t) (if is_open_array t then measured structs (without_last t) else None)

abbrev pub is_initialised : Option Begun → Bool
is_initialised (Some b) = b.is_initialised
is_initialised None = false

abbrev pub sized : Option ℕ → CType → Begun → Draft → Draft
sized (Some size) t b d =
    with_object_at b.place (empty_object (at b.token d) b.number size (alignment_of d.checker.sight.structs t)) d
sized None t b d = with_broken b.token rule.Incomplete d

abbrev pub completed_as : Option CType → Begun → Draft → Draft
completed_as (Some t) b d = sized (tentative_size d.checker.sight.structs t) t b d
completed_as None b d = d

abbrev pub with_one_complete : Scope Begun → Begun → Draft → Draft
with_one_complete begun b d =
    if is_initialised (in_scope begun b.name) then d
    else completed_as (type_of (in_scope d.checker.sight.file b.name) b.number) b d

abbrev pub with_all_complete : Scope Begun → List Begun → Draft → Draft
with_all_complete begun [] d = d
with_all_complete begun (b ∷ bs) d = with_all_complete begun bs (with_one_complete begun b d)

abbrev pub ended_unit : Draft → Draft
ended_unit d = with_all_complete d.begun d.begun.meanings (record d { begun = no_scope })

abbrev pub with_unit : ℕ → Source → Draft → Draft
with_unit unit source d = ended_unit (with_externals source.lines source.tree.externals (begun_unit unit source.known d))

-- Before the first unit there is `MPI_Status` alone (MPI 3.1, 3.2.5).
abbrev pub int_member : List ℕ → ℕ → Member
int_member name offset = record { name = name; of = whole_type kind.Int; offset = offset }

abbrev pub status : StructType
status = record {
  tag = None;
  layout = Some (record {
    members =
        int_member (codes "MPI_SOURCE") 0
        ∷ int_member (codes "MPI_TAG") 4
        ∷ int_member (codes "MPI_ERROR") 8
        ∷ int_member (codes "ampi_bytes") 12
        ∷ [];
    size = 16;
    align = Four;
  });
}

abbrev pub first_sight : Sight
first_sight = record {
  file = no_scope;
  block = no_scope;
  file_tags = no_scope;
  block_tags = no_scope;
  structs = status ∷ [];
  begun = true ∷ [];
  fixed = false ∷ [];
  opened = None;
}

abbrev pub no_headers : KnownHeaders
no_headers = record { mpi = None; stdio = None; stdlib = None; strings = None }

abbrev pub first_checker : Checker
first_checker = record {
  unit = 0;
  known = no_headers;
  sight = first_sight;
  least = None;
  rooms = no_rooms;
  object_count = 0;
  objects = [];
  uses = [];
}

abbrev pub start : Draft
start = record {
  checker = first_checker;
  external = no_scope;
  internal = no_scope;
  begun = no_scope;
  functions = [];
  defined = [];
  main = None;
  result = None;
  labels = no_labels None;
}

abbrev pub program_of : Draft → Program
program_of d = record {
  functions = d.functions;
  defined = d.defined;
  objects = d.checker.objects;
  uses = d.checker.uses;
  main = d.main;
}

-- Of the units the first one with a broken rule tells; of that the rule at the least token, and there the one with the least number.
abbrev pub told_by : Option Broken → ℕ → Result Program CheckError → Result Program CheckError
told_by (Some b) unit rest = Err (error.Rule b.rule unit b.token)
told_by None unit rest = rest

abbrev pub next_unit : ℕ → ℕ
next_unit unit = (unit + 1) % 2 ^ 8

abbrev pub checked_behind : List Source → ℕ → Draft → Result Program CheckError
checked_behind [] unit d = Ok (program_of d)
checked_behind (s ∷ ss) unit d = told_by (with_unit unit s d).checker.least unit (checked_behind ss (next_unit unit) (with_unit unit s d))

-- the typed program of units, or the broken rule that is told
unfoldable pub checked : List Source → Result Program CheckError
checked sources = checked_behind sources 0 start
