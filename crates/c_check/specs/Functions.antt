-- Definitions of functions (C11, 6.9.1).
use Rattle.std.specs.Prelude.{ℕ, ◌%◌, ◌^◌, ◌&&◌, ◌||◌, nat_le, nat_lt, not, is_some, slice_get, slice_set, length, if◌then◌else◌, Bool, true, false, List, [], ◌∷◌, ◌++◌, Option, Some, None}
use Rattle.rank_range.specs.declared.kinds.Kind.{Kind}
use Rattle.am_base.specs.declared.headers.HeaderItem.{HeaderItem}
use Rattle.am_base.specs.declared.headers.HeaderItem.TheVariants as item
use Rattle.c_ast.specs.declared.words.Name.{Name}
use Rattle.c_ast.specs.declared.statement.BlockItem.{BlockItem}
use Rattle.c_types.specs.declared.ctype.CType.{CType}
use Rattle.c_types.specs.declared.ctype.FunctionType.{FunctionType}
use Rattle.c_types.specs.declared.names.Named.{Named}
use Rattle.c_types.specs.declared.program.Body.{Body}
use Rattle.c_types.specs.declared.program.Function.{Function}
use Rattle.c_types.specs.declared.program.Parameter.{Parameter}
use Rattle.c_types.specs.declared.rooms.Rooms.{Rooms}
use Rattle.c_types.specs.declared.scope.Scope.{Scope}
use Rattle.c_types.specs.declared.statement.Stmt.{Stmt}
use Rattle.c_types.specs.Rooms as rooms
use Rattle.c_types.specs.Sizes.{Structs}
use Rattle.c_typing.specs.declared.rules.Rule.TheVariants as rule
use Rattle.c_typing.specs.Classes.{class_of_type, kind_in}
use Rattle.c_judge.specs.declared.shapes.Built.{Built}
use Rattle.c_judge.specs.declared.shapes.Built.TheVariants as built
use Rattle.c_judge.specs.Judging.{Specifying, Declaring}
use Rattle.c_judge.specs.Parameters.{local_offset, local_room, frame_limit}
use Rattle.c_check.specs.declared.draft.Draft.{Draft}
use Rattle.c_check.specs.declared.functions.Aside.{Aside}
use Rattle.c_check.specs.declared.functions.Defined.{Defined}
use Rattle.c_check.specs.declared.functions.Defined.TheVariants as what
use Rattle.c_check.specs.declared.functions.Heading.{Heading}
use Rattle.c_check.specs.declared.linkage.StorageWords.{StorageWords}
use Rattle.c_check.specs.declared.linkage.Linkage.TheVariants.{External}
use Rattle.c_check.specs.Draft.{Doing, then_with, with_broken, opened, closed, in_body, line_at}
use Rattle.c_check.specs.Declarations.{specified, declared_type}
use Rattle.c_check.specs.Declaring.{function, is_main, has_number}
use Rattle.c_check.specs.Labels.{no_labels}
use Rattle.c_check.specs.Linkage.{with_meaning, item_seen}
use Rattle.c_check.specs.Objects.{at}
use Rattle.c_check.specs.Statements.{Running, items}

-- A definition declares a function by its own declarator (C11, 6.9.1p2).
abbrev pub function_by : FunctionType → Bool → Defined
function_by t true = what.Other
function_by t false = what.Function t

abbrev pub function_type : Option Built → Bool → Bool → Defined
function_type (Some (built.Function t)) is_bare is_typedef = function_by t (is_bare || is_typedef)
function_type (Some (built.Object t)) is_bare is_typedef = what.Other
function_type None is_bare is_typedef = what.Unknown

abbrev pub is_function_item : Option HeaderItem → Bool
is_function_item (Some (item.Library c)) = true
is_function_item (Some (item.Mpi c)) = true
is_function_item (Some i) = false
is_function_item None = false

-- While a function's name is declared, the names of its parameters are set aside.
abbrev pub no_names : Scope (Option Named)
no_names = record { names = []; meanings = [] }

abbrev pub aside : Draft → Aside
aside d = record { block = d.checker.sight.block; opened = d.checker.sight.opened }

abbrev pub outside : Draft → Draft
outside d = record d { checker = record d.checker { sight = record d.checker.sight { block = no_names; opened = None } } }

abbrev pub inside : Aside → Draft → Draft
inside a d = record d { checker = record d.checker { sight = record d.checker.sight { block = a.block; opened = a.opened } } }

abbrev pub with_nothing : Name → Draft → Draft
with_nothing name d = inside (aside d) (with_meaning name.text None (outside d))

-- The parameters come first in the frame, in their order.
abbrev pub no_rooms : Rooms
no_rooms = rooms.no_rooms

abbrev pub room_offset : Structs → CType → Rooms → ℕ
room_offset structs t r = local_offset structs t r

abbrev pub room_taken : Structs → CType → Rooms → Rooms
room_taken structs t r = local_room structs t r

abbrev pub kind_of : Structs → CType → Kind
kind_of structs t = kind_in (class_of_type structs t)

abbrev pub parameters_in : Structs → Rooms → List CType → List Parameter
parameters_in structs r [] = []
parameters_in structs r (t ∷ ts) =
    record { offset = room_offset structs t r; kind = kind_of structs t } ∷ parameters_in structs (room_taken structs t r) ts

abbrev pub heading : FunctionType → Draft → Heading
heading t d = record { result = t.result; parameters = parameters_in d.checker.sight.structs no_rooms t.parameters }

-- A frame of 2 ^ 63 bytes, which no source has, is none.
abbrev pub frame_of : Rooms → ℕ
frame_of r = if nat_le frame_limit r.end then 0 else rooms.frame_bytes r

-- A function of a header counts as defined where it is defined again: so it is defined twice.
abbrev pub with_defined : Name → ℕ → Draft → Draft
with_defined name number d = record d { defined = d.defined ++ record { at = at name.token d; function = number } ∷ [] }

abbrev pub next_function : Draft → ℕ
next_function d = length d.functions % 2 ^ 32

abbrev pub with_function_more : Name → Draft → Draft
with_function_more name d = record d { functions = d.functions ++ record { name = name.text; body = None } ∷ [] }

abbrev pub repeated_by : Bool → Name → Option ℕ × Draft → Option ℕ × Draft
repeated_by false name done = done
repeated_by true name done = (Some (next_function done.1), with_defined name (next_function done.1) (with_function_more name done.1))

abbrev pub declared_or_repeated : StorageWords → Name → FunctionType → Doing (Option ℕ)
declared_or_repeated words name t d = repeated_by (is_function_item (item_seen name d)) name (function words name t d)

abbrev pub back : Aside → Option ℕ × Draft → Option ℕ × Draft
back a done = (done.0, inside a done.1)

abbrev pub declared : StorageWords → Name → FunctionType → Doing (Option ℕ)
declared words name t d = back (aside d) (declared_or_repeated words name t (outside d))

-- Of several bodies the first one counts.
abbrev pub is_without : Option Function → Bool
is_without (Some f) = not (is_some f.body)
is_without None = false

abbrev pub lacks_body : ℕ → Draft → Bool
lacks_body number d = is_without (slice_get d.functions number)

abbrev pub with_function_at : ℕ → Function → Draft → Draft
with_function_at number f d = if nat_lt number (length d.functions) then record d { functions = slice_set d.functions number f } else d

abbrev pub with_body : Name → ℕ → Body → Draft → Draft
with_body name number b d =
    if not (lacks_body number d) then d else with_function_at number (record { name = name.text; body = Some b }) d

-- The program begins at its first definition of `main` with external linkage.
abbrev pub is_first_main : Name → ℕ → Draft → Bool
is_first_main name number d = not (is_some d.main) && is_main name && has_number External name.text number d

abbrev pub with_main : List ℕ → Name → ℕ → Draft → Draft
with_main lines name number d =
    if is_first_main name number d
    then record d { main = Some (record { function = number; unit = d.checker.unit; line = line_at lines name.token }) }
    else d

-- The parameters and the body of a function are one scope (C11, 6.2.1p4).
abbrev pub with_scope : Draft → Draft
with_scope d = if not (is_some d.checker.sight.opened) then opened d else d

abbrev pub begun : CType → Draft → Draft
begun t d = with_scope (record d { result = Some t; labels = no_labels None })

abbrev pub statements : List ℕ → Name → ℕ → List (BlockItem Running) → Doing (List Stmt)
statements lines name number is d = items lines is in_body [] (with_defined name number d)

abbrev pub body_made : List Parameter → List Stmt → Draft → Body
body_made ps ss d = record { unit = d.checker.unit; parameters = ps; frame = frame_of d.checker.rooms; stmts = ss }

abbrev pub body_put : List ℕ → Name → ℕ → List Parameter → List Stmt × Draft → Draft
body_put lines name number ps done = with_main lines name number (with_body name number (body_made ps done.0 done.1) done.1)

abbrev pub with_body_of : List ℕ → Name → ℕ → Heading → List (BlockItem Running) → Draft → Draft
with_body_of lines name number h is d = body_put lines name number h.parameters (statements lines name number is (begun h.result d))

abbrev pub body_behind : List ℕ → Name → Heading → List (BlockItem Running) → Option ℕ × Draft → Draft
body_behind lines name h is (Some number, d) = with_body_of lines name number h is d
body_behind lines name h is (None, d) = d

abbrev pub defined : List ℕ → StorageWords → Name → FunctionType → List (BlockItem Running) → Draft → Draft
defined lines words name t is d = body_behind lines name (heading t d) is (declared words name t d)

abbrev pub behind : List ℕ → StorageWords → Name → Defined → List (BlockItem Running) → Draft → Draft
behind lines words name (what.Function t) is d = defined lines words name t is d
behind lines words name what.Other is d = with_nothing name (with_broken name.token rule.NotFunction d)
behind lines words name what.Unknown is d = with_nothing name d

abbrev pub with_frame : Draft → Draft
with_frame d = record d { checker = record d.checker { rooms = no_rooms } }

abbrev pub function_behind : List ℕ → StorageWords → Declaring → List (BlockItem Running) → Option Built × Draft → Draft
function_behind lines words of is done = closed None (behind lines words of.name (function_type done.0 of.is_bare words.is_typedef) is done.1)

abbrev pub function_told : List ℕ → Declaring → List (BlockItem Running) → (StorageWords × Option Built) × Draft → Draft
function_told lines of is told = function_behind lines told.0.0 of is (declared_type of true told.0.1 (with_frame told.1))

unfoldable pub with_function : List ℕ → List Specifying → Declaring → List (BlockItem Running) → Draft → Draft
with_function lines fs of is d = function_told lines of is (specified fs (record { place = of.name.token; is_alone = false }) d)
