-- Static objects with what they begin with (C11, 6.2.4p3, 6.7.9p4 and 6.9.2).
use Rattle.std.specs.Prelude.{ℕ, ◌+◌, ◌^◌, ◌%◌, nat_eq, nat_lt, is_some, slice_set, length, if◌then◌else◌, Bool, true, false, List, [], Option, Some, None}
use Rattle.c_ast.specs.declared.words.Name.{Name}
use Rattle.c_ast.specs.declared.declaration.Init.{Init}
use Rattle.c_types.specs.declared.ctype.CType.{CType}
use Rattle.c_types.specs.declared.names.Named.{Named}
use Rattle.c_types.specs.declared.names.Named.TheVariants as named
use Rattle.c_types.specs.declared.program.Initial.{Initial}
use Rattle.c_types.specs.declared.program.StaticObject.{StaticObject}
use Rattle.c_types.specs.Sizes.{alignment_of}
use Rattle.c_typing.specs.Types.{measured}
use Rattle.c_judge.specs.declared.shapes.Built.TheVariants as built
use Rattle.c_judge.specs.Constants.{with_declared}
use Rattle.c_judge.specs.Sight.{meaning_in}
use Rattle.c_judge.specs.Structures.{size_or_none}
use Rattle.c_stores.specs.declared.lists.Initialised.{Initialised}
use Rattle.c_stores.specs.Lists.{initialising}
use Rattle.c_stores.specs.Statics.{static_initial}
use Rattle.c_check.specs.declared.draft.Draft.{Draft}
use Rattle.c_check.specs.declared.linkage.StorageWords.{StorageWords}
use Rattle.c_check.specs.declared.linkage.Linkage.{Linkage}
use Rattle.c_check.specs.declared.linkage.Linkage.TheVariants.{External, Internal}
use Rattle.c_check.specs.Draft.{Doing, then_with, within}
use Rattle.c_check.specs.Declaring.{has_number}
use Rattle.c_check.specs.Linkage.{with_meaning, link}
use Rattle.c_check.specs.Objects.{at, object, defines, definition, placed}

abbrev pub nothing_initial : Initial
nothing_initial = record { bytes = []; fixes = [] }

-- an object with what it begins with, at its place
abbrev pub filled_object : Name → ℕ → CType → Initial → Draft → StaticObject
filled_object name number t i d = record {
  at = at name.token d;
  object = number;
  size = size_or_none (measured d.checker.sight.structs t);
  align = alignment_of d.checker.sight.structs t;
  initial = i;
}

abbrev pub with_object_at : ℕ → StaticObject → Draft → Draft
with_object_at place o d =
    if nat_lt place (length d.checker.objects)
    then record d { checker = record d.checker { objects = slice_set d.checker.objects place o } }
    else d

abbrev pub with_filled : Name → ℕ → ℕ → CType → Initial → Draft → Draft
with_filled name number place t i d = with_object_at place (filled_object name number t i d) d

abbrev pub with_told : Name → ℕ → ℕ → Option CType → Option Initial → Draft → Draft
with_told name number place (Some t) (Some i) d = with_filled name number place t i d
with_told name number place (Some t) None d = d
with_told name number place None i d = d

-- Behind its initialiser the type of an object is complete, and its initialiser has constants alone (C11, 6.7.9p4).
abbrev pub told : Name → ℕ → ℕ → Option CType → Option Initial → Doing (Option CType)
told name number place t i d = (t, with_told name number place t i d)

abbrev pub ended : Name → ℕ → ℕ → Initialised → Doing (Option CType)
ended name number place done d = then_with (within d (static_initial done.stores d.checker)) (told name number place done.of)

abbrev pub initialised : Name → ℕ → ℕ → CType → Init → Doing (Option CType)
initialised name number place t init d =
    then_with (within d ((initialising init).object name.token 0 t d.checker)) (ended name number place)

-- Objects of blocks with static storage have no linkage.
abbrev pub with_number : Draft → Draft
with_number d = record d { checker = record d.checker { object_count = (d.checker.object_count + 1) % 2 ^ 32 } }

abbrev pub with_name : Name → ℕ → CType → Draft → Draft
with_name name number t d = record d { checker = with_declared name (Some (named.Object number t)) d.checker }

abbrev pub static_placed : Name → ℕ → CType → Doing ℕ
static_placed name number t d = placed name.token number (with_name name number t d)

abbrev pub with_complete : Name → ℕ → Option CType → Draft → Draft
with_complete name number (Some t) d = with_meaning name.text (Some (named.Object number t)) d
with_complete name number None d = d

abbrev pub completed : Name → ℕ → Option CType × Draft → Draft
completed name number done = with_complete name number done.0 done.1

abbrev pub static_begun : Option Init → Name → ℕ → CType → ℕ × Draft → Draft
static_begun (Some init) name number t done = completed name number (initialised name number done.0 t init done.1)
static_begun None name number t done = with_filled name number done.0 t nothing_initial done.1

abbrev pub static_thing : Name → CType → Option Init → Draft → Draft
static_thing name t init d =
    static_begun init name d.checker.object_count t (static_placed name d.checker.object_count t (with_number d))

-- Objects with linkage: the type of a definition is that of all declarations which are visible (C11, 6.2.7p4).
abbrev pub type_of : Option (Option Named) → ℕ → Option CType
type_of (Some (Some (named.Object n t))) number = if nat_eq n number then Some t else None
type_of m number = None

abbrev pub type_seen : Name → ℕ → Draft → Option CType
type_seen name number d = type_of (meaning_in d.checker.sight name.text) number

abbrev pub linkage_of : List ℕ → ℕ → Draft → Linkage
linkage_of name number d = if has_number Internal name number d then Internal else External

abbrev pub relinked : Name → ℕ → Option CType × Draft → Draft
relinked name number (Some t, d) = (link (linkage_of name.text number d) name (built.Object t) d).1
relinked name number (None, d) = d

abbrev pub initialised_by : Option CType → Name → ℕ → ℕ → Init → Draft → Draft
initialised_by (Some t) name number place init d = relinked name number (initialised name number place t init d)
initialised_by None name number place init d = d

abbrev pub with_initialised : Name → ℕ → ℕ → Init → Draft → Draft
with_initialised name number place init d = initialised_by (type_seen name number d) name number place init d

abbrev pub definition_filled : Option Init → Name → ℕ → ℕ × Draft → Draft
definition_filled (Some init) name number done = with_initialised name number done.0 init done.1
definition_filled None name number done = done.1

abbrev pub with_definition : Name → ℕ → Option Init → Draft → Draft
with_definition name number init d = definition_filled init name number (definition name number (is_some init) d)

abbrev pub defined_by : Option ℕ → StorageWords → Name → Option Init → Draft → Draft
defined_by (Some number) words name init d = if defines words (is_some init) d then with_definition name number init d else d
defined_by None words name init d = d

abbrev pub defined_behind : Option ℕ × Draft → StorageWords → Name → Option Init → Draft
defined_behind done words name init = defined_by done.0 words name init done.1

abbrev pub linked_thing : StorageWords → Name → CType → Option Init → Draft → Draft
linked_thing words name t init d = defined_behind (object words name t (is_some init) d) words name init
