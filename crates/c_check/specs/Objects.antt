-- Objects that are declared outside all functions or with `extern`, and their definitions (C11, 6.7 and 6.9.2).
use Rattle.std.specs.Prelude.{ℕ, ◌&&◌, ◌||◌, not, is_some, if◌then◌else◌, Bool, true, false, List, [], ◌∷◌, ◌++◌, length, Option, Some, None}
use Rattle.rank_range.specs.declared.width.Width.{Width}
use Rattle.rank_range.specs.declared.width.Width.TheVariants.{One}
use Rattle.c_ast.specs.declared.words.Name.{Name}
use Rattle.c_types.specs.declared.ctype.CType.{CType}
use Rattle.c_types.specs.declared.ctype.Part.{Part}
use Rattle.c_types.specs.declared.ctype.Part.TheVariants as part
use Rattle.c_types.specs.declared.program.StaticObject.{StaticObject}
use Rattle.c_types.specs.declared.program.TokenAt.{TokenAt}
use Rattle.c_typing.specs.declared.rules.Rule.TheVariants as rule
use Rattle.c_typing.specs.Types.{measured, last_part}
use Rattle.c_judge.specs.declared.shapes.Built.TheVariants as built
use Rattle.c_judge.specs.Sight.{with_entry, in_scope}
use Rattle.c_judge.specs.State.{at_token}
use Rattle.c_check.specs.declared.draft.Draft.{Draft}
use Rattle.c_check.specs.declared.draft.Begun.{Begun}
use Rattle.c_check.specs.declared.linkage.StorageWords.{StorageWords}
use Rattle.c_check.specs.declared.linkage.Linkage.{Linkage}
use Rattle.c_check.specs.declared.linkage.Linkage.TheVariants.{External, Internal}
use Rattle.c_check.specs.Draft.{Doing, with_broken, broken_if}
use Rattle.c_check.specs.Linkage.{is_in_block, linkage, link, with_meaning}
use Rattle.c_check.specs.Declaring.{is_main, is_taken, disagreed}

abbrev pub is_internal : Linkage → Bool
is_internal Internal = true
is_internal External = false

abbrev pub is_open_part : Option Part → Bool
is_open_part (Some part.OpenArray) = true
is_open_part (Some (part.Array n)) = false
is_open_part (Some (part.Pointer c)) = false
is_open_part None = false

abbrev pub is_open_array : CType → Bool
is_open_array t = is_open_part (last_part t)

-- Outside all functions a declaration of an object defines it, but one with `extern` and no initialiser (C11, 6.9.2p1 and p2).
abbrev pub defines : StorageWords → Bool → Draft → Bool
defines words has_init d = not (is_in_block d) && (not words.is_extern || has_init)

-- Where it has an initialiser, the type is complete or an array's; a tentative one with internal linkage has a complete type
-- (C11, 6.7.9p3 and 6.9.2p3).
abbrev pub lacks_by : Bool → Linkage → CType → Bool
lacks_by true k t = not (is_open_array t)
lacks_by false k t = is_internal k

abbrev pub lacks_type : Linkage → CType → Bool → Draft → Bool
lacks_type k t has_init d = not (is_some (measured d.checker.sight.structs t)) && lacks_by has_init k t

abbrev pub incomplete : Name → Doing (Option ℕ)
incomplete name d = (None, with_meaning name.text None (with_broken name.token rule.Incomplete d))

abbrev pub linked_object : StorageWords → Linkage → Name → CType → Bool → Doing (Option ℕ)
linked_object words k name t has_init d =
    if defines words has_init d && lacks_type k t has_init d then incomplete name d else link k name (built.Object t) d

abbrev pub object_by : Option Linkage → StorageWords → Name → CType → Bool → Doing (Option ℕ)
object_by (Some k) words name t has_init d = linked_object words k name t has_init d
object_by None words name t has_init d = disagreed name d

abbrev pub object_in : StorageWords → Name → CType → Bool → Doing (Option ℕ)
object_in words name t has_init d =
    if is_taken false name d
    then (None, with_broken name.token rule.DeclaredTwice d)
    else object_by (linkage words false name.text d) words name t has_init d

-- In a block a declaration with `extern` has no initialiser (C11, 6.7.9p5).
abbrev pub object_checked : Name → Bool → Draft → Draft
object_checked name has_init d =
    broken_if (is_in_block d && has_init) name.token rule.InitialiserUnfit (broken_if (is_main name) name.token rule.BadMain d)

-- An object is declared; its number is given if no rule is broken.
abbrev pub object : StorageWords → Name → CType → Bool → Doing (Option ℕ)
object words name t has_init d = object_in words name t has_init (object_checked name has_init d)

-- places in the list of objects, in the order of their names
abbrev pub at : ℕ → Draft → TokenAt
at token d = at_token token d.checker

abbrev pub empty_object : TokenAt → ℕ → ℕ → Width → StaticObject
empty_object at number size align = record {
  at = at;
  object = number;
  size = size;
  align = align;
  initial = record { bytes = []; fixes = [] };
}

abbrev pub with_object : StaticObject → Draft → Draft
with_object o d = record d { checker = record d.checker { objects = d.checker.objects ++ o ∷ [] } }

abbrev pub placed : ℕ → ℕ → Doing ℕ
placed token number d = (length d.checker.objects, with_object (empty_object (at token d) number 0 One) d)

abbrev pub begun_of : Name → ℕ → ℕ → Bool → Begun
begun_of name number place is_initialised = record {
  name = name.text;
  token = name.token;
  number = number;
  place = place;
  is_initialised = is_initialised;
}

abbrev pub with_begun : Name → ℕ → ℕ → Bool → Draft → Draft
with_begun name number place is_initialised d =
    record d { begun = with_entry name.text (begun_of name number place is_initialised) d.begun }

-- A tentative definition stands for the others of its unit (C11, 6.9.2p2); of two with initialisers each has a place of its own.
abbrev pub first_definition : Name → ℕ → Bool → ℕ × Draft → ℕ × Draft
first_definition name number has_init done = (done.0, with_begun name number done.0 has_init done.1)

abbrev pub definition_behind : Option Begun → Name → ℕ → Bool → Doing ℕ
definition_behind (Some b) name number has_init d =
    if b.is_initialised && has_init then placed name.token number d else (b.place, with_begun name number b.place (b.is_initialised || has_init) d)
definition_behind None name number has_init d = first_definition name number has_init (placed name.token number d)

abbrev pub definition : Name → ℕ → Bool → Doing ℕ
definition name number has_init d = definition_behind (in_scope d.begun name.text) name number has_init d
