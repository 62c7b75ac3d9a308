-- Objects of blocks, which have no linkage (C11, 6.2.4 and 6.7.9).
use Rattle.std.specs.Prelude.{ℕ, ◌&&◌, not, is_some, if◌then◌else◌, Bool, true, false, Option, Some, None}
use Rattle.c_ast.specs.declared.words.Name.{Name}
use Rattle.c_ast.specs.declared.declaration.Init.{Init}
use Rattle.c_types.specs.declared.ctype.CType.{CType}
use Rattle.c_types.specs.declared.names.Named.TheVariants as named
use Rattle.c_types.specs.declared.statement.Declared.{Declared}
use Rattle.c_types.specs.declared.statement.Span.{Span}
use Rattle.c_typing.specs.declared.rules.Rule.TheVariants as rule
use Rattle.c_typing.specs.Types.{measured}
use Rattle.c_judge.specs.Constants.{with_declared}
use Rattle.c_judge.specs.Parameters.{local_offset, with_room_taken}
use Rattle.c_judge.specs.Structures.{size_or_none}
use Rattle.c_stores.specs.declared.lists.Initialised.{Initialised}
use Rattle.c_stores.specs.Lists.{initialising}
use Rattle.c_check.specs.declared.draft.Draft.{Draft}
use Rattle.c_check.specs.Draft.{Doing, then_with, within, with_broken}
use Rattle.c_check.specs.Linkage.{with_meaning}
use Rattle.c_check.specs.Objects.{is_open_array}

-- An object of a block has a complete type, by its initialiser at the latest (C11, 6.7p7).
abbrev pub lacks_room : CType → Bool → Draft → Bool
lacks_room t has_init d = not (is_some (measured d.checker.sight.structs t)) && not (has_init && is_open_array t)

abbrev pub refused : Name → Draft → Draft
refused name d = record d { checker = with_declared name None (with_broken name.token rule.Incomplete d).checker }

abbrev pub next_offset : CType → Draft → ℕ
next_offset t d = local_offset d.checker.sight.structs t d.checker.rooms

abbrev pub with_local : Name → ℕ → CType → Draft → Draft
with_local name offset t d = record d { checker = with_declared name (Some (named.Local offset t)) d.checker }

abbrev pub with_room : CType → Draft → Draft
with_room t d = record d { checker = with_room_taken t d.checker }

abbrev pub span : Bool → ℕ → ℕ → Option Span
span true offset size = Some (record { offset = offset; size = size })
span false offset size = None

-- Behind its initialiser an object has its size, and its room in the frame.
abbrev pub ended_by : Option CType → ℕ → Name → ℕ → Initialised → Doing (Option Declared)
ended_by (Some t) line name offset done d = (
  Some (record { line = line; zeros = span done.zeros offset (size_or_none (measured d.checker.sight.structs t)); stores = done.stores }),
  with_meaning name.text (Some (named.Local offset t)) (with_room t d),
)
ended_by None line name offset done d = (None, d)

abbrev pub ended : ℕ → Name → ℕ → Initialised → Doing (Option Declared)
ended line name offset done d = ended_by done.of line name offset done d

-- The name is in scope in its initialiser (C11, 6.2.1p7).
abbrev pub initialised_at : ℕ → Name → CType → Init → ℕ → Doing (Option Declared)
initialised_at line name t init offset d =
    then_with (within d ((initialising init).object name.token offset t d.checker)) (ended line name offset)

abbrev pub initialised : ℕ → Name → CType → Init → Doing (Option Declared)
initialised line name t init d = initialised_at line name t init (next_offset t d) (with_local name (next_offset t d) t d)

abbrev pub plain : Name → CType → Doing (Option Declared)
plain name t d = (None, with_local name (next_offset t d) t (with_room t d))

abbrev pub automatic : ℕ → Name → CType → Option Init → Doing (Option Declared)
automatic line name t (Some init) d = initialised line name t init d
automatic line name t None d = plain name t d
