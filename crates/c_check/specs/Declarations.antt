-- Declarations (C11, 6.7), by what their specifiers and declarators are: what each does with what is known.
use Rattle.std.specs.Prelude.{ℕ, ◌&&◌, ◌||◌, not, is_some, if◌then◌else◌, Bool, true, false, List, [], ◌∷◌, ◌++◌, map, Option, Some, None}
use Rattle.c_ast.specs.declared.words.Name.{Name}
use Rattle.c_ast.specs.declared.declaration.Decl.{Decl}
use Rattle.c_ast.specs.declared.declaration.Init.{Init}
use Rattle.c_ast.specs.declared.declaration.InitDeclarator.{InitDeclarator}
use Rattle.c_types.specs.declared.ctype.CType.{CType}
use Rattle.c_types.specs.declared.ctype.FunctionType.{FunctionType}
use Rattle.c_types.specs.declared.statement.Declared.{Declared}
use Rattle.c_typing.specs.declared.rules.Rule.{Rule}
use Rattle.c_typing.specs.declared.rules.Rule.TheVariants as rule
use Rattle.c_judge.specs.declared.gathered.Gathered.{Gathered}
use Rattle.c_judge.specs.declared.shapes.Built.{Built}
use Rattle.c_judge.specs.declared.shapes.Built.TheVariants as built
use Rattle.c_judge.specs.declared.shapes.Made.{Made}
use Rattle.c_judge.specs.declared.shapes.Shape.{Shape}
use Rattle.c_judge.specs.declared.typing.Standing.{Standing}
use Rattle.c_judge.specs.Constants.{with_declared}
use Rattle.c_judge.specs.Gathered.{nothing, built_of}
use Rattle.c_judge.specs.Judging.{Specifying, Declaring, specify_all, specifier, declarator}
use Rattle.c_judge.specs.Shapes.{applied}
use Rattle.c_check.specs.declared.draft.Draft.{Draft}
use Rattle.c_check.specs.declared.linkage.StorageWords.{StorageWords}
use Rattle.c_check.specs.Draft.{Doing, then_with, within, with_broken, broken_if, line_at}
use Rattle.c_check.specs.Declaring.{with_typedef, function}
use Rattle.c_check.specs.Linkage.{words_of, is_in_block, with_meaning}
use Rattle.c_check.specs.Locals.{lacks_room, refused, automatic}
use Rattle.c_check.specs.Statics.{linked_thing, static_thing}

abbrev pub gathered : List Specifying → Standing → Gathered → Doing Gathered
gathered fs at g d = within d (specify_all fs at g d.checker)

-- `extern` and `static` disagree.
abbrev pub words_checked : StorageWords → Standing → Draft → Draft
words_checked words at d = broken_if (words.is_extern && words.is_static) at.place rule.LinkagesDisagree d

abbrev pub storage_told : Standing → Gathered → Doing (StorageWords × Option Built)
storage_told at g d = ((words_of g, built_of g), words_checked (words_of g) at d)

abbrev pub specified : List Specifying → Standing → Doing (StorageWords × Option Built)
specified fs at d = then_with (gathered fs at nothing d) (storage_told at)

-- the type that a declarator gives its name
abbrev pub rule_noted : Option Rule → ℕ → Draft → Draft
rule_noted (Some r) token d = with_broken token r d
rule_noted None token d = d

abbrev pub made_noted : Made → ℕ → Doing (Option Built)
made_noted m token d = (m.of, rule_noted m.rule token d)

abbrev pub shaped : ℕ → Option Built → List Shape → Doing (Option Built)
shaped token b shapes d = made_noted (applied d.checker.sight.structs b shapes) token d

abbrev pub declared_type : Declaring → Bool → Option Built → Doing (Option Built)
declared_type of keep b d = then_with (within d (of.shape keep [] d.checker)) (shaped of.name.token b)

-- A name whose declaration breaks a rule is in scope, and means nothing.
abbrev pub with_unknown : StorageWords → Name → Draft → Draft
with_unknown words name d =
    if words.is_typedef || (is_in_block d && not words.is_extern)
    then record d { checker = with_declared name None d.checker }
    else with_meaning name.text None d

-- An object of a block without `extern` has no linkage (C11, 6.2.2p6).
abbrev pub local_thing : ℕ → StorageWords → Name → CType → Option Init → Doing (Option Declared)
local_thing line words name t init d =
    if lacks_room t (is_some init) d
    then (None, refused name d)
    else if words.is_static then (None, static_thing name t init d) else automatic line name t init d

abbrev pub declare_thing : ℕ → StorageWords → Name → CType → Option Init → Doing (Option Declared)
declare_thing line words name t init d =
    if not (is_in_block d) || words.is_extern then (None, linked_thing words name t init d) else local_thing line words name t init d

-- A function has no initialiser (C11, 6.7.9p3), nor has the name of a type.
abbrev pub with_function : StorageWords → Name → FunctionType → Bool → Draft → Draft
with_function words name t has_init d = (function words name t (broken_if has_init name.token rule.Incomplete d)).1

abbrev pub declare_built : Built → ℕ → StorageWords → Name → Option Init → Doing (Option Declared)
declare_built (built.Object t) line words name init d = declare_thing line words name t init d
declare_built (built.Function t) line words name init d = (None, with_function words name t (is_some init) d)

abbrev pub declare_some : Built → ℕ → StorageWords → Name → Option Init → Doing (Option Declared)
declare_some b line words name init d =
    if words.is_typedef
    then (None, with_typedef name b (broken_if (is_some init) name.token rule.InitialiserUnfit d))
    else declare_built b line words name init d

abbrev pub declare : ℕ → StorageWords → Name → Option Built → Option Init → Doing (Option Declared)
declare line words name (Some b) init d = declare_some b line words name init d
declare line words name None init d = (None, with_unknown words name d)

abbrev pub declare_as : List ℕ → StorageWords → Name → Option Init → Option Built → Doing (Option Declared)
declare_as lines words name init b d = declare (line_at lines name.token) words name b init d

abbrev pub declare_one : List ℕ → StorageWords → Option Built → InitDeclarator → Doing (Option Declared)
declare_one lines words b i d =
    then_with (declared_type (declarator i.declarator) false b d) (declare_as lines words (declarator i.declarator).name i.init)

abbrev pub with_one : List Declared → Option Declared → List Declared
with_one done (Some one) = done ++ one ∷ []
with_one done None = done

abbrev pub put_one : List Declared → Option Declared → Doing (List Declared)
put_one done one d = (with_one done one, d)

abbrev pub declare_next : List ℕ → StorageWords → Option Built → InitDeclarator → List Declared → Doing (List Declared)
declare_next lines words b i done d = then_with (declare_one lines words b i d) (put_one done)

abbrev pub declare_all : List ℕ → StorageWords → Option Built → List InitDeclarator → List Declared → Doing (List Declared)
declare_all lines words b [] done d = (done, d)
declare_all lines words b (i ∷ is) done d = then_with (declare_next lines words b i done d) (declare_all lines words b is)

-- The specifiers stand at the first declared name, or at their own first token where no name is declared.
abbrev pub standing_at : List InitDeclarator → ℕ → Standing
standing_at (i ∷ is) token = record { place = (declarator i.declarator).name.token; is_alone = false }
standing_at [] token = record { place = token; is_alone = true }

abbrev pub standing : Decl → Standing
standing of = standing_at of.declared of.specs.token

abbrev pub declare_told : List ℕ → List InitDeclarator → StorageWords × Option Built → Doing (List Declared)
declare_told lines is told d = declare_all lines told.0 told.1 is [] d

-- the automatic declarators with initialisers that a declaration has
unfoldable pub declaration : List ℕ → Decl → Doing (List Declared)
declaration lines of d = then_with (specified (map specifier of.specs.specifiers) (standing of) d) (declare_told lines of.declared)
