-- Names with linkage (C11, 6.2.2 and 6.2.7).
use Rattle.std.specs.Prelude.{ℕ, ◌+◌, ◌^◌, ◌%◌, ◌&&◌, ◌||◌, nat_eq, not, is_some, if◌then◌else◌, Bool, true, false, List, [], ◌∷◌, ◌++◌, length, Option, Some, None}
use Rattle.am_base.specs.declared.headers.HeaderItem.{HeaderItem}
use Rattle.c_ast.specs.declared.words.Name.{Name}
use Rattle.c_types.specs.declared.ctype.CType.{CType}
use Rattle.c_types.specs.declared.ctype.FunctionType.{FunctionType}
use Rattle.c_types.specs.declared.names.Named.{Named}
use Rattle.c_types.specs.declared.names.Named.TheVariants as named
use Rattle.c_types.specs.declared.program.Function.{Function}
use Rattle.c_types.specs.declared.scope.Scope.{Scope}
use Rattle.c_typing.specs.declared.rules.Rule.TheVariants as rule
use Rattle.c_typing.specs.Types.{merged}
use Rattle.c_judge.specs.declared.gathered.Gathered.{Gathered}
use Rattle.c_judge.specs.declared.shapes.Built.{Built}
use Rattle.c_judge.specs.declared.shapes.Built.TheVariants as built
use Rattle.c_judge.specs.Sight.{meaning_in, with_name, with_entry, in_scope}
use Rattle.c_judge.specs.Headers.{item_at}
use Rattle.c_check.specs.declared.draft.Draft.{Draft}
use Rattle.c_check.specs.declared.draft.Link.{Link}
use Rattle.c_check.specs.declared.linkage.StorageWords.{StorageWords}
use Rattle.c_check.specs.declared.linkage.Linkage.{Linkage}
use Rattle.c_check.specs.declared.linkage.Linkage.TheVariants.{External, Internal}
use Rattle.c_check.specs.Draft.{Doing, with_broken}
use Rattle.c_check.specs.Redeclared.{agrees, functions_agree, merged_function}

abbrev pub words_of : Gathered → StorageWords
words_of g = record { is_typedef = g.is_typedef; is_extern = g.is_extern; is_static = g.is_static }

abbrev pub is_in_block : Draft → Bool
is_in_block d = is_some d.checker.sight.opened

-- what a header declares by a name, if no declaration hides it
abbrev pub unless_declared : Option (Option Named) → Option HeaderItem → Option HeaderItem
unless_declared (Some m) i = None
unless_declared None i = i

abbrev pub item_seen : Name → Draft → Option HeaderItem
item_seen name d = unless_declared (meaning_in d.checker.sight name.text) (item_at d.checker.known name.token name.text)

-- what has a linkage and a name
unfoldable pub linked : Linkage → List ℕ → Draft → Option Link
linked External name d = in_scope d.external name
linked Internal name d = in_scope d.internal name

abbrev pub is_of_unit : Option Link → ℕ → Bool
is_of_unit (Some l) unit = nat_eq l.unit unit
is_of_unit None unit = false

-- whether this unit has declared the name with external linkage
abbrev pub is_outer : List ℕ → Draft → Bool
is_outer name d = is_of_unit (linked External name d) d.checker.unit

abbrev pub is_function : Built → Bool
is_function (built.Object t) = false
is_function (built.Function t) = true

-- Whether what a name means is what is linked. What breaks a rule may be anything.
abbrev pub is_linked : Option Named → Link → Bool
is_linked (Some (named.Object n t)) l = nat_eq n l.number && not (is_function l.of)
is_linked (Some (named.Function n t)) l = nat_eq n l.number && is_function l.of
is_linked None l = true
is_linked (Some m) l = false

abbrev pub sees : Option (Option Named) → Link → Bool
sees (Some m) l = is_linked m l
sees None l = false

-- A declaration with `static` outside all functions has internal linkage; one of a function, or with `extern`, has that of the one
-- which is visible, and else external linkage. Within a unit a name has one of the two (C11, 6.2.2p3 to p7).
abbrev pub internal_unless : Bool → Option Linkage
internal_unless true = None
internal_unless false = Some Internal

abbrev pub linkage_behind : Option Link → Bool → Option (Option Named) → Option Linkage
linkage_behind (Some l) follows seen = if follows && sees seen l then Some Internal else None
linkage_behind None follows seen = Some External

abbrev pub linkage : StorageWords → Bool → List ℕ → Draft → Option Linkage
linkage words is_function name d =
    if words.is_static
    then internal_unless ((is_function && is_in_block d) || is_outer name d)
    else linkage_behind (linked Internal name d) (words.is_extern || is_function) (meaning_in d.checker.sight name)

abbrev pub named_of : ℕ → Built → Named
named_of n (built.Object t) = named.Object n t
named_of n (built.Function t) = named.Function n t

abbrev pub builts_agree : Built → Built → Bool
builts_agree (built.Object a) (built.Object b) = agrees a b
builts_agree (built.Function a) (built.Function b) = functions_agree a b
builts_agree (built.Object a) (built.Function b) = false
builts_agree (built.Function a) (built.Object b) = false

-- the composite type of two types that agree (C11, 6.2.7p3)
abbrev pub merged_own : FunctionType → FunctionType → Built
merged_own a b = built.Function (merged_function a b)

abbrev pub merged_built : Built → Built → Built
merged_built (built.Object a) (built.Object b) = built.Object (merged a b)
merged_built (built.Function a) (built.Function b) = merged_own a b
merged_built (built.Object a) (built.Function b) = built.Object a
merged_built (built.Function a) (built.Object b) = built.Function a

-- Where the declaration that is visible is of the same object or function, the type is the composite one (C11, 6.2.7p4).
abbrev pub object_seen : Option (Option Named) → ℕ → CType → CType
object_seen (Some (Some (named.Object n seen))) number t = if nat_eq n number then merged t seen else t
object_seen seen number t = t

abbrev pub function_seen : Option (Option Named) → ℕ → FunctionType → FunctionType
function_seen (Some (Some (named.Function n seen))) number t = if nat_eq n number then merged_function t seen else t
function_seen seen number t = t

abbrev pub merged_seen : Option (Option Named) → ℕ → Built → Built
merged_seen seen number (built.Object t) = built.Object (object_seen seen number t)
merged_seen seen number (built.Function t) = built.Function (function_seen seen number t)

abbrev pub with_meaning : List ℕ → Option Named → Draft → Draft
with_meaning name meaning d = record d { checker = record d.checker { sight = with_name name meaning d.checker.sight } }

abbrev pub with_link : Linkage → List ℕ → Link → Draft → Draft
with_link External name l d = record d { external = with_entry name l d.external }
with_link Internal name l d = record d { internal = with_entry name l d.internal }

-- Objects and functions are numbered in the order of their first declarations.
abbrev pub numbered : Name → Built → Doing ℕ
numbered name (built.Object t) d =
    (d.checker.object_count, record d { checker = record d.checker { object_count = (d.checker.object_count + 1) % 2 ^ 32 } })
numbered name (built.Function t) d =
    (length d.functions % 2 ^ 32, record d { functions = d.functions ++ record { name = name.text; body = None } ∷ [] })

abbrev pub link_numbered : ℕ → Built → ℕ → Link
link_numbered unit b n = record { number = n; of = b; unit = unit }

abbrev pub fresh : Name → Built → Doing Link
fresh name b d = (link_numbered d.checker.unit b (numbered name b d).0, (numbered name b d).1)

abbrev pub put : Linkage → Name → Link → Built → Doing (Option ℕ)
put k name l b d = (Some l.number, with_meaning name.text (Some (named_of l.number b)) (with_link k name.text l d))

abbrev pub begun : Linkage → Name → Built → Doing (Option ℕ)
begun k name b d = put k name (fresh name b d).0 b (fresh name b d).1

abbrev pub with_declaration : ℕ → Built → Link → Link
with_declaration unit b l = record l { of = merged_built b l.of; unit = unit }

abbrev pub gone_on : Linkage → Name → Link → Built → Doing (Option ℕ)
gone_on k name l b d = put k name l (merged_seen (meaning_in d.checker.sight name.text) l.number b) d

-- One more declaration: all declarations of a name with linkage have types that agree (C11, 6.2.7p2).
abbrev pub unknown : Name → Doing (Option ℕ)
unknown name d = (None, with_meaning name.text None (with_broken name.token rule.DeclaredDifferently d))

abbrev pub link_behind : Option Link → Linkage → Name → Built → Doing (Option ℕ)
link_behind None k name b d = begun k name b d
link_behind (Some l) k name b d =
    if builts_agree l.of b then gone_on k name (with_declaration d.checker.unit b l) b d else unknown name d

abbrev pub link : Linkage → Name → Built → Doing (Option ℕ)
link k name b d = link_behind (linked k name.text d) k name b d
