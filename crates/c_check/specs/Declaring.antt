-- Typedefs and functions that are declared (C11, 6.7 and 6.7.8), and names that are declared as two kinds of thing.
use Rattle.std.specs.Str.{bytes_eq}
use Rattle.std.specs.Prelude.{ℕ, ◌&&◌, ◌||◌, nat_eq, not, is_some, if◌then◌else◌, Bool, true, false, List, [], ◌∷◌, Option, Some, None}
use Rattle.am_base.specs.declared.headers.HeaderItem.{HeaderItem}
use Rattle.am_base.specs.declared.headers.HeaderItem.TheVariants as item
use Rattle.rank_range.specs.declared.kinds.Kind.TheVariants as kind
use Rattle.c_ast.specs.declared.words.Name.{Name}
use Rattle.c_types.specs.declared.ctype.Base.{Base}
use Rattle.c_types.specs.declared.ctype.Base.TheVariants as base
use Rattle.c_types.specs.declared.ctype.CType.{CType}
use Rattle.c_types.specs.declared.ctype.FunctionType.{FunctionType}
use Rattle.c_types.specs.declared.ctype.Part.{Part}
use Rattle.c_types.specs.declared.ctype.Part.TheVariants as part
use Rattle.c_types.specs.declared.names.Named.{Named}
use Rattle.c_types.specs.declared.names.Named.TheVariants as named
use Rattle.c_typing.specs.declared.rules.Rule.TheVariants as rule
use Rattle.c_judge.specs.declared.shapes.Built.{Built}
use Rattle.c_judge.specs.declared.shapes.Built.TheVariants as built
use Rattle.c_judge.specs.Sight.{declared_here}
use Rattle.c_judge.specs.Headers.{item_named}
use Rattle.c_check.specs.declared.draft.Draft.{Draft}
use Rattle.c_check.specs.declared.draft.Link.{Link}
use Rattle.c_check.specs.declared.linkage.StorageWords.{StorageWords}
use Rattle.c_check.specs.declared.linkage.Linkage.{Linkage}
use Rattle.c_check.specs.declared.linkage.Linkage.TheVariants.{External, Internal}
use Rattle.c_check.specs.Draft.{Doing, with_broken, broken_if}
use Rattle.c_check.specs.Linkage.{is_in_block, item_seen, linked, linkage, link, with_meaning}
use Rattle.c_check.specs.Redeclared.{is_same, functions_agree}

abbrev pub type_meant : Built → Named
type_meant (built.Object t) = named.Type t
type_meant (built.Function t) = named.FunctionType t

-- whether a name is declared as the name of the same type
abbrev pub repeats_object : CType → Built → Bool
repeats_object t (built.Object u) = is_same t u
repeats_object t (built.Function u) = false

abbrev pub repeats_function : FunctionType → Built → Bool
repeats_function t (built.Function u) = functions_agree t u
repeats_function t (built.Object u) = false

abbrev pub repeats : Named → Built → Bool
repeats (named.Type t) b = repeats_object t b
repeats (named.FunctionType t) b = repeats_function t b
repeats m b = false

abbrev pub repeats_meaning : Option (Option Named) → Built → Bool
repeats_meaning (Some (Some m)) b = repeats m b
repeats_meaning (Some None) b = false
repeats_meaning None b = false

-- what a header declares by a name outside all functions
abbrev pub item_here : Name → Draft → Option HeaderItem
item_here name d = if is_in_block d then None else item_seen name d

abbrev pub twice_unless : Bool → Name → Draft → Draft
twice_unless is_repeated name d = broken_if (not is_repeated) name.token rule.DeclaredTwice d

abbrev pub typedef_behind_item : Option HeaderItem → Name → Built → Draft → Draft
typedef_behind_item (Some i) name b d = twice_unless (repeats (item_named i) b) name d
typedef_behind_item None name b d = with_meaning name.text (Some (type_meant b)) d

-- The name of a type may be declared again with the same type (C11, 6.7p3).
abbrev pub typedef_behind : Option (Option Named) → Name → Built → Draft → Draft
typedef_behind (Some m) name b d = twice_unless (repeats_meaning (Some m) b) name d
typedef_behind None name b d = typedef_behind_item (item_here name d) name b d

abbrev pub with_typedef : Name → Built → Draft → Draft
with_typedef name b d = typedef_behind (declared_here d.checker.sight name.text) name b d

-- Whether the innermost scope has a name as another kind of thing, or as one without linkage.
abbrev pub number_in : Option Link → ℕ → Bool
number_in (Some l) number = nat_eq l.number number
number_in None number = false

abbrev pub has_number : Linkage → List ℕ → ℕ → Draft → Bool
has_number k name number d = number_in (linked k name d) number

abbrev pub is_linked_number : List ℕ → ℕ → Draft → Bool
is_linked_number name number d = has_number External name number d || has_number Internal name number d

abbrev pub is_other : Named → Bool → Name → Draft → Bool
is_other (named.Function n t) is_function name d = not is_function
is_other (named.Object n t) is_function name d = is_function || not (is_linked_number name.text n d)
is_other m is_function name d = true

abbrev pub taken_by : Option (Option Named) → Bool → Name → Draft → Bool
taken_by (Some (Some m)) is_function name d = is_other m is_function name d
taken_by (Some None) is_function name d = false
taken_by None is_function name d = is_some (item_here name d)

abbrev pub is_taken : Bool → Name → Draft → Bool
is_taken is_function name d = taken_by (declared_here d.checker.sight name.text) is_function name d

-- `main` is `int (void)` or `int (int, char **)` (C11, 5.1.2.2.1).
abbrev pub is_main : Name → Bool
is_main name = bytes_eq name.text (109 ∷ 97 ∷ 105 ∷ 110 ∷ [])

abbrev pub is_int_base : Base → Bool
is_int_base (base.Whole kind.Int) = true
is_int_base b = false

abbrev pub is_char_base : Base → Bool
is_char_base (base.Whole kind.Char) = true
is_char_base b = false

abbrev pub is_nothing : {A : Type 0} → List A → Bool
is_nothing [] = true
is_nothing (x ∷ xs) = false

abbrev pub is_int : CType → Bool
is_int t = is_int_base t.base && is_nothing t.parts

abbrev pub are_two_pointers : List Part → Bool
are_two_pointers (part.Pointer false ∷ part.Pointer c ∷ []) = true
are_two_pointers ps = false

abbrev pub is_argument_list : CType → Bool
is_argument_list t = is_char_base t.base && not t.is_const && are_two_pointers t.parts

abbrev pub takes_arguments : List CType → Bool
takes_arguments [] = true
takes_arguments (t ∷ u ∷ []) = is_int t && is_argument_list u
takes_arguments ts = false

abbrev pub is_main_type : FunctionType → Bool
is_main_type t = is_int t.result && takes_arguments t.parameters

-- A declaration whose linkage disagrees with another one's. Its name means nothing.
abbrev pub disagreed : Name → Doing (Option ℕ)
disagreed name d = (None, with_meaning name.text None (with_broken name.token rule.LinkagesDisagree d))

abbrev pub link_by : Option Linkage → Name → Built → Doing (Option ℕ)
link_by (Some k) name b d = link k name b d
link_by None name b d = disagreed name d

abbrev pub own_function : StorageWords → Name → FunctionType → Doing (Option ℕ)
own_function words name t d =
    if is_taken true name d
    then (None, with_broken name.token rule.DeclaredTwice d)
    else link_by (linkage words true name.text d) name (built.Function t) d

-- A function of a header may be declared again with a type that agrees.
abbrev pub agrees_with_header : Named → FunctionType → Bool
agrees_with_header (named.Library c t) u = functions_agree t u
agrees_with_header (named.Mpi c t) u = functions_agree t u
agrees_with_header m u = false

abbrev pub known_function : StorageWords → Name → HeaderItem → FunctionType → Doing (Option ℕ)
known_function words name i t d =
    if words.is_static
    then disagreed name d
    else (None, broken_if (not (agrees_with_header (item_named i) t)) name.token rule.DeclaredDifferently d)

abbrev pub function_by : Option HeaderItem → StorageWords → Name → FunctionType → Doing (Option ℕ)
function_by (Some (item.Library c)) words name t d = known_function words name (item.Library c) t d
function_by (Some (item.Mpi c)) words name t d = known_function words name (item.Mpi c) t d
function_by (Some i) words name t d = own_function words name t d
function_by None words name t d = own_function words name t d

abbrev pub main_checked : Name → FunctionType → Draft → Draft
main_checked name t d = broken_if (is_main name && not (is_main_type t)) name.token rule.BadMain d

-- A function is declared; its number is given if no rule is broken.
abbrev pub function_in : StorageWords → Name → FunctionType → Doing (Option ℕ)
function_in words name t d = function_by (item_seen name d) words name t d

abbrev pub function : StorageWords → Name → FunctionType → Doing (Option ℕ)
function words name t d = function_in words name t (main_checked name t d)
