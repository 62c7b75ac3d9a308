-- What expressions and types are, by recursion over their trees: what each part does with what is known, in the order of the tokens.
use Rattle.std.specs.Prelude.{ℕ, ◌&&◌, ◌||◌, nat_eq, Bool, true, false, List, [], ◌∷◌, ◌++◌, reverse, replicate, map, length, Option, Some, None}
use Rattle.rank_range.specs.declared.kinds.Kind.TheVariants as kind
use Rattle.c_ast.specs.declared.words.Name.{Name}
use Rattle.c_ast.specs.declared.words.Qualifier.{Qualifier}
use Rattle.c_ast.specs.declared.words.Qualifier.TheVariants as qualifier
use Rattle.c_ast.specs.declared.declaration.DirectSuffix.TheOpen.{DirectSuffix-F, Param-F, Specifier-F, Expr-F, Declarator-F, Member-F, TypeName-F}
use Rattle.c_ast.specs.declared.declaration.Direct.{Direct}
use Rattle.c_ast.specs.declared.declaration.Direct.TheVariants as direct
use Rattle.c_ast.specs.declared.declaration.StructSpec.{StructSpec}
use Rattle.c_ast.specs.declared.declaration.StructSpec.TheVariants as struct
use Rattle.c_ast.specs.declared.declaration.EnumSpec.{EnumSpec}
use Rattle.c_ast.specs.declared.declaration.EnumSpec.TheVariants as enum
use Rattle.c_ast.specs.declared.declaration.Enumerator.{Enumerator}
use Rattle.c_ast.specs.declared.expression.Expr.{Expr, fold-Expr}
use Rattle.c_ast.specs.declared.declaration.DirectSuffix.{DirectSuffix, fold-DirectSuffix}
use Rattle.c_ast.specs.declared.declaration.Param.{Param, fold-Param}
use Rattle.c_ast.specs.declared.declaration.Specifier.{Specifier, fold-Specifier}
use Rattle.c_ast.specs.declared.declaration.Declarator.{Declarator, fold-Declarator}
use Rattle.c_ast.specs.declared.declaration.Member.{Member, fold-Member}
use Rattle.c_ast.specs.declared.declaration.TypeName.{TypeName, fold-TypeName}
use Rattle.c_types.specs.declared.ctype.CType.{CType}
use Rattle.c_const.specs.Constants.{number_kind}
use Rattle.c_typing.specs.declared.judged.Judged.{Judged}
use Rattle.c_typing.specs.declared.judged.Judged.TheVariants as judged
use Rattle.c_typing.specs.declared.rules.Rule.{Rule}
use Rattle.c_typing.specs.Values.{number, whole_type}
use Rattle.c_judge.specs.declared.checker.Checker.{Checker}
use Rattle.c_judge.specs.declared.checker.Mode.{Mode}
use Rattle.c_judge.specs.declared.shapes.Built.{Built}
use Rattle.c_judge.specs.declared.shapes.Built.TheVariants as built
use Rattle.c_judge.specs.declared.shapes.Shape.{Shape}
use Rattle.c_judge.specs.declared.shapes.Shape.TheVariants as shape
use Rattle.c_judge.specs.declared.shapes.Extent.TheVariants as extent
use Rattle.c_judge.specs.declared.gathered.Gathered.{Gathered}
use Rattle.c_judge.specs.declared.gathered.Specified.{Specified}
use Rattle.c_judge.specs.declared.gathered.Specified.TheVariants as specified
use Rattle.c_judge.specs.declared.structures.Members.{Members}
use Rattle.c_judge.specs.declared.constants.ParamType.{ParamType}
use Rattle.c_judge.specs.declared.typing.Standing.{Standing}
use Rattle.c_judge.specs.declared.shapes.Made.{Made}
use Rattle.c_judge.specs.State.{Doing, then_with, with_broken, named as name_judged, text}
use Rattle.c_judge.specs.Sight.{opened}
use Rattle.c_judge.specs.Scopes.{closed}
use Rattle.c_judge.specs.Expressions.{Reading, operand, unused, unevaluated, a_number, with_prefix, with_links, with_operators, sized, sized_type, cast_to, choose_both, assign_value, with_commas}
use Rattle.c_judge.specs.Gathered.{nothing, with_storage, with_qualifier, with_type_word, with_type, built_of, type_named}
use Rattle.c_judge.specs.Structures.{referred_struct, begun_struct, no_members, added_member, finished_struct}
use Rattle.c_judge.specs.Shapes.{applied}
use Rattle.c_judge.specs.Constants.{extent_from, enumerator_value, next_value, with_enumerator, with_enum, referred_enum}
use Rattle.c_judge.specs.Parameters.{parameters_of, with_parameter, named_parameter, unnamed_parameter}

-- A declarator is told by its name, whether a part behind the name is still to come, and by the shapes that it puts behind others. Of
-- the part nearest the name, the names of parameters may stay in scope, as they do in a function's definition.
pub record Declaring : Type 0 where
  pub name : Name
  pub is_bare : Bool
  pub shape : Bool → List Shape → Doing (List Shape)

abbrev pub Suffixing : Type 0
Suffixing = Bool → Doing Shape

abbrev pub Specifying : Type 0
Specifying = Standing → Gathered → Doing Gathered

abbrev pub Adding : Type 0
Adding = Members → Doing Members

-- The specifiers of a declaration, one behind the other.
abbrev pub specify_all : List Specifying → Standing → Gathered → Doing Gathered
specify_all [] at g s = (g, s)
specify_all (f ∷ fs) at g s = then_with (f at g s) (specify_all fs at)

abbrev pub specify : List Specifying → Standing → Doing (Option Built)
specify fs at s = then_with (specify_all fs at nothing s) (λ g t. (built_of g, t))

-- a constant expression
abbrev pub constant_mode : Mode
constant_mode = record { is_used = true; is_evaluated = true }

-- Sizes of arrays, from left to right; the shapes of a declarator stand from its name on.
abbrev pub size_shape : Option Reading → Doing Shape
size_shape (Some e) s = then_with (e.judge constant_mode s) (extent_from e.token)
size_shape None s = (shape.Array extent.Open, s)

abbrev pub with_shape_behind : List Shape → Shape → List Shape
with_shape_behind made one = made ++ one ∷ []

abbrev pub put_shape : List Shape → Shape → Doing (List Shape)
put_shape made one s = (with_shape_behind made one, s)

abbrev pub sizes_shape : List (Option Reading) → List Shape → Doing (List Shape)
sizes_shape [] made s = (made, s)
sizes_shape (e ∷ es) made s = then_with (then_with (size_shape e s) (put_shape made)) (sizes_shape es)

abbrev pub pointer_shapes : ℕ → List Shape
pointer_shapes count = replicate count (shape.Pointer false)

abbrev pub with_plain_pointers : List Shape → ℕ → List Shape
with_plain_pointers made count = made ++ pointer_shapes count

abbrev pub abstract_shape : ℕ → List (Option Reading) → Doing (List Shape)
abstract_shape pointers es s = then_with (sizes_shape es [] s) (λ made t. (with_plain_pointers made pointers, t))

-- What is made is told with the rule that it breaks, at a token.
abbrev pub note_rule : Option Rule → ℕ → Checker → Checker
note_rule (Some r) token s = with_broken token r s
note_rule None token s = s

abbrev pub made_at : ℕ → Option Built → List Shape → Doing (Option Built)
made_at token b shapes s = ((applied s.sight.structs b shapes).of, note_rule (applied s.sight.structs b shapes).rule token s)

-- a type name
abbrev pub named_type : ℕ → List Specifying → ℕ → List (Option Reading) → Doing (Option Built)
named_type token fs pointers es s =
    then_with (specify fs (record { place = token; is_alone = false }) s) (λ b t. then_with (abstract_shape pointers es t) (made_at token b))

-- The parameters of a function are a scope (C11, 6.2.1p4), which a definition's block shares. In a declaration they take no room.
abbrev pub with_scope : Checker → Checker
with_scope s = record s { sight = opened s.sight }

abbrev pub behind_scope : Bool → Checker → Checker → Checker
behind_scope true before s = s
behind_scope false before s = record s { sight = closed before.sight.opened s.sight; rooms = before.rooms }

abbrev pub is_single : {A : Type 0} → List A → Bool
is_single xs = nat_eq (length xs) 1

abbrev pub list_parameters : List (Doing ParamType) → Bool → Option (List CType) → Doing (Option (List CType))
list_parameters [] alone ts s = (ts, s)
list_parameters (p ∷ ps) alone ts s = then_with (then_with (p s) (with_parameter alone ts)) (list_parameters ps alone)

abbrev pub parameter_shape : Bool → Checker → Option (List CType) → Doing Shape
parameter_shape keep before ts s = (parameters_of ts, behind_scope keep before s)

abbrev pub suffix_step : DirectSuffix-F Suffixing (Doing ParamType) Specifying Reading Declaring Adding (Doing (Option Built)) → Suffixing
suffix_step (DirectSuffix-F.Array at size) keep s = size_shape size s
suffix_step (DirectSuffix-F.Empty at) keep s = (shape.Function [], s)
suffix_step (DirectSuffix-F.Void at) keep s = (shape.Function [], s)
suffix_step (DirectSuffix-F.Params at ps) keep s =
    then_with (list_parameters ps (is_single ps) (Some []) (with_scope s)) (parameter_shape keep s)

-- A declarator's shapes: those within its parentheses, then those behind its name, then its pointers, the last one first.
abbrev pub suffix_shapes : List Suffixing → Bool → List Shape → Doing (List Shape)
suffix_shapes [] keep made s = (made, s)
suffix_shapes (f ∷ fs) keep made s = then_with (then_with (f keep s) (put_shape made)) (suffix_shapes fs false)

abbrev pub is_const_qualifier : Qualifier → Bool
is_const_qualifier qualifier.Const = true
is_const_qualifier qualifier.Volatile = false
is_const_qualifier qualifier.Restrict = false

abbrev pub has_const : List Qualifier → Bool
has_const [] = false
has_const (q ∷ qs) = is_const_qualifier q || has_const qs

abbrev pub pointer_shape : List Qualifier → Shape
pointer_shape qs = shape.Pointer (has_const qs)

abbrev pub with_pointers : List Shape → List (List Qualifier) → List Shape
with_pointers made ps = made ++ reverse (map pointer_shape ps)

abbrev pub put_pointers : List (List Qualifier) → List Shape → Doing (List Shape)
put_pointers ps made s = (with_pointers made ps, s)

abbrev pub direct_name : Direct Declaring → Name
direct_name (direct.Name n) = n
direct_name (direct.Nested token d) = d.name

abbrev pub is_bare_direct : Direct Declaring → Bool
is_bare_direct (direct.Name n) = true
is_bare_direct (direct.Nested token d) = d.is_bare

abbrev pub is_nothing : {A : Type 0} → List A → Bool
is_nothing [] = true
is_nothing (x ∷ xs) = false

abbrev pub direct_shape : Direct Declaring → Bool → List Shape → Doing (List Shape)
direct_shape (direct.Name n) keep made s = (made, s)
direct_shape (direct.Nested token d) keep made s = d.shape keep made s

abbrev pub declarator_step : Declarator-F Suffixing (Doing ParamType) Specifying Reading Declaring Adding (Doing (Option Built)) → Declaring
declarator_step d = record {
  name = direct_name d.direct;
  is_bare = is_nothing d.suffixes && is_bare_direct d.direct;
  shape = λ keep made s.
      then_with
      (then_with (direct_shape d.direct keep made s) (suffix_shapes d.suffixes (keep && is_bare_direct d.direct)))
      (put_pointers d.pointers);
}

-- The members of a structure, declaration by declaration.
abbrev pub made_in : Checker → Option Built → List Shape → Made
made_in s b shapes = applied s.sight.structs b shapes

abbrev pub member_made : Name → Option Built → Members → List Shape → Doing Members
member_made name b ms shapes s = added_member name (applied s.sight.structs b shapes) ms s

abbrev pub declare_member : Declaring → Option Built → Members → Doing Members
declare_member d b ms s = then_with (d.shape false [] s) (member_made d.name b ms)

abbrev pub declare_members : List Declaring → Option Built → Members → Doing Members
declare_members [] b ms s = (ms, s)
declare_members (d ∷ ds) b ms s = then_with (declare_member d b ms s) (declare_members ds b)

abbrev pub first_name : List Declaring → ℕ → ℕ
first_name [] token = token
first_name (d ∷ ds) token = d.name.token

abbrev pub members_behind : List Declaring → Members → Option Built → Doing Members
members_behind ds ms b s = declare_members ds b ms s

abbrev pub member_step : Member-F Suffixing (Doing ParamType) Specifying Reading Declaring Adding (Doing (Option Built)) → Adding
member_step m ms s =
    then_with (specify m.specs.specifiers (record { place = first_name m.declarators m.specs.token; is_alone = false }) s)
    (members_behind m.declarators ms)

abbrev pub add_members : List Adding → Members → Doing Members
add_members [] ms s = (ms, s)
add_members (f ∷ fs) ms s = then_with (f ms s) (add_members fs)

abbrev pub tag_place : Option Name → Standing → ℕ
tag_place (Some name) at = name.token
tag_place None at = at.place

abbrev pub end_struct : ℕ → ℕ → Members → Doing Specified
end_struct place n ms s = finished_struct n place ms s

abbrev pub members_of : List Adding → ℕ → ℕ → Doing Specified
members_of fs place n s = then_with (add_members fs no_members s) (end_struct place n)

abbrev pub struct_body : Option Name → List Adding → Standing → Doing Specified
struct_body name fs at s = then_with (begun_struct name s) (members_of fs (tag_place name at))

-- The enumerators of an enumeration: each is one more than the one before it, or has a value of its own.
abbrev pub own_value : Option Reading → Option ℕ → Doing (Option ℕ)
own_value (Some e) next s = then_with (e.judge constant_mode s) (enumerator_value e.token)
own_value None next s = (next, s)

abbrev pub put_enumerator : Name → Option ℕ → Doing (Option ℕ)
put_enumerator name value s = (next_value value, with_enumerator name value s)

abbrev pub enumerate : List (Enumerator Reading) → Option ℕ → Doing (Option ℕ)
enumerate [] next s = (next, s)
enumerate (e ∷ es) next s = then_with (then_with (own_value e.value next s) (put_enumerator e.name)) (enumerate es)

abbrev pub int_type : Specified
int_type = specified.Known (built.Object (whole_type kind.Int))

abbrev pub as_int : Option ℕ → Doing Specified
as_int next s = (int_type, s)

abbrev pub enum_body : Option Name → List (Enumerator Reading) → Doing Specified
enum_body name es s = then_with (enumerate es (Some 0) (with_enum name s)) as_int

abbrev pub int_if : Bool → Doing Specified
int_if true s = (int_type, s)
int_if false s = (specified.Unknown, s)

abbrev pub put_type : Bool → Gathered → Specified → Doing Gathered
put_type is_named g t s = (with_type is_named t g, s)

abbrev pub struct_specified : StructSpec Adding → Standing → Doing Specified
struct_specified (struct.Reference token name) at s = referred_struct at.is_alone name s
struct_specified (struct.Body token name fs) at s = struct_body name fs at s

abbrev pub enum_specified : EnumSpec Reading → Doing Specified
enum_specified (enum.Reference token name) s = then_with (referred_enum name s) int_if
enum_specified (enum.Body token name es) s = enum_body name es s

abbrev pub named_specifier : Name → Gathered → Checker → Gathered
named_specifier name g s = with_type true (type_named s.sight s.known name.token name.text) g

abbrev pub specifier_step : Specifier-F Suffixing (Doing ParamType) Specifying Reading Declaring Adding (Doing (Option Built)) → Specifying
specifier_step (Specifier-F.Storage q) at g s = (with_storage q g, s)
specifier_step (Specifier-F.Qualifier q) at g s = (with_qualifier q g, s)
specifier_step (Specifier-F.Word w) at g s = (with_type_word w g, s)
specifier_step (Specifier-F.Struct t) at g s = then_with (struct_specified t at s) (put_type false g)
specifier_step (Specifier-F.Enum t) at g s = then_with (enum_specified t s) (put_type false g)
specifier_step (Specifier-F.TypedefName name) at g s = (named_specifier name g s, s)

-- parameters
abbrev pub parameter_named : Name → Option Built → List Shape → Doing ParamType
parameter_named name b shapes s = named_parameter name (applied s.sight.structs b shapes) s

abbrev pub parameter_behind : Declaring → Option Built → Doing ParamType
parameter_behind d b s = then_with (d.shape false [] s) (parameter_named d.name b)

abbrev pub parameter_unnamed : ℕ → Gathered → List Shape → Doing ParamType
parameter_unnamed token g shapes s =
    unnamed_parameter token (g.is_named && is_nothing shapes) (applied s.sight.structs (built_of g) shapes) s

abbrev pub unnamed_behind : ℕ → ℕ → List (Option Reading) → Gathered → Doing ParamType
unnamed_behind token pointers es g s = then_with (abstract_shape pointers es s) (parameter_unnamed token g)

abbrev pub param_step : Param-F Suffixing (Doing ParamType) Specifying Reading Declaring Adding (Doing (Option Built)) → Doing ParamType
param_step (Param-F.Named specs d) s =
    then_with (specify specs.specifiers (record { place = d.name.token; is_alone = false }) s) (parameter_behind d)
param_step (Param-F.Unnamed specs unnamed) s =
    then_with (specify_all specs.specifiers (record { place = specs.token; is_alone = false }) nothing s)
    (unnamed_behind specs.token unnamed.pointers unnamed.sizes)

abbrev pub type_name_step : TypeName-F Suffixing (Doing ParamType) Specifying Reading Declaring Adding (Doing (Option Built)) → Doing (Option Built)
type_name_step t s = named_type t.specs.token t.specs.specifiers t.declarator.pointers t.declarator.sizes s

-- expressions
abbrev pub reading : ℕ → (Mode → Doing (Option Judged)) → Reading
reading token judge = record { token = token; judge = judge }

abbrev pub expr_step : Expr-F Suffixing (Doing ParamType) Specifying Reading Declaring Adding (Doing (Option Built)) → Reading
expr_step (Expr-F.Name name) = reading name.token (λ mode s. name_judged name.token name.text mode s)
expr_step (Expr-F.Number token value t) = reading token (λ mode s. a_number (judged.Value (number (number_kind t) value)) s)
expr_step (Expr-F.Character token value) = reading token (λ mode s. a_number (judged.Value (number kind.Int value)) s)
expr_step (Expr-F.Text token bytes) = reading token (λ mode s. text token bytes s)
expr_step (Expr-F.Paren token e) = reading token (λ mode s. e.judge mode s)
expr_step (Expr-F.Postfix token e os) = reading token (λ mode s. then_with (e.judge (operand mode) s) (with_operators os mode))
expr_step (Expr-F.Prefix token op e) = reading token (λ mode s. then_with (e.judge (operand mode) s) (with_prefix op token))
expr_step (Expr-F.SizeofExpr token e) = reading token (λ mode s. then_with (e.judge unevaluated s) (sized token))
expr_step (Expr-F.SizeofType token t) = reading token (λ mode s. then_with (t s) (sized_type token))
expr_step (Expr-F.Cast token t e) = reading token (λ mode s. then_with (t s) (cast_to token e mode))
expr_step (Expr-F.Binary token e ls) = reading token (λ mode s. then_with (e.judge (operand mode) s) (with_links ls mode))
expr_step (Expr-F.Conditional token e at a b) = reading token (λ mode s. then_with (e.judge (operand mode) s) (choose_both at a b mode))
expr_step (Expr-F.Assign token e at op v) = reading token (λ mode s. then_with (e.judge (operand mode) s) (assign_value op at v mode))
expr_step (Expr-F.Comma token e es) = reading token (λ mode s. then_with (e.judge (unused mode) s) (with_commas es mode))

unfoldable pub suffix : DirectSuffix → Suffixing
suffix = fold-DirectSuffix Suffixing (Doing ParamType) Specifying Reading Declaring Adding (Doing (Option Built)) suffix_step param_step specifier_step expr_step declarator_step member_step type_name_step

unfoldable pub parameter : Param → Doing ParamType
parameter = fold-Param Suffixing (Doing ParamType) Specifying Reading Declaring Adding (Doing (Option Built)) suffix_step param_step specifier_step expr_step declarator_step member_step type_name_step

unfoldable pub specifier : Specifier → Specifying
specifier = fold-Specifier Suffixing (Doing ParamType) Specifying Reading Declaring Adding (Doing (Option Built)) suffix_step param_step specifier_step expr_step declarator_step member_step type_name_step

unfoldable pub expression : Expr → Reading
expression = fold-Expr Suffixing (Doing ParamType) Specifying Reading Declaring Adding (Doing (Option Built)) suffix_step param_step specifier_step expr_step declarator_step member_step type_name_step

unfoldable pub declarator : Declarator → Declaring
declarator = fold-Declarator Suffixing (Doing ParamType) Specifying Reading Declaring Adding (Doing (Option Built)) suffix_step param_step specifier_step expr_step declarator_step member_step type_name_step

unfoldable pub members : Member → Adding
members = fold-Member Suffixing (Doing ParamType) Specifying Reading Declaring Adding (Doing (Option Built)) suffix_step param_step specifier_step expr_step declarator_step member_step type_name_step

unfoldable pub type_name : TypeName → Doing (Option Built)
type_name = fold-TypeName Suffixing (Doing ParamType) Specifying Reading Declaring Adding (Doing (Option Built)) suffix_step param_step specifier_step expr_step declarator_step member_step type_name_step
