-- What each tree of a type is by what its parts are; the first token of an expression.
use Rattle.std.proofs.Common.{ℕ, ◌≡◌, refl, sym, ap, ◌∙◌, rules, List, [], ◌∷◌, Option, Some, None, map, length}
use Rattle.std.proofs.lemmas.List.{length-map}
use Rattle.std.specs.Prelude.{◌&&◌, Bool, true, false, nat_eq}
use Rattle.c_ast.specs.declared.words.Name.{Name}
use Rattle.c_ast.specs.declared.words.Storage.{Storage}
use Rattle.c_ast.specs.declared.words.Qualifier.{Qualifier}
use Rattle.c_ast.specs.declared.words.TypeWord.{TypeWord}
use Rattle.c_ast.specs.declared.declaration.DirectSuffix.TheOpen.{DirectSuffix-F, Param-F, Specifier-F, Expr-F, Declarator-F, Member-F, TypeName-F}
use Rattle.c_ast.specs.declared.declaration.DirectSuffix.TheViews.{roll-DirectSuffix, roll-Param, roll-Specifier, roll-Expr, out-Expr, roll-Declarator, out-Declarator, roll-Member, out-Member, roll-TypeName, out-TypeName, the_lemmas}
use Rattle.c_ast.specs.declared.declaration.DirectSuffix.TheFolds.{fold-roll-DirectSuffix, fold-roll-Param, fold-roll-Specifier, fold-roll-Expr, fold-roll-Declarator, fold-roll-Member, fold-roll-TypeName}
use Rattle.c_ast.specs.declared.declaration.Direct.{Direct}
use Rattle.c_ast.specs.declared.declaration.Direct.TheVariants as direct
use Rattle.c_ast.specs.declared.declaration.StructSpec.{StructSpec}
use Rattle.c_ast.specs.declared.declaration.StructSpec.TheVariants as struct
use Rattle.c_ast.specs.declared.declaration.EnumSpec.{EnumSpec}
use Rattle.c_ast.specs.declared.declaration.EnumSpec.TheVariants as enum
use Rattle.c_ast.specs.declared.declaration.Enumerator.{Enumerator}
use Rattle.c_ast.specs.declared.declaration.Abstract.{Abstract}
use Rattle.c_ast.specs.declared.declaration.Specs.{Specs}
use Rattle.c_ast.specs.declared.expression.Expr.{Expr, fold-Expr, map-Expr}
use Rattle.c_ast.specs.declared.declaration.DirectSuffix.{DirectSuffix, map-DirectSuffix}
use Rattle.c_ast.specs.declared.declaration.DirectSuffix.TheVariants as suffixes
use Rattle.c_ast.specs.declared.declaration.Param.{Param, map-Param}
use Rattle.c_ast.specs.declared.declaration.Param.TheVariants as param
use Rattle.c_ast.specs.declared.declaration.Specifier.{Specifier, map-Specifier}
use Rattle.c_ast.specs.declared.declaration.Specifier.TheVariants as specified
use Rattle.c_ast.specs.declared.declaration.Declarator.{Declarator, map-Declarator}
use Rattle.c_ast.specs.declared.declaration.Member.{Member, map-Member}
use Rattle.c_ast.specs.declared.declaration.TypeName.{TypeName, map-TypeName}
use Rattle.c_const.specs.Constants.{first_token, token_step}
use Rattle.c_judge.specs.declared.shapes.Built.{Built}
use Rattle.c_judge.specs.declared.checker.Checker.{Checker}
use Rattle.c_judge.specs.declared.structures.Members.{Members}
use Rattle.c_judge.specs.declared.shapes.Shape.{Shape}
use Rattle.c_judge.specs.declared.shapes.Shape.TheVariants as shape
use Rattle.c_judge.specs.declared.constants.ParamType.{ParamType}
use Rattle.c_judge.specs.declared.typing.Standing.{Standing}
use Rattle.c_judge.specs.declared.gathered.Gathered.{Gathered}
use Rattle.c_judge.specs.State.{Doing, then_with}
use Rattle.c_judge.specs.Gathered.{nothing, with_storage, with_qualifier, with_type_word}
use Rattle.c_judge.specs.Expressions.{Reading}
use Rattle.c_judge.specs.Judging as judging
use Rattle.c_judge.specs.Judging.{Suffixing, Specifying, Declaring, Adding, suffix_step, param_step, specifier_step, expr_step, declarator_step, member_step, type_name_step, expression, type_name, suffix, parameter, specifier, declarator, members}
use Rattle.c_judge.specs.Parts.{size_of, sizes_of, enumerator_of, enum_of, struct_of, direct_of}

-- ---- a tree's parts, each by what it is

abbrev suffix_parts : DirectSuffix-F DirectSuffix Param Specifier Expr Declarator Member TypeName → DirectSuffix-F Suffixing (Doing ParamType) Specifying Reading Declaring Adding (Doing (Option Built))
suffix_parts = map-DirectSuffix DirectSuffix Param Specifier Expr Declarator Member TypeName Suffixing (Doing ParamType) Specifying Reading Declaring Adding (Doing (Option Built)) suffix parameter specifier expression declarator members type_name

abbrev param_parts : Param-F DirectSuffix Param Specifier Expr Declarator Member TypeName → Param-F Suffixing (Doing ParamType) Specifying Reading Declaring Adding (Doing (Option Built))
param_parts = map-Param DirectSuffix Param Specifier Expr Declarator Member TypeName Suffixing (Doing ParamType) Specifying Reading Declaring Adding (Doing (Option Built)) suffix parameter specifier expression declarator members type_name

abbrev specifier_parts : Specifier-F DirectSuffix Param Specifier Expr Declarator Member TypeName → Specifier-F Suffixing (Doing ParamType) Specifying Reading Declaring Adding (Doing (Option Built))
specifier_parts = map-Specifier DirectSuffix Param Specifier Expr Declarator Member TypeName Suffixing (Doing ParamType) Specifying Reading Declaring Adding (Doing (Option Built)) suffix parameter specifier expression declarator members type_name

abbrev expr_parts : Expr-F DirectSuffix Param Specifier Expr Declarator Member TypeName → Expr-F Suffixing (Doing ParamType) Specifying Reading Declaring Adding (Doing (Option Built))
expr_parts = map-Expr DirectSuffix Param Specifier Expr Declarator Member TypeName Suffixing (Doing ParamType) Specifying Reading Declaring Adding (Doing (Option Built)) suffix parameter specifier expression declarator members type_name

abbrev declarator_parts : Declarator-F DirectSuffix Param Specifier Expr Declarator Member TypeName → Declarator-F Suffixing (Doing ParamType) Specifying Reading Declaring Adding (Doing (Option Built))
declarator_parts = map-Declarator DirectSuffix Param Specifier Expr Declarator Member TypeName Suffixing (Doing ParamType) Specifying Reading Declaring Adding (Doing (Option Built)) suffix parameter specifier expression declarator members type_name

abbrev type_name_parts : TypeName-F DirectSuffix Param Specifier Expr Declarator Member TypeName → TypeName-F Suffixing (Doing ParamType) Specifying Reading Declaring Adding (Doing (Option Built))
type_name_parts = map-TypeName DirectSuffix Param Specifier Expr Declarator Member TypeName Suffixing (Doing ParamType) Specifying Reading Declaring Adding (Doing (Option Built)) suffix parameter specifier expression declarator members type_name

roll_expr : (x : Expr) → roll-Expr (out-Expr x) ≡ x
roll_expr x = search (rules, the_lemmas)

roll_declarator : (x : Declarator) → roll-Declarator (out-Declarator x) ≡ x
roll_declarator x = search (rules, the_lemmas)

roll_member : (x : Member) → roll-Member (out-Member x) ≡ x
roll_member x = search (rules, the_lemmas)

roll_type_name : (x : TypeName) → roll-TypeName (out-TypeName x) ≡ x
roll_type_name x = search (rules, the_lemmas)

-- ---- the first token of an expression

abbrev Layer : Type 0
Layer = Expr-F DirectSuffix Param Specifier Expr Declarator Member TypeName

abbrev Nothing : Type 0
Nothing = Unit {0}

tokens_at : (y : Layer)
    → (expr_step (expr_parts y)).token
    ≡ token_step (map-Expr DirectSuffix Param Specifier Expr Declarator Member TypeName Nothing Nothing Nothing ℕ Nothing Nothing Nothing (λ _. tt) (λ _. tt) (λ _. tt) first_token (λ _. tt) (λ _. tt) (λ _. tt) y)
tokens_at (Expr-F.Name name) = refl
tokens_at (Expr-F.Number token value t) = refl
tokens_at (Expr-F.Character token value) = refl
tokens_at (Expr-F.Text token bytes) = refl
tokens_at (Expr-F.Paren token e) = refl
tokens_at (Expr-F.Postfix token e os) = refl
tokens_at (Expr-F.Prefix token op e) = refl
tokens_at (Expr-F.SizeofExpr token e) = refl
tokens_at (Expr-F.SizeofType token t) = refl
tokens_at (Expr-F.Cast token t e) = refl
tokens_at (Expr-F.Binary token e ls) = refl
tokens_at (Expr-F.Conditional token e at a b) = refl
tokens_at (Expr-F.Assign token e at op v) = refl
tokens_at (Expr-F.Comma token e es) = refl

token_rolls : (y : Layer) → (expression (roll-Expr y)).token ≡ first_token (roll-Expr y)
unfolding first_token suffix parameter specifier expression declarator members type_name
token_rolls y =
    ap (λ (r : Reading). r.token) (fold-roll-Expr Suffixing (Doing ParamType) Specifying Reading Declaring Adding (Doing (Option Built)) suffix_step param_step specifier_step expr_step declarator_step member_step type_name_step y)
    ∙ tokens_at y
    ∙ sym (fold-roll-Expr Nothing Nothing Nothing ℕ Nothing Nothing Nothing (λ _. tt) (λ _. tt) (λ _. tt) token_step (λ _. tt) (λ _. tt) (λ _. tt) y)

-- The token that an expression is told by is its first one.
pub token_is : (e : Expr) → (expression e).token ≡ first_token e
token_is e = ap (λ x. (expression x).token) (sym (roll_expr e)) ∙ token_rolls (out-Expr e) ∙ ap first_token (roll_expr e)

-- ---- declarators

abbrev pub declaring : List (List Qualifier) → Direct Declaring → List Suffixing → Declaring
declaring ps d fs = record {
  name = judging.direct_name d;
  is_bare = judging.is_nothing fs && judging.is_bare_direct d;
  shape = λ keep made s.
      then_with
      (then_with (judging.direct_shape d keep made s) (judging.suffix_shapes fs (keep && judging.is_bare_direct d)))
      (judging.put_pointers ps);
}

direct_is : (token : ℕ) (ps : List (List Qualifier)) (d : Direct Declarator) (ss : List DirectSuffix)
    → (declarator_parts (record { token = token; pointers = ps; direct = d; suffixes = ss })).direct
    ≡ direct_of d
direct_is token ps (direct.Name name) ss = refl
direct_is token ps (direct.Nested at d) ss = refl

pub declarator_is : (d : Declarator)
    → declarator d ≡ declaring (out-Declarator d).pointers (direct_of (out-Declarator d).direct) (map suffix (out-Declarator d).suffixes)
unfolding suffix parameter specifier expression declarator members type_name
declarator_is d =
    ap declarator (sym (roll_declarator d))
    ∙ fold-roll-Declarator Suffixing (Doing ParamType) Specifying Reading Declaring Adding (Doing (Option Built)) suffix_step param_step specifier_step expr_step declarator_step member_step type_name_step (out-Declarator d)
    ∙ ap (λ x. declaring (out-Declarator d).pointers x (map suffix (out-Declarator d).suffixes))
    (direct_is (out-Declarator d).token (out-Declarator d).pointers (out-Declarator d).direct (out-Declarator d).suffixes)

-- ---- members and type names

sizes_in : TypeName-F Suffixing (Doing ParamType) Specifying Reading Declaring Adding (Doing (Option Built)) → List (Option Reading)
sizes_in t = t.declarator.sizes

sizes_are : (specs : Specs Specifier) (pointers : ℕ) (es : List (Option Expr))
    → sizes_in (type_name_parts (record { specs = specs; declarator = record { pointers = pointers; sizes = es } })) ≡ sizes_of es
unfolding sizes_in
sizes_are specs pointers [] = refl
sizes_are specs pointers (Some e ∷ es) = ap (λ r. Some (expression e) ∷ r) (sizes_are specs pointers es)
sizes_are specs pointers (None ∷ es) = ap (λ r. None ∷ r) (sizes_are specs pointers es)

pub type_name_is : (t : TypeName) (s : Checker)
    → type_name t s ≡ judging.named_type (out-TypeName t).specs.token (map specifier (out-TypeName t).specs.specifiers) (out-TypeName t).declarator.pointers (sizes_of (out-TypeName t).declarator.sizes) s
unfolding sizes_in suffix parameter specifier expression declarator members type_name
type_name_is t s =
    ap (λ x. type_name x s) (sym (roll_type_name t))
    ∙ ap (λ (f : Doing (Option Built)). f s) (fold-roll-TypeName Suffixing (Doing ParamType) Specifying Reading Declaring Adding (Doing (Option Built)) suffix_step param_step specifier_step expr_step declarator_step member_step type_name_step (out-TypeName t))
    ∙ ap (λ es. judging.named_type (out-TypeName t).specs.token (map specifier (out-TypeName t).specs.specifiers) (out-TypeName t).declarator.pointers es s)
    (sizes_are (out-TypeName t).specs (out-TypeName t).declarator.pointers (out-TypeName t).declarator.sizes)

pub member_is : (m : Member) (ms : Members) (s : Checker)
    → members m ms s
    ≡ then_with
    (judging.specify (map specifier (out-Member m).specs.specifiers)
    (record { place = judging.first_name (map declarator (out-Member m).declarators) (out-Member m).specs.token; is_alone = false }) s)
    (judging.members_behind (map declarator (out-Member m).declarators) ms)
unfolding suffix parameter specifier expression declarator members type_name
member_is m ms s =
    ap (λ x. members x ms s) (sym (roll_member m)) ∙ ap (λ (f : Adding). f ms s) (fold-roll-Member Suffixing (Doing ParamType) Specifying Reading Declaring Adding (Doing (Option Built)) suffix_step param_step specifier_step expr_step declarator_step member_step type_name_step (out-Member m))

-- ---- what stands behind a name

suffix_rolls : (x : DirectSuffix-F DirectSuffix Param Specifier Expr Declarator Member TypeName) → suffix (roll-DirectSuffix x) ≡ suffix_step (suffix_parts x)
unfolding suffix parameter specifier expression declarator members type_name
suffix_rolls x = fold-roll-DirectSuffix Suffixing (Doing ParamType) Specifying Reading Declaring Adding (Doing (Option Built)) suffix_step param_step specifier_step expr_step declarator_step member_step type_name_step x

array_mapped : (at : ℕ) (size : Option Expr) → suffix_parts (DirectSuffix-F.Array at size) ≡ DirectSuffix-F.Array at (size_of size)
array_mapped at (Some e) = refl
array_mapped at None = refl

pub array_is : (whole : DirectSuffix) (at : ℕ) (size : Option Expr) (keep : Bool) (s : Checker) → whole ≡ suffixes.Array at size
    → suffix whole keep s ≡ judging.size_shape (size_of size) s
array_is whole at size keep s is =
    ap (λ x. suffix x keep s) (is ∙ sym (suffixes.rolls-Array at size))
    ∙ ap (λ (f : Suffixing). f keep s) (suffix_rolls (DirectSuffix-F.Array at size) ∙ ap suffix_step (array_mapped at size))

pub empty_is : (whole : DirectSuffix) (at : ℕ) (keep : Bool) (s : Checker) → whole ≡ suffixes.Empty at
    → suffix whole keep s ≡ (shape.Function [], s)
empty_is whole at keep s is =
    ap (λ x. suffix x keep s) (is ∙ sym (suffixes.rolls-Empty at)) ∙ ap (λ (f : Suffixing). f keep s) (suffix_rolls (DirectSuffix-F.Empty at))

pub void_is : (whole : DirectSuffix) (at : ℕ) (keep : Bool) (s : Checker) → whole ≡ suffixes.Void at
    → suffix whole keep s ≡ (shape.Function [], s)
void_is whole at keep s is =
    ap (λ x. suffix x keep s) (is ∙ sym (suffixes.rolls-Void at)) ∙ ap (λ (f : Suffixing). f keep s) (suffix_rolls (DirectSuffix-F.Void at))

single_is : (ps : List Param) → judging.is_single (map parameter ps) ≡ judging.is_single ps
single_is ps = ap (λ n. nat_eq n 1) (length-map ps parameter)

pub params_is : (whole : DirectSuffix) (at : ℕ) (ps : List Param) (keep : Bool) (s : Checker) → whole ≡ suffixes.Params at ps
    → suffix whole keep s
    ≡ then_with (judging.list_parameters (map parameter ps) (judging.is_single ps) (Some []) (judging.with_scope s)) (judging.parameter_shape keep s)
params_is whole at ps keep s is =
    ap (λ x. suffix x keep s) (is ∙ sym (suffixes.rolls-Params at ps))
    ∙ ap (λ (f : Suffixing). f keep s) (suffix_rolls (DirectSuffix-F.Params at ps))
    ∙ ap (λ b. then_with (judging.list_parameters (map parameter ps) b (Some []) (judging.with_scope s)) (judging.parameter_shape keep s)) (single_is ps)

-- ---- parameters

param_rolls : (x : Param-F DirectSuffix Param Specifier Expr Declarator Member TypeName) → parameter (roll-Param x) ≡ param_step (param_parts x)
unfolding suffix parameter specifier expression declarator members type_name
param_rolls x = fold-roll-Param Suffixing (Doing ParamType) Specifying Reading Declaring Adding (Doing (Option Built)) suffix_step param_step specifier_step expr_step declarator_step member_step type_name_step x

pub named_is : (whole : Param) (specs : Specs Specifier) (d : Declarator) (s : Checker) → whole ≡ param.Named specs d
    → parameter whole s
    ≡ then_with (judging.specify (map specifier specs.specifiers) (record { place = (declarator d).name.token; is_alone = false }) s)
    (judging.parameter_behind (declarator d))
named_is whole specs d s is =
    ap (λ x. parameter x s) (is ∙ sym (param.rolls-Named specs d)) ∙ ap (λ (f : Doing ParamType). f s) (param_rolls (Param-F.Named specs d))

unnamed_sizes : Param-F Suffixing (Doing ParamType) Specifying Reading Declaring Adding (Doing (Option Built)) → List (Option Reading)
unnamed_sizes (Param-F.Named specs d) = []
unnamed_sizes (Param-F.Unnamed specs d) = d.sizes

unnamed_sizes_are : (specs : Specs Specifier) (pointers : ℕ) (es : List (Option Expr))
    → unnamed_sizes (param_parts (Param-F.Unnamed specs (record { pointers = pointers; sizes = es }))) ≡ sizes_of es
unfolding unnamed_sizes
unnamed_sizes_are specs pointers [] = refl
unnamed_sizes_are specs pointers (Some e ∷ es) = ap (λ r. Some (expression e) ∷ r) (unnamed_sizes_are specs pointers es)
unnamed_sizes_are specs pointers (None ∷ es) = ap (λ r. None ∷ r) (unnamed_sizes_are specs pointers es)

pub unnamed_is : (whole : Param) (specs : Specs Specifier) (d : Abstract Expr) (s : Checker) → whole ≡ param.Unnamed specs d
    → parameter whole s
    ≡ then_with (judging.specify_all (map specifier specs.specifiers) (record { place = specs.token; is_alone = false }) nothing s)
    (judging.unnamed_behind specs.token d.pointers (sizes_of d.sizes))
unfolding unnamed_sizes
unnamed_is whole specs d s is =
    ap (λ x. parameter x s) (is ∙ sym (param.rolls-Unnamed specs d))
    ∙ ap (λ (f : Doing ParamType). f s) (param_rolls (Param-F.Unnamed specs d))
    ∙ ap (λ es. then_with (judging.specify_all (map specifier specs.specifiers) (record { place = specs.token; is_alone = false }) nothing s)
    (judging.unnamed_behind specs.token d.pointers es)) (unnamed_sizes_are specs d.pointers d.sizes)

-- ---- specifiers

specifier_rolls : (x : Specifier-F DirectSuffix Param Specifier Expr Declarator Member TypeName) → specifier (roll-Specifier x) ≡ specifier_step (specifier_parts x)
unfolding suffix parameter specifier expression declarator members type_name
specifier_rolls x = fold-roll-Specifier Suffixing (Doing ParamType) Specifying Reading Declaring Adding (Doing (Option Built)) suffix_step param_step specifier_step expr_step declarator_step member_step type_name_step x

pub storage_is : (whole : Specifier) (x : Storage) (at : Standing) (g : Gathered) (s : Checker) → whole ≡ specified.Storage x
    → specifier whole at g s ≡ (with_storage x g, s)
storage_is whole x at g s is =
    ap (λ y. specifier y at g s) (is ∙ sym (specified.rolls-Storage x)) ∙ ap (λ (f : Specifying). f at g s) (specifier_rolls (Specifier-F.Storage x))

pub qualifier_is : (whole : Specifier) (x : Qualifier) (at : Standing) (g : Gathered) (s : Checker) → whole ≡ specified.Qualifier x
    → specifier whole at g s ≡ (with_qualifier x g, s)
qualifier_is whole x at g s is =
    ap (λ y. specifier y at g s) (is ∙ sym (specified.rolls-Qualifier x)) ∙ ap (λ (f : Specifying). f at g s) (specifier_rolls (Specifier-F.Qualifier x))

pub word_is : (whole : Specifier) (x : TypeWord) (at : Standing) (g : Gathered) (s : Checker) → whole ≡ specified.Word x
    → specifier whole at g s ≡ (with_type_word x g, s)
word_is whole x at g s is =
    ap (λ y. specifier y at g s) (is ∙ sym (specified.rolls-Word x)) ∙ ap (λ (f : Specifying). f at g s) (specifier_rolls (Specifier-F.Word x))

pub typedef_name_is : (whole : Specifier) (x : Name) (at : Standing) (g : Gathered) (s : Checker) → whole ≡ specified.TypedefName x
    → specifier whole at g s ≡ (judging.named_specifier x g s, s)
typedef_name_is whole x at g s is =
    ap (λ y. specifier y at g s) (is ∙ sym (specified.rolls-TypedefName x)) ∙ ap (λ (f : Specifying). f at g s) (specifier_rolls (Specifier-F.TypedefName x))

struct_mapped : (t : StructSpec Member) → specifier_parts (Specifier-F.Struct t) ≡ Specifier-F.Struct (struct_of t)
struct_mapped (struct.Reference token name) = refl
struct_mapped (struct.Body token name ms) = refl

pub struct_is : (whole : Specifier) (t : StructSpec Member) (at : Standing) (g : Gathered) (s : Checker) → whole ≡ specified.Struct t
    → specifier whole at g s ≡ then_with (judging.struct_specified (struct_of t) at s) (judging.put_type false g)
struct_is whole t at g s is =
    ap (λ y. specifier y at g s) (is ∙ sym (specified.rolls-Struct t))
    ∙ ap (λ (f : Specifying). f at g s) (specifier_rolls (Specifier-F.Struct t) ∙ ap specifier_step (struct_mapped t))

enumerators_in : EnumSpec Reading → List (Enumerator Reading)
enumerators_in (enum.Reference token name) = []
enumerators_in (enum.Body token name es) = es

enum_in : Specifier-F Suffixing (Doing ParamType) Specifying Reading Declaring Adding (Doing (Option Built)) → List (Enumerator Reading)
enum_in (Specifier-F.Enum t) = enumerators_in t
enum_in y = []

one_enumerator : (token : ℕ) (name : Option Name) (n : Name) (v : Option Expr) (es : List (Enumerator Expr))
    → enum_in (specifier_parts (Specifier-F.Enum (enum.Body token name (record { name = n; value = v } ∷ es))))
    ≡ record { name = n; value = size_of v } ∷ enum_in (specifier_parts (Specifier-F.Enum (enum.Body token name es)))
unfolding enum_in enumerators_in
one_enumerator token name n (Some e) es = refl
one_enumerator token name n None es = refl

enumerators_are : (token : ℕ) (name : Option Name) (es : List (Enumerator Expr))
    → enum_in (specifier_parts (Specifier-F.Enum (enum.Body token name es))) ≡ map enumerator_of es
unfolding enum_in enumerators_in
enumerators_are token name [] = refl
enumerators_are token name (e ∷ es) =
    one_enumerator token name e.name e.value es ∙ ap (λ r. enumerator_of e ∷ r) (enumerators_are token name es)

enum_mapped : (t : EnumSpec Expr) → specifier_parts (Specifier-F.Enum t) ≡ Specifier-F.Enum (enum_of t)
unfolding enum_in enumerators_in
enum_mapped (enum.Reference token name) = refl
enum_mapped (enum.Body token name es) = ap (λ r. Specifier-F.Enum (enum.Body token name r)) (enumerators_are token name es)

pub enum_is : (whole : Specifier) (t : EnumSpec Expr) (at : Standing) (g : Gathered) (s : Checker) → whole ≡ specified.Enum t
    → specifier whole at g s ≡ then_with (judging.enum_specified (enum_of t) s) (judging.put_type false g)
enum_is whole t at g s is =
    ap (λ y. specifier y at g s) (is ∙ sym (specified.rolls-Enum t))
    ∙ ap (λ (f : Specifying). f at g s) (specifier_rolls (Specifier-F.Enum t) ∙ ap specifier_step (enum_mapped t))

-- ---- whether nothing stands behind the name

nothing_behind : (xs : List DirectSuffix) → judging.is_nothing (map suffix xs) ≡ nat_eq (length xs) 0
nothing_behind [] = refl
nothing_behind (x ∷ xs) = search (rules)

bare_is : (d : Declarator) → (declarator d).is_bare ≡ (nat_eq (length (out-Declarator d).suffixes) 0 && judging.is_bare_direct (direct_of (out-Declarator d).direct))
bare_is d =
    ap (λ (x : Declaring). x.is_bare) (declarator_is d) ∙ ap (λ b. b && judging.is_bare_direct (direct_of (out-Declarator d).direct)) (nothing_behind (out-Declarator d).suffixes)

pub bare_then : (d : Declarator) (xs : List DirectSuffix) (b c : Bool) → xs ≡ (out-Declarator d).suffixes → b ≡ nat_eq (length xs) 0 → b ≡ true
    → c ≡ judging.is_bare_direct (direct_of (out-Declarator d).direct) → c ≡ (declarator d).is_bare
bare_then d xs b c same is holds inner =
    inner
    ∙ ap (λ x. x && judging.is_bare_direct (direct_of (out-Declarator d).direct)) (sym holds ∙ is ∙ ap (λ ys. nat_eq (length ys) 0) same)
    ∙ sym (bare_is d)

pub bare_else : (d : Declarator) (xs : List DirectSuffix) (b : Bool) → xs ≡ (out-Declarator d).suffixes → b ≡ nat_eq (length xs) 0 → b ≡ false → b ≡ (declarator d).is_bare
bare_else d xs b same is fails =
    fails
    ∙ ap (λ x. x && judging.is_bare_direct (direct_of (out-Declarator d).direct)) (sym fails ∙ is ∙ ap (λ ys. nat_eq (length ys) 0) same)
    ∙ sym (bare_is d)
