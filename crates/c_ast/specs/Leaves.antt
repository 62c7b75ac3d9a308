-- How many leaves a tree has: the names, constants and strings that are operands in it, and the sizes of types. It shows that
-- a definition by recursion over all the types of a tree, and a law by induction, go through.
use Rattle.std.specs.Prelude.{ℕ, ◌+◌, ◌≤◌, List, [], ◌∷◌, Option, Some, None}
use Rattle.c_ast.specs.declared.declaration.DirectSuffix.TheOpen.{DirectSuffix-F, Param-F, Specifier-F, Expr-F, Declarator-F, Member-F, TypeName-F}
use Rattle.c_ast.specs.declared.declaration.Direct.{Direct}
use Rattle.c_ast.specs.declared.declaration.Direct.TheVariants as direct
use Rattle.c_ast.specs.declared.declaration.StructSpec.{StructSpec}
use Rattle.c_ast.specs.declared.declaration.StructSpec.TheVariants as struct
use Rattle.c_ast.specs.declared.declaration.EnumSpec.{EnumSpec}
use Rattle.c_ast.specs.declared.declaration.EnumSpec.TheVariants as enum
use Rattle.c_ast.specs.declared.declaration.Enumerator.{Enumerator}
use Rattle.c_ast.specs.declared.expression.PostfixOp.{PostfixOp}
use Rattle.c_ast.specs.declared.expression.PostfixOp.TheVariants as postfix
use Rattle.c_ast.specs.declared.expression.Link.{Link}
use Rattle.c_ast.specs.declared.expression.Expr.{Expr, fold-Expr}
use Rattle.c_ast.specs.declared.declaration.DirectSuffix.{DirectSuffix, fold-DirectSuffix}
use Rattle.c_ast.specs.declared.declaration.Param.{Param, fold-Param}
use Rattle.c_ast.specs.declared.declaration.Specifier.{Specifier, fold-Specifier}
use Rattle.c_ast.specs.declared.declaration.Declarator.{Declarator, fold-Declarator}
use Rattle.c_ast.specs.declared.declaration.Member.{Member, fold-Member}
use Rattle.c_ast.specs.declared.declaration.TypeName.{TypeName, fold-TypeName}

abbrev pub sum : List ℕ → ℕ
sum [] = 0
sum (n ∷ ns) = n + sum ns

abbrev pub or_none : Option ℕ → ℕ
or_none (Some n) = n
or_none None = 0

abbrev pub in_sizes : List (Option ℕ) → ℕ
in_sizes [] = 0
in_sizes (n ∷ ns) = or_none n + in_sizes ns

abbrev pub in_enumerators : List (Enumerator ℕ) → ℕ
in_enumerators [] = 0
in_enumerators (e ∷ es) = or_none e.value + in_enumerators es

abbrev pub in_links : List (Link ℕ) → ℕ
in_links [] = 0
in_links (l ∷ ls) = l.right + in_links ls

abbrev pub in_operator : PostfixOp ℕ → ℕ
in_operator (postfix.Index at n) = n
in_operator (postfix.Call at ns) = sum ns
in_operator (postfix.Member at name) = 0
in_operator (postfix.Arrow at name) = 0
in_operator (postfix.Increment at) = 0
in_operator (postfix.Decrement at) = 0

abbrev pub in_operators : List (PostfixOp ℕ) → ℕ
in_operators [] = 0
in_operators (o ∷ os) = in_operator o + in_operators os

abbrev pub suffix_step : DirectSuffix-F ℕ ℕ ℕ ℕ ℕ ℕ ℕ → ℕ
suffix_step (DirectSuffix-F.Array at size) = or_none size
suffix_step (DirectSuffix-F.Empty at) = 0
suffix_step (DirectSuffix-F.Void at) = 0
suffix_step (DirectSuffix-F.Params at ns) = sum ns

abbrev pub param_step : Param-F ℕ ℕ ℕ ℕ ℕ ℕ ℕ → ℕ
param_step (Param-F.Named specs n) = sum specs.specifiers + n
param_step (Param-F.Unnamed specs unnamed) = sum specs.specifiers + in_sizes unnamed.sizes

abbrev pub in_struct : StructSpec ℕ → ℕ
in_struct (struct.Reference token name) = 0
in_struct (struct.Body token name members) = sum members

abbrev pub in_enum : EnumSpec ℕ → ℕ
in_enum (enum.Reference token name) = 0
in_enum (enum.Body token name es) = in_enumerators es

abbrev pub specifier_step : Specifier-F ℕ ℕ ℕ ℕ ℕ ℕ ℕ → ℕ
specifier_step (Specifier-F.Storage s) = 0
specifier_step (Specifier-F.Qualifier q) = 0
specifier_step (Specifier-F.Word w) = 0
specifier_step (Specifier-F.Struct s) = in_struct s
specifier_step (Specifier-F.Enum e) = in_enum e
specifier_step (Specifier-F.TypedefName name) = 0

abbrev pub expr_step : Expr-F ℕ ℕ ℕ ℕ ℕ ℕ ℕ → ℕ
expr_step (Expr-F.Name name) = 1
expr_step (Expr-F.Number token value t) = 1
expr_step (Expr-F.Character token value) = 1
expr_step (Expr-F.Text token bytes) = 1
expr_step (Expr-F.Paren token n) = n
expr_step (Expr-F.Postfix token n os) = n + in_operators os
expr_step (Expr-F.Prefix token op n) = n
expr_step (Expr-F.SizeofExpr token n) = n
expr_step (Expr-F.SizeofType token n) = 1 + n
expr_step (Expr-F.Cast token n m) = n + m
expr_step (Expr-F.Binary token n ls) = n + in_links ls
expr_step (Expr-F.Conditional token n at m k) = n + m + k
expr_step (Expr-F.Assign token n at op m) = n + m
expr_step (Expr-F.Comma token n ns) = n + sum ns

abbrev pub in_direct : Direct ℕ → ℕ
in_direct (direct.Name name) = 0
in_direct (direct.Nested token n) = n

abbrev pub declarator_step : Declarator-F ℕ ℕ ℕ ℕ ℕ ℕ ℕ → ℕ
declarator_step d = in_direct d.direct + sum d.suffixes

abbrev pub member_step : Member-F ℕ ℕ ℕ ℕ ℕ ℕ ℕ → ℕ
member_step m = sum m.specs.specifiers + sum m.declarators

abbrev pub type_name_step : TypeName-F ℕ ℕ ℕ ℕ ℕ ℕ ℕ → ℕ
type_name_step t = sum t.specs.specifiers + in_sizes t.declarator.sizes

unfoldable pub in_suffix : DirectSuffix → ℕ
in_suffix = fold-DirectSuffix ℕ ℕ ℕ ℕ ℕ ℕ ℕ suffix_step param_step specifier_step expr_step declarator_step member_step type_name_step

unfoldable pub in_param : Param → ℕ
in_param = fold-Param ℕ ℕ ℕ ℕ ℕ ℕ ℕ suffix_step param_step specifier_step expr_step declarator_step member_step type_name_step

unfoldable pub in_specifier : Specifier → ℕ
in_specifier = fold-Specifier ℕ ℕ ℕ ℕ ℕ ℕ ℕ suffix_step param_step specifier_step expr_step declarator_step member_step type_name_step

unfoldable pub leaves : Expr → ℕ
leaves = fold-Expr ℕ ℕ ℕ ℕ ℕ ℕ ℕ suffix_step param_step specifier_step expr_step declarator_step member_step type_name_step

unfoldable pub in_declarator : Declarator → ℕ
in_declarator = fold-Declarator ℕ ℕ ℕ ℕ ℕ ℕ ℕ suffix_step param_step specifier_step expr_step declarator_step member_step type_name_step

unfoldable pub in_member : Member → ℕ
in_member = fold-Member ℕ ℕ ℕ ℕ ℕ ℕ ℕ suffix_step param_step specifier_step expr_step declarator_step member_step type_name_step

unfoldable pub in_type_name : TypeName → ℕ
in_type_name = fold-TypeName ℕ ℕ ℕ ℕ ℕ ℕ ℕ suffix_step param_step specifier_step expr_step declarator_step member_step type_name_step

-- each expression has one at least
abbrev pub HasLeaf : Type 0
HasLeaf = (e : Expr) → 1 ≤ leaves e
