-- What each tree is by what its parts are.
use Rattle.std.proofs.Common.{ℕ, ◌≡◌, refl, sym, ap, ◌∙◌, List, [], ◌∷◌, Option, Some, None, map}
use Rattle.rank_range.specs.declared.kinds.Kind.TheVariants as kind
use Rattle.c_ast.specs.declared.words.Name.{Name}
use Rattle.c_ast.specs.declared.words.NumberType.{NumberType}
use Rattle.c_ast.specs.declared.words.PrefixOp.{PrefixOp}
use Rattle.c_ast.specs.declared.words.AssignOp.{AssignOp}
use Rattle.c_ast.specs.declared.expression.Link.{Link}
use Rattle.c_ast.specs.declared.expression.PostfixOp.{PostfixOp}
use Rattle.c_ast.specs.declared.declaration.DirectSuffix.TheOpen.{DirectSuffix-F, Param-F, Specifier-F, Expr-F, Declarator-F, Member-F, TypeName-F}
use Rattle.c_ast.specs.declared.declaration.DirectSuffix.TheFolds.{fold-roll-Expr}
use Rattle.c_ast.specs.declared.expression.PostfixOp.TheVariants as postfix
use Rattle.c_ast.specs.declared.expression.Expr.{Expr, fold-Expr, map-Expr}
use Rattle.c_ast.specs.declared.declaration.DirectSuffix.{DirectSuffix}
use Rattle.c_ast.specs.declared.declaration.Param.{Param}
use Rattle.c_ast.specs.declared.declaration.Specifier.{Specifier}
use Rattle.c_ast.specs.declared.declaration.Declarator.{Declarator}
use Rattle.c_ast.specs.declared.declaration.Member.{Member}
use Rattle.c_ast.specs.declared.expression.Expr.TheVariants as expr
use Rattle.c_ast.specs.declared.declaration.TypeName.{TypeName}
use Rattle.c_const.specs.Constants.{number_kind}
use Rattle.c_typing.specs.declared.judged.Judged.{Judged}
use Rattle.c_typing.specs.declared.judged.Judged.TheVariants as judged
use Rattle.c_typing.specs.Values.{number}
use Rattle.c_judge.specs.declared.checker.Mode.{Mode}
use Rattle.c_judge.specs.declared.shapes.Built.{Built}
use Rattle.c_judge.specs.declared.constants.ParamType.{ParamType}
use Rattle.c_judge.specs.State.{Doing, then_with, named as name_judged, text}
use Rattle.c_judge.specs.Expressions.{Reading, operand, unused, unevaluated, a_number, with_prefix, with_links, with_operators, sized, sized_type, cast_to, choose_both, assign_value, with_commas}
use Rattle.c_judge.specs.Judging.{Suffixing, Specifying, Declaring, Adding, suffix_step, param_step, specifier_step, expr_step, declarator_step, member_step, type_name_step, reading, expression, type_name, suffix, parameter, specifier, declarator, members}
use Rattle.c_judge.specs.Parts.{link_of, operator_of}

pub name_is : (whole : Expr) (name : Name) → whole ≡ expr.Name name → expression whole ≡ reading (name.token) (λ mode s. name_judged name.token name.text mode s)
unfolding expression type_name
name_is whole name is =
    ap expression is
    ∙ ap (fold-Expr Suffixing (Doing ParamType) Specifying Reading Declaring Adding (Doing (Option Built)) suffix_step param_step specifier_step expr_step declarator_step member_step type_name_step) (sym (expr.rolls-Name name))
    ∙ fold-roll-Expr Suffixing (Doing ParamType) Specifying Reading Declaring Adding (Doing (Option Built)) suffix_step param_step specifier_step expr_step declarator_step member_step type_name_step (Expr-F.Name name)

pub number_tree_is : (whole : Expr) (token : ℕ) (value : ℕ) (t : NumberType) → whole ≡ expr.Number token value t → expression whole ≡ reading (token) (λ mode s. a_number (judged.Value (number (number_kind t) value)) s)
unfolding expression type_name
number_tree_is whole token value t is =
    ap expression is
    ∙ ap (fold-Expr Suffixing (Doing ParamType) Specifying Reading Declaring Adding (Doing (Option Built)) suffix_step param_step specifier_step expr_step declarator_step member_step type_name_step) (sym (expr.rolls-Number token value t))
    ∙ fold-roll-Expr Suffixing (Doing ParamType) Specifying Reading Declaring Adding (Doing (Option Built)) suffix_step param_step specifier_step expr_step declarator_step member_step type_name_step (Expr-F.Number token value t)

pub character_is : (whole : Expr) (token : ℕ) (value : ℕ) → whole ≡ expr.Character token value → expression whole ≡ reading (token) (λ mode s. a_number (judged.Value (number kind.Int value)) s)
unfolding expression type_name
character_is whole token value is =
    ap expression is
    ∙ ap (fold-Expr Suffixing (Doing ParamType) Specifying Reading Declaring Adding (Doing (Option Built)) suffix_step param_step specifier_step expr_step declarator_step member_step type_name_step) (sym (expr.rolls-Character token value))
    ∙ fold-roll-Expr Suffixing (Doing ParamType) Specifying Reading Declaring Adding (Doing (Option Built)) suffix_step param_step specifier_step expr_step declarator_step member_step type_name_step (Expr-F.Character token value)

pub text_tree_is : (whole : Expr) (token : ℕ) (bytes : List ℕ) → whole ≡ expr.Text token bytes → expression whole ≡ reading (token) (λ mode s. text token bytes s)
unfolding expression type_name
text_tree_is whole token bytes is =
    ap expression is
    ∙ ap (fold-Expr Suffixing (Doing ParamType) Specifying Reading Declaring Adding (Doing (Option Built)) suffix_step param_step specifier_step expr_step declarator_step member_step type_name_step) (sym (expr.rolls-Text token bytes))
    ∙ fold-roll-Expr Suffixing (Doing ParamType) Specifying Reading Declaring Adding (Doing (Option Built)) suffix_step param_step specifier_step expr_step declarator_step member_step type_name_step (Expr-F.Text token bytes)

pub paren_is : (whole : Expr) (token : ℕ) (e : Expr) → whole ≡ expr.Paren token e → expression whole ≡ reading (token) (λ mode s. (expression e).judge mode s)
unfolding expression type_name
paren_is whole token e is =
    ap expression is
    ∙ ap (fold-Expr Suffixing (Doing ParamType) Specifying Reading Declaring Adding (Doing (Option Built)) suffix_step param_step specifier_step expr_step declarator_step member_step type_name_step) (sym (expr.rolls-Paren token e))
    ∙ fold-roll-Expr Suffixing (Doing ParamType) Specifying Reading Declaring Adding (Doing (Option Built)) suffix_step param_step specifier_step expr_step declarator_step member_step type_name_step (Expr-F.Paren token e)

abbrev Layer : Type 0
Layer = Expr-F DirectSuffix Param Specifier Expr Declarator Member TypeName

abbrev Judged-Layer : Type 0
Judged-Layer = Expr-F Suffixing (Doing ParamType) Specifying Reading Declaring Adding (Doing (Option Built))

abbrev layer : Layer → Judged-Layer
layer y = map-Expr DirectSuffix Param Specifier Expr Declarator Member TypeName Suffixing (Doing ParamType) Specifying Reading Declaring Adding (Doing (Option Built)) suffix parameter specifier expression declarator members type_name y

-- the operators of a postfix expression
operators_in : Judged-Layer → List (PostfixOp Reading)
operators_in (Expr-F.Postfix token e os) = os
operators_in y = []

operators_are : (token : ℕ) (e : Expr) (os : List (PostfixOp Expr)) → operators_in (layer (Expr-F.Postfix token e os)) ≡ map operator_of os
unfolding operators_in
operators_are token e [] = refl
operators_are token e (postfix.Index at x ∷ os) = ap (λ r. postfix.Index at (expression x) ∷ r) (operators_are token e os)
operators_are token e (postfix.Call at xs ∷ os) = ap (λ r. postfix.Call at (map expression xs) ∷ r) (operators_are token e os)
operators_are token e (postfix.Member at name ∷ os) = ap (λ r. postfix.Member at name ∷ r) (operators_are token e os)
operators_are token e (postfix.Arrow at name ∷ os) = ap (λ r. postfix.Arrow at name ∷ r) (operators_are token e os)
operators_are token e (postfix.Increment at ∷ os) = ap (λ r. postfix.Increment at ∷ r) (operators_are token e os)
operators_are token e (postfix.Decrement at ∷ os) = ap (λ r. postfix.Decrement at ∷ r) (operators_are token e os)

pub postfix_is : (whole : Expr) (token : ℕ) (e : Expr) (os : List (PostfixOp Expr)) → whole ≡ expr.Postfix token e os → expression whole ≡ reading (token) (λ mode s. then_with ((expression e).judge (operand mode) s) (with_operators (map operator_of os) mode))
unfolding expression type_name suffix parameter specifier declarator members operators_in
postfix_is whole token e os is =
    ap expression is
    ∙ ap (fold-Expr Suffixing (Doing ParamType) Specifying Reading Declaring Adding (Doing (Option Built)) suffix_step param_step specifier_step expr_step declarator_step member_step type_name_step) (sym (expr.rolls-Postfix token e os))
    ∙ fold-roll-Expr Suffixing (Doing ParamType) Specifying Reading Declaring Adding (Doing (Option Built)) suffix_step param_step specifier_step expr_step declarator_step member_step type_name_step (Expr-F.Postfix token e os)
    ∙ ap (λ xs. reading token (λ mode s. then_with ((expression e).judge (operand mode) s) (with_operators xs mode))) (operators_are token e os)

pub prefix_is : (whole : Expr) (token : ℕ) (op : PrefixOp) (e : Expr) → whole ≡ expr.Prefix token op e → expression whole ≡ reading (token) (λ mode s. then_with ((expression e).judge (operand mode) s) (with_prefix op token))
unfolding expression type_name
prefix_is whole token op e is =
    ap expression is
    ∙ ap (fold-Expr Suffixing (Doing ParamType) Specifying Reading Declaring Adding (Doing (Option Built)) suffix_step param_step specifier_step expr_step declarator_step member_step type_name_step) (sym (expr.rolls-Prefix token op e))
    ∙ fold-roll-Expr Suffixing (Doing ParamType) Specifying Reading Declaring Adding (Doing (Option Built)) suffix_step param_step specifier_step expr_step declarator_step member_step type_name_step (Expr-F.Prefix token op e)

pub sizeof_expr_is : (whole : Expr) (token : ℕ) (e : Expr) → whole ≡ expr.SizeofExpr token e → expression whole ≡ reading (token) (λ mode s. then_with ((expression e).judge unevaluated s) (sized token))
unfolding expression type_name
sizeof_expr_is whole token e is =
    ap expression is
    ∙ ap (fold-Expr Suffixing (Doing ParamType) Specifying Reading Declaring Adding (Doing (Option Built)) suffix_step param_step specifier_step expr_step declarator_step member_step type_name_step) (sym (expr.rolls-SizeofExpr token e))
    ∙ fold-roll-Expr Suffixing (Doing ParamType) Specifying Reading Declaring Adding (Doing (Option Built)) suffix_step param_step specifier_step expr_step declarator_step member_step type_name_step (Expr-F.SizeofExpr token e)

pub sizeof_type_is : (whole : Expr) (token : ℕ) (t : TypeName) → whole ≡ expr.SizeofType token t → expression whole ≡ reading (token) (λ mode s. then_with (type_name t s) (sized_type token))
unfolding expression type_name
sizeof_type_is whole token t is =
    ap expression is
    ∙ ap (fold-Expr Suffixing (Doing ParamType) Specifying Reading Declaring Adding (Doing (Option Built)) suffix_step param_step specifier_step expr_step declarator_step member_step type_name_step) (sym (expr.rolls-SizeofType token t))
    ∙ fold-roll-Expr Suffixing (Doing ParamType) Specifying Reading Declaring Adding (Doing (Option Built)) suffix_step param_step specifier_step expr_step declarator_step member_step type_name_step (Expr-F.SizeofType token t)

pub cast_is : (whole : Expr) (token : ℕ) (t : TypeName) (e : Expr) → whole ≡ expr.Cast token t e → expression whole ≡ reading (token) (λ mode s. then_with (type_name t s) (cast_to token (expression e) mode))
unfolding expression type_name
cast_is whole token t e is =
    ap expression is
    ∙ ap (fold-Expr Suffixing (Doing ParamType) Specifying Reading Declaring Adding (Doing (Option Built)) suffix_step param_step specifier_step expr_step declarator_step member_step type_name_step) (sym (expr.rolls-Cast token t e))
    ∙ fold-roll-Expr Suffixing (Doing ParamType) Specifying Reading Declaring Adding (Doing (Option Built)) suffix_step param_step specifier_step expr_step declarator_step member_step type_name_step (Expr-F.Cast token t e)

pub binary_is : (whole : Expr) (token : ℕ) (e : Expr) (ls : List (Link Expr)) → whole ≡ expr.Binary token e ls → expression whole ≡ reading (token) (λ mode s. then_with ((expression e).judge (operand mode) s) (with_links (map link_of ls) mode))
unfolding expression type_name
binary_is whole token e ls is =
    ap expression is
    ∙ ap (fold-Expr Suffixing (Doing ParamType) Specifying Reading Declaring Adding (Doing (Option Built)) suffix_step param_step specifier_step expr_step declarator_step member_step type_name_step) (sym (expr.rolls-Binary token e ls))
    ∙ fold-roll-Expr Suffixing (Doing ParamType) Specifying Reading Declaring Adding (Doing (Option Built)) suffix_step param_step specifier_step expr_step declarator_step member_step type_name_step (Expr-F.Binary token e ls)

pub conditional_is : (whole : Expr) (token : ℕ) (e : Expr) (at : ℕ) (a : Expr) (b : Expr) → whole ≡ expr.Conditional token e at a b → expression whole ≡ reading (token) (λ mode s. then_with ((expression e).judge (operand mode) s) (choose_both at (expression a) (expression b) mode))
unfolding expression type_name
conditional_is whole token e at a b is =
    ap expression is
    ∙ ap (fold-Expr Suffixing (Doing ParamType) Specifying Reading Declaring Adding (Doing (Option Built)) suffix_step param_step specifier_step expr_step declarator_step member_step type_name_step) (sym (expr.rolls-Conditional token e at a b))
    ∙ fold-roll-Expr Suffixing (Doing ParamType) Specifying Reading Declaring Adding (Doing (Option Built)) suffix_step param_step specifier_step expr_step declarator_step member_step type_name_step (Expr-F.Conditional token e at a b)

pub assign_is : (whole : Expr) (token : ℕ) (e : Expr) (at : ℕ) (op : AssignOp) (v : Expr) → whole ≡ expr.Assign token e at op v → expression whole ≡ reading (token) (λ mode s. then_with ((expression e).judge (operand mode) s) (assign_value op at (expression v) mode))
unfolding expression type_name
assign_is whole token e at op v is =
    ap expression is
    ∙ ap (fold-Expr Suffixing (Doing ParamType) Specifying Reading Declaring Adding (Doing (Option Built)) suffix_step param_step specifier_step expr_step declarator_step member_step type_name_step) (sym (expr.rolls-Assign token e at op v))
    ∙ fold-roll-Expr Suffixing (Doing ParamType) Specifying Reading Declaring Adding (Doing (Option Built)) suffix_step param_step specifier_step expr_step declarator_step member_step type_name_step (Expr-F.Assign token e at op v)

pub comma_is : (whole : Expr) (token : ℕ) (e : Expr) (es : List Expr) → whole ≡ expr.Comma token e es → expression whole ≡ reading (token) (λ mode s. then_with ((expression e).judge (unused mode) s) (with_commas (map expression es) mode))
unfolding expression type_name
comma_is whole token e es is =
    ap expression is
    ∙ ap (fold-Expr Suffixing (Doing ParamType) Specifying Reading Declaring Adding (Doing (Option Built)) suffix_step param_step specifier_step expr_step declarator_step member_step type_name_step) (sym (expr.rolls-Comma token e es))
    ∙ fold-roll-Expr Suffixing (Doing ParamType) Specifying Reading Declaring Adding (Doing (Option Built)) suffix_step param_step specifier_step expr_step declarator_step member_step type_name_step (Expr-F.Comma token e es)
