-- Each expression has a leaf: by induction over all the types of a tree.
use Rattle.std.proofs.Common.{◌≡◌, ℕ, ◌+◌, ◌≤◌, subst, arith}
use Rattle.c_ast.specs.declared.declaration.DirectSuffix.{DirectSuffix}
use Rattle.c_ast.specs.declared.declaration.Param.{Param}
use Rattle.c_ast.specs.declared.declaration.Specifier.{Specifier}
use Rattle.c_ast.specs.declared.declaration.Declarator.{Declarator}
use Rattle.c_ast.specs.declared.declaration.Member.{Member}
use Rattle.c_ast.specs.declared.declaration.TypeName.{TypeName}
use Rattle.c_ast.specs.declared.expression.Expr.{Expr, map-Expr}
use Rattle.c_ast.specs.declared.declaration.DirectSuffix.TheOpen.{Expr-F}
use Rattle.c_ast.specs.declared.declaration.DirectSuffix.TheViews.{roll-Expr}
use Rattle.c_ast.specs.declared.declaration.DirectSuffix.TheFolds.{ind-Expr, fold-roll-Expr}
use Rattle.c_ast.specs.Leaves.{in_suffix, in_param, in_specifier, leaves, in_declarator, in_member, in_type_name, expr_step, suffix_step, param_step, specifier_step, declarator_step, member_step, type_name_step}

abbrev Layer : Type 0
Layer = Expr-F DirectSuffix Param Specifier Expr Declarator Member TypeName

leaves_roll : (x : Layer)
    → leaves (roll-Expr x)
    ≡ expr_step (map-Expr DirectSuffix Param Specifier Expr Declarator Member TypeName ℕ ℕ ℕ ℕ ℕ ℕ ℕ in_suffix in_param in_specifier leaves in_declarator in_member in_type_name x)
unfolding leaves in_suffix in_param in_specifier in_declarator in_member in_type_name
leaves_roll x =
    fold-roll-Expr ℕ ℕ ℕ ℕ ℕ ℕ ℕ suffix_step param_step specifier_step expr_step declarator_step member_step type_name_step x

abbrev HasOne : Expr → Type 0
HasOne e = 1 ≤ leaves e

one : (x : Layer) → leaves (roll-Expr x) ≡ 1 → HasOne (roll-Expr x)
one x e = omega (arith, e)

more : (x : Layer) (n m : ℕ) → leaves (roll-Expr x) ≡ n + m → 1 ≤ n → HasOne (roll-Expr x)
more x n m e least = omega (arith, e, least)

same : (x : Layer) (n : ℕ) → leaves (roll-Expr x) ≡ n → 1 ≤ n → HasOne (roll-Expr x)
same x n e least = omega (arith, e, least)

module _ (A B C E D M T : Type 0) (fa : A → DirectSuffix) (fb : B → Param) (fc : C → Specifier) (fe : E → Expr) (fd : D → Declarator)
    (fm : M → Member) (ft : T → TypeName) (least : (e : E) → HasOne (fe e)) where
  abbrev opened : Expr-F A B C E D M T → Layer
  opened y = map-Expr A B C E D M T DirectSuffix Param Specifier Expr Declarator Member TypeName fa fb fc fe fd fm ft y

  layers : (y : Expr-F A B C E D M T) → HasOne (roll-Expr (opened y))
  layers (Expr-F.Name name) = one _ (leaves_roll (opened (Expr-F.Name name)))
  layers (Expr-F.Number token value t) = one _ (leaves_roll (opened (Expr-F.Number token value t)))
  layers (Expr-F.Character token value) = one _ (leaves_roll (opened (Expr-F.Character token value)))
  layers (Expr-F.Text token bytes) = one _ (leaves_roll (opened (Expr-F.Text token bytes)))
  layers (Expr-F.Paren token e) = same _ _ (leaves_roll (opened (Expr-F.Paren token e))) (least e)
  layers (Expr-F.Postfix token e os) = more _ _ _ (leaves_roll (opened (Expr-F.Postfix token e os))) (least e)
  layers (Expr-F.Prefix token op e) = same _ _ (leaves_roll (opened (Expr-F.Prefix token op e))) (least e)
  layers (Expr-F.SizeofExpr token e) = same _ _ (leaves_roll (opened (Expr-F.SizeofExpr token e))) (least e)
  layers (Expr-F.SizeofType token t) = more _ 1 _ (leaves_roll (opened (Expr-F.SizeofType token t))) (omega arith)
  layers (Expr-F.Cast token t e) =
      let is = leaves_roll (opened (Expr-F.Cast token t e)) in
      let inner = least e in
      omega (arith, is, inner)
  layers (Expr-F.Binary token e ls) = more _ _ _ (leaves_roll (opened (Expr-F.Binary token e ls))) (least e)
  layers (Expr-F.Conditional token e at a b) =
      let is = leaves_roll (opened (Expr-F.Conditional token e at a b)) in
      let inner = least e in
      omega (arith, is, inner)
  layers (Expr-F.Assign token e at op a) = more _ _ _ (leaves_roll (opened (Expr-F.Assign token e at op a))) (least e)
  layers (Expr-F.Comma token e es) = more _ _ _ (leaves_roll (opened (Expr-F.Comma token e es))) (least e)

abbrev Nothing : {X : Type 0} → X → Type 0
Nothing x = Unit {0}

pub has_leaf : (e : Expr) → 1 ≤ leaves e
has_leaf =
    ind-Expr Nothing Nothing Nothing HasOne Nothing Nothing Nothing (λ x y is. tt) (λ x y is. tt) (λ x y is. tt)
    (λ x y is. subst (λ z. HasOne (roll-Expr z)) is (layers _ _ _ _ _ _ _ (λ p. p.0) (λ p. p.0) (λ p. p.0) (λ p. p.0) (λ p. p.0) (λ p. p.0) (λ p. p.0) (λ p. p.1) y))
    (λ x y is. tt) (λ x y is. tt) (λ x y is. tt)
