-- Which expressions are strings.
use Rattle.std.proofs.Common.{◌≡◌, ◌⊎◌, inl, inr, ℕ, List, Option, Some, None, sym, ap, ◌∙◌}
use Rattle.c_ast.specs.declared.words.Name.{Name}
use Rattle.c_ast.specs.declared.words.NumberType.{NumberType}
use Rattle.c_ast.specs.declared.words.PrefixOp.{PrefixOp}
use Rattle.c_ast.specs.declared.words.AssignOp.{AssignOp}
use Rattle.c_ast.specs.declared.expression.PostfixOp.{PostfixOp}
use Rattle.c_ast.specs.declared.expression.Link.{Link}
use Rattle.c_ast.specs.declared.declaration.TypeName.{TypeName}
use Rattle.c_ast.specs.declared.expression.Expr.{Expr, fold-Expr}
use Rattle.c_ast.specs.declared.expression.Expr.TheVariants as expr
use Rattle.c_ast.specs.declared.declaration.DirectSuffix.TheOpen.{Expr-F}
use Rattle.c_ast.specs.declared.declaration.DirectSuffix.TheFolds.{fold-roll-Expr}
use Rattle.c_stores.specs.Texts.{Skipped, text_of, text_step}

pub name_text : (whole : Expr) (name : Name) → whole ≡ expr.Name name → text_of whole ≡ None
unfolding text_of
name_text whole name is =
    ap text_of is
    ∙ ap (fold-Expr Skipped Skipped Skipped (Option (List ℕ)) Skipped Skipped Skipped (λ _. tt) (λ _. tt) (λ _. tt) text_step (λ _. tt) (λ _. tt) (λ _. tt)) (sym (expr.rolls-Name name))
    ∙ fold-roll-Expr Skipped Skipped Skipped (Option (List ℕ)) Skipped Skipped Skipped (λ _. tt) (λ _. tt) (λ _. tt) text_step (λ _. tt) (λ _. tt) (λ _. tt) (Expr-F.Name name)

pub number_text : (whole : Expr) (token value : ℕ) (t : NumberType) → whole ≡ expr.Number token value t → text_of whole ≡ None
unfolding text_of
number_text whole token value t is =
    ap text_of is
    ∙ ap (fold-Expr Skipped Skipped Skipped (Option (List ℕ)) Skipped Skipped Skipped (λ _. tt) (λ _. tt) (λ _. tt) text_step (λ _. tt) (λ _. tt) (λ _. tt)) (sym (expr.rolls-Number token value t))
    ∙ fold-roll-Expr Skipped Skipped Skipped (Option (List ℕ)) Skipped Skipped Skipped (λ _. tt) (λ _. tt) (λ _. tt) text_step (λ _. tt) (λ _. tt) (λ _. tt) (Expr-F.Number token value t)

pub character_text : (whole : Expr) (token value : ℕ) → whole ≡ expr.Character token value → text_of whole ≡ None
unfolding text_of
character_text whole token value is =
    ap text_of is
    ∙ ap (fold-Expr Skipped Skipped Skipped (Option (List ℕ)) Skipped Skipped Skipped (λ _. tt) (λ _. tt) (λ _. tt) text_step (λ _. tt) (λ _. tt) (λ _. tt)) (sym (expr.rolls-Character token value))
    ∙ fold-roll-Expr Skipped Skipped Skipped (Option (List ℕ)) Skipped Skipped Skipped (λ _. tt) (λ _. tt) (λ _. tt) text_step (λ _. tt) (λ _. tt) (λ _. tt) (Expr-F.Character token value)

pub is_text : (whole : Expr) (token : ℕ) (bytes : List ℕ) → whole ≡ expr.Text token bytes → text_of whole ≡ Some bytes
unfolding text_of
is_text whole token bytes is =
    ap text_of is
    ∙ ap (fold-Expr Skipped Skipped Skipped (Option (List ℕ)) Skipped Skipped Skipped (λ _. tt) (λ _. tt) (λ _. tt) text_step (λ _. tt) (λ _. tt) (λ _. tt)) (sym (expr.rolls-Text token bytes))
    ∙ fold-roll-Expr Skipped Skipped Skipped (Option (List ℕ)) Skipped Skipped Skipped (λ _. tt) (λ _. tt) (λ _. tt) text_step (λ _. tt) (λ _. tt) (λ _. tt) (Expr-F.Text token bytes)

pub paren_text : (whole : Expr) (token : ℕ) (e : Expr) → whole ≡ expr.Paren token e → text_of whole ≡ None
unfolding text_of
paren_text whole token e is =
    ap text_of is
    ∙ ap (fold-Expr Skipped Skipped Skipped (Option (List ℕ)) Skipped Skipped Skipped (λ _. tt) (λ _. tt) (λ _. tt) text_step (λ _. tt) (λ _. tt) (λ _. tt)) (sym (expr.rolls-Paren token e))
    ∙ fold-roll-Expr Skipped Skipped Skipped (Option (List ℕ)) Skipped Skipped Skipped (λ _. tt) (λ _. tt) (λ _. tt) text_step (λ _. tt) (λ _. tt) (λ _. tt) (Expr-F.Paren token e)

pub postfix_text : (whole : Expr) (token : ℕ) (e : Expr) (os : List (PostfixOp Expr)) → whole ≡ expr.Postfix token e os → text_of whole ≡ None
unfolding text_of
postfix_text whole token e os is =
    ap text_of is
    ∙ ap (fold-Expr Skipped Skipped Skipped (Option (List ℕ)) Skipped Skipped Skipped (λ _. tt) (λ _. tt) (λ _. tt) text_step (λ _. tt) (λ _. tt) (λ _. tt)) (sym (expr.rolls-Postfix token e os))
    ∙ fold-roll-Expr Skipped Skipped Skipped (Option (List ℕ)) Skipped Skipped Skipped (λ _. tt) (λ _. tt) (λ _. tt) text_step (λ _. tt) (λ _. tt) (λ _. tt) (Expr-F.Postfix token e os)

pub prefix_text : (whole : Expr) (token : ℕ) (o : PrefixOp) (e : Expr) → whole ≡ expr.Prefix token o e → text_of whole ≡ None
unfolding text_of
prefix_text whole token o e is =
    ap text_of is
    ∙ ap (fold-Expr Skipped Skipped Skipped (Option (List ℕ)) Skipped Skipped Skipped (λ _. tt) (λ _. tt) (λ _. tt) text_step (λ _. tt) (λ _. tt) (λ _. tt)) (sym (expr.rolls-Prefix token o e))
    ∙ fold-roll-Expr Skipped Skipped Skipped (Option (List ℕ)) Skipped Skipped Skipped (λ _. tt) (λ _. tt) (λ _. tt) text_step (λ _. tt) (λ _. tt) (λ _. tt) (Expr-F.Prefix token o e)

pub sizeof_expr_text : (whole : Expr) (token : ℕ) (e : Expr) → whole ≡ expr.SizeofExpr token e → text_of whole ≡ None
unfolding text_of
sizeof_expr_text whole token e is =
    ap text_of is
    ∙ ap (fold-Expr Skipped Skipped Skipped (Option (List ℕ)) Skipped Skipped Skipped (λ _. tt) (λ _. tt) (λ _. tt) text_step (λ _. tt) (λ _. tt) (λ _. tt)) (sym (expr.rolls-SizeofExpr token e))
    ∙ fold-roll-Expr Skipped Skipped Skipped (Option (List ℕ)) Skipped Skipped Skipped (λ _. tt) (λ _. tt) (λ _. tt) text_step (λ _. tt) (λ _. tt) (λ _. tt) (Expr-F.SizeofExpr token e)

pub sizeof_type_text : (whole : Expr) (token : ℕ) (t : TypeName) → whole ≡ expr.SizeofType token t → text_of whole ≡ None
unfolding text_of
sizeof_type_text whole token t is =
    ap text_of is
    ∙ ap (fold-Expr Skipped Skipped Skipped (Option (List ℕ)) Skipped Skipped Skipped (λ _. tt) (λ _. tt) (λ _. tt) text_step (λ _. tt) (λ _. tt) (λ _. tt)) (sym (expr.rolls-SizeofType token t))
    ∙ fold-roll-Expr Skipped Skipped Skipped (Option (List ℕ)) Skipped Skipped Skipped (λ _. tt) (λ _. tt) (λ _. tt) text_step (λ _. tt) (λ _. tt) (λ _. tt) (Expr-F.SizeofType token t)

pub cast_text : (whole : Expr) (token : ℕ) (t : TypeName) (e : Expr) → whole ≡ expr.Cast token t e → text_of whole ≡ None
unfolding text_of
cast_text whole token t e is =
    ap text_of is
    ∙ ap (fold-Expr Skipped Skipped Skipped (Option (List ℕ)) Skipped Skipped Skipped (λ _. tt) (λ _. tt) (λ _. tt) text_step (λ _. tt) (λ _. tt) (λ _. tt)) (sym (expr.rolls-Cast token t e))
    ∙ fold-roll-Expr Skipped Skipped Skipped (Option (List ℕ)) Skipped Skipped Skipped (λ _. tt) (λ _. tt) (λ _. tt) text_step (λ _. tt) (λ _. tt) (λ _. tt) (Expr-F.Cast token t e)

pub binary_text : (whole : Expr) (token : ℕ) (e : Expr) (ls : List (Link Expr)) → whole ≡ expr.Binary token e ls → text_of whole ≡ None
unfolding text_of
binary_text whole token e ls is =
    ap text_of is
    ∙ ap (fold-Expr Skipped Skipped Skipped (Option (List ℕ)) Skipped Skipped Skipped (λ _. tt) (λ _. tt) (λ _. tt) text_step (λ _. tt) (λ _. tt) (λ _. tt)) (sym (expr.rolls-Binary token e ls))
    ∙ fold-roll-Expr Skipped Skipped Skipped (Option (List ℕ)) Skipped Skipped Skipped (λ _. tt) (λ _. tt) (λ _. tt) text_step (λ _. tt) (λ _. tt) (λ _. tt) (Expr-F.Binary token e ls)

pub conditional_text : (whole : Expr) (token : ℕ) (e : Expr) (at : ℕ) (a b : Expr) → whole ≡ expr.Conditional token e at a b → text_of whole ≡ None
unfolding text_of
conditional_text whole token e at a b is =
    ap text_of is
    ∙ ap (fold-Expr Skipped Skipped Skipped (Option (List ℕ)) Skipped Skipped Skipped (λ _. tt) (λ _. tt) (λ _. tt) text_step (λ _. tt) (λ _. tt) (λ _. tt)) (sym (expr.rolls-Conditional token e at a b))
    ∙ fold-roll-Expr Skipped Skipped Skipped (Option (List ℕ)) Skipped Skipped Skipped (λ _. tt) (λ _. tt) (λ _. tt) text_step (λ _. tt) (λ _. tt) (λ _. tt) (Expr-F.Conditional token e at a b)

pub assign_text : (whole : Expr) (token : ℕ) (e : Expr) (at : ℕ) (o : AssignOp) (f : Expr) → whole ≡ expr.Assign token e at o f → text_of whole ≡ None
unfolding text_of
assign_text whole token e at o f is =
    ap text_of is
    ∙ ap (fold-Expr Skipped Skipped Skipped (Option (List ℕ)) Skipped Skipped Skipped (λ _. tt) (λ _. tt) (λ _. tt) text_step (λ _. tt) (λ _. tt) (λ _. tt)) (sym (expr.rolls-Assign token e at o f))
    ∙ fold-roll-Expr Skipped Skipped Skipped (Option (List ℕ)) Skipped Skipped Skipped (λ _. tt) (λ _. tt) (λ _. tt) text_step (λ _. tt) (λ _. tt) (λ _. tt) (Expr-F.Assign token e at o f)

pub comma_text : (whole : Expr) (token : ℕ) (e : Expr) (es : List Expr) → whole ≡ expr.Comma token e es → text_of whole ≡ None
unfolding text_of
comma_text whole token e es is =
    ap text_of is
    ∙ ap (fold-Expr Skipped Skipped Skipped (Option (List ℕ)) Skipped Skipped Skipped (λ _. tt) (λ _. tt) (λ _. tt) text_step (λ _. tt) (λ _. tt) (λ _. tt)) (sym (expr.rolls-Comma token e es))
    ∙ fold-roll-Expr Skipped Skipped Skipped (Option (List ℕ)) Skipped Skipped Skipped (λ _. tt) (λ _. tt) (λ _. tt) text_step (λ _. tt) (λ _. tt) (λ _. tt) (Expr-F.Comma token e es)

-- the other expressions are no strings
pub no_text : (whole : Expr) → (((name : Name) × (whole ≡ expr.Name name))
    ⊎ (((token : ℕ) × (value : ℕ) × (t : NumberType) × (whole ≡ expr.Number token value t))
    ⊎ (((token : ℕ) × (value : ℕ) × (whole ≡ expr.Character token value))
    ⊎ (((token : ℕ) × (part : Expr) × (whole ≡ expr.Paren token part))
    ⊎ (((token : ℕ) × (part : Expr) × (os : List (PostfixOp Expr)) × (whole ≡ expr.Postfix token part os))
    ⊎ (((token : ℕ) × (o : PrefixOp) × (part : Expr) × (whole ≡ expr.Prefix token o part))
    ⊎ (((token : ℕ) × (part : Expr) × (whole ≡ expr.SizeofExpr token part))
    ⊎ (((token : ℕ) × (t : TypeName) × (whole ≡ expr.SizeofType token t))
    ⊎ (((token : ℕ) × (t : TypeName) × (part : Expr) × (whole ≡ expr.Cast token t part))
    ⊎ (((token : ℕ) × (part : Expr) × (ls : List (Link Expr)) × (whole ≡ expr.Binary token part ls))
    ⊎ (((token : ℕ) × (part : Expr) × (at : ℕ) × (a : Expr) × (b : Expr) × (whole ≡ expr.Conditional token part at a b))
    ⊎ (((token : ℕ) × (part : Expr) × (at : ℕ) × (o : AssignOp) × (f : Expr) × (whole ≡ expr.Assign token part at o f))
    ⊎ ((token : ℕ) × (part : Expr) × (es : List Expr) × (whole ≡ expr.Comma token part es))))))))))))))
    → None ≡ text_of whole
no_text whole (inl h) = sym (name_text whole h.0 h.1)
no_text whole (inr (inl h)) = sym (number_text whole h.0 h.1 h.2 h.3)
no_text whole (inr (inr (inl h))) = sym (character_text whole h.0 h.1 h.2)
no_text whole (inr (inr (inr (inl h)))) = sym (paren_text whole h.0 h.1 h.2)
no_text whole (inr (inr (inr (inr (inl h))))) = sym (postfix_text whole h.0 h.1 h.2 h.3)
no_text whole (inr (inr (inr (inr (inr (inl h)))))) = sym (prefix_text whole h.0 h.1 h.2 h.3)
no_text whole (inr (inr (inr (inr (inr (inr (inl h))))))) = sym (sizeof_expr_text whole h.0 h.1 h.2)
no_text whole (inr (inr (inr (inr (inr (inr (inr (inl h)))))))) = sym (sizeof_type_text whole h.0 h.1 h.2)
no_text whole (inr (inr (inr (inr (inr (inr (inr (inr (inl h))))))))) = sym (cast_text whole h.0 h.1 h.2 h.3)
no_text whole (inr (inr (inr (inr (inr (inr (inr (inr (inr (inl h)))))))))) = sym (binary_text whole h.0 h.1 h.2 h.3)
no_text whole (inr (inr (inr (inr (inr (inr (inr (inr (inr (inr (inl h))))))))))) = sym (conditional_text whole h.0 h.1 h.2 h.3 h.4 h.5)
no_text whole (inr (inr (inr (inr (inr (inr (inr (inr (inr (inr (inr (inl h)))))))))))) = sym (assign_text whole h.0 h.1 h.2 h.3 h.4 h.5)
no_text whole (inr (inr (inr (inr (inr (inr (inr (inr (inr (inr (inr (inr h)))))))))))) = sym (comma_text whole h.0 h.1 h.2 h.3)
