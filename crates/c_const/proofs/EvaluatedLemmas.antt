-- What an expression has, and its first token, by what its parts have.
use Rattle.std.proofs.Common.{◌≡◌, ◌⊎◌, inl, inr, ℕ, ◌+◌, ◌<◌, List, [], ◌∷◌, ◌++◌, take, length, get_or, Option, Some, None, refl, sym, ap, ◌∙◌}
use Rattle.std.proofs.lemmas.List.{take_more}
use Rattle.rank_range.specs.declared.kinds.Kind.{Kind}
use Rattle.rank_range.specs.declared.kinds.Kind.TheVariants as kind
use Rattle.c_ast.specs.declared.words.Name.{Name}
use Rattle.c_ast.specs.declared.words.NumberType.{NumberType}
use Rattle.c_ast.specs.declared.words.PrefixOp.{PrefixOp}
use Rattle.c_ast.specs.declared.words.AssignOp.{AssignOp}
use Rattle.c_ast.specs.declared.expression.PostfixOp.{PostfixOp}
use Rattle.c_ast.specs.declared.expression.Link.{Link}
use Rattle.c_ast.specs.declared.declaration.TypeName.{TypeName}
use Rattle.c_ast.specs.declared.expression.Expr.{Expr, fold-Expr}
use Rattle.c_ast.specs.declared.expression.Expr.TheVariants as expr
use Rattle.c_ast.specs.declared.declaration.DirectSuffix.TheOpen.{Expr-F}
use Rattle.c_ast.specs.declared.declaration.DirectSuffix.TheFolds.{fold-roll-Expr}
use Rattle.c_types.specs.declared.names.Named.{Named}
use Rattle.c_const.specs.declared.evaluated.Evaluated.{Evaluated}
use Rattle.c_const.specs.declared.told.Told.{Told}
use Rattle.c_const.specs.Constants.{evaluated, evaluated_link, evaluated_links, expr_step, first_token, token_step, constant_named, of_kind, number_kind, prefixed_part, size_told, cast_told, chain, binary, conditional}

abbrev Skipped : Type 0
Skipped = Unit {0}

module _ (names : List ℕ → Option Named) (types : ℕ → Option Told) where
  pub name_has : (whole : Expr) (name : Name) → whole ≡ expr.Name name → evaluated names types whole ≡ constant_named (names name.text)
  unfolding evaluated
  name_has whole name is =
      ap (evaluated names types) is
      ∙ ap (fold-Expr Skipped Skipped Skipped (Option Evaluated) Skipped Skipped Skipped (λ _. tt) (λ _. tt) (λ _. tt) (expr_step names types) (λ _. tt) (λ _. tt) (λ _. tt)) (sym (expr.rolls-Name name))
      ∙ fold-roll-Expr Skipped Skipped Skipped (Option Evaluated) Skipped Skipped Skipped (λ _. tt) (λ _. tt) (λ _. tt) (expr_step names types) (λ _. tt) (λ _. tt) (λ _. tt) (Expr-F.Name name)

  pub number_has : (whole : Expr) (token value : ℕ) (t : NumberType) → whole ≡ expr.Number token value t → evaluated names types whole ≡ Some (of_kind (number_kind t) value)
  unfolding evaluated
  number_has whole token value t is =
      ap (evaluated names types) is
      ∙ ap (fold-Expr Skipped Skipped Skipped (Option Evaluated) Skipped Skipped Skipped (λ _. tt) (λ _. tt) (λ _. tt) (expr_step names types) (λ _. tt) (λ _. tt) (λ _. tt)) (sym (expr.rolls-Number token value t))
      ∙ fold-roll-Expr Skipped Skipped Skipped (Option Evaluated) Skipped Skipped Skipped (λ _. tt) (λ _. tt) (λ _. tt) (expr_step names types) (λ _. tt) (λ _. tt) (λ _. tt) (Expr-F.Number token value t)

  pub character_has : (whole : Expr) (token value : ℕ) → whole ≡ expr.Character token value → evaluated names types whole ≡ Some (of_kind kind.Int value)
  unfolding evaluated
  character_has whole token value is =
      ap (evaluated names types) is
      ∙ ap (fold-Expr Skipped Skipped Skipped (Option Evaluated) Skipped Skipped Skipped (λ _. tt) (λ _. tt) (λ _. tt) (expr_step names types) (λ _. tt) (λ _. tt) (λ _. tt)) (sym (expr.rolls-Character token value))
      ∙ fold-roll-Expr Skipped Skipped Skipped (Option Evaluated) Skipped Skipped Skipped (λ _. tt) (λ _. tt) (λ _. tt) (expr_step names types) (λ _. tt) (λ _. tt) (λ _. tt) (Expr-F.Character token value)

  pub text_has : (whole : Expr) (token : ℕ) (bytes : List ℕ) → whole ≡ expr.Text token bytes → evaluated names types whole ≡ None
  unfolding evaluated
  text_has whole token bytes is =
      ap (evaluated names types) is
      ∙ ap (fold-Expr Skipped Skipped Skipped (Option Evaluated) Skipped Skipped Skipped (λ _. tt) (λ _. tt) (λ _. tt) (expr_step names types) (λ _. tt) (λ _. tt) (λ _. tt)) (sym (expr.rolls-Text token bytes))
      ∙ fold-roll-Expr Skipped Skipped Skipped (Option Evaluated) Skipped Skipped Skipped (λ _. tt) (λ _. tt) (λ _. tt) (expr_step names types) (λ _. tt) (λ _. tt) (λ _. tt) (Expr-F.Text token bytes)

  pub paren_has : (whole : Expr) (token : ℕ) (e : Expr) → whole ≡ expr.Paren token e → evaluated names types whole ≡ evaluated names types e
  unfolding evaluated
  paren_has whole token e is =
      ap (evaluated names types) is
      ∙ ap (fold-Expr Skipped Skipped Skipped (Option Evaluated) Skipped Skipped Skipped (λ _. tt) (λ _. tt) (λ _. tt) (expr_step names types) (λ _. tt) (λ _. tt) (λ _. tt)) (sym (expr.rolls-Paren token e))
      ∙ fold-roll-Expr Skipped Skipped Skipped (Option Evaluated) Skipped Skipped Skipped (λ _. tt) (λ _. tt) (λ _. tt) (expr_step names types) (λ _. tt) (λ _. tt) (λ _. tt) (Expr-F.Paren token e)

  pub postfix_has : (whole : Expr) (token : ℕ) (e : Expr) (os : List (PostfixOp Expr)) → whole ≡ expr.Postfix token e os → evaluated names types whole ≡ None
  unfolding evaluated
  postfix_has whole token e os is =
      ap (evaluated names types) is
      ∙ ap (fold-Expr Skipped Skipped Skipped (Option Evaluated) Skipped Skipped Skipped (λ _. tt) (λ _. tt) (λ _. tt) (expr_step names types) (λ _. tt) (λ _. tt) (λ _. tt)) (sym (expr.rolls-Postfix token e os))
      ∙ fold-roll-Expr Skipped Skipped Skipped (Option Evaluated) Skipped Skipped Skipped (λ _. tt) (λ _. tt) (λ _. tt) (expr_step names types) (λ _. tt) (λ _. tt) (λ _. tt) (Expr-F.Postfix token e os)

  pub prefix_has : (whole : Expr) (token : ℕ) (o : PrefixOp) (e : Expr) → whole ≡ expr.Prefix token o e → evaluated names types whole ≡ prefixed_part o (evaluated names types e)
  unfolding evaluated
  prefix_has whole token o e is =
      ap (evaluated names types) is
      ∙ ap (fold-Expr Skipped Skipped Skipped (Option Evaluated) Skipped Skipped Skipped (λ _. tt) (λ _. tt) (λ _. tt) (expr_step names types) (λ _. tt) (λ _. tt) (λ _. tt)) (sym (expr.rolls-Prefix token o e))
      ∙ fold-roll-Expr Skipped Skipped Skipped (Option Evaluated) Skipped Skipped Skipped (λ _. tt) (λ _. tt) (λ _. tt) (expr_step names types) (λ _. tt) (λ _. tt) (λ _. tt) (Expr-F.Prefix token o e)

  pub sizeof_expr_has : (whole : Expr) (token : ℕ) (e : Expr) → whole ≡ expr.SizeofExpr token e → evaluated names types whole ≡ size_told (types token)
  unfolding evaluated
  sizeof_expr_has whole token e is =
      ap (evaluated names types) is
      ∙ ap (fold-Expr Skipped Skipped Skipped (Option Evaluated) Skipped Skipped Skipped (λ _. tt) (λ _. tt) (λ _. tt) (expr_step names types) (λ _. tt) (λ _. tt) (λ _. tt)) (sym (expr.rolls-SizeofExpr token e))
      ∙ fold-roll-Expr Skipped Skipped Skipped (Option Evaluated) Skipped Skipped Skipped (λ _. tt) (λ _. tt) (λ _. tt) (expr_step names types) (λ _. tt) (λ _. tt) (λ _. tt) (Expr-F.SizeofExpr token e)

  pub sizeof_type_has : (whole : Expr) (token : ℕ) (t : TypeName) → whole ≡ expr.SizeofType token t → evaluated names types whole ≡ size_told (types token)
  unfolding evaluated
  sizeof_type_has whole token t is =
      ap (evaluated names types) is
      ∙ ap (fold-Expr Skipped Skipped Skipped (Option Evaluated) Skipped Skipped Skipped (λ _. tt) (λ _. tt) (λ _. tt) (expr_step names types) (λ _. tt) (λ _. tt) (λ _. tt)) (sym (expr.rolls-SizeofType token t))
      ∙ fold-roll-Expr Skipped Skipped Skipped (Option Evaluated) Skipped Skipped Skipped (λ _. tt) (λ _. tt) (λ _. tt) (expr_step names types) (λ _. tt) (λ _. tt) (λ _. tt) (Expr-F.SizeofType token t)

  pub cast_has : (whole : Expr) (token : ℕ) (t : TypeName) (e : Expr) → whole ≡ expr.Cast token t e → evaluated names types whole ≡ cast_told (types token) (evaluated names types e)
  unfolding evaluated
  cast_has whole token t e is =
      ap (evaluated names types) is
      ∙ ap (fold-Expr Skipped Skipped Skipped (Option Evaluated) Skipped Skipped Skipped (λ _. tt) (λ _. tt) (λ _. tt) (expr_step names types) (λ _. tt) (λ _. tt) (λ _. tt)) (sym (expr.rolls-Cast token t e))
      ∙ fold-roll-Expr Skipped Skipped Skipped (Option Evaluated) Skipped Skipped Skipped (λ _. tt) (λ _. tt) (λ _. tt) (expr_step names types) (λ _. tt) (λ _. tt) (λ _. tt) (Expr-F.Cast token t e)

  pub binary_has : (whole : Expr) (token : ℕ) (e : Expr) (ls : List (Link Expr)) → whole ≡ expr.Binary token e ls → evaluated names types whole ≡ chain (evaluated names types e) (evaluated_links names types ls)
  unfolding evaluated
  binary_has whole token e ls is =
      ap (evaluated names types) is
      ∙ ap (fold-Expr Skipped Skipped Skipped (Option Evaluated) Skipped Skipped Skipped (λ _. tt) (λ _. tt) (λ _. tt) (expr_step names types) (λ _. tt) (λ _. tt) (λ _. tt)) (sym (expr.rolls-Binary token e ls))
      ∙ fold-roll-Expr Skipped Skipped Skipped (Option Evaluated) Skipped Skipped Skipped (λ _. tt) (λ _. tt) (λ _. tt) (expr_step names types) (λ _. tt) (λ _. tt) (λ _. tt) (Expr-F.Binary token e ls)

  pub conditional_has : (whole : Expr) (token : ℕ) (e : Expr) (at : ℕ) (a b : Expr) → whole ≡ expr.Conditional token e at a b → evaluated names types whole ≡ conditional (evaluated names types e) (evaluated names types a) (evaluated names types b)
  unfolding evaluated
  conditional_has whole token e at a b is =
      ap (evaluated names types) is
      ∙ ap (fold-Expr Skipped Skipped Skipped (Option Evaluated) Skipped Skipped Skipped (λ _. tt) (λ _. tt) (λ _. tt) (expr_step names types) (λ _. tt) (λ _. tt) (λ _. tt)) (sym (expr.rolls-Conditional token e at a b))
      ∙ fold-roll-Expr Skipped Skipped Skipped (Option Evaluated) Skipped Skipped Skipped (λ _. tt) (λ _. tt) (λ _. tt) (expr_step names types) (λ _. tt) (λ _. tt) (λ _. tt) (Expr-F.Conditional token e at a b)

  pub assign_has : (whole : Expr) (token : ℕ) (e : Expr) (at : ℕ) (o : AssignOp) (f : Expr) → whole ≡ expr.Assign token e at o f → evaluated names types whole ≡ None
  unfolding evaluated
  assign_has whole token e at o f is =
      ap (evaluated names types) is
      ∙ ap (fold-Expr Skipped Skipped Skipped (Option Evaluated) Skipped Skipped Skipped (λ _. tt) (λ _. tt) (λ _. tt) (expr_step names types) (λ _. tt) (λ _. tt) (λ _. tt)) (sym (expr.rolls-Assign token e at o f))
      ∙ fold-roll-Expr Skipped Skipped Skipped (Option Evaluated) Skipped Skipped Skipped (λ _. tt) (λ _. tt) (λ _. tt) (expr_step names types) (λ _. tt) (λ _. tt) (λ _. tt) (Expr-F.Assign token e at o f)

  pub comma_has : (whole : Expr) (token : ℕ) (e : Expr) (es : List Expr) → whole ≡ expr.Comma token e es → evaluated names types whole ≡ None
  unfolding evaluated
  comma_has whole token e es is =
      ap (evaluated names types) is
      ∙ ap (fold-Expr Skipped Skipped Skipped (Option Evaluated) Skipped Skipped Skipped (λ _. tt) (λ _. tt) (λ _. tt) (expr_step names types) (λ _. tt) (λ _. tt) (λ _. tt)) (sym (expr.rolls-Comma token e es))
      ∙ fold-roll-Expr Skipped Skipped Skipped (Option Evaluated) Skipped Skipped Skipped (λ _. tt) (λ _. tt) (λ _. tt) (expr_step names types) (λ _. tt) (λ _. tt) (λ _. tt) (Expr-F.Comma token e es)

  -- what a call gives is what the expression has, by what the calls for its parts give
  pub name_told : (whole : Expr) (name : Name) (text : List ℕ) (r : Option Evaluated) → whole ≡ expr.Name name → text ≡ name.text
      → r ≡ constant_named (names text) → r ≡ evaluated names types whole
  name_told whole name text r is text_is r_is = r_is ∙ ap (λ t. constant_named (names t)) text_is ∙ sym (name_has whole name is)

  pub number_told : (whole : Expr) (token value : ℕ) (t : NumberType) (k : Kind) (v : Evaluated) → whole ≡ expr.Number token value t
      → k ≡ number_kind t → v ≡ of_kind k value → Some v ≡ evaluated names types whole
  number_told whole token value t k v is k_is v_is =
      ap Some (v_is ∙ ap (λ k. of_kind k value) k_is) ∙ sym (number_has whole token value t is)

  pub character_told : (whole : Expr) (token value : ℕ) (v : Evaluated) → whole ≡ expr.Character token value
      → v ≡ of_kind kind.Int value → Some v ≡ evaluated names types whole
  character_told whole token value v is v_is = ap Some v_is ∙ sym (character_has whole token value is)

  part_told : (e same : Expr) (v : Option Evaluated) → same ≡ e → v ≡ evaluated names types same → v ≡ evaluated names types e
  part_told e same v e_is v_is = v_is ∙ ap (evaluated names types) e_is

  pub binary_told : (whole e same : Expr) (token : ℕ) (ls links : List (Link Expr)) (v r : Option Evaluated) → whole ≡ expr.Binary token e ls
      → same ≡ e → links ≡ ls → v ≡ evaluated names types same → r ≡ chain v (evaluated_links names types links)
      → r ≡ evaluated names types whole
  binary_told whole e same token ls links v r is e_is ls_are v_is r_is =
      r_is
      ∙ ap (λ ls. chain v (evaluated_links names types ls)) ls_are
      ∙ ap (λ v. chain v (evaluated_links names types ls)) (part_told e same v e_is v_is)
      ∙ sym (binary_has whole token e ls is)

  pub conditional_told : (whole e a b same_e same_a same_b : Expr) (token at : ℕ) (u v w r : Option Evaluated)
      → whole ≡ expr.Conditional token e at a b → same_e ≡ e → same_a ≡ a → same_b ≡ b
      → u ≡ evaluated names types same_e → v ≡ evaluated names types same_a → w ≡ evaluated names types same_b
      → r ≡ conditional u v w → r ≡ evaluated names types whole
  conditional_told whole e a b same_e same_a same_b token at u v w r is e_is a_is b_is u_is v_is w_is r_is =
      r_is
      ∙ ap (λ u. conditional u v w) (part_told e same_e u e_is u_is)
      ∙ ap (λ v. conditional (evaluated names types e) v w) (part_told a same_a v a_is v_is)
      ∙ ap (λ w. conditional (evaluated names types e) (evaluated names types a) w) (part_told b same_b w b_is w_is)
      ∙ sym (conditional_has whole token e at a b is)

  -- one more operator
  chain_last : (a : Option Evaluated) (ls : List (Link (Option Evaluated))) (l : Link (Option Evaluated))
      → chain a (ls ++ l ∷ []) ≡ binary l.op (chain a ls) l.right
  chain_last a [] l = refl
  chain_last a (m ∷ ls) l = chain_last (binary m.op a m.right) ls l

  links_last : (ls : List (Link Expr)) (l : Link Expr)
      → evaluated_links names types (ls ++ l ∷ []) ≡ evaluated_links names types ls ++ evaluated_link names types l ∷ []
  links_last [] l = refl
  links_last (m ∷ ls) l = ap (λ more. evaluated_link names types m ∷ more) (links_last ls l)

  more_links : (a : Option Evaluated) (ls : List (Link Expr)) (n : ℕ) (l : Link Expr) → n < length ls → l ≡ get_or ls n l
      → chain a (evaluated_links names types (take (n + 1) ls))
      ≡ binary l.op (chain a (evaluated_links names types (take n ls))) (evaluated names types l.right)
  more_links a ls n l within is =
      ap (λ more. chain a (evaluated_links names types more)) (take_more ls n l within ∙ ap (λ l. take n ls ++ l ∷ []) (sym is))
      ∙ ap (chain a) (links_last (take n ls) l)
      ∙ chain_last a (evaluated_links names types (take n ls)) (evaluated_link names types l)

  pub chain_next : (a u v r : Option Evaluated) (ls : List (Link Expr)) (n : ℕ) (l : Link Expr) (same : Expr) → n < length ls → l ≡ get_or ls n l
      → u ≡ chain a (evaluated_links names types (take n ls)) → same ≡ l.right → v ≡ evaluated names types same → r ≡ binary l.op u v
      → r ≡ chain a (evaluated_links names types (take (n + 1) ls))
  chain_next a u v r ls n l same within is u_is right_is v_is r_is =
      r_is
      ∙ ap (λ u. binary l.op u v) u_is
      ∙ ap (binary l.op (chain a (evaluated_links names types (take n ls)))) (part_told l.right same v right_is v_is)
      ∙ sym (more_links a ls n l within is)

pub name_begins : (whole : Expr) (name : Name) → whole ≡ expr.Name name → first_token whole ≡ name.token
unfolding first_token
name_begins whole name is =
    ap first_token is
    ∙ ap (fold-Expr Skipped Skipped Skipped ℕ Skipped Skipped Skipped (λ _. tt) (λ _. tt) (λ _. tt) token_step (λ _. tt) (λ _. tt) (λ _. tt)) (sym (expr.rolls-Name name))
    ∙ fold-roll-Expr Skipped Skipped Skipped ℕ Skipped Skipped Skipped (λ _. tt) (λ _. tt) (λ _. tt) token_step (λ _. tt) (λ _. tt) (λ _. tt) (Expr-F.Name name)

pub number_begins : (whole : Expr) (token value : ℕ) (t : NumberType) → whole ≡ expr.Number token value t → first_token whole ≡ token
unfolding first_token
number_begins whole token value t is =
    ap first_token is
    ∙ ap (fold-Expr Skipped Skipped Skipped ℕ Skipped Skipped Skipped (λ _. tt) (λ _. tt) (λ _. tt) token_step (λ _. tt) (λ _. tt) (λ _. tt)) (sym (expr.rolls-Number token value t))
    ∙ fold-roll-Expr Skipped Skipped Skipped ℕ Skipped Skipped Skipped (λ _. tt) (λ _. tt) (λ _. tt) token_step (λ _. tt) (λ _. tt) (λ _. tt) (Expr-F.Number token value t)

pub character_begins : (whole : Expr) (token value : ℕ) → whole ≡ expr.Character token value → first_token whole ≡ token
unfolding first_token
character_begins whole token value is =
    ap first_token is
    ∙ ap (fold-Expr Skipped Skipped Skipped ℕ Skipped Skipped Skipped (λ _. tt) (λ _. tt) (λ _. tt) token_step (λ _. tt) (λ _. tt) (λ _. tt)) (sym (expr.rolls-Character token value))
    ∙ fold-roll-Expr Skipped Skipped Skipped ℕ Skipped Skipped Skipped (λ _. tt) (λ _. tt) (λ _. tt) token_step (λ _. tt) (λ _. tt) (λ _. tt) (Expr-F.Character token value)

pub text_begins : (whole : Expr) (token : ℕ) (bytes : List ℕ) → whole ≡ expr.Text token bytes → first_token whole ≡ token
unfolding first_token
text_begins whole token bytes is =
    ap first_token is
    ∙ ap (fold-Expr Skipped Skipped Skipped ℕ Skipped Skipped Skipped (λ _. tt) (λ _. tt) (λ _. tt) token_step (λ _. tt) (λ _. tt) (λ _. tt)) (sym (expr.rolls-Text token bytes))
    ∙ fold-roll-Expr Skipped Skipped Skipped ℕ Skipped Skipped Skipped (λ _. tt) (λ _. tt) (λ _. tt) token_step (λ _. tt) (λ _. tt) (λ _. tt) (Expr-F.Text token bytes)

pub paren_begins : (whole : Expr) (token : ℕ) (e : Expr) → whole ≡ expr.Paren token e → first_token whole ≡ token
unfolding first_token
paren_begins whole token e is =
    ap first_token is
    ∙ ap (fold-Expr Skipped Skipped Skipped ℕ Skipped Skipped Skipped (λ _. tt) (λ _. tt) (λ _. tt) token_step (λ _. tt) (λ _. tt) (λ _. tt)) (sym (expr.rolls-Paren token e))
    ∙ fold-roll-Expr Skipped Skipped Skipped ℕ Skipped Skipped Skipped (λ _. tt) (λ _. tt) (λ _. tt) token_step (λ _. tt) (λ _. tt) (λ _. tt) (Expr-F.Paren token e)

pub postfix_begins : (whole : Expr) (token : ℕ) (e : Expr) (os : List (PostfixOp Expr)) → whole ≡ expr.Postfix token e os → first_token whole ≡ token
unfolding first_token
postfix_begins whole token e os is =
    ap first_token is
    ∙ ap (fold-Expr Skipped Skipped Skipped ℕ Skipped Skipped Skipped (λ _. tt) (λ _. tt) (λ _. tt) token_step (λ _. tt) (λ _. tt) (λ _. tt)) (sym (expr.rolls-Postfix token e os))
    ∙ fold-roll-Expr Skipped Skipped Skipped ℕ Skipped Skipped Skipped (λ _. tt) (λ _. tt) (λ _. tt) token_step (λ _. tt) (λ _. tt) (λ _. tt) (Expr-F.Postfix token e os)

pub prefix_begins : (whole : Expr) (token : ℕ) (o : PrefixOp) (e : Expr) → whole ≡ expr.Prefix token o e → first_token whole ≡ token
unfolding first_token
prefix_begins whole token o e is =
    ap first_token is
    ∙ ap (fold-Expr Skipped Skipped Skipped ℕ Skipped Skipped Skipped (λ _. tt) (λ _. tt) (λ _. tt) token_step (λ _. tt) (λ _. tt) (λ _. tt)) (sym (expr.rolls-Prefix token o e))
    ∙ fold-roll-Expr Skipped Skipped Skipped ℕ Skipped Skipped Skipped (λ _. tt) (λ _. tt) (λ _. tt) token_step (λ _. tt) (λ _. tt) (λ _. tt) (Expr-F.Prefix token o e)

pub sizeof_expr_begins : (whole : Expr) (token : ℕ) (e : Expr) → whole ≡ expr.SizeofExpr token e → first_token whole ≡ token
unfolding first_token
sizeof_expr_begins whole token e is =
    ap first_token is
    ∙ ap (fold-Expr Skipped Skipped Skipped ℕ Skipped Skipped Skipped (λ _. tt) (λ _. tt) (λ _. tt) token_step (λ _. tt) (λ _. tt) (λ _. tt)) (sym (expr.rolls-SizeofExpr token e))
    ∙ fold-roll-Expr Skipped Skipped Skipped ℕ Skipped Skipped Skipped (λ _. tt) (λ _. tt) (λ _. tt) token_step (λ _. tt) (λ _. tt) (λ _. tt) (Expr-F.SizeofExpr token e)

pub sizeof_type_begins : (whole : Expr) (token : ℕ) (t : TypeName) → whole ≡ expr.SizeofType token t → first_token whole ≡ token
unfolding first_token
sizeof_type_begins whole token t is =
    ap first_token is
    ∙ ap (fold-Expr Skipped Skipped Skipped ℕ Skipped Skipped Skipped (λ _. tt) (λ _. tt) (λ _. tt) token_step (λ _. tt) (λ _. tt) (λ _. tt)) (sym (expr.rolls-SizeofType token t))
    ∙ fold-roll-Expr Skipped Skipped Skipped ℕ Skipped Skipped Skipped (λ _. tt) (λ _. tt) (λ _. tt) token_step (λ _. tt) (λ _. tt) (λ _. tt) (Expr-F.SizeofType token t)

pub cast_begins : (whole : Expr) (token : ℕ) (t : TypeName) (e : Expr) → whole ≡ expr.Cast token t e → first_token whole ≡ token
unfolding first_token
cast_begins whole token t e is =
    ap first_token is
    ∙ ap (fold-Expr Skipped Skipped Skipped ℕ Skipped Skipped Skipped (λ _. tt) (λ _. tt) (λ _. tt) token_step (λ _. tt) (λ _. tt) (λ _. tt)) (sym (expr.rolls-Cast token t e))
    ∙ fold-roll-Expr Skipped Skipped Skipped ℕ Skipped Skipped Skipped (λ _. tt) (λ _. tt) (λ _. tt) token_step (λ _. tt) (λ _. tt) (λ _. tt) (Expr-F.Cast token t e)

pub binary_begins : (whole : Expr) (token : ℕ) (e : Expr) (ls : List (Link Expr)) → whole ≡ expr.Binary token e ls → first_token whole ≡ token
unfolding first_token
binary_begins whole token e ls is =
    ap first_token is
    ∙ ap (fold-Expr Skipped Skipped Skipped ℕ Skipped Skipped Skipped (λ _. tt) (λ _. tt) (λ _. tt) token_step (λ _. tt) (λ _. tt) (λ _. tt)) (sym (expr.rolls-Binary token e ls))
    ∙ fold-roll-Expr Skipped Skipped Skipped ℕ Skipped Skipped Skipped (λ _. tt) (λ _. tt) (λ _. tt) token_step (λ _. tt) (λ _. tt) (λ _. tt) (Expr-F.Binary token e ls)

pub conditional_begins : (whole : Expr) (token : ℕ) (e : Expr) (at : ℕ) (a b : Expr) → whole ≡ expr.Conditional token e at a b → first_token whole ≡ token
unfolding first_token
conditional_begins whole token e at a b is =
    ap first_token is
    ∙ ap (fold-Expr Skipped Skipped Skipped ℕ Skipped Skipped Skipped (λ _. tt) (λ _. tt) (λ _. tt) token_step (λ _. tt) (λ _. tt) (λ _. tt)) (sym (expr.rolls-Conditional token e at a b))
    ∙ fold-roll-Expr Skipped Skipped Skipped ℕ Skipped Skipped Skipped (λ _. tt) (λ _. tt) (λ _. tt) token_step (λ _. tt) (λ _. tt) (λ _. tt) (Expr-F.Conditional token e at a b)

pub assign_begins : (whole : Expr) (token : ℕ) (e : Expr) (at : ℕ) (o : AssignOp) (f : Expr) → whole ≡ expr.Assign token e at o f → first_token whole ≡ token
unfolding first_token
assign_begins whole token e at o f is =
    ap first_token is
    ∙ ap (fold-Expr Skipped Skipped Skipped ℕ Skipped Skipped Skipped (λ _. tt) (λ _. tt) (λ _. tt) token_step (λ _. tt) (λ _. tt) (λ _. tt)) (sym (expr.rolls-Assign token e at o f))
    ∙ fold-roll-Expr Skipped Skipped Skipped ℕ Skipped Skipped Skipped (λ _. tt) (λ _. tt) (λ _. tt) token_step (λ _. tt) (λ _. tt) (λ _. tt) (Expr-F.Assign token e at o f)

pub comma_begins : (whole : Expr) (token : ℕ) (e : Expr) (es : List Expr) → whole ≡ expr.Comma token e es → first_token whole ≡ token
unfolding first_token
comma_begins whole token e es is =
    ap first_token is
    ∙ ap (fold-Expr Skipped Skipped Skipped ℕ Skipped Skipped Skipped (λ _. tt) (λ _. tt) (λ _. tt) token_step (λ _. tt) (λ _. tt) (λ _. tt)) (sym (expr.rolls-Comma token e es))
    ∙ fold-roll-Expr Skipped Skipped Skipped ℕ Skipped Skipped Skipped (λ _. tt) (λ _. tt) (λ _. tt) token_step (λ _. tt) (λ _. tt) (λ _. tt) (Expr-F.Comma token e es)

pub token_is : (whole : Expr) (token : ℕ) → (((value : ℕ) × (t : NumberType) × (whole ≡ expr.Number token value t))
    ⊎ (((value : ℕ) × (whole ≡ expr.Character token value))
    ⊎ (((bytes : List ℕ) × (whole ≡ expr.Text token bytes))
    ⊎ (((part : Expr) × (whole ≡ expr.Paren token part))
    ⊎ (((part : Expr) × (os : List (PostfixOp Expr)) × (whole ≡ expr.Postfix token part os))
    ⊎ (((o : PrefixOp) × (part : Expr) × (whole ≡ expr.Prefix token o part))
    ⊎ (((part : Expr) × (whole ≡ expr.SizeofExpr token part))
    ⊎ (((t : TypeName) × (whole ≡ expr.SizeofType token t))
    ⊎ (((t : TypeName) × (part : Expr) × (whole ≡ expr.Cast token t part))
    ⊎ (((part : Expr) × (ls : List (Link Expr)) × (whole ≡ expr.Binary token part ls))
    ⊎ (((part : Expr) × (at : ℕ) × (a : Expr) × (b : Expr) × (whole ≡ expr.Conditional token part at a b))
    ⊎ (((part : Expr) × (at : ℕ) × (o : AssignOp) × (f : Expr) × (whole ≡ expr.Assign token part at o f))
    ⊎ ((part : Expr) × (es : List Expr) × (whole ≡ expr.Comma token part es))))))))))))))
    → token ≡ first_token whole
token_is whole token (inl h) = sym (number_begins whole token h.0 h.1 h.2)
token_is whole token (inr (inl h)) = sym (character_begins whole token h.0 h.1)
token_is whole token (inr (inr (inl h))) = sym (text_begins whole token h.0 h.1)
token_is whole token (inr (inr (inr (inl h)))) = sym (paren_begins whole token h.0 h.1)
token_is whole token (inr (inr (inr (inr (inl h))))) = sym (postfix_begins whole token h.0 h.1 h.2)
token_is whole token (inr (inr (inr (inr (inr (inl h)))))) = sym (prefix_begins whole token h.0 h.1 h.2)
token_is whole token (inr (inr (inr (inr (inr (inr (inl h))))))) = sym (sizeof_expr_begins whole token h.0 h.1)
token_is whole token (inr (inr (inr (inr (inr (inr (inr (inl h)))))))) = sym (sizeof_type_begins whole token h.0 h.1)
token_is whole token (inr (inr (inr (inr (inr (inr (inr (inr (inl h))))))))) = sym (cast_begins whole token h.0 h.1 h.2)
token_is whole token (inr (inr (inr (inr (inr (inr (inr (inr (inr (inl h)))))))))) = sym (binary_begins whole token h.0 h.1 h.2)
token_is whole token (inr (inr (inr (inr (inr (inr (inr (inr (inr (inr (inl h))))))))))) = sym (conditional_begins whole token h.0 h.1 h.2 h.3 h.4)
token_is whole token (inr (inr (inr (inr (inr (inr (inr (inr (inr (inr (inr (inl h)))))))))))) = sym (assign_begins whole token h.0 h.1 h.2 h.3 h.4)
token_is whole token (inr (inr (inr (inr (inr (inr (inr (inr (inr (inr (inr (inr h)))))))))))) = sym (comma_begins whole token h.0 h.1 h.2)

-- what hasn't the form of a constant expression
pub has_nothing : (names : List ℕ → Option Named) (types : ℕ → Option Told) (whole : Expr) → (((token : ℕ) × (bytes : List ℕ) × (whole ≡ expr.Text token bytes))
    ⊎ (((token : ℕ) × (part : Expr) × (os : List (PostfixOp Expr)) × (whole ≡ expr.Postfix token part os))
    ⊎ (((token : ℕ) × (part : Expr) × (at : ℕ) × (o : AssignOp) × (f : Expr) × (whole ≡ expr.Assign token part at o f))
    ⊎ ((token : ℕ) × (part : Expr) × (es : List Expr) × (whole ≡ expr.Comma token part es)))))
    → None ≡ evaluated names types whole
has_nothing names types whole (inl h) = sym (text_has names types whole h.0 h.1 h.2)
has_nothing names types whole (inr (inl h)) = sym (postfix_has names types whole h.0 h.1 h.2 h.3)
has_nothing names types whole (inr (inr (inl h))) = sym (assign_has names types whole h.0 h.1 h.2 h.3 h.4 h.5)
has_nothing names types whole (inr (inr (inr h))) = sym (comma_has names types whole h.0 h.1 h.2 h.3)
