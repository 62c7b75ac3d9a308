-- What an expression begins with.
use Rattle.std.proofs.Common.{◌≡◌, ℕ, Bool, true, false, ◌||◌, not, is_some, Some, List, [], ◌∷◌, refl, ap, ◌∙◌}
use Rattle.c_lex.specs.declared.token.Token.{Token}
use Rattle.c_lex.specs.declared.token.TokenKind.{TokenKind}
use Rattle.c_lex.specs.declared.token.TokenKind.TheVariants as kind
use Rattle.c_lex.specs.declared.token.Mark.{Mark}
use Rattle.c_lex.specs.declared.token.Mark.TheVariants as mark
use Rattle.c_ast.specs.declared.words.PrefixOp.{PrefixOp}
use Rattle.c_ast.specs.declared.expression.Expr.{Expr}
use Rattle.c_grammar.specs.Names.{Names}
use Rattle.c_grammar.specs.Words.{prefix_of}
use Rattle.c_grammar.specs.Grammar.{Part, IsExpr, name, number, character, text, paren, postfix, operand, prefixed, sizeof_expr, sizeof_type, cast, lowest, chained, binary, conditional, value, assigned, comma}
use Rattle.c_grammar.specs.Reading.{same_mark, is_mark, sees_mark}
use Rattle.c_grammar.specs.ReadingExpr.{kind_starts, sees_expr}
use Rattle.c_grammar_laws.proofs.ExprFound.{mark_is}

abbrev pub opens_mark : Mark → Bool
opens_mark m = same_mark m mark.OpenParen || is_some (prefix_of (kind.Mark m))

-- a prefix operator opens, whatever else may
mark_opens : (m : Mark) (op : PrefixOp) → (b : Bool) → prefix_of (kind.Mark m) ≡ Some op → (b || is_some (prefix_of (kind.Mark m))) ≡ true
mark_opens m op true h = refl
mark_opens m op false h = ap is_some h

prefix_opens : (names : Names) (t : Token) (k : TokenKind) (op : PrefixOp) → prefix_of k ≡ Some op → kind_starts names t k ≡ true
prefix_opens names t (kind.Mark m) op h = mark_opens m op (same_mark m mark.OpenParen) h
prefix_opens names t (kind.Keyword k) op h = absurd cc
prefix_opens names t kind.Name op h = absurd cc
prefix_opens names t (kind.Number type) op h = refl
prefix_opens names t kind.Character op h = refl
prefix_opens names t kind.Text op h = refl

pub expr_opens : {total most room : ℕ} {part : Part} {names after : Names} {ts rest : List Token} {e : Expr}
    → IsExpr total most part room names ts rest after e → sees_expr names ts ≡ true
expr_opens (name {names = names} {t = t} is) = ap (kind_starts names t) is.0 ∙ ap not is.1
expr_opens (number {names = names} {t = t} type is) = ap (kind_starts names t) is
expr_opens (character {names = names} {t = t} is) = ap (kind_starts names t) is
expr_opens (text {names = names} {t = t} is) = ap (kind_starts names t) is
expr_opens (paren {names = names} {t = t} is d closes) = ap (kind_starts names t) is
expr_opens (postfix d os few) = expr_opens d
expr_opens (operand d) = expr_opens d
expr_opens (prefixed {names = names} {t = t} op is d) = prefix_opens names t t.kind op is
expr_opens (sizeof_expr {names = names} {t = t} is other d) = ap (kind_starts names t) is
expr_opens (sizeof_type {names = names} {t = t} is opens d closes) = ap (kind_starts names t) is
expr_opens (cast {names = names} {o = t} is type closes d) = ap (kind_starts names t) is
expr_opens (lowest d) = expr_opens d
expr_opens (chained d ls few) = expr_opens d
expr_opens (binary d) = expr_opens d
expr_opens (conditional d question then colon otherwise) = expr_opens d
expr_opens (value d) = expr_opens d
expr_opens (assigned op d is right) = expr_opens d
expr_opens (comma d es few) = expr_opens d

-- a punctuator with which no expression begins doesn't come first
pub other_mark : (m : Mark) (names : Names) (ts : List Token) → opens_mark m ≡ false → sees_expr names ts ≡ true → sees_mark m ts ≡ false
other_mark m names [] h e = refl
other_mark m names (t ∷ ts) h e =
    elim (is_mark m t.kind) as (λ b. (b ≡ true → t.kind ≡ kind.Mark m) → b ≡ false) [
      | true ↦ λ f. absurd (let k = ap (kind_starts names t) (f refl) in cc)
      | false ↦ λ f. refl
    ] (mark_is m t.kind)
