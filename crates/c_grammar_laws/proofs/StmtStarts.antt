-- What a statement begins with, and that it takes tokens.
use Rattle.std.proofs.Common.{◌≡◌, ℕ, ◌<◌, Bool, true, false, ◌||◌, Option, Some, List, [], ◌∷◌, length, refl, ap, ◌∙◌, arith}
use Rattle.c_lex.specs.declared.token.Token.{Token}
use Rattle.c_lex.specs.declared.token.TokenKind.{TokenKind}
use Rattle.c_lex.specs.declared.token.TokenKind.TheVariants as kind
use Rattle.c_lex.specs.declared.token.Keyword.{Keyword}
use Rattle.c_lex.specs.declared.token.Keyword.TheVariants as keyword
use Rattle.c_lex.specs.declared.token.Mark.{Mark}
use Rattle.c_lex.specs.declared.token.Mark.TheVariants as mark
use Rattle.c_ast.specs.declared.expression.Expr.{Expr}
use Rattle.c_ast.specs.declared.statement.Stmt.{Stmt}
use Rattle.c_ast.specs.declared.statement.BlockItem.{BlockItem}
use Rattle.c_grammar.specs.Names.{Names}
use Rattle.c_grammar.specs.Words.{IsMark, IsKeyword}
use Rattle.c_grammar.specs.Grammar.{IsOptional, IsStmt, block, express, if_then, if_else, while_do, do_while, for_do, switch, case, default, break, continue, return, AreItems, no_items, declaration_item, statement_item}
use Rattle.c_grammar.specs.Grammar as grammar
use Rattle.c_grammar.specs.Reading.{is_mark, is_keyword, sees_mark, sees_keyword}
use Rattle.c_grammar.specs.ReadingExpr.{sees_type, starts_type, kind_starts, sees_expr}
use Rattle.c_grammar.specs.ReadingStmt.{keyword_of, keyword_at, starts_simple, sees_simple}
use Rattle.c_grammar.proofs.Extends.{expr_extends}
use Rattle.c_grammar_laws.proofs.ExprTokens.{expr_begins}
use Rattle.c_grammar_laws.proofs.ExprComplete.{sees_it}
use Rattle.c_grammar_laws.proofs.SpecsBegin.{of_kind}
use Rattle.c_grammar_laws.proofs.StmtExtends.{optional_extends, test_extends, start_extends, stmt_extends, items_extend}
use Rattle.c_grammar_laws.proofs.StmtBegins.{expr_opens, other_mark}
use Rattle.c_grammar_laws.proofs.StmtDeclRead.{decl_starts, type_no_else}
use Rattle.c_grammar_laws.proofs.StmtHeads.{mark_no_type}

-- no type name, no brace that closes, and no `else`
pub record BeginsStmt (names : Names) (ts : List Token) : Type 0 where
  pub no_type : sees_type names ts ≡ false
  pub no_close : sees_mark mark.CloseBrace ts ≡ false
  pub no_else : sees_keyword keyword.Else ts ≡ false

kind_no_else : (names : Names) (t : Token) (k : TokenKind) → kind_starts names t k ≡ true → is_keyword keyword.Else k ≡ false
kind_no_else names t (kind.Keyword keyword.Sizeof) h = refl
kind_no_else names t (kind.Keyword _) h = absurd cc
kind_no_else names t (kind.Mark m) h = refl
kind_no_else names t kind.Name h = refl
kind_no_else names t (kind.Number type) h = refl
kind_no_else names t kind.Character h = refl
kind_no_else names t kind.Text h = refl

expr_no_else : (names : Names) (ts : List Token) → sees_expr names ts ≡ true → sees_keyword keyword.Else ts ≡ false
expr_no_else names [] h = refl
expr_no_else names (t ∷ ts) h = kind_no_else names t t.kind h

by_mark : (m : Mark) (names : Names) (t : Token) (ts : List Token) → IsMark m t → is_mark mark.CloseBrace (kind.Mark m) ≡ false → BeginsStmt names (t ∷ ts)
by_mark m names t ts is other = record {
  no_type = mark_no_type m names t is;
  no_close = ap (is_mark mark.CloseBrace) is ∙ other;
  no_else = ap (is_keyword keyword.Else) is;
}

by_word : (k : Keyword) (names : Names) (t : Token) (ts : List Token) → IsKeyword k t → ((t : Token) → IsKeyword k t → starts_type names t ≡ false)
    → is_keyword keyword.Else (kind.Keyword k) ≡ false → BeginsStmt names (t ∷ ts)
by_word k names t ts is no_type other = record {
  no_type = no_type t is;
  no_close = ap (is_mark mark.CloseBrace) is;
  no_else = ap (is_keyword keyword.Else) is ∙ other;
}

at_semicolon : (names : Names) (c : Token) (rest ts : List Token) → ts ≡ c ∷ rest → IsMark mark.Semicolon c → BeginsStmt names ts
at_semicolon names c rest ts h is = record {
  no_type = ap (sees_type names) h ∙ mark_no_type mark.Semicolon names c is;
  no_close = ap (sees_mark mark.CloseBrace) h ∙ ap (is_mark mark.CloseBrace) is;
  no_else = ap (sees_keyword keyword.Else) h ∙ ap (is_keyword keyword.Else) is;
}

pub optional_begins : {total most room : ℕ} {names after : Names} {ts last : List Token} {a : Option Expr} → IsOptional total most room names ts last after a
    → (c : Token) (rest : List Token) → last ≡ c ∷ rest → IsMark mark.Semicolon c → BeginsStmt names ts
optional_begins (grammar.IsOptional.none {names = names} {rest = last}) c rest h is = at_semicolon names c rest last h is
optional_begins (grammar.IsOptional.some {names = names} {ts = ts} d) c rest h is = record {
  no_type = (expr_begins d).no_type;
  no_close = other_mark mark.CloseBrace names ts refl (expr_opens d);
  no_else = expr_no_else names ts (expr_opens d);
}

pub stmt_begins : {total most room : ℕ} {ends : Bool} {names after : Names} {ts rest : List Token} {s : Stmt}
    → IsStmt total most ends room names ts rest after s → BeginsStmt names ts
stmt_begins (block {names = names} {o = o} {ts = ts} opens is closes) = by_mark mark.OpenBrace names o ts opens refl
stmt_begins (express {s = c} {rest = rest} d is) = optional_begins d c rest refl is
stmt_begins (if_then {names = names} {t = t} {ts = ts} is d s) = by_word keyword.If names t ts is (λ t is. of_kind (starts_type names) t (kind.Keyword keyword.If) is) refl
stmt_begins (if_else {names = names} {t = t} {ts = ts} is d s other s') = by_word keyword.If names t ts is (λ t is. of_kind (starts_type names) t (kind.Keyword keyword.If) is) refl
stmt_begins (while_do {names = names} {t = t} {ts = ts} is d s) = by_word keyword.While names t ts is (λ t is. of_kind (starts_type names) t (kind.Keyword keyword.While) is) refl
stmt_begins (do_while {names = names} {t = t} {ts = ts} is s other d ends) = by_word keyword.Do names t ts is (λ t is. of_kind (starts_type names) t (kind.Keyword keyword.Do) is) refl
stmt_begins (for_do {names = names} {t = t} {o = o} {ts = ts} is opens a b ends d closes s) =
    by_word keyword.For names t (o ∷ ts) is (λ t is. of_kind (starts_type names) t (kind.Keyword keyword.For) is) refl
stmt_begins (switch {names = names} {t = t} {ts = ts} is d s) = by_word keyword.Switch names t ts is (λ t is. of_kind (starts_type names) t (kind.Keyword keyword.Switch) is) refl
stmt_begins (case {names = names} {t = t} {ts = ts} is d colon s) = by_word keyword.Case names t ts is (λ t is. of_kind (starts_type names) t (kind.Keyword keyword.Case) is) refl
stmt_begins (default {names = names} {t = t} {c = c} {mid = mid} is colon s) =
    by_word keyword.Default names t (c ∷ mid) is (λ t is. of_kind (starts_type names) t (kind.Keyword keyword.Default) is) refl
stmt_begins (break {names = names} {t = t} {s = s} {rest = rest} is ends) =
    by_word keyword.Break names t (s ∷ rest) is (λ t is. of_kind (starts_type names) t (kind.Keyword keyword.Break) is) refl
stmt_begins (continue {names = names} {t = t} {s = s} {rest = rest} is ends) =
    by_word keyword.Continue names t (s ∷ rest) is (λ t is. of_kind (starts_type names) t (kind.Keyword keyword.Continue) is) refl
stmt_begins (return {names = names} {t = t} {ts = ts} is d ends) = by_word keyword.Return names t ts is (λ t is. of_kind (starts_type names) t (kind.Keyword keyword.Return) is) refl

by_semicolon : (a b c : Bool) → b ≡ true → (a || (b || c)) ≡ true
by_semicolon true b c h = refl
by_semicolon false true c h = refl
by_semicolon false false c h = absurd cc

by_expr : (a b c : Bool) → c ≡ true → (a || (b || c)) ≡ true
by_expr true b c h = refl
by_expr false true c h = refl
by_expr false false c h = h

starts_with : (k : Keyword) (names : Names) (t : Token) (ts : List Token) → IsKeyword k t → starts_simple (Some k) ≡ true → sees_simple names (t ∷ ts) ≡ true
starts_with k names t ts is starts =
    by_word_first (starts_simple (keyword_of t.kind)) (sees_mark mark.Semicolon (t ∷ ts) || sees_expr names (t ∷ ts)) (ap (λ l. starts_simple (keyword_of l)) is ∙ starts)
  where
    by_word_first : (a b : Bool) → a ≡ true → (a || b) ≡ true
    by_word_first true b h = refl
    by_word_first false b h = absurd cc

optional_starts : {total most room : ℕ} {names after : Names} {ts last : List Token} {a : Option Expr} → IsOptional total most room names ts last after a
    → (c : Token) (rest : List Token) → last ≡ c ∷ rest → IsMark mark.Semicolon c → sees_simple names ts ≡ true
optional_starts (grammar.IsOptional.none {names = names} {rest = ts}) c rest h is =
    by_semicolon (starts_simple (keyword_at ts)) (sees_mark mark.Semicolon ts) (sees_expr names ts) (ap (sees_mark mark.Semicolon) h ∙ sees_it mark.Semicolon c is)
optional_starts (grammar.IsOptional.some {names = names} {ts = ts} d) c rest h is =
    by_expr (starts_simple (keyword_at ts)) (sees_mark mark.Semicolon ts) (sees_expr names ts) (expr_opens d)

-- a statement that is no block begins so
pub simple_starts : {total most room : ℕ} {ends : Bool} {names after : Names} {ts rest : List Token} {s : Stmt}
    → IsStmt total most ends room names ts rest after s → sees_mark mark.OpenBrace ts ≡ false → sees_simple names ts ≡ true
simple_starts (block {o = o} opens is closes) other = absurd (let there = sees_it mark.OpenBrace o opens in cc)
simple_starts (express {s = c} {rest = rest} d is) other = optional_starts d c rest refl is
simple_starts (if_then {names = names} {t = t} {ts = ts} is d s) other = starts_with keyword.If names t ts is refl
simple_starts (if_else {names = names} {t = t} {ts = ts} is d s e s') other = starts_with keyword.If names t ts is refl
simple_starts (while_do {names = names} {t = t} {ts = ts} is d s) other = starts_with keyword.While names t ts is refl
simple_starts (do_while {names = names} {t = t} {ts = ts} is s w d ends) other = starts_with keyword.Do names t ts is refl
simple_starts (for_do {names = names} {t = t} {o = o} {ts = ts} is opens a b ends d closes s) other = starts_with keyword.For names t (o ∷ ts) is refl
simple_starts (switch {names = names} {t = t} {ts = ts} is d s) other = starts_with keyword.Switch names t ts is refl
simple_starts (case {names = names} {t = t} {ts = ts} is d colon s) other = starts_with keyword.Case names t ts is refl
simple_starts (default {names = names} {t = t} {c = c} {mid = mid} is colon s) other = starts_with keyword.Default names t (c ∷ mid) is refl
simple_starts (break {names = names} {t = t} {s = s} {rest = rest} is ends) other = starts_with keyword.Break names t (s ∷ rest) is refl
simple_starts (continue {names = names} {t = t} {s = s} {rest = rest} is ends) other = starts_with keyword.Continue names t (s ∷ rest) is refl
simple_starts (return {names = names} {t = t} {ts = ts} is d ends) other = starts_with keyword.Return names t ts is refl

-- each statement takes a token
pub stmt_takes : {total most room : ℕ} {ends : Bool} {names after : Names} {ts rest : List Token} {s : Stmt}
    → IsStmt total most ends room names ts rest after s → length rest < length ts
stmt_takes (block opens is closes) = omega (arith, (items_extend is).shrinks)
stmt_takes (express d is) = omega (arith, (optional_extends d).shrinks)
stmt_takes (if_then is d s) = omega (arith, (test_extends d).shrinks, (stmt_extends s).shrinks)
stmt_takes (if_else is d s other s') = omega (arith, (test_extends d).shrinks, (stmt_extends s).shrinks, (stmt_extends s').shrinks)
stmt_takes (while_do is d s) = omega (arith, (test_extends d).shrinks, (stmt_extends s).shrinks)
stmt_takes (do_while is s other d ends) = omega (arith, (test_extends d).shrinks, (stmt_extends s).shrinks)
stmt_takes (for_do is opens a b ends d closes s) = omega (arith, (start_extends a).shrinks, (optional_extends b).shrinks, (optional_extends d).shrinks, (stmt_extends s).shrinks)
stmt_takes (switch is d s) = omega (arith, (test_extends d).shrinks, (stmt_extends s).shrinks)
stmt_takes (case is d colon s) = omega (arith, (expr_extends d).shrinks, (stmt_extends s).shrinks)
stmt_takes (default is colon s) = omega (arith, (stmt_extends s).shrinks)
stmt_takes (break is ends) = omega arith
stmt_takes (continue is ends) = omega arith
stmt_takes (return is d ends) = omega (arith, (optional_extends d).shrinks)

-- no `else` stands in a block before the next item, nor before the brace that closes it
pub items_no_else : {total most room : ℕ} {names after : Names} {ts last : List Token} {is : List (BlockItem Stmt)} → AreItems total most room names ts last after is
    → (c : Token) (rest : List Token) → last ≡ c ∷ rest → IsMark mark.CloseBrace c → sees_keyword keyword.Else ts ≡ false
items_no_else no_items c rest h closes = ap (sees_keyword keyword.Else) h ∙ ap (is_keyword keyword.Else) closes
items_no_else (declaration_item {names = names} {ts = ts} d is) c rest h closes = type_no_else names ts (decl_starts d)
items_no_else (statement_item s is) c rest h closes = (stmt_begins s).no_else
