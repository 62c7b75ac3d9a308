-- Which tokens go on with an expression, and which begin one.
use Rattle.std.proofs.Common.{◌≡◌, ◌≢◌, ℕ, suc, ◌<◌, Bool, true, false, cond, ◌&&◌, ◌||◌, is_some, nat_eq, Option, Some, None, List, [], ◌∷◌, refl, sym, ap, ◌∙◌, arith}
use Rattle.std.proofs.lemmas.Bool.Decides.{Decides-eqb}
use Rattle.c_lex.specs.declared.token.Token.{Token}
use Rattle.c_lex.specs.declared.token.TokenKind.{TokenKind}
use Rattle.c_lex.specs.declared.token.TokenKind.TheVariants as kind
use Rattle.c_lex.specs.declared.token.Keyword.TheVariants as keyword
use Rattle.c_lex.specs.declared.token.Mark.{Mark}
use Rattle.c_lex.specs.declared.token.Mark.TheVariants as mark
use Rattle.c_ast.specs.declared.words.BinaryOp.{BinaryOp}
use Rattle.c_ast.specs.declared.words.AssignOp.{AssignOp}
use Rattle.c_ast.specs.declared.words.PrefixOp.{PrefixOp}
use Rattle.c_ast.specs.declared.expression.Expr.{Expr}
use Rattle.c_lex.specs.declared.token.NumberType.{NumberType as TokenType}
use Rattle.c_grammar.specs.Names.{Names, IsOrdinary, is_type_in}
use Rattle.c_grammar.specs.Words.{IsMark, IsKeyword, storage_of, qualifier_of, word_of, prefix_of, placed, operator_of, assign_of}
use Rattle.c_grammar.specs.Reading.{sees_mark, sees_keyword, is_mark, is_keyword, is_name}
use Rattle.c_grammar.specs.Grammar.{Part, Primary, Postfix, IsExpr, name, number, character, text, paren, postfix, operand, prefixed, sizeof_expr, sizeof_type, cast, lowest, chained, binary, conditional, value, assigned, comma}
use Rattle.c_grammar.specs.Inner.{Inner}
use Rattle.c_grammar.specs.ReadingExpr.{choose, sees_type, sees_type_in_parens, prefix_at, operator_at, of_level, operator_in, assign_at, postfix_by, postfix_of, postfix_at}
use Rattle.c_grammar.proofs.Laws.{is_postfix_mark, is_postfix, sees_postfix}

pub unequal : (a b : ℕ) → a ≢ b → nat_eq a b ≡ false
unequal a b h = elim (nat_eq a b) as (λ v. (v ≡ true → a ≡ b) → v ≡ false) [ true ↦ λ e. absurd (h (e refl)) | false ↦ λ e. refl ] (Decides-eqb a b).0

-- ---- what goes on with an operand

-- no operator of this level or a lower one comes next, and no postfix operator
pub record Stops (level : ℕ) (ts : List Token) : Type 0 where
  pub no_postfix : sees_postfix ts ≡ false
  pub higher : (p : ℕ × BinaryOp) → operator_at ts ≡ Some p → level < p.0

-- what is of one kind of token is of no other
pub record Single (ts : List Token) : Type 0 where
  pub no_postfix : sees_postfix ts ≡ false
  pub no_assign : assign_at ts ≡ None

operator_mark : (m : Mark) (p : ℕ × BinaryOp) → operator_of (kind.Mark m) ≡ Some p → (is_postfix_mark m ≡ false) × (assign_of (kind.Mark m) ≡ None)
operator_mark mark.Star p h = (refl, refl)
operator_mark mark.Slash p h = (refl, refl)
operator_mark mark.Percent p h = (refl, refl)
operator_mark mark.Plus p h = (refl, refl)
operator_mark mark.Minus p h = (refl, refl)
operator_mark mark.ShiftLeft p h = (refl, refl)
operator_mark mark.ShiftRight p h = (refl, refl)
operator_mark mark.Less p h = (refl, refl)
operator_mark mark.Greater p h = (refl, refl)
operator_mark mark.AtMost p h = (refl, refl)
operator_mark mark.AtLeast p h = (refl, refl)
operator_mark mark.Equal p h = (refl, refl)
operator_mark mark.NotEqual p h = (refl, refl)
operator_mark mark.Ampersand p h = (refl, refl)
operator_mark mark.Caret p h = (refl, refl)
operator_mark mark.Bar p h = (refl, refl)
operator_mark mark.AndAnd p h = (refl, refl)
operator_mark mark.OrOr p h = (refl, refl)
operator_mark _ p h = absurd cc

operator_kind : (k : TokenKind) (p : ℕ × BinaryOp) → operator_of k ≡ Some p → (is_postfix k ≡ false) × (assign_of k ≡ None)
operator_kind (kind.Mark m) p h = operator_mark m p h
operator_kind (kind.Keyword k) p h = absurd cc
operator_kind kind.Name p h = absurd cc
operator_kind (kind.Number t) p h = absurd cc
operator_kind kind.Character p h = absurd cc
operator_kind kind.Text p h = absurd cc

pub operator_single : (t : Token) (ts : List Token) (p : ℕ × BinaryOp) → operator_of t.kind ≡ Some p → Single (t ∷ ts)
operator_single t ts p h = let both = operator_kind t.kind p h in record { no_postfix = both.0; no_assign = both.1 }

assign_mark : (m : Mark) (op : AssignOp) → assign_of (kind.Mark m) ≡ Some op → is_postfix_mark m ≡ false
assign_mark mark.OpenBracket op h = absurd cc
assign_mark mark.OpenParen op h = absurd cc
assign_mark mark.Dot op h = absurd cc
assign_mark mark.Arrow op h = absurd cc
assign_mark mark.PlusPlus op h = absurd cc
assign_mark mark.MinusMinus op h = absurd cc
assign_mark _ op h = refl

assign_kind : (k : TokenKind) (op : AssignOp) → assign_of k ≡ Some op → is_postfix k ≡ false
assign_kind (kind.Mark m) op h = assign_mark m op h
assign_kind (kind.Keyword k) op h = absurd cc
assign_kind kind.Name op h = absurd cc
assign_kind (kind.Number t) op h = absurd cc
assign_kind kind.Character op h = absurd cc
assign_kind kind.Text op h = absurd cc

pub assign_no_postfix : (t : Token) (ts : List Token) (op : AssignOp) → assign_of t.kind ≡ Some op → sees_postfix (t ∷ ts) ≡ false
assign_no_postfix t ts op h = assign_kind t.kind op h

pub operator_there : (level : ℕ) (op : BinaryOp) (t : Token) (ts : List Token) → operator_of t.kind ≡ placed level op → operator_in level (t ∷ ts) ≡ Some op
operator_there level op t ts h =
    ap (λ o. choose {A = ℕ × BinaryOp} {B = Option BinaryOp} o None (of_level level)) h
    ∙ ap (λ b. cond b (Some op) None) ((Decides-eqb level level).1 refl)

pub operator_stops : (level : ℕ) (op : BinaryOp) (t : Token) (ts : List Token) → operator_of t.kind ≡ placed (suc level) op → Stops level (t ∷ ts)
operator_stops level op t ts h = record {
  no_postfix = (operator_single t ts (suc level, op) h).no_postfix;
  higher = λ p there.
      let same : Some (suc level, op) ≡ Some p = sym h ∙ there in
      let pair : (suc level, op) ≡ p = cc in
      let e : suc level ≡ p.0 = ap (λ (q : ℕ × BinaryOp). q.0) pair in omega arith;
}

stopped : (o : Option (ℕ × BinaryOp)) (level : ℕ) → ((p : ℕ × BinaryOp) → o ≡ Some p → level < p.0)
    → choose {A = ℕ × BinaryOp} {B = Option BinaryOp} o None (of_level level) ≡ None
stopped None level h = refl
stopped (Some p) level h =
    let more : level < p.0 = h p refl in
    ap (λ b. cond b (Some p.1) None) (unequal p.0 level (λ e. omega arith))

pub no_operator_in : (level : ℕ) (ts : List Token) → Stops level ts → operator_in level ts ≡ None
no_operator_in level ts s = stopped (operator_at ts) level s.higher

pub stops_below : (level : ℕ) (ts : List Token) → Stops (suc level) ts → Stops level ts
stops_below level ts s = record { no_postfix = s.no_postfix; higher = λ p there. let more : suc level < p.0 = s.higher p there in omega arith }

pub stops_at_none : (level : ℕ) (ts : List Token) → sees_postfix ts ≡ false → operator_at ts ≡ None → Stops level ts
stops_at_none level ts no_postfix h = record { no_postfix = no_postfix; higher = λ p there. absurd cc }

pub question_stops : (level : ℕ) (t : Token) (ts : List Token) → IsMark mark.Question t → Stops level (t ∷ ts)
question_stops level t ts h = stops_at_none level (t ∷ ts) (ap is_postfix h) (ap operator_of h)

no_postfix_mark : (total : ℕ) (inner : Inner) (m : Mark) → is_postfix_mark m ≡ false → postfix_by total inner m ≡ None
no_postfix_mark total inner mark.OpenBracket h = absurd cc
no_postfix_mark total inner mark.OpenParen h = absurd cc
no_postfix_mark total inner mark.Dot h = absurd cc
no_postfix_mark total inner mark.Arrow h = absurd cc
no_postfix_mark total inner mark.PlusPlus h = absurd cc
no_postfix_mark total inner mark.MinusMinus h = absurd cc
no_postfix_mark total inner _ h = refl

no_postfix_kind : (total : ℕ) (inner : Inner) (k : TokenKind) → is_postfix k ≡ false → postfix_of total inner k ≡ None
no_postfix_kind total inner (kind.Mark m) h = no_postfix_mark total inner m h
no_postfix_kind total inner (kind.Keyword k) h = refl
no_postfix_kind total inner kind.Name h = refl
no_postfix_kind total inner (kind.Number t) h = refl
no_postfix_kind total inner kind.Character h = refl
no_postfix_kind total inner kind.Text h = refl

pub no_postfix_at : (total : ℕ) (inner : Inner) (ts : List Token) → sees_postfix ts ≡ false → postfix_at total inner ts ≡ None
no_postfix_at total inner [] h = refl
no_postfix_at total inner (t ∷ ts) h = no_postfix_kind total inner t.kind h

-- ---- what begins an expression

-- no type name and no closing bracket begins here
pub record Begins (names : Names) (ts : List Token) : Type 0 where
  pub no_type : sees_type names ts ≡ false
  pub no_close : sees_mark mark.CloseParen ts ≡ false

-- no prefix operator, no `sizeof`, and no type name in parentheses
pub record BeginsPrimary (names : Names) (ts : List Token) : Type 0 where
  pub begins : Begins names ts
  pub no_prefix : prefix_at ts ≡ None
  pub no_sizeof : sees_keyword keyword.Sizeof ts ≡ false
  pub no_type_in_parens : sees_type_in_parens names ts ≡ false

-- whether a token of this kind begins a type name
abbrev kind_starts : Names → Token → TokenKind → Bool
kind_starts names t k =
    is_some (storage_of k) || (is_some (qualifier_of k) || (is_some (word_of k)
    || (is_keyword keyword.Struct k || (is_keyword keyword.Enum k || (is_name k && is_type_in names t.headers t.text)))))

name_begins : (names : Names) (t : Token) (ts : List Token) → IsOrdinary names t → BeginsPrimary names (t ∷ ts)
name_begins names t ts h = record {
  begins = record { no_type = ap (kind_starts names t) h.0 ∙ h.1; no_close = ap (is_mark mark.CloseParen) h.0 };
  no_prefix = ap prefix_of h.0;
  no_sizeof = ap (is_keyword keyword.Sizeof) h.0;
  no_type_in_parens = ap (λ k. is_mark mark.OpenParen k && sees_type names ts) h.0;
}

number_begins : (names : Names) (t : Token) (ts : List Token) (type : TokenType) → t.kind ≡ kind.Number type → BeginsPrimary names (t ∷ ts)
number_begins names t ts type h = record {
  begins = record { no_type = ap (kind_starts names t) h; no_close = ap (is_mark mark.CloseParen) h };
  no_prefix = ap prefix_of h;
  no_sizeof = ap (is_keyword keyword.Sizeof) h;
  no_type_in_parens = ap (λ k. is_mark mark.OpenParen k && sees_type names ts) h;
}

character_begins : (names : Names) (t : Token) (ts : List Token) → t.kind ≡ kind.Character → BeginsPrimary names (t ∷ ts)
character_begins names t ts h = record {
  begins = record { no_type = ap (kind_starts names t) h; no_close = ap (is_mark mark.CloseParen) h };
  no_prefix = ap prefix_of h;
  no_sizeof = ap (is_keyword keyword.Sizeof) h;
  no_type_in_parens = ap (λ k. is_mark mark.OpenParen k && sees_type names ts) h;
}

text_begins : (names : Names) (t : Token) (ts : List Token) → t.kind ≡ kind.Text → BeginsPrimary names (t ∷ ts)
text_begins names t ts h = record {
  begins = record { no_type = ap (kind_starts names t) h; no_close = ap (is_mark mark.CloseParen) h };
  no_prefix = ap prefix_of h;
  no_sizeof = ap (is_keyword keyword.Sizeof) h;
  no_type_in_parens = ap (λ k. is_mark mark.OpenParen k && sees_type names ts) h;
}

paren_begins : (names : Names) (t : Token) (ts : List Token) → IsMark mark.OpenParen t → sees_type names ts ≡ false → BeginsPrimary names (t ∷ ts)
paren_begins names t ts h inside = record {
  begins = record { no_type = ap (kind_starts names t) h; no_close = ap (is_mark mark.CloseParen) h };
  no_prefix = ap prefix_of h;
  no_sizeof = ap (is_keyword keyword.Sizeof) h;
  no_type_in_parens = ap (λ k. is_mark mark.OpenParen k && sees_type names ts) h ∙ inside;
}

open_begins : (names : Names) (t : Token) (ts : List Token) → IsMark mark.OpenParen t → Begins names (t ∷ ts)
open_begins names t ts h = record { no_type = ap (kind_starts names t) h; no_close = ap (is_mark mark.CloseParen) h }

sizeof_begins : (names : Names) (t : Token) (ts : List Token) → IsKeyword keyword.Sizeof t → Begins names (t ∷ ts)
sizeof_begins names t ts h = record { no_type = ap (kind_starts names t) h; no_close = ap (is_mark mark.CloseParen) h }

prefix_mark : (names : Names) (t : Token) (m : Mark) (op : PrefixOp) → prefix_of (kind.Mark m) ≡ Some op → is_mark mark.CloseParen (kind.Mark m) ≡ false
prefix_mark names t mark.CloseParen op h = absurd cc
prefix_mark names t _ op h = refl

prefix_kind : (names : Names) (t : Token) (k : TokenKind) (op : PrefixOp) → prefix_of k ≡ Some op
    → (kind_starts names t k ≡ false) × (is_mark mark.CloseParen k ≡ false)
prefix_kind names t (kind.Mark m) op h = (refl, prefix_mark names t m op h)
prefix_kind names t (kind.Keyword k) op h = absurd cc
prefix_kind names t kind.Name op h = absurd cc
prefix_kind names t (kind.Number n) op h = absurd cc
prefix_kind names t kind.Character op h = absurd cc
prefix_kind names t kind.Text op h = absurd cc

prefix_begins : (names : Names) (t : Token) (ts : List Token) (op : PrefixOp) → prefix_of t.kind ≡ Some op → Begins names (t ∷ ts)
prefix_begins names t ts op h = let both = prefix_kind names t t.kind op h in record { no_type = both.0; no_close = both.1 }

pub expr_begins : {total most room : ℕ} {part : Part} {names after : Names} {ts rest : List Token} {e : Expr}
    → IsExpr total most part room names ts rest after e → Begins names ts
expr_begins (name {names = names} {t = t} {rest = rest} is) = (name_begins names t rest is).begins
expr_begins (number {names = names} {t = t} {rest = rest} type is) = (number_begins names t rest type is).begins
expr_begins (character {names = names} {t = t} {rest = rest} is) = (character_begins names t rest is).begins
expr_begins (text {names = names} {t = t} {rest = rest} is) = (text_begins names t rest is).begins
expr_begins (paren {names = names} {t = t} {ts = ts} is d closes) = open_begins names t ts is
expr_begins (postfix d os few) = expr_begins d
expr_begins (operand d) = expr_begins d
expr_begins (prefixed {names = names} {t = t} {ts = ts} op is d) = prefix_begins names t ts op is
expr_begins (sizeof_expr {names = names} {t = t} {ts = ts} is other d) = sizeof_begins names t ts is
expr_begins (sizeof_type {names = names} {t = t} {o = o} {ts = ts} is opens d closes) = sizeof_begins names t (o ∷ ts) is
expr_begins (cast {names = names} {o = o} {ts = ts} is type closes d) = open_begins names o ts is
expr_begins (lowest d) = expr_begins d
expr_begins (chained d ls few) = expr_begins d
expr_begins (binary d) = expr_begins d
expr_begins (conditional d question then colon otherwise) = expr_begins d
expr_begins (value d) = expr_begins d
expr_begins (assigned op d is right) = expr_begins d
expr_begins (comma d es few) = expr_begins d

pub primary_begins : {total most room : ℕ} {names after : Names} {ts rest : List Token} {e : Expr}
    → IsExpr total most Primary room names ts rest after e → BeginsPrimary names ts
primary_begins (name {names = names} {t = t} {rest = rest} is) = name_begins names t rest is
primary_begins (number {names = names} {t = t} {rest = rest} type is) = number_begins names t rest type is
primary_begins (character {names = names} {t = t} {rest = rest} is) = character_begins names t rest is
primary_begins (text {names = names} {t = t} {rest = rest} is) = text_begins names t rest is
primary_begins (paren {names = names} {t = t} {ts = ts} is d closes) = paren_begins names t ts is (expr_begins d).no_type

pub postfix_begins : {total most room : ℕ} {names after : Names} {ts rest : List Token} {e : Expr}
    → IsExpr total most Postfix room names ts rest after e → BeginsPrimary names ts
postfix_begins (postfix d os few) = primary_begins d
