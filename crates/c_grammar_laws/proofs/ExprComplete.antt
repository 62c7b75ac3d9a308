-- An expression is read, whatever comes behind it that doesn't go on with it, or a late token stands too deep or too far in its chain.
use Rattle.std.proofs.Common.{◌≡◌, ℕ, zero, suc, ◌+◌, ◌<◌, ◌≤◌, ◌++◌, if◌then◌else◌, ◌&&◌, inl, inr, Bool, true, false, Option, Some, None, Ok, Err, List, [], ◌∷◌, length, refl, sym, ap, ◌∙◌, subst, append_assoc, append-nil, arith}
use denote.Enum.Bare.{true_same}
use Rattle.c_lex.specs.declared.token.Token.{Token}
use Rattle.c_lex.specs.declared.token.TokenKind.TheVariants as kind
use Rattle.c_lex.specs.declared.token.NumberType.{NumberType as TokenType}
use Rattle.c_lex.specs.declared.token.Keyword.TheVariants as keyword
use Rattle.c_lex.specs.declared.token.Mark.{Mark}
use Rattle.c_lex.specs.declared.token.Mark.TheVariants as mark
use Rattle.c_lex.specs.contracts.token.Mark as mark_contract
use Rattle.c_ast.specs.declared.words.BinaryOp.{BinaryOp}
use Rattle.c_ast.specs.declared.words.AssignOp.{AssignOp}
use Rattle.c_ast.specs.declared.words.PrefixOp.{PrefixOp}
use Rattle.c_ast.specs.declared.expression.Expr.{Expr}
use Rattle.c_ast.specs.declared.expression.Expr.TheVariants as expr
use Rattle.c_ast.specs.declared.expression.Link.{Link}
use Rattle.c_ast.specs.declared.expression.PostfixOp.{PostfixOp}
use Rattle.c_ast.specs.declared.expression.PostfixOp.TheVariants as after
use Rattle.c_ast.specs.declared.declaration.Specifier.{Specifier}
use Rattle.c_ast.specs.declared.declaration.Abstract.{Abstract}
use Rattle.c_ast.specs.declared.declaration.TypeName.{TypeName, roll-TypeName}
use Rattle.c_grammar.specs.declared.phrases.Extent.{Extent}
use Rattle.c_grammar.specs.declared.phrases.Extent.TheVariants as extent
use Rattle.c_grammar.specs.declared.phrases.ReadSpecs.{ReadSpecs}
use Rattle.c_grammar.specs.Names.{Names, IsOrdinary, name_at}
use Rattle.c_grammar.specs.Words.{IsMark, IsKeyword, number_of, number_type_of, prefix_of, placed, operator_of, assign_of}
use Rattle.c_grammar.specs.Grammar.{AreSpecifiers, Part, Primary, Postfix, Unary, Level, Cond, Assign, Comma, IsExpr, AreLinks, AreOthers, ArePostfix, AreArguments, AreSpecs, IsAbstract, IsTypeNamed, StartsTypeInParens, postfixed, linked, listed}
use Rattle.c_grammar.specs.Grammar as grammar
use Rattle.c_grammar.specs.Nesting.{Bounds, Follows, expr_stands, links_stand, others_stand, postfix_stand, arguments_stand, listed_stand, type_stands, abstract_stands, specs_stand}
use Rattle.c_grammar.specs.Types.{Typed, Untyped, IsOneType}
use Rattle.c_grammar.specs.Reading.{State, Unexpected, TooNested, Outcome, Reader, ◌>>=◌, is_mark, is_keyword, is_name, sees_mark, sees_keyword, tail, behind, here, expect_mark, expect_name, or_unexpected}
use Rattle.c_grammar.specs.Inner.{Inner, part_of}
use Rattle.c_grammar.specs.ReadingExpr.{token_expr, front_expr, choose, or_else, sees_type_in_parens, sees_type}
use Rattle.c_grammar.specs.ReadingExpr as reading
use Rattle.c_grammar.proofs.Late.{Meets, same, stopped, on, on_read, ◌▸◌}
use Rattle.c_grammar.proofs.Laws.{Complete, IsTypeInParens, at_state, is_keyword_at, sees_postfix, is_postfix, EndsCond, EndsAssign, EndsComma, Ends, in_parens_stands}
use Rattle.c_grammar.proofs.Extends.{expr_extends}
use Rattle.c_grammar_laws.proofs.ExprFound.{found}
use Rattle.c_grammar_laws.proofs.ExprStarts.{sees_no_type, starts_type_of}
use Rattle.c_grammar_laws.proofs.ExprTokens.{Stops, operator_single, assign_no_postfix, operator_there, operator_stops, no_operator_in, stops_below, stops_at_none, question_stops, no_postfix_at, BeginsPrimary, expr_begins, postfix_begins}

-- ---- tokens

pub sees_it : (m : Mark) (t : Token) → IsMark m t → is_mark m t.kind ≡ true
sees_it m t h = ap (is_mark m) h ∙ true_same mark_contract.the_type m m refl

pub expect_there : (total : ℕ) (m : Mark) (names : Names) (t : Token) (ts : List Token) → IsMark m t
    → expect_mark total m (at_state names (t ∷ ts)) ≡ Ok (at_state names ts)
unfolding expect_mark
expect_there total m names t ts h =
    ap (λ b. if b then found (at_state names ts) else Err (Unexpected (number_of total (t ∷ ts)))) (sees_it m t h)

pub name_there : (total : ℕ) (names : Names) (t : Token) (ts : List Token) → t.kind ≡ kind.Name
    → expect_name total (at_state names (t ∷ ts)) ≡ Ok (name_at (number_of total (t ∷ ts)) t, at_state names ts)
unfolding expect_name
name_there total names t ts h =
    ap (λ b. or_unexpected total (at_state names (t ∷ ts)) (if b then Some (name_at (number_of total (t ∷ ts)) t) else None)) (ap is_name h)

-- ---- where parts end

pub ends_comma : (m : Mark) (t : Token) (ts : List Token) → IsMark m t → is_postfix (kind.Mark m) ≡ false → operator_of (kind.Mark m) ≡ None
    → is_mark mark.Question (kind.Mark m) ≡ false → assign_of (kind.Mark m) ≡ None → is_mark mark.Comma (kind.Mark m) ≡ false → EndsComma (t ∷ ts)
ends_comma m t ts h no_postfix no_operator no_question no_assign no_comma = record {
  assign = record {
    cond = record {
      unary = record { no_postfix = ap is_postfix h ∙ no_postfix };
      no_operator = ap operator_of h ∙ no_operator;
      no_question = ap (is_mark mark.Question) h ∙ no_question;
    };
    no_assign = ap assign_of h ∙ no_assign;
  };
  no_comma = ap (is_mark mark.Comma) h ∙ no_comma;
}

pub ends_at_paren : (t : Token) (ts : List Token) → IsMark mark.CloseParen t → EndsComma (t ∷ ts)
ends_at_paren t ts h = ends_comma mark.CloseParen t ts h refl refl refl refl refl

pub ends_at_bracket : (t : Token) (ts : List Token) → IsMark mark.CloseBracket t → EndsComma (t ∷ ts)
ends_at_bracket t ts h = ends_comma mark.CloseBracket t ts h refl refl refl refl refl

pub ends_at_colon : (t : Token) (ts : List Token) → IsMark mark.Colon t → EndsComma (t ∷ ts)
ends_at_colon t ts h = ends_comma mark.Colon t ts h refl refl refl refl refl

pub ends_at_comma : (t : Token) (ts : List Token) → IsMark mark.Comma t → EndsAssign (t ∷ ts)
ends_at_comma t ts h = record {
  cond = record { unary = record { no_postfix = ap is_postfix h }; no_operator = ap operator_of h; no_question = ap (is_mark mark.Question) h };
  no_assign = ap assign_of h;
}

-- ---- types

specifiers_begin : {total most room : ℕ} {names last : Names} {typed typed' : Typed} {ts rest : List Token} {is_typedef : Bool} {ss : List Specifier}
    → AreSpecifiers total most room names typed ts rest last typed' is_typedef ss → typed ≡ Untyped → IsOneType typed' → sees_type names ts ≡ true
specifiers_begin grammar.no_specifiers e h = absurd (subst IsOneType e h)
specifiers_begin {names = names} (grammar.storage {t = t} s is d) e h = starts_type_of names t (inl (s, is))
specifiers_begin {names = names} (grammar.qualifier {t = t} q is d) e h = starts_type_of names t (inr (inl (q, is)))
specifiers_begin {names = names} (grammar.word {t = t} w is with_it d) e h = starts_type_of names t (inr (inr (inl (w, is))))
specifiers_begin {names = names} (grammar.struct_specifier (grammar.struct_reference {s = s} is name) d) e h = starts_type_of names s (inr (inr (inr (inl is))))
specifiers_begin {names = names} (grammar.struct_specifier (grammar.struct_tagged {s = s} is name opens ms closes) d) e h = starts_type_of names s (inr (inr (inr (inl is))))
specifiers_begin {names = names} (grammar.struct_specifier (grammar.struct_untagged {s = s} is opens ms closes) d) e h = starts_type_of names s (inr (inr (inr (inl is))))
specifiers_begin {names = names} (grammar.enum_specifier (grammar.enum_reference {e = s} is name) d) e h = starts_type_of names s (inr (inr (inr (inr (inl is)))))
specifiers_begin {names = names} (grammar.enum_specifier (grammar.enum_tagged {e = s} is name opens ms closes) d) e h = starts_type_of names s (inr (inr (inr (inr (inl is)))))
specifiers_begin {names = names} (grammar.enum_specifier (grammar.enum_untagged {e = s} is opens ms closes) d) e h = starts_type_of names s (inr (inr (inr (inr (inl is)))))
specifiers_begin {names = names} (grammar.typedef_name {t = t} is d) e h = starts_type_of names t (inr (inr (inr (inr (inr is)))))

type_begins : {total most room : ℕ} {names last : Names} {ts rest : List Token} {n : TypeName} → IsTypeNamed total most room names ts rest last n → sees_type names ts ≡ true
type_begins (grammar.type_named (grammar.specs d one) e) = specifiers_begin d refl one

record BeginsAbstract (ts : List Token) : Type 0 where
  no_keyword : is_keyword_at ts ≡ false
  no_brace : sees_mark mark.OpenBrace ts ≡ false

mark_begins : (m : Mark) (t : Token) (ts : List Token) → IsMark m t → is_mark mark.OpenBrace (kind.Mark m) ≡ false → BeginsAbstract (t ∷ ts)
mark_begins m t ts is other = record {
  no_keyword = ap (λ k. is_keyword_at (record { kind = k; line = t.line; value = t.value; text = t.text; headers = t.headers } ∷ ts)) is;
  no_brace = ap (is_mark mark.OpenBrace) is ∙ other;
}

abstract_begins : {total most room : ℕ} {names last : Names} {c : Token} {ts rest : List Token} {a : Abstract Expr}
    → IsAbstract total most room names ts (c ∷ rest) last a → IsMark mark.CloseParen c → BeginsAbstract ts
abstract_begins {c = c} {rest = rest} (grammar.arrays grammar.no_sizes) closes = mark_begins mark.CloseParen c rest closes refl
abstract_begins (grammar.arrays (grammar.more_sizes (grammar.unsized {o = o} {c = e} {rest = mid} opens ends) more)) closes = mark_begins mark.OpenBracket o (e ∷ mid) opens refl
abstract_begins (grammar.arrays (grammar.more_sizes (grammar.sized {o = o} {ts = ts} opens d ends) more)) closes = mark_begins mark.OpenBracket o ts opens refl
abstract_begins (grammar.pointer {t = t} {ts = ts} star d) closes = mark_begins mark.Star t ts star refl

module _ (total wide : ℕ) (bounds : Bounds) (place : ℕ) (inner : Inner) (complete : Complete total wide bounds place inner) where
  -- ---- primary expressions

  paren_read : (names after : Names) (t c : Token) (ts rest : List Token) (a : Expr) → IsMark mark.OpenParen t
      → (d : IsExpr total wide Comma place names ts (c ∷ rest) after a) → expr_stands bounds d → IsMark mark.CloseParen c
      → Meets total bounds.later (reading.primary total inner (at_state names (t ∷ ts))) (Ok (expr.Paren (number_of total (t ∷ ts)) a, at_state after rest))
  unfolding reading.primary reading.paren
  paren_read names after t c ts rest a opens d stands closes =
      same (ap (λ b. if b then reading.paren total inner (at_state names (t ∷ ts)) else or_else total (at_state names (t ∷ ts)) (front_expr total names (t ∷ ts))) (sees_it mark.OpenParen t opens))
      ▸ on (λ x. expect_mark total mark.CloseParen x.1 >>= λ s'. Ok (expr.Paren (number_of total (t ∷ ts)) x.0, s'))
      (complete.expr extent.Comma names after ts (c ∷ rest) a d stands (ends_at_paren c rest closes))
      ▸ same (ap (λ o. o >>= λ s'. Ok (expr.Paren (number_of total (t ∷ ts)) a, s')) (expect_there total mark.CloseParen after c rest closes))

  -- a token that is an expression by itself
  token_read : (names : Names) (t : Token) (rest : List Token) (e : Expr) → is_mark mark.OpenParen t.kind ≡ false
      → token_expr (number_of total (t ∷ rest)) names t t.kind ≡ Some e
      → reading.primary total inner (at_state names (t ∷ rest)) ≡ Ok (e, at_state names rest)
  unfolding reading.primary
  token_read names t rest e no_paren h =
      ap (λ b. if b then reading.paren total inner (at_state names (t ∷ rest)) else or_else total (at_state names (t ∷ rest)) (front_expr total names (t ∷ rest))) no_paren
      ∙ ap (or_else total (at_state names (t ∷ rest))) h

  name_read : (names : Names) (t : Token) (rest : List Token) → IsOrdinary names t
      → reading.primary total inner (at_state names (t ∷ rest)) ≡ Ok (expr.Name (name_at (number_of total (t ∷ rest)) t), at_state names rest)
  name_read names t rest h =
      token_read names t rest (expr.Name (name_at (number_of total (t ∷ rest)) t)) (ap (is_mark mark.OpenParen) h.0)
      (ap (token_expr (number_of total (t ∷ rest)) names t) h.0
      ∙ ap (λ b. if b then None else Some (expr.Name (name_at (number_of total (t ∷ rest)) t))) h.1)

  number_read : (names : Names) (t : Token) (rest : List Token) (type : TokenType) → t.kind ≡ kind.Number type
      → reading.primary total inner (at_state names (t ∷ rest)) ≡ Ok (expr.Number (number_of total (t ∷ rest)) t.value (number_type_of type), at_state names rest)
  number_read names t rest type h =
      token_read names t rest (expr.Number (number_of total (t ∷ rest)) t.value (number_type_of type)) (ap (is_mark mark.OpenParen) h)
      (ap (token_expr (number_of total (t ∷ rest)) names t) h)

  character_read : (names : Names) (t : Token) (rest : List Token) → t.kind ≡ kind.Character
      → reading.primary total inner (at_state names (t ∷ rest)) ≡ Ok (expr.Character (number_of total (t ∷ rest)) t.value, at_state names rest)
  character_read names t rest h =
      token_read names t rest (expr.Character (number_of total (t ∷ rest)) t.value) (ap (is_mark mark.OpenParen) h)
      (ap (token_expr (number_of total (t ∷ rest)) names t) h)

  text_read : (names : Names) (t : Token) (rest : List Token) → t.kind ≡ kind.Text
      → reading.primary total inner (at_state names (t ∷ rest)) ≡ Ok (expr.Text (number_of total (t ∷ rest)) t.text, at_state names rest)
  text_read names t rest h =
      token_read names t rest (expr.Text (number_of total (t ∷ rest)) t.text) (ap (is_mark mark.OpenParen) h)
      (ap (token_expr (number_of total (t ∷ rest)) names t) h)

  -- ---- postfix operators

  -- one more operator
  postfix_step : (names between : Names) (ts mid : List Token) (o : PostfixOp Expr) (read : Reader (PostfixOp Expr)) (spare : ℕ) (front : List (PostfixOp Expr))
      → reading.postfix_at total inner ts ≡ Some read → Meets total bounds.later (read (at_state names ts)) (Ok (o, at_state between mid))
      → Meets total bounds.later (reading.postfixes total inner (suc spare) front (at_state names ts)) (reading.postfixes total inner spare (front ++ o ∷ []) (at_state between mid))
  unfolding reading.postfixes
  postfix_step names between ts mid o read spare front is there =
      same (ap (λ p. choose {A = Reader (PostfixOp Expr)} {B = Outcome (List (PostfixOp Expr) × State)} p (Ok (front, at_state names ts))
      (λ read. read (at_state names ts) >>= λ x. reading.postfixes total inner spare (front ++ x.0 ∷ []) x.1)) is)
      ▸ on (λ x. reading.postfixes total inner spare (front ++ x.0 ∷ []) x.1) there

  -- one more operator than a chain may have
  postfix_late : (names : Names) (t : Token) (ts : List Token) (read : Reader (PostfixOp Expr)) (front : List (PostfixOp Expr))
      → reading.postfix_at total inner (t ∷ ts) ≡ Some read → length (t ∷ ts) ≤ bounds.later → (p : Outcome (List (PostfixOp Expr) × State))
      → Meets total bounds.later (reading.postfixes total inner zero front (at_state names (t ∷ ts))) p
  unfolding reading.postfixes
  postfix_late names t ts read front is late p =
      stopped total bounds.later (reading.postfixes total inner zero front (at_state names (t ∷ ts))) t ts late
      (ap (λ p. choose {A = Reader (PostfixOp Expr)} {B = Outcome (List (PostfixOp Expr) × State)} p (Ok (front, at_state names (t ∷ ts)))
      (λ read. Err (TooNested (number_of total (t ∷ ts))))) is) p

  postfix_end : (names : Names) (ts : List Token) (spare : ℕ) (front : List (PostfixOp Expr)) → sees_postfix ts ≡ false
      → reading.postfixes total inner spare front (at_state names ts) ≡ Ok (front ++ [], at_state names ts)
  unfolding reading.postfixes
  postfix_end names ts zero front h =
      ap (λ p. choose {A = Reader (PostfixOp Expr)} {B = Outcome (List (PostfixOp Expr) × State)} p (Ok (front, at_state names ts))
      (λ read. Err (TooNested (number_of total ts)))) (no_postfix_at total inner ts h)
      ∙ ap (λ os. found (os, at_state names ts)) (sym (append-nil front))
  postfix_end names ts (suc spare) front h =
      ap (λ p. choose {A = Reader (PostfixOp Expr)} {B = Outcome (List (PostfixOp Expr) × State)} p (Ok (front, at_state names ts))
      (λ read. read (at_state names ts) >>= λ x. reading.postfixes total inner spare (front ++ x.0 ∷ []) x.1)) (no_postfix_at total inner ts h)
      ∙ ap (λ os. found (os, at_state names ts)) (sym (append-nil front))

  index_read : (names between : Names) (t c : Token) (ts mid : List Token) (a : Expr)
      → (d : IsExpr total wide Comma place names ts (c ∷ mid) between a) → expr_stands bounds d → IsMark mark.CloseBracket c
      → Meets total bounds.later (reading.index total inner (at_state names (t ∷ ts))) (Ok (after.Index (number_of total (t ∷ ts)) a, at_state between mid))
  unfolding reading.index
  index_read names between t c ts mid a d stands closes =
      on (λ x. expect_mark total mark.CloseBracket x.1 >>= λ s'. Ok (after.Index (number_of total (t ∷ ts)) x.0, s'))
      (complete.expr extent.Comma names between ts (c ∷ mid) a d stands (ends_at_bracket c mid closes))
      ▸ same (ap (λ o. o >>= λ s'. Ok (after.Index (number_of total (t ∷ ts)) a, s')) (expect_there total mark.CloseBracket between c mid closes))

  -- the last argument, and one before others
  last_argument : (names between : Names) (c : Token) (ts rest : List Token) (a : Expr) (count : ℕ) (front : List Expr)
      → (d : IsExpr total wide Assign place names ts (c ∷ rest) between a) → expr_stands bounds d → IsMark mark.CloseParen c
      → Meets total bounds.later (reading.arguments total inner (suc count) front (at_state names ts)) (Ok (front ++ a ∷ [], at_state between rest))
  unfolding reading.arguments
  last_argument names between c ts rest a count front d stands closes =
      on (λ x. if sees_mark mark.Comma x.1.rest then reading.arguments total inner count (front ++ x.0 ∷ []) (behind x.1)
      else (expect_mark total mark.CloseParen x.1 >>= λ s'. Ok (front ++ x.0 ∷ [], s')))
      (complete.expr extent.Assign names between ts (c ∷ rest) a d stands (ends_at_paren c rest closes).assign)
      ▸ same (ap (λ b. if b then reading.arguments total inner count (front ++ a ∷ []) (at_state between rest)
      else (expect_mark total mark.CloseParen (at_state between (c ∷ rest)) >>= λ s'. Ok (front ++ a ∷ [], s'))) (ends_at_paren c rest closes).no_comma)
      ▸ same (ap (λ o. o >>= λ s'. Ok (front ++ a ∷ [], s')) (expect_there total mark.CloseParen between c rest closes))

  next_argument : (names between : Names) (t : Token) (ts rest : List Token) (a : Expr) (count : ℕ) (front : List Expr)
      → (d : IsExpr total wide Assign place names ts (t ∷ rest) between a) → expr_stands bounds d → IsMark mark.Comma t
      → Meets total bounds.later (reading.arguments total inner (suc count) front (at_state names ts)) (reading.arguments total inner count (front ++ a ∷ []) (at_state between rest))
  unfolding reading.arguments
  next_argument names between t ts rest a count front d stands comma =
      on (λ x. if sees_mark mark.Comma x.1.rest then reading.arguments total inner count (front ++ x.0 ∷ []) (behind x.1)
      else (expect_mark total mark.CloseParen x.1 >>= λ s'. Ok (front ++ x.0 ∷ [], s')))
      (complete.expr extent.Assign names between ts (t ∷ rest) a d stands (ends_at_comma t rest comma))
      ▸ same (ap (λ b. if b then reading.arguments total inner count (front ++ a ∷ []) (at_state between rest)
      else (expect_mark total mark.CloseParen (at_state between (t ∷ rest)) >>= λ s'. Ok (front ++ a ∷ [], s'))) (sees_it mark.Comma t comma))

  arguments_read : {names between after : Names} {ts mid : List Token} (c : Token) (rest : List Token) {a : Expr} {es : List Expr} (count : ℕ) (front : List Expr)
      → (d : IsExpr total wide Assign place names ts mid between a) → expr_stands bounds d
      → (more : AreOthers total wide place between mid (c ∷ rest) after es) → listed_stand bounds more → IsMark mark.CloseParen c
      → length mid < count
      → Meets total bounds.later (reading.arguments total inner count front (at_state names ts)) (Ok (front ++ a ∷ es, at_state after rest))
  arguments_read c rest zero front d stands more stand closes enough = absurd (omega arith)
  arguments_read {names = names} {between = between} {ts = ts} c rest {a = a} (suc count) front d stands grammar.no_others stand closes enough =
      last_argument names between c ts rest a count front d stands closes
  arguments_read {names = names} {between = between} {after = last} {ts = ts} c rest {a = a} (suc count) front d stands (grammar.more_others {t = t} {ts = us} {mid = end} {a = b} {es = es} comma e more) stand closes enough =
      let fewer : length end < count = let x = (expr_extends e).shrinks in omega arith in
      next_argument names between t ts us a count front d stands comma
      ▸ arguments_read c rest count (front ++ a ∷ []) e stand.1 more stand.2 closes fewer
      ▸ same (ap (λ xs. found (xs, at_state last rest)) (append_assoc front (a ∷ []) (b ∷ es)))

  call_read : {names between : Names} (t c : Token) {ts : List Token} (mid : List Token) {es : List Expr}
      → (d : AreArguments total wide place names ts (c ∷ mid) between es) → arguments_stand bounds d → IsMark mark.CloseParen c
      → Meets total bounds.later (reading.call total inner (at_state names (t ∷ ts))) (Ok (after.Call (number_of total (t ∷ ts)) es, at_state between mid))
  unfolding reading.call
  call_read {names = names} t c mid grammar.no_arguments stand closes =
      same (ap (λ b. if b then found (after.Call (number_of total (t ∷ c ∷ mid)) [], at_state names mid)
      else (reading.arguments total inner (length (t ∷ c ∷ mid)) [] (at_state names (c ∷ mid)) >>= λ x. Ok (after.Call (number_of total (t ∷ c ∷ mid)) x.0, x.1))) (sees_it mark.CloseParen c closes))
  call_read {names = names} t c {ts = ts} mid (grammar.arguments {mid = us} d more) stand closes =
      let enough : length us < length (t ∷ ts) = let x = (expr_extends d).shrinks in omega arith in
      same (ap (λ b. if b then found (after.Call (number_of total (t ∷ ts)) [], at_state names (tail ts))
      else (reading.arguments total inner (length (t ∷ ts)) [] (at_state names ts) >>= λ x. Ok (after.Call (number_of total (t ∷ ts)) x.0, x.1))) (expr_begins d).no_close)
      ▸ on (λ x. Ok (after.Call (number_of total (t ∷ ts)) x.0, x.1)) (arguments_read c mid (length (t ∷ ts)) [] d stand.0 more stand.1 closes enough)

  dot_read : (names : Names) (d t : Token) (mid : List Token) → t.kind ≡ kind.Name
      → reading.dot total (at_state names (d ∷ t ∷ mid)) ≡ Ok (after.Member (number_of total (d ∷ t ∷ mid)) (name_at (number_of total (t ∷ mid)) t), at_state names mid)
  unfolding reading.dot
  dot_read names d t mid h = ap (λ o. o >>= λ x. Ok (after.Member (number_of total (d ∷ t ∷ mid)) x.0, x.1)) (name_there total names t mid h)

  arrow_read : (names : Names) (d t : Token) (mid : List Token) → t.kind ≡ kind.Name
      → reading.arrow total (at_state names (d ∷ t ∷ mid)) ≡ Ok (after.Arrow (number_of total (d ∷ t ∷ mid)) (name_at (number_of total (t ∷ mid)) t), at_state names mid)
  unfolding reading.arrow
  arrow_read names d t mid h = ap (λ o. o >>= λ x. Ok (after.Arrow (number_of total (d ∷ t ∷ mid)) x.0, x.1)) (name_there total names t mid h)

  -- one more operator behind so many, with those behind it
  postfix_go : (names between last : Names) (t : Token) (ts mid rest : List Token) (o : PostfixOp Expr) (os : List (PostfixOp Expr)) (read : Reader (PostfixOp Expr))
      → (before spare : ℕ) (front : List (PostfixOp Expr)) → before + spare ≡ bounds.chain → Follows bounds before (t ∷ ts)
      → reading.postfix_at total inner (t ∷ ts) ≡ Some read → Meets total bounds.later (read (at_state names (t ∷ ts))) (Ok (o, at_state between mid))
      → ((spare : ℕ) (front : List (PostfixOp Expr)) → suc before + spare ≡ bounds.chain
      → Meets total bounds.later (reading.postfixes total inner spare front (at_state between mid)) (Ok (front ++ os, at_state last rest)))
      → Meets total bounds.later (reading.postfixes total inner spare front (at_state names (t ∷ ts))) (Ok (front ++ o ∷ os, at_state last rest))
  postfix_go names between last t ts mid rest o os read before zero front left follows is there further =
      let full : bounds.chain ≤ before = omega arith in
      postfix_late names t ts read front is (follows full) (Ok (front ++ o ∷ os, at_state last rest))
  postfix_go names between last t ts mid rest o os read before (suc spare) front left follows is there further =
      let fewer : suc before + spare ≡ bounds.chain = omega arith in
      postfix_step names between (t ∷ ts) mid o read spare front is there
      ▸ further spare (front ++ o ∷ []) fewer
      ▸ same (ap (λ xs. found (xs, at_state last rest)) (append_assoc front (o ∷ []) os))

  postfixes_read : {names last : Names} {ts rest : List Token} {os : List (PostfixOp Expr)} → (d : ArePostfix total wide (suc place) names ts rest last os)
      → (before : ℕ) → postfix_stand bounds before d → sees_postfix rest ≡ false
      → (spare : ℕ) (front : List (PostfixOp Expr)) → before + spare ≡ bounds.chain
      → Meets total bounds.later (reading.postfixes total inner spare front (at_state names ts)) (Ok (front ++ os, at_state last rest))
  postfixes_read {names = names} {rest = rest} grammar.no_postfix before stand ends spare front left = same (postfix_end names rest spare front ends)
  postfixes_read {last = last} {rest = rest} (grammar.index {names = names} {between = between} {t = t} {c = c} {ts = ts} {mid = mid} {a = a} {os = os} is d closes more) before stand ends spare front left =
      postfix_go names between last t ts mid rest (after.Index (number_of total (t ∷ ts)) a) os (reading.index total inner) before spare front left stand.1 (ap (reading.postfix_of total inner) is)
      (index_read names between t c ts mid a d stand.2 closes) (postfixes_read more (suc before) stand.4 ends)
  postfixes_read {last = last} {rest = rest} (grammar.call {names = names} {between = between} {t = t} {c = c} {ts = ts} {mid = mid} {es = es} {os = os} is d closes more) before stand ends spare front left =
      postfix_go names between last t ts mid rest (after.Call (number_of total (t ∷ ts)) es) os (reading.call total inner) before spare front left stand.1 (ap (reading.postfix_of total inner) is)
      (call_read t c mid d stand.2 closes) (postfixes_read more (suc before) stand.4 ends)
  postfixes_read {last = last} {rest = rest} (grammar.dot {names = names} {d = d} {t = t} {mid = mid} {os = os} is name more) before stand ends spare front left =
      postfix_go names names last d (t ∷ mid) mid rest (after.Member (number_of total (d ∷ t ∷ mid)) (name_at (number_of total (t ∷ mid)) t)) os (reading.dot total) before spare front left stand.1
      (ap (reading.postfix_of total inner) is) (same (dot_read names d t mid name)) (postfixes_read more (suc before) stand.3 ends)
  postfixes_read {last = last} {rest = rest} (grammar.arrow {names = names} {d = d} {t = t} {mid = mid} {os = os} is name more) before stand ends spare front left =
      postfix_go names names last d (t ∷ mid) mid rest (after.Arrow (number_of total (d ∷ t ∷ mid)) (name_at (number_of total (t ∷ mid)) t)) os (reading.arrow total) before spare front left stand.1
      (ap (reading.postfix_of total inner) is) (same (arrow_read names d t mid name)) (postfixes_read more (suc before) stand.3 ends)
  postfixes_read {last = last} {rest = rest} (grammar.increment {names = names} {t = t} {mid = mid} {os = os} is more) before stand ends spare front left =
      postfix_go names names last t mid mid rest (after.Increment (number_of total (t ∷ mid))) os (λ s. Ok (after.Increment (here total s), behind s)) before spare front left stand.1
      (ap (reading.postfix_of total inner) is) (same refl) (postfixes_read more (suc before) stand.2 ends)
  postfixes_read {last = last} {rest = rest} (grammar.decrement {names = names} {t = t} {mid = mid} {os = os} is more) before stand ends spare front left =
      postfix_go names names last t mid mid rest (after.Decrement (number_of total (t ∷ mid))) os (λ s. Ok (after.Decrement (here total s), behind s)) before spare front left stand.1
      (ap (reading.postfix_of total inner) is) (same refl) (postfixes_read more (suc before) stand.2 ends)

  postfix_read : (names between last : Names) (ts mid rest : List Token) (a : Expr) (os : List (PostfixOp Expr))
      → Meets total bounds.later (reading.primary total inner (at_state names ts)) (Ok (a, at_state between mid))
      → (more : ArePostfix total wide (suc place) between mid rest last os) → postfix_stand bounds 0 more
      → sees_postfix rest ≡ false
      → Meets total bounds.later (reading.postfix total bounds.chain inner (at_state names ts)) (Ok (postfixed (number_of total ts) a os, at_state last rest))
  unfolding reading.postfix
  postfix_read names between last ts mid rest a os first more stand ends =
      on (λ x. reading.postfixes total inner bounds.chain [] x.1 >>= λ y. Ok (postfixed (number_of total ts) x.0 y.0, y.1)) first
      ▸ on (λ y. Ok (postfixed (number_of total ts) a y.0, y.1)) (postfixes_read more 0 stand ends bounds.chain [] (omega arith))

  -- ---- prefix operators

  abbrev unary_by : State → Option PrefixOp → Bool → Bool → Outcome (Expr × State)
  unary_by s p q r =
      choose p (if q then reading.sizeof total inner s else (if r then reading.cast total inner s else reading.postfix total bounds.chain inner s)) (λ op. reading.prefixed total inner op s)

  unary_is : (s : State) (p : Option PrefixOp) (q r : Bool) → reading.prefix_at s.rest ≡ p → sees_keyword keyword.Sizeof s.rest ≡ q → sees_type_in_parens s.names s.rest ≡ r
      → reading.unary total bounds.chain inner s ≡ unary_by s p q r
  unfolding reading.unary
  unary_is s p q r f g h =
      ap (λ p. unary_by s p (sees_keyword keyword.Sizeof s.rest) (sees_type_in_parens s.names s.rest)) f
      ∙ ap (λ q. unary_by s p q (sees_type_in_parens s.names s.rest)) g
      ∙ ap (λ r. unary_by s p q r) h

  operand_read : (names : Names) (ts : List Token) (y : Expr × State) → BeginsPrimary names ts
      → Meets total bounds.later (reading.postfix total bounds.chain inner (at_state names ts)) (Ok y)
      → Meets total bounds.later (reading.unary total bounds.chain inner (at_state names ts)) (Ok y)
  operand_read names ts y b h = same (unary_is (at_state names ts) None false false b.no_prefix b.no_sizeof b.no_type_in_parens) ▸ h

  prefixed_read : (names last : Names) (t : Token) (ts rest : List Token) (a : Expr) (op : PrefixOp) → prefix_of t.kind ≡ Some op
      → (d : IsExpr total wide Unary place names ts rest last a) → expr_stands bounds d → sees_postfix rest ≡ false
      → Meets total bounds.later (reading.unary total bounds.chain inner (at_state names (t ∷ ts))) (Ok (expr.Prefix (number_of total (t ∷ ts)) op a, at_state last rest))
  unfolding reading.prefixed
  prefixed_read names last t ts rest a op is d stands ends =
      same (unary_is (at_state names (t ∷ ts)) (Some op) (sees_keyword keyword.Sizeof (t ∷ ts)) (sees_type_in_parens names (t ∷ ts)) is refl refl)
      ▸ on (λ x. Ok (expr.Prefix (number_of total (t ∷ ts)) op x.0, x.1)) (complete.expr extent.Unary names last ts rest a d stands (record { no_postfix = ends }))

  sizeof_is : (names : Names) (t : Token) (ts : List Token) → IsKeyword keyword.Sizeof t
      → reading.unary total bounds.chain inner (at_state names (t ∷ ts)) ≡ reading.sizeof total inner (at_state names (t ∷ ts))
  sizeof_is names t ts is =
      unary_is (at_state names (t ∷ ts)) None true (sees_type_in_parens names (t ∷ ts)) (ap prefix_of is) (ap (is_keyword keyword.Sizeof) is) refl

  abbrev sizeof_by : State → Bool → Outcome (Expr × State)
  sizeof_by s b =
      if b then (inner.type_in_parens (behind s) >>= λ x. Ok (expr.SizeofType (here total s) x.0, x.1))
      else (inner.expr extent.Unary (behind s) >>= λ x. Ok (expr.SizeofExpr (here total s) x.0, x.1))

  sizeof_expr_read : (names last : Names) (t : Token) (ts rest : List Token) (a : Expr) → IsKeyword keyword.Sizeof t → (StartsTypeInParens names ts → ⊥)
      → (d : IsExpr total wide Unary place names ts rest last a) → expr_stands bounds d → sees_postfix rest ≡ false
      → Meets total bounds.later (reading.unary total bounds.chain inner (at_state names (t ∷ ts))) (Ok (expr.SizeofExpr (number_of total (t ∷ ts)) a, at_state last rest))
  unfolding reading.sizeof
  sizeof_expr_read names last t ts rest a is other d stands ends =
      same (sizeof_is names t ts is ∙ ap (sizeof_by (at_state names (t ∷ ts))) (sees_no_type names ts other))
      ▸ on (λ x. Ok (expr.SizeofExpr (number_of total (t ∷ ts)) x.0, x.1)) (complete.expr extent.Unary names last ts rest a d stands (record { no_postfix = ends }))

  sizeof_type_read : (names last : Names) (t o : Token) (ts rest : List Token) (n : TypeName) → IsKeyword keyword.Sizeof t
      → IsMark mark.OpenParen o → sees_type names ts ≡ true → (d : IsTypeInParens total wide place names (o ∷ ts) rest last n) → in_parens_stands bounds d
      → Meets total bounds.later (reading.unary total bounds.chain inner (at_state names (t ∷ o ∷ ts))) (Ok (expr.SizeofType (number_of total (t ∷ o ∷ ts)) n, at_state last rest))
  unfolding reading.sizeof
  sizeof_type_read names last t o ts rest n is opens begins d stands =
      same (sizeof_is names t (o ∷ ts) is
      ∙ ap (sizeof_by (at_state names (t ∷ o ∷ ts))) (ap (λ k. is_mark mark.OpenParen k && sees_type names ts) opens ∙ begins))
      ▸ on (λ x. Ok (expr.SizeofType (number_of total (t ∷ o ∷ ts)) x.0, x.1)) (complete.type_in_parens names last (o ∷ ts) rest n d stands)

  type_read : (names between last : Names) (o c : Token) (ts mid rest : List Token) (x : ReadSpecs) (a : Abstract Expr) → IsMark mark.OpenParen o
      → (d : AreSpecs total wide place names ts mid between x.is_typedef x.specs) → specs_stand bounds d
      → (e : IsAbstract total wide place between mid (c ∷ rest) last a) → abstract_stands bounds e → IsMark mark.CloseParen c
      → Meets total bounds.later (reading.type_in_parens total inner (at_state names (o ∷ ts))) (Ok (roll-TypeName (record { specs = x.specs; declarator = a }), at_state last rest))
  unfolding reading.type_in_parens
  type_read names between last o c ts mid rest x a opens d stand e stands closes =
      let b = abstract_begins e closes in
      same (ap (λ p. p >>= λ start. inner.specs start >>= λ x. inner.unnamed x.1 >>= λ y. expect_mark total mark.CloseParen y.1
      >>= λ s'. Ok (roll-TypeName (record { specs = x.0.specs; declarator = y.0 }), s')) (expect_there total mark.OpenParen names o ts opens))
      ▸ on_read (λ x. inner.unnamed x.1 >>= λ y. expect_mark total mark.CloseParen y.1
      >>= λ s'. Ok (roll-TypeName (record { specs = x.0.specs; declarator = y.0 }), s')) (complete.specs names between ts mid x d stand b.no_keyword b.no_brace)
      (λ read. on (λ y. expect_mark total mark.CloseParen y.1
      >>= λ s'. Ok (roll-TypeName (record { specs = x.specs; declarator = y.0 }), s'))
      (complete.unnamed (record { from = at_state names ts; found = (x, at_state between mid); reads = read }) between last mid (c ∷ rest) a e stands
      (record { no_array = ap (is_mark mark.OpenBracket) closes; no_pointer = ap (is_mark mark.Star) closes }))
      ▸ same (ap (λ p. p >>= λ s'. Ok (roll-TypeName (record { specs = x.specs; declarator = a }), s')) (expect_there total mark.CloseParen last c rest closes)))

  named_read : {names last : Names} (o : Token) {c : Token} {ts rest : List Token} {n : TypeName} → IsMark mark.OpenParen o
      → (d : IsTypeNamed total wide place names ts (c ∷ rest) last n) → type_stands bounds d → IsMark mark.CloseParen c
      → Meets total bounds.later (reading.type_in_parens total inner (at_state names (o ∷ ts))) (Ok (n, at_state last rest))
  named_read {names = names} {last = last} o {c = c} {ts = ts} {rest = rest} opens
      (grammar.type_named {between = between} {mid = mid} {is_typedef = is_typedef} {ss = ss} {a = a} d e) stands closes =
      type_read names between last o c ts mid rest (record { specs = ss; is_typedef = is_typedef }) a opens d stands.0 e stands.1 closes

  cast_read : (names between last : Names) (o c : Token) (ts mid rest : List Token) (n : TypeName) (a : Expr) → IsMark mark.OpenParen o
      → (type : IsTypeNamed total wide place names ts (c ∷ mid) between n) → type_stands bounds type → IsMark mark.CloseParen c
      → (d : IsExpr total wide Unary place between mid rest last a) → expr_stands bounds d → sees_postfix rest ≡ false
      → Meets total bounds.later (reading.unary total bounds.chain inner (at_state names (o ∷ ts))) (Ok (expr.Cast (number_of total (o ∷ ts)) n a, at_state last rest))
  unfolding reading.cast
  cast_read names between last o c ts mid rest n a opens type stand closes d stands ends =
      same (unary_is (at_state names (o ∷ ts)) None false true (ap prefix_of opens) (ap (is_keyword keyword.Sizeof) opens)
      (ap (λ k. is_mark mark.OpenParen k && sees_type names ts) opens ∙ type_begins type))
      ▸ on (λ x. inner.expr extent.Unary x.1 >>= λ y. Ok (expr.Cast (number_of total (o ∷ ts)) x.0 y.0, y.1)) (named_read o opens type stand closes)
      ▸ on (λ y. Ok (expr.Cast (number_of total (o ∷ ts)) n y.0, y.1)) (complete.expr extent.Unary between last mid rest a d stands (record { no_postfix = ends }))

  -- ---- operators between operands

  abbrev step_of : ℕ → Reader Expr
  step_of level t =
      reading.unary total bounds.chain inner t >>= λ y. reading.level_from total bounds.chain (reading.unary total bounds.chain inner) level (here total t) y.0 y.1

  -- How a level is read: its first operand, and what goes on with that.
  record Goes (level : ℕ) (names : Names) (ts rest : List Token) (last : Names) (e : Expr) : Type 0 where
    begin : Expr
    middle : Names
    mid : List Token
    begins : Meets total bounds.later (reading.unary total bounds.chain inner (at_state names ts)) (Ok (begin, at_state middle mid))
    goes : Meets total bounds.later (reading.level_from total bounds.chain (reading.unary total bounds.chain inner) level (number_of total ts) begin (at_state middle mid)) (Ok (e, at_state last rest))
    kept : reading.assign_at rest ≡ None → reading.assign_at mid ≡ None

  lowest_read : (names last : Names) (ts rest : List Token) (e : Expr)
      → Meets total bounds.later (reading.unary total bounds.chain inner (at_state names ts)) (Ok (e, at_state last rest))
      → Goes 0 names ts rest last e
  unfolding reading.level_from
  lowest_read names last ts rest e h = record { begin = e; middle = last; mid = rest; begins = h; goes = same refl; kept = λ k. k }

  chained_read : (level : ℕ) (names between last : Names) (ts mid rest : List Token) (a : Expr) (ls : List (Link Expr)) → Goes level names ts mid between a
      → Meets total bounds.later (reading.links total (step_of level) (suc level) bounds.chain [] (at_state between mid)) (Ok (ls, at_state last rest))
      → (reading.assign_at rest ≡ None → reading.assign_at mid ≡ None) → Goes (suc level) names ts rest last (linked (number_of total ts) a ls)
  unfolding reading.level_from
  chained_read level names between last ts mid rest a ls g h kept = record {
    begin = g.begin;
    middle = g.middle;
    mid = g.mid;
    begins = g.begins;
    goes =
        on (λ x. reading.links total (step_of level) (suc level) bounds.chain [] x.1 >>= λ z. Ok (linked (number_of total ts) x.0 z.0, z.1)) g.goes
        ▸ on (λ z. Ok (linked (number_of total ts) a z.0, z.1)) h;
    kept = λ k. g.kept (kept k);
  }

  step_read : (level : ℕ) (names last : Names) (ts rest : List Token) (a : Expr) → Goes level names ts rest last a
      → Meets total bounds.later (step_of level (at_state names ts)) (Ok (a, at_state last rest))
  step_read level names last ts rest a g =
      on (λ y. reading.level_from total bounds.chain (reading.unary total bounds.chain inner) level (number_of total ts) y.0 y.1) g.begins ▸ g.goes

  links_end : (level : ℕ) (names : Names) (ts : List Token) (spare : ℕ) (front : List (Link Expr)) → Stops (suc level) ts
      → reading.links total (step_of level) (suc level) spare front (at_state names ts) ≡ Ok (front ++ [], at_state names ts)
  unfolding reading.links
  links_end level names ts zero front h =
      ap (λ p. choose {A = BinaryOp} {B = Outcome (List (Link Expr) × State)} p (Ok (front, at_state names ts)) (λ op. Err (TooNested (number_of total ts))))
      (no_operator_in (suc level) ts h)
      ∙ ap (λ ls. found (ls, at_state names ts)) (sym (append-nil front))
  links_end level names ts (suc spare) front h =
      ap (λ p. choose {A = BinaryOp} {B = Outcome (List (Link Expr) × State)} p (Ok (front, at_state names ts))
      (λ op. step_of level (at_state names (tail ts))
      >>= λ x. reading.links total (step_of level) (suc level) spare (front ++ record { at = number_of total ts; op = op; right = x.0 } ∷ []) x.1))
      (no_operator_in (suc level) ts h)
      ∙ ap (λ ls. found (ls, at_state names ts)) (sym (append-nil front))

  links_step : (level : ℕ) (names between : Names) (t : Token) (ts mid : List Token) (op : BinaryOp) (a : Expr) (spare : ℕ) (front : List (Link Expr))
      → operator_of t.kind ≡ placed (suc level) op → Goes level names ts mid between a
      → Meets total bounds.later (reading.links total (step_of level) (suc level) (suc spare) front (at_state names (t ∷ ts)))
      (reading.links total (step_of level) (suc level) spare (front ++ record { at = number_of total (t ∷ ts); op = op; right = a } ∷ []) (at_state between mid))
  unfolding reading.links
  links_step level names between t ts mid op a spare front is g =
      same (ap (λ p. choose {A = BinaryOp} {B = Outcome (List (Link Expr) × State)} p (Ok (front, at_state names (t ∷ ts)))
      (λ op. step_of level (at_state names ts)
      >>= λ x. reading.links total (step_of level) (suc level) spare (front ++ record { at = number_of total (t ∷ ts); op = op; right = x.0 } ∷ []) x.1))
      (operator_there (suc level) op t ts is))
      ▸ on (λ x. reading.links total (step_of level) (suc level) spare (front ++ record { at = number_of total (t ∷ ts); op = op; right = x.0 } ∷ []) x.1)
      (step_read level names between ts mid a g)

  -- one more operator than a chain may have
  links_late : (level : ℕ) (names : Names) (t : Token) (ts : List Token) (op : BinaryOp) (front : List (Link Expr))
      → operator_of t.kind ≡ placed (suc level) op → length (t ∷ ts) ≤ bounds.later → (p : Outcome (List (Link Expr) × State))
      → Meets total bounds.later (reading.links total (step_of level) (suc level) zero front (at_state names (t ∷ ts))) p
  unfolding reading.links
  links_late level names t ts op front is late p =
      stopped total bounds.later (reading.links total (step_of level) (suc level) zero front (at_state names (t ∷ ts))) t ts late
      (ap (λ p. choose {A = BinaryOp} {B = Outcome (List (Link Expr) × State)} p (Ok (front, at_state names (t ∷ ts))) (λ op. Err (TooNested (number_of total (t ∷ ts)))))
      (operator_there (suc level) op t ts is)) p

  links_go : (level : ℕ) (names between last : Names) (t : Token) (ts mid rest : List Token) (op : BinaryOp) (a : Expr) (ls : List (Link Expr))
      → (before spare : ℕ) (front : List (Link Expr)) → before + spare ≡ bounds.chain → Follows bounds before (t ∷ ts)
      → operator_of t.kind ≡ placed (suc level) op → Goes level names ts mid between a
      → ((spare : ℕ) (front : List (Link Expr)) → suc before + spare ≡ bounds.chain
      → Meets total bounds.later (reading.links total (step_of level) (suc level) spare front (at_state between mid)) (Ok (front ++ ls, at_state last rest)))
      → Meets total bounds.later (reading.links total (step_of level) (suc level) spare front (at_state names (t ∷ ts)))
      (Ok (front ++ record { at = number_of total (t ∷ ts); op = op; right = a } ∷ ls, at_state last rest))
  links_go level names between last t ts mid rest op a ls before zero front left follows is g further =
      let full : bounds.chain ≤ before = omega arith in
      links_late level names t ts op front is (follows full) (Ok (front ++ record { at = number_of total (t ∷ ts); op = op; right = a } ∷ ls, at_state last rest))
  links_go level names between last t ts mid rest op a ls before (suc spare) front left follows is g further =
      let fewer : suc before + spare ≡ bounds.chain = omega arith in
      links_step level names between t ts mid op a spare front is g
      ▸ further spare (front ++ record { at = number_of total (t ∷ ts); op = op; right = a } ∷ []) fewer
      ▸ same (ap (λ xs. found (xs, at_state last rest)) (append_assoc front (record { at = number_of total (t ∷ ts); op = op; right = a } ∷ []) ls))

  -- ---- conditions, assignments and commas

  -- how a condition is read: its first operand, and what goes on with that
  record GoesCond (names : Names) (ts rest : List Token) (last : Names) (e : Expr) : Type 0 where
    begin : Expr
    middle : Names
    mid : List Token
    begins : Meets total bounds.later (reading.unary total bounds.chain inner (at_state names ts)) (Ok (begin, at_state middle mid))
    goes : Meets total bounds.later (reading.cond_from total bounds.chain inner (number_of total ts) begin (at_state middle mid)) (Ok (e, at_state last rest))
    kept : reading.assign_at rest ≡ None → reading.assign_at mid ≡ None

  -- what goes on with a condition's test
  abbrev asked : ℕ → Expr × State → Bool → Outcome (Expr × State)
  asked token x b =
      if b then (inner.expr extent.Comma (behind x.1) >>= λ y. expect_mark total mark.Colon y.1 >>= λ s'. inner.expr extent.Cond s'
      >>= λ z. Ok (expr.Conditional token x.0 (here total x.1) y.0 z.0, z.1)) else Ok x

  cond_from_is : (names last : Names) (ts rest : List Token) (e : Expr) (b : Bool) (g : Goes 10 names ts rest last e) → sees_mark mark.Question rest ≡ b
      → Meets total bounds.later (reading.cond_from total bounds.chain inner (number_of total ts) g.begin (at_state g.middle g.mid)) (asked (number_of total ts) (e, at_state last rest) b)
  unfolding reading.cond_from
  cond_from_is names last ts rest e b g h =
      on (λ x. asked (number_of total ts) x (sees_mark mark.Question x.1.rest)) g.goes ▸ same (ap (asked (number_of total ts) (e, at_state last rest)) h)

  binary_read : (names last : Names) (ts rest : List Token) (e : Expr) → EndsCond rest → Goes 10 names ts rest last e → GoesCond names ts rest last e
  binary_read names last ts rest e ends g = record {
    begin = g.begin;
    middle = g.middle;
    mid = g.mid;
    begins = g.begins;
    goes = cond_from_is names last ts rest e false g ends.no_question;
    kept = g.kept;
  }

  conditional_read : (names n m last : Names) (q c : Token) (ts mid more rest : List Token) (a b d : Expr) → Goes 10 names ts (q ∷ mid) n a → IsMark mark.Question q
      → (middle : IsExpr total wide Comma place n mid (c ∷ more) m b) → expr_stands bounds middle → IsMark mark.Colon c
      → (otherwise : IsExpr total wide Cond place m more rest last d) → expr_stands bounds otherwise → EndsCond rest
      → GoesCond names ts rest last (expr.Conditional (number_of total ts) a (number_of total (q ∷ mid)) b d)
  conditional_read names n m last q c ts mid more rest a b d g question middle stand colon otherwise stands ends = record {
    begin = g.begin;
    middle = g.middle;
    mid = g.mid;
    begins = g.begins;
    goes =
        cond_from_is names n ts (q ∷ mid) a true g (ap (is_mark mark.Question) question)
        ▸ on (λ y. expect_mark total mark.Colon y.1 >>= λ s'. inner.expr extent.Cond s'
        >>= λ z. Ok (expr.Conditional (number_of total ts) a (number_of total (q ∷ mid)) y.0 z.0, z.1)) (complete.expr extent.Comma n m mid (c ∷ more) b middle stand (ends_at_colon c more colon))
        ▸ same (ap (λ o. o >>= λ s'. inner.expr extent.Cond s' >>= λ z. Ok (expr.Conditional (number_of total ts) a (number_of total (q ∷ mid)) b z.0, z.1)) (expect_there total mark.Colon m c more colon))
        ▸ on (λ z. Ok (expr.Conditional (number_of total ts) a (number_of total (q ∷ mid)) b z.0, z.1)) (complete.expr extent.Cond m last more rest d otherwise stands ends);
    kept = λ _. g.kept (ap assign_of question);
  }

  cond_read : (names last : Names) (ts rest : List Token) (e : Expr) → GoesCond names ts rest last e
      → Meets total bounds.later (reading.cond total bounds.chain inner (at_state names ts)) (Ok (e, at_state last rest))
  unfolding reading.cond
  cond_read names last ts rest e g = on (λ x. reading.cond_from total bounds.chain inner (number_of total ts) x.0 x.1) g.begins ▸ g.goes

  -- what goes on with a first operand
  abbrev assigned_by : ℕ → Expr × State → Option AssignOp → Outcome (Expr × State)
  assigned_by token x o =
      choose o (reading.cond_from total bounds.chain inner token x.0 x.1)
      (λ op. inner.expr extent.Assign (behind x.1) >>= λ y. Ok (expr.Assign token x.0 (here total x.1) op y.0, y.1))

  value_read : (names last : Names) (ts rest : List Token) (e : Expr) → EndsAssign rest → GoesCond names ts rest last e
      → Meets total bounds.later (reading.assign total bounds.chain inner (at_state names ts)) (Ok (e, at_state last rest))
  unfolding reading.assign
  value_read names last ts rest e ends g =
      on (λ x. assigned_by (number_of total ts) x (reading.assign_at x.1.rest)) g.begins
      ▸ same (ap (assigned_by (number_of total ts) (g.begin, at_state g.middle g.mid)) (g.kept ends.no_assign))
      ▸ g.goes

  assigned_read : (names between last : Names) (t : Token) (ts mid rest : List Token) (a b : Expr) (op : AssignOp)
      → Meets total bounds.later (reading.unary total bounds.chain inner (at_state names ts)) (Ok (a, at_state between (t ∷ mid))) → assign_of t.kind ≡ Some op
      → (right : IsExpr total wide Assign place between mid rest last b) → expr_stands bounds right → EndsAssign rest
      → Meets total bounds.later (reading.assign total bounds.chain inner (at_state names ts)) (Ok (expr.Assign (number_of total ts) a (number_of total (t ∷ mid)) op b, at_state last rest))
  unfolding reading.assign
  assigned_read names between last t ts mid rest a b op target is right stands ends =
      on (λ x. assigned_by (number_of total ts) x (reading.assign_at x.1.rest)) target
      ▸ same (ap (assigned_by (number_of total ts) (a, at_state between (t ∷ mid))) is)
      ▸ on (λ y. Ok (expr.Assign (number_of total ts) a (number_of total (t ∷ mid)) op y.0, y.1)) (complete.expr extent.Assign between last mid rest b right stands ends)

  others_end : (names : Names) (ts : List Token) (spare : ℕ) (front : List Expr) → EndsComma ts
      → reading.others total (reading.assign total bounds.chain inner) spare front (at_state names ts) ≡ Ok (front ++ [], at_state names ts)
  unfolding reading.others
  others_end names ts zero front ends =
      ap (λ b. if b then Err (TooNested (number_of total ts)) else found (front, at_state names ts)) ends.no_comma
      ∙ ap (λ es. found (es, at_state names ts)) (sym (append-nil front))
  others_end names ts (suc spare) front ends =
      ap (λ b. if b then (reading.assign total bounds.chain inner (at_state names (tail ts)) >>= λ x. reading.others total (reading.assign total bounds.chain inner) spare (front ++ x.0 ∷ []) x.1)
      else found (front, at_state names ts)) ends.no_comma
      ∙ ap (λ es. found (es, at_state names ts)) (sym (append-nil front))

  others_go : (names between last : Names) (t : Token) (ts mid rest : List Token) (a : Expr) (es : List Expr)
      → (before spare : ℕ) (front : List Expr) → before + spare ≡ bounds.chain → Follows bounds before (t ∷ ts)
      → IsMark mark.Comma t → Meets total bounds.later (reading.assign total bounds.chain inner (at_state names ts)) (Ok (a, at_state between mid))
      → ((spare : ℕ) (front : List Expr) → suc before + spare ≡ bounds.chain
      → Meets total bounds.later (reading.others total (reading.assign total bounds.chain inner) spare front (at_state between mid)) (Ok (front ++ es, at_state last rest)))
      → Meets total bounds.later (reading.others total (reading.assign total bounds.chain inner) spare front (at_state names (t ∷ ts))) (Ok (front ++ a ∷ es, at_state last rest))
  unfolding reading.others
  others_go names between last t ts mid rest a es before zero front left follows comma one further =
      let full : bounds.chain ≤ before = omega arith in
      stopped total bounds.later (reading.others total (reading.assign total bounds.chain inner) zero front (at_state names (t ∷ ts))) t ts (follows full)
      (ap (λ b. if b then Err (TooNested (number_of total (t ∷ ts))) else found (front, at_state names (t ∷ ts))) (sees_it mark.Comma t comma))
      (Ok (front ++ a ∷ es, at_state last rest))
  others_go names between last t ts mid rest a es before (suc spare) front left follows comma one further =
      let fewer : suc before + spare ≡ bounds.chain = omega arith in
      same (ap (λ b. if b then (reading.assign total bounds.chain inner (at_state names ts) >>= λ x. reading.others total (reading.assign total bounds.chain inner) spare (front ++ x.0 ∷ []) x.1)
      else found (front, at_state names (t ∷ ts))) (sees_it mark.Comma t comma))
      ▸ on (λ x. reading.others total (reading.assign total bounds.chain inner) spare (front ++ x.0 ∷ []) x.1) one
      ▸ further spare (front ++ a ∷ []) fewer
      ▸ same (ap (λ xs. found (xs, at_state last rest)) (append_assoc front (a ∷ []) es))

  comma_read : (names between last : Names) (ts mid rest : List Token) (a : Expr) (es : List Expr)
      → Meets total bounds.later (reading.assign total bounds.chain inner (at_state names ts)) (Ok (a, at_state between mid))
      → Meets total bounds.later (reading.others total (reading.assign total bounds.chain inner) bounds.chain [] (at_state between mid)) (Ok (es, at_state last rest))
      → Meets total bounds.later (reading.comma total bounds.chain inner (at_state names ts)) (Ok (listed (number_of total ts) a es, at_state last rest))
  unfolding reading.comma
  comma_read names between last ts mid rest a es one more =
      on (λ x. reading.others total (reading.assign total bounds.chain inner) bounds.chain [] x.1 >>= λ y. Ok (listed (number_of total ts) x.0 y.0, y.1)) one
      ▸ on (λ y. Ok (listed (number_of total ts) a y.0, y.1)) more

-- ---- all together

links_stop : {total most level room : ℕ} {names last : Names} {ts rest : List Token} {ls : List (Link Expr)}
    → AreLinks total most level room names ts rest last ls → Stops (suc level) rest → Stops level ts
links_stop {level = level} {rest = rest} grammar.no_links stops = stops_below level rest stops
links_stop {level = level} (grammar.more_links {t = t} {ts = ts} op is d more) stops = operator_stops level op t ts is

links_kept : {total most level room : ℕ} {names last : Names} {ts rest : List Token} {ls : List (Link Expr)}
    → AreLinks total most level room names ts rest last ls → reading.assign_at rest ≡ None → reading.assign_at ts ≡ None
links_kept grammar.no_links h = h
links_kept {level = level} (grammar.more_links {t = t} {ts = ts} op is d more) h = (operator_single t ts (suc level, op) is).no_assign

others_stop : {total most room : ℕ} {names last : Names} {ts rest : List Token} {es : List Expr}
    → AreOthers total most room names ts rest last es → EndsComma rest → EndsAssign ts
others_stop grammar.no_others ends = ends.assign
others_stop (grammar.more_others {t = t} {ts = ts} comma d more) ends = ends_at_comma t ts comma

ends_stop : (rest : List Token) → EndsCond rest → Stops 10 rest
ends_stop rest ends = stops_at_none 10 rest ends.unary.no_postfix ends.no_operator

abbrev IsRead : (total wide : ℕ) (bounds : Bounds) (place : ℕ) → (inner : Inner) → Complete total wide bounds place inner → Part → Names → List Token → List Token → Names → Expr → Type 0
IsRead total wide bounds place inner complete Primary names ts rest last e =
    Meets total bounds.later (reading.primary total inner (at_state names ts)) (Ok (e, at_state last rest))
IsRead total wide bounds place inner complete Postfix names ts rest last e =
    sees_postfix rest ≡ false → Meets total bounds.later (reading.postfix total bounds.chain inner (at_state names ts)) (Ok (e, at_state last rest))
IsRead total wide bounds place inner complete Unary names ts rest last e =
    sees_postfix rest ≡ false → Meets total bounds.later (reading.unary total bounds.chain inner (at_state names ts)) (Ok (e, at_state last rest))
IsRead total wide bounds place inner complete (Level level) names ts rest last e = Stops level rest → Goes total wide bounds place inner complete level names ts rest last e
IsRead total wide bounds place inner complete Cond names ts rest last e = EndsCond rest → GoesCond total wide bounds place inner complete names ts rest last e
IsRead total wide bounds place inner complete Assign names ts rest last e =
    EndsAssign rest → Meets total bounds.later (reading.assign total bounds.chain inner (at_state names ts)) (Ok (e, at_state last rest))
IsRead total wide bounds place inner complete Comma names ts rest last e =
    EndsComma rest → Meets total bounds.later (reading.comma total bounds.chain inner (at_state names ts)) (Ok (e, at_state last rest))

mutual
  expr_read : {total wide : ℕ} (bounds : Bounds) {place : ℕ} (inner : Inner) (complete : Complete total wide bounds place inner) {part : Part} {names last : Names} {ts rest : List Token} {e : Expr}
      → (d : IsExpr total wide part (suc place) names ts rest last e) → expr_stands bounds d → IsRead total wide bounds place inner complete part names ts rest last e
  expr_read {total = total} {wide = wide} bounds {place = place} inner c (grammar.name {names = names} {t = t} {rest = rest} is) stand = same (name_read total wide bounds place inner c names t rest is)
  expr_read {total = total} {wide = wide} bounds {place = place} inner c (grammar.number {names = names} {t = t} {rest = rest} type is) stand = same (number_read total wide bounds place inner c names t rest type is)
  expr_read {total = total} {wide = wide} bounds {place = place} inner c (grammar.character {names = names} {t = t} {rest = rest} is) stand = same (character_read total wide bounds place inner c names t rest is)
  expr_read {total = total} {wide = wide} bounds {place = place} inner c (grammar.text {names = names} {t = t} {rest = rest} is) stand = same (text_read total wide bounds place inner c names t rest is)
  expr_read {total = total} {wide = wide} bounds {place = place} inner c (grammar.paren {names = names} {after = last} {t = t} {c = close} {ts = ts} {rest = rest} {a = a} opens d closes) stand =
      paren_read total wide bounds place inner c names last t close ts rest a opens d stand.1 closes
  expr_read {total = total} {wide = wide} bounds {place = place} inner c (grammar.postfix {names = names} {between = between} {after = last} {ts = ts} {mid = mid} {rest = rest} {a = a} {os = os} d more few) stand =
      postfix_read total wide bounds place inner c names between last ts mid rest a os (expr_read bounds inner c d stand.0) more stand.1
  expr_read {total = total} {wide = wide} bounds {place = place} inner c (grammar.operand {names = names} {after = last} {ts = ts} {rest = rest} {a = a} d) stand =
      λ ends. operand_read total wide bounds place inner c names ts (a, at_state last rest) (postfix_begins d) (expr_read bounds inner c d stand ends)
  expr_read {total = total} {wide = wide} bounds {place = place} inner c (grammar.prefixed {names = names} {after = last} {t = t} {ts = ts} {rest = rest} {a = a} op is d) stand =
      prefixed_read total wide bounds place inner c names last t ts rest a op is d stand.1
  expr_read {total = total} {wide = wide} bounds {place = place} inner c (grammar.sizeof_expr {names = names} {after = last} {t = t} {ts = ts} {rest = rest} {a = a} is other d) stand =
      sizeof_expr_read total wide bounds place inner c names last t ts rest a is other d stand.1
  expr_read {total = total} {wide = wide} bounds inner c (grammar.sizeof_type {room = room} {names = names} {after = last} {t = t} {o = o} {c = close} {ts = ts} {rest = rest} {n = n} is opens d closes) stand =
      λ ends. sizeof_type_read total wide bounds (suc room) inner c names last t o ts rest n is opens (type_begins d)
      (record { inner = room; open_token = o; start = ts; close_token = close; room_is = refl; ts_are = refl; opens = opens; named = d; closes = closes })
      (stand.1, stand.2, stand.3)
  expr_read {total = total} {wide = wide} bounds {place = place} inner c (grammar.cast {names = names} {between = between} {after = last} {o = o} {c = close} {ts = ts} {mid = mid} {rest = rest} {n = n} {a = a} opens type closes d) stand =
      cast_read total wide bounds place inner c names between last o close ts mid rest n a opens type stand.1 closes d stand.3
  expr_read {total = total} {wide = wide} bounds {place = place} inner c (grammar.lowest {names = names} {after = last} {ts = ts} {rest = rest} {a = a} d) stand =
      λ stops. lowest_read total wide bounds place inner c names last ts rest a (expr_read bounds inner c d stand stops.no_postfix)
  expr_read {total = total} {wide = wide} bounds {place = place} inner c (grammar.chained {level = level} {names = names} {between = between} {after = last} {ts = ts} {mid = mid} {rest = rest} {a = a} {ls = ls} d more few) stand =
      λ stops. chained_read total wide bounds place inner c level names between last ts mid rest a ls (expr_read bounds inner c d stand.0 (links_stop more stops))
      (links_read bounds inner c more 0 stand.1 stops bounds.chain [] (omega arith)) (links_kept more)
  expr_read {total = total} {wide = wide} bounds {place = place} inner c (grammar.binary {names = names} {after = last} {ts = ts} {rest = rest} {a = a} d) stand =
      λ ends. binary_read total wide bounds place inner c names last ts rest a ends (expr_read bounds inner c d stand (ends_stop rest ends))
  expr_read {total = total} {wide = wide} bounds {place = place} inner c (grammar.conditional {names = names} {n = n} {m = m} {after = last} {q = q} {c = colon} {ts = ts} {mid = mid} {more = more} {rest = rest} {a = a} {b = b} {d = d} test question middle is otherwise) stand =
      λ ends. conditional_read total wide bounds place inner c names n m last q colon ts mid more rest a b d (expr_read bounds inner c test stand.0 (question_stops 10 q mid question)) question middle stand.2 is otherwise stand.4 ends
  expr_read {total = total} {wide = wide} bounds {place = place} inner c (grammar.value {names = names} {after = last} {ts = ts} {rest = rest} {a = a} d) stand =
      λ ends. value_read total wide bounds place inner c names last ts rest a ends (expr_read bounds inner c d stand ends.cond)
  expr_read {total = total} {wide = wide} bounds {place = place} inner c (grammar.assigned {names = names} {between = between} {after = last} {t = t} {ts = ts} {mid = mid} {rest = rest} {a = a} {b = b} op d is right) stand =
      λ ends. assigned_read total wide bounds place inner c names between last t ts mid rest a b op (expr_read bounds inner c d stand.0 (assign_no_postfix t mid op is)) is right stand.2 ends
  expr_read {total = total} {wide = wide} bounds {place = place} inner c (grammar.comma {names = names} {between = between} {after = last} {ts = ts} {mid = mid} {rest = rest} {a = a} {es = es} d more few) stand =
      λ ends. comma_read total wide bounds place inner c names between last ts mid rest a es (expr_read bounds inner c d stand.0 (others_stop more ends))
      (others_read bounds inner c more 0 stand.1 ends bounds.chain [] (omega arith))

  links_read : {total wide : ℕ} (bounds : Bounds) {place level : ℕ} (inner : Inner) (complete : Complete total wide bounds place inner) {names last : Names} {ts rest : List Token} {ls : List (Link Expr)}
      → (d : AreLinks total wide level (suc place) names ts rest last ls) → (before : ℕ) → links_stand bounds before d → Stops (suc level) rest
      → (spare : ℕ) (front : List (Link Expr)) → before + spare ≡ bounds.chain
      → Meets total bounds.later (reading.links total (step_of total wide bounds place inner complete level) (suc level) spare front (at_state names ts)) (Ok (front ++ ls, at_state last rest))
  links_read {total = total} {wide = wide} bounds {place = place} {level = level} inner c {names = names} {rest = rest} grammar.no_links before stand stops spare front left =
      same (links_end total wide bounds place inner c level names rest spare front stops)
  links_read {total = total} {wide = wide} bounds {place = place} {level = level} inner c {last = last} {rest = rest}
      (grammar.more_links {names = names} {between = between} {t = t} {ts = ts} {mid = mid} {a = a} {ls = ls} op is d more) before stand stops spare front left =
      links_go total wide bounds place inner c level names between last t ts mid rest op a ls before spare front left stand.1 is
      (expr_read bounds inner c d stand.2 (links_stop more stops)) (links_read bounds inner c more (suc before) stand.3 stops)

  others_read : {total wide : ℕ} (bounds : Bounds) {place : ℕ} (inner : Inner) (complete : Complete total wide bounds place inner) {names last : Names} {ts rest : List Token} {es : List Expr}
      → (d : AreOthers total wide (suc place) names ts rest last es) → (before : ℕ) → others_stand bounds before d → EndsComma rest
      → (spare : ℕ) (front : List Expr) → before + spare ≡ bounds.chain
      → Meets total bounds.later (reading.others total (reading.assign total bounds.chain inner) spare front (at_state names ts)) (Ok (front ++ es, at_state last rest))
  others_read {total = total} {wide = wide} bounds {place = place} inner c {names = names} {rest = rest} grammar.no_others before stand ends spare front left =
      same (others_end total wide bounds place inner c names rest spare front ends)
  others_read {total = total} {wide = wide} bounds {place = place} inner c {last = last} {rest = rest}
      (grammar.more_others {names = names} {between = between} {t = t} {ts = ts} {mid = mid} {a = a} {es = es} comma d more) before stand ends spare front left =
      others_go total wide bounds place inner c names between last t ts mid rest a es before spare front left stand.1 comma
      (expr_read bounds inner c d stand.2 (others_stop more ends)) (others_read bounds inner c more (suc before) stand.3 ends)

extent_read : (total wide : ℕ) (bounds : Bounds) (place : ℕ) (inner : Inner) → Complete total wide bounds place inner
    → (x : Extent) (names last : Names) (ts rest : List Token) (e : Expr)
    → (d : IsExpr total wide (part_of x) (suc place) names ts rest last e) → expr_stands bounds d → Ends x rest
    → Meets total bounds.later (reading.expr_of total bounds.chain inner x (at_state names ts)) (Ok (e, at_state last rest))
unfolding reading.expr_of
extent_read total wide bounds place inner c extent.Unary names last ts rest e d stand ends = expr_read bounds inner c d stand ends.no_postfix
extent_read total wide bounds place inner c extent.Cond names last ts rest e d stand ends = cond_read total wide bounds place inner c names last ts rest e (expr_read bounds inner c d stand ends)
extent_read total wide bounds place inner c extent.Assign names last ts rest e d stand ends = expr_read bounds inner c d stand ends
extent_read total wide bounds place inner c extent.Comma names last ts rest e d stand ends = expr_read bounds inner c d stand ends

pub expr_complete : (total wide : ℕ) (bounds : Bounds) (place : ℕ) (inner : Inner) → Complete total wide bounds place inner
    → (x : Extent) (names last : Names) (ts rest : List Token) (e : Expr)
    → (d : IsExpr total wide (part_of x) (suc place) names ts rest last e) → expr_stands bounds d → Ends x rest
    → Meets total bounds.later (reading.expr_of total bounds.chain inner x (at_state names ts)) (Ok (e, at_state last rest))
expr_complete total wide bounds place inner complete x names last ts rest e d stand ends =
    extent_read total wide bounds place inner complete x names last ts rest e d stand ends

in_parens_read : (total wide : ℕ) (bounds : Bounds) (room : ℕ) (inner : Inner) → Complete total wide bounds room inner
    → (names last : Names) (o c : Token) (ts rest : List Token) (n : TypeName) (place : ℕ) → room ≡ place
    → IsMark mark.OpenParen o → (d : IsTypeNamed total wide place names ts (c ∷ rest) last n) → type_stands bounds d → IsMark mark.CloseParen c
    → Meets total bounds.later (reading.type_in_parens total inner (at_state names (o ∷ ts))) (Ok (n, at_state last rest))
in_parens_read total wide bounds room inner complete names last o c ts rest n place moved opens d stand closes =
    subst (λ (r : ℕ). (d : IsTypeNamed total wide r names ts (c ∷ rest) last n) → type_stands bounds d
    → Meets total bounds.later (reading.type_in_parens total inner (at_state names (o ∷ ts))) (Ok (n, at_state last rest))) moved
    (λ d stand. named_read total wide bounds room inner complete o opens d stand closes) d stand

pub type_complete : (total wide : ℕ) (bounds : Bounds) (place : ℕ) (inner : Inner) → Complete total wide bounds place inner
    → (names last : Names) (ts rest : List Token) (n : TypeName)
    → (d : IsTypeInParens total wide (suc place) names ts rest last n) → in_parens_stands bounds d
    → Meets total bounds.later (reading.type_in_parens total inner (at_state names ts)) (Ok (n, at_state last rest))
type_complete total wide bounds place inner complete names last ts rest n d stand =
    let moved : place ≡ d.inner = omega (arith, d.room_is) in
    same (ap (λ us. reading.type_in_parens total inner (at_state names us)) d.ts_are)
    ▸ in_parens_read total wide bounds place inner complete names last d.open_token d.close_token d.start rest n d.inner moved d.opens d.named stand.1 d.closes
