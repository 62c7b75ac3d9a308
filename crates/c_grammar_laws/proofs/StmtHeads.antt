-- What stands in the parentheses of a statement is read, and so is an expression that may be left out, or a late token stands too deep.
use Rattle.std.proofs.Common.{◌≡◌, ℕ, zero, suc, ◌+◌, ◌≤◌, nat_eq, false, cond, Option, Some, None, Ok, Err, List, ◌∷◌, refl, sym, ap, ◌∙◌, subst, arith}
use Rattle.c_lex.specs.declared.token.Token.{Token}
use Rattle.c_lex.specs.declared.token.TokenKind.TheVariants as kind
use Rattle.c_lex.specs.declared.token.Mark.{Mark}
use Rattle.c_lex.specs.declared.token.Mark.TheVariants as mark
use Rattle.c_ast.specs.declared.expression.Expr.{Expr}
use Rattle.c_ast.specs.declared.declaration.Decl.{Decl}
use Rattle.c_ast.specs.declared.statement.ForStart.{ForStart}
use Rattle.c_ast.specs.declared.statement.ForStart.TheVariants as start
use Rattle.c_grammar.specs.declared.phrases.Extent.TheVariants as extent
use Rattle.c_grammar.specs.Names.{Names}
use Rattle.c_grammar.specs.Words.{IsMark}
use Rattle.c_grammar.specs.Grammar.{Comma, IsExpr, AreSpecs, specs, IsDecl, bare, some, IsOptional, IsForStart, IsTest, test}
use Rattle.c_grammar.specs.Grammar as grammar
use Rattle.c_grammar.specs.Nesting.{Bounds, expr_stands, decl_stands, optional_stands, for_start_stands, test_stands}
use Rattle.c_grammar.specs.Reading.{State, Outcome, ◌>>=◌, behind, expect_mark}
use Rattle.c_grammar.specs.ReadingExpr.{sees_type, starts_type}
use Rattle.c_grammar.specs.ReadingDecl.{too_deep}
use Rattle.c_grammar.specs.Levels.{readers}
use Rattle.c_grammar.specs.declared.phrases.Head.{Head}
use Rattle.c_grammar.specs.ReadingStmt as reading
use Rattle.c_grammar.proofs.Late.{Meets, same, on, ◌▸◌}
use Rattle.c_grammar.proofs.Laws.{Complete, EndsComma, at_state}
use Rattle.c_grammar_laws.proofs.ExprTokens.{unequal, expr_begins}
use Rattle.c_grammar_laws.proofs.ExprComplete.{sees_it, expect_there, ends_comma, ends_at_paren}
use Rattle.c_grammar_laws.proofs.FirstStands.{LateFirst, stops_first, for_start_first}
use Rattle.c_grammar_laws.proofs.SpecsBegin.{of_kind}
use Rattle.c_grammar_laws.proofs.StmtBegins.{opens_mark, expr_opens, other_mark}
use Rattle.c_grammar_laws.proofs.StmtDeclRead.{decl_starts, decl_read}

pub ends_at_semicolon : (t : Token) (ts : List Token) → IsMark mark.Semicolon t → EndsComma (t ∷ ts)
ends_at_semicolon t ts h = ends_comma mark.Semicolon t ts h refl refl refl refl refl

-- no type name begins with a punctuator
pub mark_no_type : (m : Mark) (names : Names) (t : Token) → IsMark m t → starts_type names t ≡ false
mark_no_type m names t is = of_kind (starts_type names) t (kind.Mark m) is

some_room : (room : ℕ) → nat_eq (suc room) 0 ≡ false
some_room room = unequal (suc room) 0 (λ e. absurd cc)

pub optional_no_type : {total most room : ℕ} {names after : Names} {ts last : List Token} {a : Option Expr} → IsOptional total most room names ts last after a
    → (m : Mark) (c : Token) (rest : List Token) → last ≡ c ∷ rest → IsMark m c → sees_type names ts ≡ false
optional_no_type (grammar.IsOptional.none {names = names}) m c rest h is = ap (sees_type names) h ∙ mark_no_type m names c is
optional_no_type (grammar.IsOptional.some d) m c rest h is = (expr_begins d).no_type

module _ (total wide : ℕ) (b : Bounds) (complete : (room place : ℕ) → place ≡ room + b.spare → Complete total wide b place (readers total b.chain room)) where
  none_read : (room : ℕ) (m : Mark) (names : Names) (c : Token) (rest : List Token) → IsMark m c
      → reading.optional total b.chain room m (at_state names (c ∷ rest)) ≡ Ok (None, at_state names rest)
  unfolding reading.optional
  none_read room m names c rest is =
      ap (λ z. cond z (Ok (None, at_state names rest))
      ((readers total b.chain room).expr extent.Comma (at_state names (c ∷ rest)) >>= λ x. expect_mark total m x.1 >>= λ s'. Ok (Some x.0, s'))) (sees_it m c is)

  some_read : (room place : ℕ) → place ≡ room + b.spare → (m : Mark) (names after : Names) (ts last : List Token) (c : Token) (rest : List Token) (a : Expr)
      → (d : IsExpr total wide Comma place names ts last after a) → expr_stands b d → last ≡ c ∷ rest → opens_mark m ≡ false → IsMark m c
      → EndsComma (c ∷ rest) → Meets total b.later (reading.optional total b.chain room m (at_state names ts)) (Ok (Some a, at_state after rest))
  unfolding reading.optional
  some_read room place at m names after ts last c rest a d stands h other is ends =
      same (ap (λ z. cond z (Ok (None, behind (at_state names ts)))
      ((readers total b.chain room).expr extent.Comma (at_state names ts) >>= λ x. expect_mark total m x.1 >>= λ s'. Ok (Some x.0, s'))) (other_mark m names ts other (expr_opens d)))
      ▸ on (λ x. expect_mark total m x.1 >>= λ s'. Ok (Some x.0, s'))
      ((complete room place at).expr extent.Comma names after ts last a d stands (subst (λ us. EndsComma us) (sym h) ends))
      ▸ same (ap (λ us. expect_mark total m (at_state after us) >>= λ s'. Ok (Some a, s')) h
      ∙ ap (λ o. o >>= λ s'. Ok (Some a, s')) (expect_there total m after c rest is))

  pub optional_read : {place : ℕ} {names after : Names} {ts last : List Token} {a : Option Expr} → (d : IsOptional total wide place names ts last after a)
      → optional_stands b d → (room : ℕ) → place ≡ room + b.spare
      → (m : Mark) (c : Token) (rest : List Token) → last ≡ c ∷ rest → IsMark m c → opens_mark m ≡ false → EndsComma (c ∷ rest)
      → Meets total b.later (reading.optional total b.chain room m (at_state names ts)) (Ok (a, at_state after rest))
  optional_read (grammar.IsOptional.none {names = names}) stands room at m c rest h is other ends =
      same (ap (λ us. reading.optional total b.chain room m (at_state names us)) h ∙ none_read room m names c rest is)
  optional_read (grammar.IsOptional.some {room = place} {names = names} {after = after} {ts = ts} {rest = last} {a = a} d) stands room at m c rest h is other ends =
      some_read room place at m names after ts last c rest a d stands h other is ends

  test_then : (room place : ℕ) → place ≡ room + b.spare → (names after : Names) (o c : Token) (ts rest : List Token) (a : Expr) → IsMark mark.OpenParen o
      → (d : IsExpr total wide Comma place names ts (c ∷ rest) after a) → expr_stands b d → IsMark mark.CloseParen c
      → Meets total b.later (reading.bracketed total b.chain room (at_state names (o ∷ ts))) (Ok (a, at_state after rest))
  unfolding reading.bracketed
  test_then room place at names after o c ts rest a opens d stands closes =
      same (ap (λ r. r >>= λ start. (readers total b.chain room).expr extent.Comma start >>= λ x. expect_mark total mark.CloseParen x.1 >>= λ s'. Ok (x.0, s'))
      (expect_there total mark.OpenParen names o ts opens))
      ▸ on (λ x. expect_mark total mark.CloseParen x.1 >>= λ s'. Ok (x.0, s'))
      ((complete room place at).expr extent.Comma names after ts (c ∷ rest) a d stands (ends_at_paren c rest closes))
      ▸ same (ap (λ r. r >>= λ s'. Ok (a, s')) (expect_there total mark.CloseParen after c rest closes))

  -- by the room inside of the parentheses
  pub test_read : {place : ℕ} {names after : Names} {ts rest : List Token} {a : Expr} → (d : IsTest total wide (suc place) names ts rest after a)
      → test_stands b d → (room : ℕ) → place ≡ room + b.spare
      → Meets total b.later (reading.bracketed total b.chain room (at_state names ts)) (Ok (a, at_state after rest))
  test_read (test {room = place} {names = names} {after = after} {o = o} {c = c} {ts = ts} {rest = rest} {a = a} opens d closes) stands room at =
      test_then room place at names after o c ts rest a opens d stands.1 closes

  -- ---- the head of a `for`

  declaration_read : (room place : ℕ) → place ≡ room + b.spare → (names after : Names) (ts rest : List Token) (d : Decl)
      → (is : IsDecl total wide place names ts rest after d) → decl_stands b is
      → Meets total b.later (reading.for_start total b.chain room (at_state names ts)) (Ok (start.Declaration d, at_state after rest))
  unfolding reading.for_start
  declaration_read room place at names after ts rest d is stands =
      same (ap (λ z. cond z (reading.decl total b.chain room (at_state names ts) >>= λ x. Ok (start.Declaration x.0, x.1))
      (reading.optional total b.chain room mark.Semicolon (at_state names ts) >>= λ x. Ok (start.Expression x.0, x.1))) (decl_starts is))
      ▸ on (λ x. Ok (start.Declaration x.0, x.1)) (decl_read total wide b complete is stands room at)

  expression_read : (room place : ℕ) → place ≡ room + b.spare → (names after : Names) (ts : List Token) (c : Token) (rest : List Token) (a : Option Expr)
      → (is : IsOptional total wide place names ts (c ∷ rest) after a) → optional_stands b is → IsMark mark.Semicolon c
      → Meets total b.later (reading.for_start total b.chain room (at_state names ts)) (Ok (start.Expression a, at_state after rest))
  unfolding reading.for_start
  expression_read room place at names after ts c rest a is stands ends =
      same (ap (λ z. cond z (reading.decl total b.chain room (at_state names ts) >>= λ x. Ok (start.Declaration x.0, x.1))
      (reading.optional total b.chain room mark.Semicolon (at_state names ts) >>= λ x. Ok (start.Expression x.0, x.1))) (optional_no_type is mark.Semicolon c rest refl ends))
      ▸ on (λ x. Ok (start.Expression x.0, x.1)) (optional_read is stands room at mark.Semicolon c rest refl ends refl (ends_at_semicolon c rest ends))

  start_read : {place : ℕ} {names after : Names} {ts rest : List Token} {a : ForStart} → (d : IsForStart total wide place names ts rest after a)
      → for_start_stands b d → (room : ℕ) → place ≡ room + b.spare
      → Meets total b.later (reading.for_start total b.chain room (at_state names ts)) (Ok (a, at_state after rest))
  start_read (grammar.IsForStart.declaration {room = place} {names = names} {after = after} {ts = ts} {rest = rest} {d = d} is) stands room at =
      declaration_read room place at names after ts rest d is stands
  start_read (grammar.IsForStart.expression {room = place} {names = names} {after = after} {s = c} {ts = ts} {rest = rest} {a = a} is ends) stands room at =
      expression_read room (suc place) at names after ts c rest a is stands.0 ends

  -- where there is room
  head_there : (room place : ℕ) → place ≡ suc room + b.spare → (names n m k : Names) (ts mid more end : List Token) (s c : Token) (a : ForStart) (e d : Option Expr)
      → (first : IsForStart total wide place names ts mid n a) → for_start_stands b first
      → (second : IsOptional total wide place n mid (s ∷ more) m e) → optional_stands b second → IsMark mark.Semicolon s
      → (third : IsOptional total wide place m more (c ∷ end) k d) → optional_stands b third → IsMark mark.CloseParen c
      → Meets total b.later (reading.for_head total b.chain (suc room) (at_state names ts)) (Ok (record { start = a; test = e; step = d }, at_state k end))
  unfolding reading.for_head
  head_there room place at names n m k ts mid more end s c a e d first stand second stand' ends third stand'' closes =
      same (ap (λ z. cond z (Err (too_deep total (at_state names ts))) (reading.for_start total b.chain (suc room) (at_state names ts)
      >>= λ x. reading.optional total b.chain (suc room) mark.Semicolon x.1
      >>= λ y. reading.optional total b.chain (suc room) mark.CloseParen y.1
      >>= λ z. Ok (record { start = x.0; test = y.0; step = z.0 }, z.1))) (some_room room))
      ▸ on (λ x. reading.optional total b.chain (suc room) mark.Semicolon x.1
      >>= λ y. reading.optional total b.chain (suc room) mark.CloseParen y.1
      >>= λ z. Ok (record { start = x.0; test = y.0; step = z.0 }, z.1)) (start_read first stand (suc room) at)
      ▸ on (λ y. reading.optional total b.chain (suc room) mark.CloseParen y.1
      >>= λ z. Ok (record { start = a; test = y.0; step = z.0 }, z.1))
      (optional_read second stand' (suc room) at mark.Semicolon s more refl ends refl (ends_at_semicolon s more ends))
      ▸ on (λ z. Ok (record { start = a; test = e; step = z.0 }, z.1))
      (optional_read third stand'' (suc room) at mark.CloseParen c end refl closes refl (ends_at_paren c end closes))

  no_head : (names : Names) (ts : List Token) (o : Outcome (Head × State)) → LateFirst b.later ts
      → Meets total b.later (reading.for_head total b.chain zero (at_state names ts)) o
  unfolding reading.for_head
  no_head names ts o first = stops_first total b.later names ts first o

  pub head_read : (room place : ℕ) → place ≡ room + b.spare → (names n m k : Names) (ts mid more end : List Token) (s c : Token) (a : ForStart) (e d : Option Expr)
      → (first : IsForStart total wide place names ts mid n a) → for_start_stands b first
      → (second : IsOptional total wide place n mid (s ∷ more) m e) → optional_stands b second → IsMark mark.Semicolon s
      → (third : IsOptional total wide place m more (c ∷ end) k d) → optional_stands b third → IsMark mark.CloseParen c
      → Meets total b.later (reading.for_head total b.chain room (at_state names ts)) (Ok (record { start = a; test = e; step = d }, at_state k end))
  head_read zero place at names n m k ts mid more end s c a e d first stand second stand' ends third stand'' closes =
      let deep : place ≤ b.spare = omega (arith, at) in
      no_head names ts (Ok (record { start = a; test = e; step = d }, at_state k end)) (for_start_first b first stand deep)
  head_read (suc room) place at names n m k ts mid more end s c a e d first stand second stand' ends third stand'' closes =
      head_there room place at names n m k ts mid more end s c a e d first stand second stand' ends third stand'' closes
