-- Each statement is read, and so is what stands in a block, whatever comes behind that doesn't go on with them, or a late token stands
-- too deep.
use Rattle.std.proofs.Common.{◌≡◌, ℕ, zero, suc, ◌+◌, ◌-◌, ◌≤◌, ◌++◌, nat_eq, Bool, true, false, cond, Option, Some, None, Ok, Err, List, [], ◌∷◌, length, refl, sym, ap, ◌∙◌, append_assoc, append-nil, arith}
use denote.Enum.Bare.{true_same}
use Rattle.c_lex.specs.declared.token.Token.{Token}
use Rattle.c_lex.specs.declared.token.TokenKind.{TokenKind}
use Rattle.c_lex.specs.declared.token.TokenKind.TheVariants as kind
use Rattle.c_lex.specs.declared.token.Keyword.{Keyword}
use Rattle.c_lex.specs.declared.token.Keyword.TheVariants as keyword
use Rattle.c_lex.specs.declared.token.Mark.TheVariants as mark
use Rattle.c_lex.specs.contracts.token.Keyword as keyword_contract
use Rattle.c_ast.specs.declared.expression.Expr.{Expr}
use Rattle.c_ast.specs.declared.declaration.Decl.{Decl}
use Rattle.c_ast.specs.declared.statement.Stmt.{Stmt}
use Rattle.c_ast.specs.declared.statement.Stmt.TheVariants as stmt
use Rattle.c_ast.specs.declared.statement.ForStart.{ForStart}
use Rattle.c_ast.specs.declared.statement.BlockItem.{BlockItem}
use Rattle.c_ast.specs.declared.statement.BlockItem.TheVariants as an_item
use Rattle.c_grammar.specs.declared.phrases.Extent.TheVariants as extent
use Rattle.c_grammar.specs.Names.{Names}
use Rattle.c_grammar.specs.Words.{IsMark, IsKeyword, number_of}
use Rattle.c_grammar.specs.Grammar.{Cond, IsExpr, IsDecl, IsOptional, IsForStart, IsTest, IsStmt, block, express, if_then, if_else, while_do, do_while, for_do, switch, case, default, break, continue, return, AreItems, no_items, declaration_item, statement_item}
use Rattle.c_grammar.specs.Grammar as grammar
use Rattle.c_grammar.specs.Nesting.{Bounds, expr_stands, decl_stands, optional_stands, for_start_stands, test_stands, stmt_stands, items_stand}
use Rattle.c_grammar.specs.Reading.{State, Outcome, Fault, Reader, ◌>>=◌, is_mark, is_keyword, sees_mark, sees_keyword, behind, expect_mark, expect_keyword}
use Rattle.c_grammar.specs.ReadingExpr.{sees_type, kind_starts, sees_expr}
use Rattle.c_grammar.specs.ReadingDecl.{too_deep}
use Rattle.c_grammar.specs.Levels.{readers}
use Rattle.c_grammar.specs.ReadingStmt.{left, keyword_of, keyword_at, sees_simple, by_keyword}
use Rattle.c_grammar.specs.ReadingStmt as reading
use Rattle.c_grammar.proofs.Late.{Meets, same, on, ◌▸◌}
use Rattle.c_grammar.proofs.Laws.{Complete, at_state}
use Rattle.c_grammar.proofs.Extends.{Extends, joined, closed}
use Rattle.c_grammar_laws.proofs.ExprTokens.{unequal}
use Rattle.c_grammar_laws.proofs.ExprFound.{found}
use Rattle.c_grammar_laws.proofs.ExprComplete.{sees_it, expect_there, ends_at_colon}
use Rattle.c_grammar_laws.proofs.FirstStands.{LateFirst, stops_first, simple_first, stmt_first}
use Rattle.c_grammar_laws.proofs.StmtExtends.{left_is, test_extends, start_extends, optional_extends, stmt_extends, items_extend}
use Rattle.c_grammar_laws.proofs.StmtBegins.{expr_opens, other_mark}
use Rattle.c_grammar_laws.proofs.StmtDeclRead.{decl_starts, decl_begins, decl_read}
use Rattle.c_grammar_laws.proofs.StmtHeads.{ends_at_semicolon, optional_read, test_read, head_read}
use Rattle.c_grammar_laws.proofs.StmtStarts.{stmt_begins, simple_starts, stmt_takes, items_no_else}

sees_word : (k : Keyword) (t : Token) → IsKeyword k t → is_keyword k t.kind ≡ true
sees_word k t h = ap (is_keyword k) h ∙ true_same keyword_contract.the_type k k refl

word_there : (total : ℕ) (k : Keyword) (names : Names) (t : Token) (ts : List Token) → IsKeyword k t
    → expect_keyword total k (at_state names (t ∷ ts)) ≡ Ok (at_state names ts)
unfolding expect_keyword
word_there total k names t ts h = ap (λ b. cond b (found (at_state names ts)) (Err (Fault.Unexpected (number_of total (t ∷ ts))))) (sees_word k t h)

no_room_left : (room : ℕ) → nat_eq (suc room) 0 ≡ false
no_room_left room = unequal (suc room) 0 (λ e. absurd cc)

-- the room inside of the brackets
inside : (room : ℕ) → suc room - 1 ≡ room
inside room = omega arith

module _ (total wide : ℕ) (b : Bounds) (complete : (room place : ℕ) → place ≡ room + b.spare → Complete total wide b place (readers total b.chain room)) where
  -- ---- what begins with a keyword, by the room inside of the brackets

  if_then_read : (inner : Reader Stmt) (room place : ℕ) → place ≡ room + b.spare → (token : ℕ) (names between after : Names) (ts mid rest : List Token)
      → (a : Expr) (s : Stmt) → (d : IsTest total wide (suc place) names ts mid between a) → test_stands b d
      → Meets total b.later (inner (at_state between mid)) (Ok (s, at_state after rest)) → Extends between after mid rest → sees_keyword keyword.Else rest ≡ false
      → Meets total b.later (reading.if_with total b.chain inner room token (at_state names ts)) (Ok (stmt.If token a s None, at_state names rest))
  unfolding reading.if_with
  if_then_read inner room place at token names between after ts mid rest a s d stands h grows other =
      on (λ x. inner x.1 >>= λ y. cond (sees_keyword keyword.Else y.1.rest)
      (inner (behind (left x.1.names y.1)) >>= λ z. Ok (stmt.If token x.0 y.0 (Some z.0), left names z.1))
      (Ok (stmt.If token x.0 y.0 None, left names y.1))) (test_read total wide b complete d stands room at)
      ▸ on (λ y. cond (sees_keyword keyword.Else y.1.rest)
      (inner (behind (left between y.1)) >>= λ z. Ok (stmt.If token a y.0 (Some z.0), left names z.1))
      (Ok (stmt.If token a y.0 None, left names y.1))) h
      ▸ same (ap (λ c. cond c (inner (behind (left between (at_state after rest))) >>= λ z. Ok (stmt.If token a s (Some z.0), left names z.1))
      (Ok (stmt.If token a s None, left names (at_state after rest)))) other
      ∙ ap (λ (u : State). Ok (stmt.If token a s None, u)) (left_is (joined (test_extends d) grows)))

  if_else_read : (inner : Reader Stmt) (room place : ℕ) → place ≡ room + b.spare → (token : ℕ) (names between after after' : Names) (ts mid more rest : List Token)
      → (e : Token) (a : Expr) (s s' : Stmt) → (d : IsTest total wide (suc place) names ts mid between a) → test_stands b d
      → Meets total b.later (inner (at_state between mid)) (Ok (s, at_state after (e ∷ more))) → Extends between after mid (e ∷ more)
      → IsKeyword keyword.Else e → Meets total b.later (inner (at_state between more)) (Ok (s', at_state after' rest)) → Extends between after' more rest
      → Meets total b.later (reading.if_with total b.chain inner room token (at_state names ts)) (Ok (stmt.If token a s (Some s'), at_state names rest))
  unfolding reading.if_with
  if_else_read inner room place at token names between after after' ts mid more rest e a s s' d stands h grows other k grows' =
      on (λ x. inner x.1 >>= λ y. cond (sees_keyword keyword.Else y.1.rest)
      (inner (behind (left x.1.names y.1)) >>= λ z. Ok (stmt.If token x.0 y.0 (Some z.0), left names z.1))
      (Ok (stmt.If token x.0 y.0 None, left names y.1))) (test_read total wide b complete d stands room at)
      ▸ on (λ y. cond (sees_keyword keyword.Else y.1.rest)
      (inner (behind (left between y.1)) >>= λ z. Ok (stmt.If token a y.0 (Some z.0), left names z.1))
      (Ok (stmt.If token a y.0 None, left names y.1))) h
      ▸ same (ap (λ c. cond c (inner (behind (left between (at_state after (e ∷ more)))) >>= λ z. Ok (stmt.If token a s (Some z.0), left names z.1))
      (Ok (stmt.If token a s None, left names (at_state after (e ∷ more))))) (sees_word keyword.Else e other)
      ∙ ap (λ (u : State). inner (behind u) >>= λ z. Ok (stmt.If token a s (Some z.0), left names z.1)) (left_is grows))
      ▸ on (λ z. Ok (stmt.If token a s (Some z.0), left names z.1)) k
      ▸ same (ap (λ (u : State). Ok (stmt.If token a s (Some s'), u)) (left_is {ts = more} (behind_test (test_extends d) grows')))
    where
      -- the names behind the test are those behind the first statement
      behind_test : {names between after : Names} {ts mid more rest : List Token} → Extends names between ts mid → Extends between after more rest
          → Extends names after more rest
      behind_test d e = let j = joined (record { added = d.added; grows = d.grows; shrinks = omega arith }) e in j

  while_read : (inner : Reader Stmt) (room place : ℕ) → place ≡ room + b.spare → (token : ℕ) (names between after : Names) (ts mid rest : List Token)
      → (a : Expr) (s : Stmt) → (d : IsTest total wide (suc place) names ts mid between a) → test_stands b d
      → Meets total b.later (inner (at_state between mid)) (Ok (s, at_state after rest)) → Extends between after mid rest
      → Meets total b.later (reading.while_with total b.chain inner room token (at_state names ts)) (Ok (stmt.While token a s, at_state names rest))
  unfolding reading.while_with
  while_read inner room place at token names between after ts mid rest a s d stands h grows =
      on (λ x. inner x.1 >>= λ y. Ok (stmt.While token x.0 y.0, left names y.1)) (test_read total wide b complete d stands room at)
      ▸ on (λ y. Ok (stmt.While token a y.0, left names y.1)) h
      ▸ same (ap (λ (u : State). Ok (stmt.While token a s, u)) (left_is (joined (test_extends d) grows)))

  switch_read : (inner : Reader Stmt) (room place : ℕ) → place ≡ room + b.spare → (token : ℕ) (names between after : Names) (ts mid rest : List Token)
      → (a : Expr) (s : Stmt) → (d : IsTest total wide (suc place) names ts mid between a) → test_stands b d
      → Meets total b.later (inner (at_state between mid)) (Ok (s, at_state after rest)) → Extends between after mid rest
      → Meets total b.later (reading.switch_with total b.chain inner room token (at_state names ts)) (Ok (stmt.Switch token a s, at_state names rest))
  unfolding reading.switch_with
  switch_read inner room place at token names between after ts mid rest a s d stands h grows =
      on (λ x. inner x.1 >>= λ y. Ok (stmt.Switch token x.0 y.0, left names y.1)) (test_read total wide b complete d stands room at)
      ▸ on (λ y. Ok (stmt.Switch token a y.0, left names y.1)) h
      ▸ same (ap (λ (u : State). Ok (stmt.Switch token a s, u)) (left_is (joined (test_extends d) grows)))

  do_read : (inner : Reader Stmt) (room place : ℕ) → place ≡ room + b.spare → (token : ℕ) (names between after : Names) (w c : Token) (ts mid rest : List Token)
      → (body : Stmt) (a : Expr) → Meets total b.later (inner (at_state names ts)) (Ok (body, at_state between (w ∷ mid))) → Extends names between ts (w ∷ mid)
      → IsKeyword keyword.While w → (d : IsTest total wide (suc place) names mid (c ∷ rest) after a) → test_stands b d → IsMark mark.Semicolon c
      → Meets total b.later (reading.do_with total b.chain inner room token (at_state names ts)) (Ok (stmt.Do token body a, at_state names rest))
  unfolding reading.do_with
  do_read inner room place at token names between after w c ts mid rest body a h grows is d stands ends =
      on (λ x. expect_keyword total keyword.While (left names x.1) >>= λ s'. reading.bracketed total b.chain room s'
      >>= λ y. expect_mark total mark.Semicolon y.1 >>= λ s''. Ok (stmt.Do token x.0 y.0, left names s'')) h
      ▸ same (ap (λ (u : State). expect_keyword total keyword.While u >>= λ s'. reading.bracketed total b.chain room s'
      >>= λ y. expect_mark total mark.Semicolon y.1 >>= λ s''. Ok (stmt.Do token body y.0, left names s'')) (left_is grows)
      ∙ ap (λ o. o >>= λ s'. reading.bracketed total b.chain room s'
      >>= λ y. expect_mark total mark.Semicolon y.1 >>= λ s''. Ok (stmt.Do token body y.0, left names s'')) (word_there total keyword.While names w mid is))
      ▸ on (λ y. expect_mark total mark.Semicolon y.1 >>= λ s''. Ok (stmt.Do token body y.0, left names s'')) (test_read total wide b complete d stands room at)
      ▸ same (ap (λ o. o >>= λ s''. Ok (stmt.Do token body a, left names s'')) (expect_there total mark.Semicolon after c rest ends)
      ∙ ap (λ (u : State). Ok (stmt.Do token body a, u)) (left_is (test_extends d)))

  for_read : (inner : Reader Stmt) (room place : ℕ) → place ≡ room + b.spare → (token : ℕ) (names n m k after : Names) (ts mid more end rest : List Token)
      → (o s c : Token) (a : ForStart) (e f : Option Expr) (body : Stmt) → IsMark mark.OpenParen o
      → (first : IsForStart total wide place names ts mid n a) → for_start_stands b first
      → (second : IsOptional total wide place n mid (s ∷ more) m e) → optional_stands b second → IsMark mark.Semicolon s
      → (third : IsOptional total wide place m more (c ∷ end) k f) → optional_stands b third → IsMark mark.CloseParen c
      → Meets total b.later (inner (at_state k end)) (Ok (body, at_state after rest)) → Extends k after end rest
      → Meets total b.later (reading.for_with total b.chain inner room token (at_state names (o ∷ ts))) (Ok (stmt.For token a e f body, at_state names rest))
  unfolding reading.for_with
  for_read inner room place at token names n m k after ts mid more end rest o s c a e f body opens first stand second stand' ends third stand'' closes h grows =
      same (ap (λ r. r >>= λ s'. reading.for_head total b.chain room s'
      >>= λ x. inner x.1 >>= λ y. Ok (stmt.For token x.0.start x.0.test x.0.step y.0, left names y.1)) (expect_there total mark.OpenParen names o ts opens))
      ▸ on (λ x. inner x.1 >>= λ y. Ok (stmt.For token x.0.start x.0.test x.0.step y.0, left names y.1))
      (head_read total wide b complete room place at names n m k ts mid more end s c a e f first stand second stand' ends third stand'' closes)
      ▸ on (λ y. Ok (stmt.For token a e f y.0, left names y.1)) h
      ▸ same (ap (λ (u : State). Ok (stmt.For token a e f body, u))
      (left_is (joined (start_extends first) (joined (closed (optional_extends second)) (joined (closed (optional_extends third)) grows)))))

  -- these by the room at the keyword itself
  case_read : (inner : Reader Stmt) (room place : ℕ) → place ≡ room + b.spare → (token : ℕ) (names between after : Names) (c : Token) (ts mid rest : List Token)
      → (a : Expr) (s : Stmt) → (d : IsExpr total wide Cond place names ts (c ∷ mid) between a) → expr_stands b d → IsMark mark.Colon c
      → Meets total b.later (inner (at_state between mid)) (Ok (s, at_state after rest))
      → Meets total b.later (reading.case_with total b.chain inner room token (at_state names ts)) (Ok (stmt.Case token a s, at_state after rest))
  unfolding reading.case_with
  case_read inner room place at token names between after c ts mid rest a s d stands colon h =
      on (λ x. expect_mark total mark.Colon x.1 >>= λ s'. inner s' >>= λ y. Ok (stmt.Case token x.0 y.0, y.1))
      ((complete room place at).expr extent.Cond names between ts (c ∷ mid) a d stands (ends_at_colon c mid colon).assign.cond)
      ▸ same (ap (λ o. o >>= λ s'. inner s' >>= λ y. Ok (stmt.Case token a y.0, y.1)) (expect_there total mark.Colon between c mid colon))
      ▸ on (λ y. Ok (stmt.Case token a y.0, y.1)) h

  default_read : (inner : Reader Stmt) (token : ℕ) (names after : Names) (c : Token) (mid rest : List Token) (s : Stmt)
      → IsMark mark.Colon c → Meets total b.later (inner (at_state names mid)) (Ok (s, at_state after rest))
      → Meets total b.later (reading.default_with total inner token (at_state names (c ∷ mid))) (Ok (stmt.Default token s, at_state after rest))
  unfolding reading.default_with
  default_read inner token names after c mid rest s colon h =
      same (ap (λ o. o >>= λ s'. inner s' >>= λ y. Ok (stmt.Default token y.0, y.1)) (expect_there total mark.Colon names c mid colon))
      ▸ on (λ y. Ok (stmt.Default token y.0, y.1)) h

  alone_read : (a : Stmt) (names : Names) (c : Token) (rest : List Token) → IsMark mark.Semicolon c
      → reading.word_alone total a (at_state names (c ∷ rest)) ≡ Ok (a, at_state names rest)
  unfolding reading.word_alone
  alone_read a names c rest ends = ap (λ o. o >>= λ s'. Ok (a, s')) (expect_there total mark.Semicolon names c rest ends)

  return_read : (room place : ℕ) → place ≡ room + b.spare → (token : ℕ) (names after : Names) (ts : List Token) (c : Token) (rest : List Token) (a : Option Expr)
      → (d : IsOptional total wide place names ts (c ∷ rest) after a) → optional_stands b d → IsMark mark.Semicolon c
      → Meets total b.later (reading.return_with total b.chain room token (at_state names ts)) (Ok (stmt.Return token a, at_state after rest))
  unfolding reading.return_with
  return_read room place at token names after ts c rest a d stands ends =
      on (λ x. Ok (stmt.Return token x.0, x.1)) (optional_read total wide b complete d stands room at mark.Semicolon c rest refl ends refl (ends_at_semicolon c rest ends))

  express_read : (room place : ℕ) → place ≡ room + b.spare → (names after : Names) (ts : List Token) (c : Token) (rest : List Token) (a : Option Expr)
      → (d : IsOptional total wide place names ts (c ∷ rest) after a) → optional_stands b d → IsMark mark.Semicolon c
      → Meets total b.later (reading.express_with total b.chain room (at_state names ts)) (Ok (stmt.Express (number_of total ts) a, at_state after rest))
  unfolding reading.express_with
  express_read room place at names after ts c rest a d stands ends =
      on (λ x. Ok (stmt.Express (number_of total ts) x.0, x.1))
      (optional_read total wide b complete d stands room at mark.Semicolon c rest refl ends refl (ends_at_semicolon c rest ends))

  -- ---- statements by what they begin with

  -- where there is no room, and where there is none for a statement that is no block
  no_room : (names : Names) (ts : List Token) (o : Outcome (Stmt × State)) → LateFirst b.later ts
      → Meets total b.later (reading.statement total b.chain zero (at_state names ts)) o
  unfolding reading.statement
  no_room names ts o first = stops_first total b.later names ts first o

  no_room_inside : (names : Names) (ts : List Token) (o : Outcome (Stmt × State)) → sees_mark mark.OpenBrace ts ≡ false → sees_simple names ts ≡ true
      → LateFirst b.later ts
      → Meets total b.later (reading.statement total b.chain (suc zero) (at_state names ts)) o
  unfolding reading.statement reading.simple reading.cramped
  no_room_inside names ts o shut starts first =
      let inner = reading.statement total b.chain zero in
      let at = at_state names ts in
      same (ap (λ c. cond c (reading.block_with total b.chain inner zero at) (reading.simple total b.chain inner zero at)) shut
      ∙ ap (λ c. Err (cond c (too_deep total at) (Fault.Unexpected (number_of total ts)))) starts)
      ▸ stops_first total b.later names ts first o

  with_room : (room : ℕ) (names : Names) (ts : List Token) (o : Outcome (Stmt × State)) → sees_mark mark.OpenBrace ts ≡ false
      → Meets total b.later (by_keyword total b.chain (reading.statement total b.chain (suc room)) (suc room) (keyword_at ts) (at_state names ts)) o
      → Meets total b.later (reading.statement total b.chain (suc (suc room)) (at_state names ts)) o
  unfolding reading.statement reading.simple
  with_room room names ts o shut h =
      let inner = reading.statement total b.chain (suc room) in
      same (ap (λ c. cond c (reading.block_with total b.chain inner (suc room) (at_state names ts)) (reading.simple total b.chain inner (suc room) (at_state names ts))) shut
      ∙ ap (λ c. cond c (Err (reading.cramped total (at_state names ts))) (by_keyword total b.chain inner (suc room) (keyword_at ts) (at_state names ts))) (no_room_left room))
      ▸ h

  simple_read : {ends : Bool} (room place : ℕ) → suc (suc place) ≡ room + b.spare → {names after : Names} {ts rest : List Token} {a : Stmt}
      → (d : IsStmt total wide ends (suc (suc place)) names ts rest after a) → stmt_stands b d → sees_mark mark.OpenBrace ts ≡ false
      → ((room : ℕ) → place ≡ room + b.spare
      → Meets total b.later (by_keyword total b.chain (reading.statement total b.chain (suc room)) (suc room) (keyword_at ts) (at_state names ts)) (Ok (a, at_state after rest)))
      → Meets total b.later (reading.statement total b.chain room (at_state names ts)) (Ok (a, at_state after rest))
  simple_read zero place at {names = names} {after = after} {ts = ts} {rest = rest} {a = a} d stands shut further =
      no_room names ts (Ok (a, at_state after rest)) (stmt_first b d stands (omega (arith, at)))
  simple_read (suc zero) place at {names = names} {after = after} {ts = ts} {rest = rest} {a = a} d stands shut further =
      no_room_inside names ts (Ok (a, at_state after rest)) shut (simple_starts d shut) (simple_first b d stands shut (omega (arith, at)))
  simple_read (suc (suc room)) place at {names = names} {after = after} {ts = ts} {rest = rest} {a = a} d stands shut further =
      with_room room names ts (Ok (a, at_state after rest)) shut (further room (omega (arith, at)))

  word_read : (k : Keyword) {ends : Bool} (room place : ℕ) → suc (suc place) ≡ room + b.spare → {names after : Names} (t : Token) {ts rest : List Token} {a : Stmt}
      → (d : IsStmt total wide ends (suc (suc place)) names (t ∷ ts) rest after a) → stmt_stands b d → IsKeyword k t
      → ((room : ℕ) → place ≡ room + b.spare
      → Meets total b.later (by_keyword total b.chain (reading.statement total b.chain (suc room)) (suc room) (Some k) (at_state names (t ∷ ts))) (Ok (a, at_state after rest)))
      → Meets total b.later (reading.statement total b.chain room (at_state names (t ∷ ts))) (Ok (a, at_state after rest))
  word_read k room place at {names = names} t {ts = ts} d stands is further =
      simple_read room place at d stands (ap (is_mark mark.OpenBrace) is)
      (λ room at. same (ap (λ l. by_keyword total b.chain (reading.statement total b.chain (suc room)) (suc room) l (at_state names (t ∷ ts))) (ap keyword_of is)) ▸ further room at)

  kind_express : (inner : Reader Stmt) (room : ℕ) (s : State) (names : Names) (t : Token) (k : TokenKind) → kind_starts names t k ≡ true
      → by_keyword total b.chain inner room (keyword_of k) s ≡ reading.express_with total b.chain room s
  kind_express inner room s names t (kind.Keyword keyword.Sizeof) h = refl
  kind_express inner room s names t (kind.Keyword _) h = absurd cc
  kind_express inner room s names t (kind.Mark m) h = refl
  kind_express inner room s names t kind.Name h = refl
  kind_express inner room s names t (kind.Number type) h = refl
  kind_express inner room s names t kind.Character h = refl
  kind_express inner room s names t kind.Text h = refl

  expr_express : (inner : Reader Stmt) (room : ℕ) (s : State) (names : Names) (ts : List Token) → sees_expr names ts ≡ true
      → by_keyword total b.chain inner room (keyword_at ts) s ≡ reading.express_with total b.chain room s
  expr_express inner room s names [] h = refl
  expr_express inner room s names (t ∷ ts) h = kind_express inner room s names t t.kind h

  optional_shut : {place : ℕ} {names after : Names} {ts last : List Token} {a : Option Expr} → IsOptional total wide place names ts last after a
      → (c : Token) (rest : List Token) → last ≡ c ∷ rest → IsMark mark.Semicolon c → sees_mark mark.OpenBrace ts ≡ false
  optional_shut grammar.IsOptional.none c rest h ends = ap (sees_mark mark.OpenBrace) h ∙ ap (is_mark mark.OpenBrace) ends
  optional_shut (grammar.IsOptional.some {names = names} {ts = ts} d) c rest h ends = other_mark mark.OpenBrace names ts refl (expr_opens d)

  optional_express : {place : ℕ} {names after : Names} {ts last : List Token} {a : Option Expr} → IsOptional total wide place names ts last after a
      → (inner : Reader Stmt) (m : ℕ) (s : State) (c : Token) (rest : List Token) → last ≡ c ∷ rest → IsMark mark.Semicolon c
      → by_keyword total b.chain inner m (keyword_at ts) s ≡ reading.express_with total b.chain m s
  optional_express grammar.IsOptional.none inner m s c rest h ends =
      ap (λ l. by_keyword total b.chain inner m l s) (ap keyword_at h ∙ ap keyword_of ends)
  optional_express (grammar.IsOptional.some {names = names} {ts = ts} d) inner m s c rest h ends = expr_express inner m s names ts (expr_opens d)

  -- ---- blocks

  block_read : (room : ℕ) (names after : Names) (o : Token) (ts rest : List Token) (is : List (BlockItem Stmt)) → IsMark mark.OpenBrace o
      → Meets total b.later (reading.items total b.chain (reading.statement total b.chain room) room (length ts) [] (at_state names ts)) (Ok (is, at_state after rest))
      → Extends names after ts rest
      → Meets total b.later (reading.statement total b.chain (suc room) (at_state names (o ∷ ts))) (Ok (stmt.Block (number_of total (o ∷ ts)) is, at_state names rest))
  unfolding reading.statement reading.block_with
  block_read room names after o ts rest is opens h grows =
      let inner = reading.statement total b.chain room in
      same (ap (λ c. cond c (reading.block_with total b.chain inner room (at_state names (o ∷ ts))) (reading.simple total b.chain inner room (at_state names (o ∷ ts)))) (sees_it mark.OpenBrace o opens))
      ▸ on (λ x. Ok (stmt.Block (number_of total (o ∷ ts)) x.0, left names x.1)) h
      ▸ same (ap (λ (u : State). Ok (stmt.Block (number_of total (o ∷ ts)) is, u)) (left_is grows))

  end_read : (inner : Reader Stmt) (room count : ℕ) (front : List (BlockItem Stmt)) (names : Names) (c : Token) (ts rest : List Token) → length ts ≤ count
      → ts ≡ c ∷ rest → IsMark mark.CloseBrace c
      → reading.items total b.chain inner room count front (at_state names ts) ≡ Ok (front ++ [], at_state names rest)
  unfolding reading.items
  end_read inner room zero front names c ts rest few h closes = let size : length ts ≡ suc (length rest) = ap length h in absurd (omega arith)
  end_read inner room (suc count) front names c ts rest few h closes =
      ap (λ us. reading.items total b.chain inner room (suc count) front (at_state names us)) h
      ∙ ap (λ z. cond z (Ok (front, at_state names rest))
      (reading.item total b.chain inner room (at_state names (c ∷ rest)) >>= λ x. reading.items total b.chain inner room count (front ++ x.0 ∷ []) x.1)) (sees_it mark.CloseBrace c closes)
      ∙ ap (λ xs. Ok (xs, at_state names rest)) (sym (append-nil front))

  item_then : (inner : Reader Stmt) (room count : ℕ) (front is : List (BlockItem Stmt)) (i : BlockItem Stmt) (names between after : Names) (ts mid rest : List Token)
      → sees_mark mark.CloseBrace ts ≡ false → Meets total b.later (reading.item total b.chain inner room (at_state names ts)) (Ok (i, at_state between mid))
      → Meets total b.later (reading.items total b.chain inner room count (front ++ i ∷ []) (at_state between mid)) (Ok ((front ++ i ∷ []) ++ is, at_state after rest))
      → Meets total b.later (reading.items total b.chain inner room (suc count) front (at_state names ts)) (Ok (front ++ i ∷ is, at_state after rest))
  unfolding reading.items
  item_then inner room count front is i names between after ts mid rest going h next =
      same (ap (λ z. cond z (Ok (front, behind (at_state names ts)))
      (reading.item total b.chain inner room (at_state names ts) >>= λ x. reading.items total b.chain inner room count (front ++ x.0 ∷ []) x.1)) going)
      ▸ on (λ x. reading.items total b.chain inner room count (front ++ x.0 ∷ []) x.1) h
      ▸ next ▸ same (ap (λ xs. Ok (xs, at_state after rest)) (append_assoc front (i ∷ []) is))

  declaration_read : (inner : Reader Stmt) (room place : ℕ) → place ≡ room + b.spare → (names between : Names) (ts mid : List Token) (d : Decl)
      → (is : IsDecl total wide place names ts mid between d) → decl_stands b is
      → Meets total b.later (reading.item total b.chain inner room (at_state names ts)) (Ok (an_item.Declaration d, at_state between mid))
  unfolding reading.item
  declaration_read inner room place at names between ts mid d is stands =
      same (ap (λ z. cond z (reading.decl total b.chain room (at_state names ts) >>= λ x. Ok (an_item.Declaration x.0, x.1))
      (inner (at_state names ts) >>= λ x. Ok (an_item.Statement x.0, x.1))) (decl_starts is))
      ▸ on (λ x. Ok (an_item.Declaration x.0, x.1)) (decl_read total wide b complete is stands room at)

  statement_read : (inner : Reader Stmt) (room : ℕ) (names between : Names) (ts mid : List Token) (s : Stmt) → sees_type names ts ≡ false
      → Meets total b.later (inner (at_state names ts)) (Ok (s, at_state between mid))
      → Meets total b.later (reading.item total b.chain inner room (at_state names ts)) (Ok (an_item.Statement s, at_state between mid))
  unfolding reading.item
  statement_read inner room names between ts mid s no_type h =
      same (ap (λ z. cond z (reading.decl total b.chain room (at_state names ts) >>= λ x. Ok (an_item.Declaration x.0, x.1))
      (inner (at_state names ts) >>= λ x. Ok (an_item.Statement x.0, x.1))) no_type)
      ▸ on (λ x. Ok (an_item.Statement x.0, x.1)) h

  -- ---- all statements

  -- the room inside of a statement
  inner_at : (place room : ℕ) → place ≡ room + b.spare → suc place ≡ suc room + b.spare
  inner_at place room at = omega (arith, at)

  mutual
    pub stmt_read : {ends : Bool} {place : ℕ} {names after : Names} {ts rest : List Token} {s : Stmt} → (d : IsStmt total wide ends place names ts rest after s)
        → stmt_stands b d → (room : ℕ) → place ≡ room + b.spare → (ends ≡ true → sees_keyword keyword.Else rest ≡ false)
        → Meets total b.later (reading.statement total b.chain room (at_state names ts)) (Ok (s, at_state after rest))
    stmt_read (block {names = names} {inner = inner} {o = o} {ts = ts} {rest = rest} {is = is} opens are closes) stands zero at alone =
        no_room names (o ∷ ts) (Ok (stmt.Block (number_of total (o ∷ ts)) is, at_state names rest)) (stmt_first b (block opens are closes) stands (omega (arith, at)))
    stmt_read (block {names = names} {inner = inner} {o = o} {c = c} {ts = ts} {rest = rest} {is = is} opens are closes) stands (suc room) at alone =
        block_read room names inner o ts rest is opens (items_read are stands.1 room (omega (arith, at)) (length ts) [] c rest (omega arith) refl closes) (closed (items_extend are))
    stmt_read (express {room = place} {names = names} {after = after} {s = c} {ts = ts} {rest = rest} {a = a} d is) stands room at alone =
        simple_read room place at (express d is) stands (optional_shut d c rest refl is)
        (λ room at. same (optional_express d (reading.statement total b.chain (suc room)) (suc room) (at_state names ts) c rest refl is)
        ▸ express_read (suc room) (suc place) (inner_at place room at) names after ts c rest a d stands.0 is)
    stmt_read (if_then {room = place} {names = names} {inner = between} {after = after} {t = t} {ts = ts} {mid = mid} {rest = rest} {a = a} {s = s} is d inner) stands room at alone =
        word_read keyword.If room place at t (if_then is d inner) stands is
        (λ room at. same (ap (λ r. reading.if_with total b.chain (reading.statement total b.chain (suc room)) r (number_of total (t ∷ ts)) (at_state names ts)) (inside room))
        ▸ if_then_read (reading.statement total b.chain (suc room)) room place at (number_of total (t ∷ ts)) names between after ts mid rest a s d stands.1
        (stmt_read inner stands.2 (suc room) (inner_at place room at) (λ _. alone refl)) (stmt_extends inner) (alone refl))
    stmt_read (if_else {room = place} {names = names} {inner = between} {after = after} {after' = after'} {t = t} {e = e} {ts = ts} {mid = mid} {more = more} {rest = rest} {a = a} {s = s} {s' = s'} is d first other second) stands room at alone =
        word_read keyword.If room place at t (if_else is d first other second) stands is
        (λ room at. same (ap (λ r. reading.if_with total b.chain (reading.statement total b.chain (suc room)) r (number_of total (t ∷ ts)) (at_state names ts)) (inside room))
        ▸ if_else_read (reading.statement total b.chain (suc room)) room place at (number_of total (t ∷ ts)) names between after after' ts mid more rest e a s s' d stands.1
        (stmt_read first stands.2 (suc room) (inner_at place room at) (λ h. absurd cc)) (stmt_extends first) other
        (stmt_read second stands.4 (suc room) (inner_at place room at) alone) (stmt_extends second))
    stmt_read (while_do {room = place} {names = names} {inner = between} {after = after} {t = t} {ts = ts} {mid = mid} {rest = rest} {a = a} {s = s} is d inner) stands room at alone =
        word_read keyword.While room place at t (while_do is d inner) stands is
        (λ room at. same (ap (λ r. reading.while_with total b.chain (reading.statement total b.chain (suc room)) r (number_of total (t ∷ ts)) (at_state names ts)) (inside room))
        ▸ while_read (reading.statement total b.chain (suc room)) room place at (number_of total (t ∷ ts)) names between after ts mid rest a s d stands.1
        (stmt_read inner stands.2 (suc room) (inner_at place room at) alone) (stmt_extends inner))
    stmt_read (do_while {room = place} {names = names} {inner = between} {after = after} {t = t} {w = w} {s = c} {ts = ts} {mid = mid} {rest = rest} {a = a} {b = body} is inner other d ends) stands room at alone =
        word_read keyword.Do room place at t (do_while is inner other d ends) stands is
        (λ room at. same (ap (λ r. reading.do_with total b.chain (reading.statement total b.chain (suc room)) r (number_of total (t ∷ ts)) (at_state names ts)) (inside room))
        ▸ do_read (reading.statement total b.chain (suc room)) room place at (number_of total (t ∷ ts)) names between after w c ts mid rest body a
        (stmt_read inner stands.1 (suc room) (inner_at place room at) (λ _. ap (is_keyword keyword.Else) other)) (stmt_extends inner) other d stands.3 ends)
    stmt_read (for_do {room = place} {names = names} {n = n} {m = m} {k = k} {after = after} {t = t} {o = o} {s = s} {c = c} {ts = ts} {mid = mid} {more = more} {end = end} {rest = rest} {a = a} {b = e} {d = f} {body = body} is opens first second ends third closes inner) stands room at alone =
        word_read keyword.For room place at t (for_do is opens first second ends third closes inner) stands is
        (λ room at. same (ap (λ r. reading.for_with total b.chain (reading.statement total b.chain (suc room)) r (number_of total (t ∷ o ∷ ts)) (at_state names (o ∷ ts))) (inside room))
        ▸ for_read (reading.statement total b.chain (suc room)) room place at (number_of total (t ∷ o ∷ ts)) names n m k after ts mid more end rest o s c a e f body
        opens first stands.2 second stands.3 ends third stands.5 closes (stmt_read inner stands.7 (suc room) (inner_at place room at) alone) (stmt_extends inner))
    stmt_read (switch {room = place} {names = names} {inner = between} {after = after} {t = t} {ts = ts} {mid = mid} {rest = rest} {a = a} {s = s} is d inner) stands room at alone =
        word_read keyword.Switch room place at t (switch is d inner) stands is
        (λ room at. same (ap (λ r. reading.switch_with total b.chain (reading.statement total b.chain (suc room)) r (number_of total (t ∷ ts)) (at_state names ts)) (inside room))
        ▸ switch_read (reading.statement total b.chain (suc room)) room place at (number_of total (t ∷ ts)) names between after ts mid rest a s d stands.1
        (stmt_read inner stands.2 (suc room) (inner_at place room at) alone) (stmt_extends inner))
    stmt_read (case {room = place} {names = names} {between = between} {after = after} {t = t} {c = c} {ts = ts} {mid = mid} {rest = rest} {a = a} {s = s} is d colon inner) stands room at alone =
        word_read keyword.Case room place at t (case is d colon inner) stands is
        (λ room at. case_read (reading.statement total b.chain (suc room)) (suc room) (suc place) (inner_at place room at) (number_of total (t ∷ ts)) names between after c ts mid rest a s d stands.1 colon
        (stmt_read inner stands.3 (suc room) (inner_at place room at) alone))
    stmt_read (default {room = place} {names = names} {after = after} {t = t} {c = c} {mid = mid} {rest = rest} {s = s} is colon inner) stands room at alone =
        word_read keyword.Default room place at t (default is colon inner) stands is
        (λ room at. default_read (reading.statement total b.chain (suc room)) (number_of total (t ∷ c ∷ mid)) names after c mid rest s colon
        (stmt_read inner stands.2 (suc room) (inner_at place room at) alone))
    stmt_read (break {room = place} {names = names} {t = t} {s = c} {rest = rest} is ends) stands room at alone =
        word_read keyword.Break room place at t (break is ends) stands is (λ room at. same (alone_read (stmt.Break (number_of total (t ∷ c ∷ rest))) names c rest ends))
    stmt_read (continue {room = place} {names = names} {t = t} {s = c} {rest = rest} is ends) stands room at alone =
        word_read keyword.Continue room place at t (continue is ends) stands is (λ room at. same (alone_read (stmt.Continue (number_of total (t ∷ c ∷ rest))) names c rest ends))
    stmt_read (return {room = place} {names = names} {after = after} {t = t} {s = c} {ts = ts} {rest = rest} {a = a} is d ends) stands room at alone =
        word_read keyword.Return room place at t (return is d ends) stands is
        (λ room at. return_read (suc room) (suc place) (inner_at place room at) (number_of total (t ∷ ts)) names after ts c rest a d stands.1 ends)

    pub items_read : {place : ℕ} {names after : Names} {ts last : List Token} {is : List (BlockItem Stmt)} → (d : AreItems total wide place names ts last after is)
        → items_stand b d → (room : ℕ) → place ≡ room + b.spare
        → (count : ℕ) (front : List (BlockItem Stmt)) (c : Token) (rest : List Token) → length ts ≤ count → last ≡ c ∷ rest → IsMark mark.CloseBrace c
        → Meets total b.later (reading.items total b.chain (reading.statement total b.chain room) room count front (at_state names ts)) (Ok (front ++ is, at_state after rest))
    items_read (no_items {names = names} {rest = ts}) stands room at count front c rest few h closes =
        same (end_read (reading.statement total b.chain room) room count front names c ts rest few h closes)
    items_read (declaration_item d are) stands room at zero front c rest few h closes = absurd (let begin = decl_begins d in omega (arith, begin.takes))
    items_read (declaration_item {room = place} {names = names} {between = between} {after = after} {ts = ts} {mid = mid} {d = d} {is = is} decl are) stands room at (suc count) front c rest few h closes =
        let begin = decl_begins decl in
        item_then (reading.statement total b.chain room) room count front is (an_item.Declaration d) names between after ts mid rest (begin.no_mark mark.CloseBrace)
        (declaration_read (reading.statement total b.chain room) room place at names between ts mid d decl stands.0)
        (items_read are stands.1 room at count (front ++ an_item.Declaration d ∷ []) c rest (omega (arith, begin.takes)) h closes)
    items_read (statement_item s are) stands room at zero front c rest few h closes = absurd (omega (arith, stmt_takes s))
    items_read (statement_item {names = names} {between = between} {after = after} {ts = ts} {mid = mid} {s = s} {is = is} there are) stands room at (suc count) front c rest few h closes =
        let begin = stmt_begins there in
        item_then (reading.statement total b.chain room) room count front is (an_item.Statement s) names between after ts mid rest begin.no_close
        (statement_read (reading.statement total b.chain room) room names between ts mid s begin.no_type (stmt_read there stands.0 room at (λ _. items_no_else are c rest h closes)))
        (items_read are stands.1 room at count (front ++ an_item.Statement s ∷ []) c rest (omega (arith, stmt_takes there)) h closes)
