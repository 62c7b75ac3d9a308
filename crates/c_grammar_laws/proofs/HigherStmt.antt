-- Declarations and statements, beside a reader that has more room and reads longer chains.
use Rattle.std.proofs.Common.{◌≡◌, ℕ, zero, suc, ◌-◌, ◌≤◌, inl, inr, Bool, true, false, cond, nat_eq, Option, Some, None, Ok, Err, List, [], ◌∷◌, ◌++◌, length, refl, sym, ap, subst, arith}
use Rattle.c_lex.specs.declared.token.Token.{Token}
use Rattle.c_lex.specs.declared.token.Keyword.{Keyword}
use Rattle.c_lex.specs.declared.token.Keyword.TheVariants as keyword
use Rattle.c_lex.specs.declared.token.Mark.{Mark}
use Rattle.c_lex.specs.declared.token.Mark.TheVariants as mark
use Rattle.c_ast.specs.declared.expression.Expr.{Expr}
use Rattle.c_ast.specs.declared.declaration.Init.{Init}
use Rattle.c_ast.specs.declared.declaration.Init.TheVariants as an_init
use Rattle.c_ast.specs.declared.declaration.InitDeclarator.{InitDeclarator}
use Rattle.c_ast.specs.declared.statement.Stmt.{Stmt}
use Rattle.c_ast.specs.declared.statement.Stmt.TheVariants as stmt
use Rattle.c_ast.specs.declared.statement.ForStart.{ForStart}
use Rattle.c_ast.specs.declared.statement.ForStart.TheVariants as start
use Rattle.c_ast.specs.declared.statement.BlockItem.{BlockItem}
use Rattle.c_ast.specs.declared.statement.BlockItem.TheVariants as an_item
use Rattle.c_grammar.specs.declared.phrases.Extent.{Extent}
use Rattle.c_grammar.specs.declared.phrases.Extent.TheVariants as extent
use Rattle.c_grammar.specs.declared.phrases.ReadSpecs.{ReadSpecs}
use Rattle.c_grammar.specs.declared.phrases.ReadDeclarator.{ReadDeclarator}
use Rattle.c_grammar.specs.declared.phrases.Head.{Head}
use Rattle.c_grammar.specs.Names.{Names, declared}
use Rattle.c_grammar.specs.Reading.{State, Fault, Unexpected, TooNested, Outcome, Reader, ◌>>=◌, is_mark, sees_mark, sees_keyword, tail, behind, here}
use Rattle.c_grammar.specs.ReadingExpr.{sees_type}
use Rattle.c_grammar.specs.ReadingDecl.{too_deep}
use Rattle.c_grammar.specs.Levels.{readers}
use Rattle.c_grammar.specs.ReadingStmt.{left_to, inits_go_on, behind_comma, inits_end, more_inits, inits, init, initialised, init_declarator, more_declared, all_declared, decl_from, decl_behind, decl, optional, bracketed, for_start, for_head, if_with, while_with, switch_with, do_with, for_with, case_with, default_with, word_alone, return_with, express_with, keyword_at, sees_simple, cramped, by_keyword, simple, item, items, block_with, statement}
use Rattle.c_grammar_laws.proofs.Agrees.{state}
use Rattle.c_grammar_laws.proofs.ExprTokens.{unequal}
use Rattle.c_grammar_laws.proofs.LocalStmt.{behind_either, outside}
use Rattle.c_grammar.proofs.Late.{raised}
use Rattle.c_grammar_laws.proofs.Higher.{Rise, Higher, same, free, still, Onward, Above, Takes, OnwardInner, TakesInner, AboveInner, bind, takes_bind, given, equal, numbered, scoped, sized, picked, stopped, unexpected, too_deep_for, nested, passed, past_token, renamed, judged, tested, takes_judged, takes_equal, takes_mark, expected, expected_word}

-- ---- a reader beside itself

-- with no more room, and with chains as long
abbrev pub flat : Rise → Rise
flat w = record { total = w.total; extra = 0; most = w.wide; wide = w.wide; wider = omega arith; deeper = inl refl }

pub alone : (w : Rise) {A : Type 0} {f' : Reader A} → Onward w.total f' → Above (flat w) f' f'
alone w {A = A} {f' = f'} on = record { on = on; lift = λ s le. itself (f' s) }
  where
    itself : (o : Outcome (A × State)) → Higher (flat w) o o
    itself (Ok x) = same x.0 x.1
    itself (Err (Unexpected n)) = free n (Err (Unexpected n))
    itself (Err (TooNested n)) = still n (inl refl)

-- There is as much room, or enough for two levels.
pub by_depth : (w : Rise) (P : ℕ → Type 0) → (w.extra ≡ 0 → P 0) → (2 ≤ w.extra → (k : ℕ) → P (suc (suc k))) → P w.extra
by_depth w P none deep = elim w.deeper [
  | inl e ↦ subst P (sym e) (none e)
  | inr d ↦ reach w.extra d (deep d)
]
  where
    reach : (n : ℕ) → 2 ≤ n → ((k : ℕ) → P (suc (suc k))) → P n
    reach zero d go = absurd (omega (arith, d))
    reach (suc zero) d go = absurd (omega (arith, d))
    reach (suc (suc k)) d go = go k

-- ---- what begins with a token

takes_numbered : {w : Rise} {A : Type 0} {f' : ℕ → Reader A} → ((number : ℕ) → Takes w (f' number)) → Takes w (λ s. f' (here w.total s) s)
takes_numbered {w = w} go s le = go (here w.total s) s le

-- this punctuator, where what is read behind it depends on the state in front
takes_mark_at : {w : Rise} {A : Type 0} {f' : State → Reader A} {g' : Reader A} (mark : Mark) → ((u : State) → Onward w.total (f' u)) → Takes w g'
    → Takes w (λ s. cond (sees_mark mark s.rest) (f' s (behind s)) (g' s))
takes_mark_at {w = w} {A = A} {f' = f'} {g' = g'} mark on c s le = by_rest s.names s.rest le
  where
    by_rest : (names : Names) (ts : List Token) → length ts ≤ w.total
        → Higher w {A = A} (Err (TooNested (here w.total (state names ts))))
        (cond (sees_mark mark ts) (f' (state names ts) (state names (tail ts))) (g' (state names ts)))
    by_rest names [] le = c (state names []) le
    by_rest names (t ∷ ts) le =
        let u : State = state names (t ∷ ts) in
        elim (is_mark mark t.kind) as (λ b. Higher w {A = A} (Err (TooNested (here w.total u))) (cond b (f' u (state names ts)) (g' u))) [
          | true ↦ past_token (on u) names t ts le
          | false ↦ c u le
        ]

-- a keyword
takes_word : {w : Rise} {A : Type 0} {f' : Reader A} → Onward w.total f' → {k : Keyword} (s : State) → length s.rest ≤ w.total → keyword_at s.rest ≡ Some k
    → Higher w {A = A} (Err (TooNested (here w.total s))) (f' (behind s))
takes_word {w = w} {A = A} {f' = f'} on {k = k} s le is = by_rest s.names s.rest le is
  where
    by_rest : (names : Names) (ts : List Token) → length ts ≤ w.total → keyword_at ts ≡ Some k
        → Higher w {A = A} (Err (TooNested (here w.total (state names ts)))) (f' (state names (tail ts)))
    by_rest names [] le is = absurd cc
    by_rest names (t ∷ ts) le is = past_token on names t ts le

-- ---- where there is room

some_left : (r : ℕ) → nat_eq (suc r) 0 ≡ false
some_left r = unequal (suc r) 0 (λ e. absurd cc)

skipped : {A : Type 0} (r : ℕ) (fault : State → Fault) (f : Reader A) (s : State) → f s ≡ cond (nat_eq (suc r) 0) (Err (fault s)) (f s)
skipped r fault f s = ap (λ b. cond b (Err (fault s)) (f s)) (sym (some_left r))

both_have : {w : Rise} {A : Type 0} {f f' : Reader A} (r r' : ℕ) (fault : State → Fault) → Above w f f'
    → Above w (λ s. cond (nat_eq (suc r) 0) (Err (fault s)) (f s)) (λ s. cond (nat_eq (suc r') 0) (Err (fault s)) (f' s))
both_have {f = f} {f' = f'} r r' fault b = equal (skipped r fault f) (skipped r' fault f') b

other_has : {w : Rise} {A : Type 0} {f f' : Reader A} (r : ℕ) (fault : State → Fault) → Above w f f'
    → Above w f (λ s. cond (nat_eq (suc r) 0) (Err (fault s)) (f' s))
other_has {f' = f'} r fault b = equal (λ s. refl) (skipped r fault f') b

-- ---- initialisers

-- behind the comma, if one comes next
close : {w : Rise} {A : Type 0} {f f' : Reader A} → Above w f f' → Above w (λ s. f (behind_comma s)) (λ s. f' (behind_comma s))
close {f = f} {f' = f'} b =
    equal (λ s. behind_either (sees_mark mark.Comma s.rest) (behind s) s f) (λ s. behind_either (sees_mark mark.Comma s.rest) (behind s) s f')
    (tested mark.Comma (passed b) b)

inits_end_above : (w : Rise) (front : List Init) → Above w (inits_end w.total front) (inits_end w.total front)
unfolding inits_end
inits_end_above w front = close (expected mark.CloseBrace (given front))

more_inits_above : (w : Rise) (read read' : Reader Init) → Above w read read' → (count : ℕ) (front : List Init)
    → Above w (more_inits w.total read count front) (more_inits w.total read' count front)
unfolding more_inits
more_inits_above w read read' reads zero front = unexpected
more_inits_above w read read' reads (suc count) front =
    judged (λ s. inits_go_on s.rest) (passed (bind reads (λ x. more_inits_above w read read' reads count (front ++ x ∷ [])))) (inits_end_above w front)

inits_above : (w : Rise) (read read' : Reader Init) → Above w read read' → Above w (inits w.total read) (inits w.total read')
unfolding inits
inits_above w read read' reads = bind reads (λ x. sized (λ count. more_inits_above w read read' reads count (x ∷ [])))

init_step : (w : Rise) (r r' : ℕ) → Above w (init w.total w.most r) (init w.total w.wide r')
    → Above w ((readers w.total w.most (suc r)).expr extent.Assign) ((readers w.total w.wide (suc r')).expr extent.Assign)
    → Above w (init w.total w.most (suc r)) (init w.total w.wide (suc r'))
unfolding init
init_step w r r' below expr =
    tested mark.OpenBrace
    (numbered (λ number. passed (bind (inits_above w (init w.total w.most r) (init w.total w.wide r') below) (λ xs. given (an_init.List number xs)))))
    (bind expr (λ e. given (an_init.Value e)))

-- ---- declarations, and parts of statements

abbrev head_of : ForStart → Option Expr → Option Expr → Head
head_of x y z = record { start = x; test = y; step = z }

-- what is read with so much room, and with more
record Lifts (w : Rise) (r r' : ℕ) : Type 0 where
  expr : (x : Extent) → Above w ((readers w.total w.most r).expr x) ((readers w.total w.wide r').expr x)
  specs : Above w (readers w.total w.most r).specs (readers w.total w.wide r').specs
  declarator : Above w (readers w.total w.most r).declarator (readers w.total w.wide r').declarator
  initial : Above w (init w.total w.most r) (init w.total w.wide r')

module _ (w : Rise) (r r' : ℕ) (lifts : Lifts w r r') where
  initialised_above : (flag : Bool) (d : ReadDeclarator) → Above w (initialised w.total w.most r flag d) (initialised w.total w.wide r' flag d)
  unfolding initialised
  initialised_above flag d =
      tested mark.Assign
      (renamed (λ names. declared names d.name flag) (passed (bind lifts.initial (λ x. given (record { declarator = d.tree; init = Some x })))))
      (renamed (λ names. declared names d.name flag) (given (record { declarator = d.tree; init = None })))

  init_declarator_above : (flag : Bool) → Above w (init_declarator w.total w.most r flag) (init_declarator w.total w.wide r' flag)
  unfolding init_declarator
  init_declarator_above flag = bind lifts.declarator (λ d. initialised_above flag d)

  more_declared_above : (flag : Bool) (count : ℕ) (front : List InitDeclarator)
      → Above w (more_declared w.total w.most r flag count front) (more_declared w.total w.wide r' flag count front)
  unfolding more_declared
  more_declared_above flag zero front = unexpected
  more_declared_above flag (suc count) front =
      tested mark.Comma (passed (bind (init_declarator_above flag) (λ x. more_declared_above flag count (front ++ x ∷ [])))) (expected mark.Semicolon (given front))

  all_declared_above : (flag : Bool) (d : ReadDeclarator) → Above w (all_declared w.total w.most r flag d) (all_declared w.total w.wide r' flag d)
  unfolding all_declared
  all_declared_above flag d = bind (initialised_above flag d) (λ x. sized (λ count. more_declared_above flag count (x ∷ [])))

  decl_from_lifted : (token : ℕ) (ss : ReadSpecs) (d : ReadDeclarator) → Above w (decl_from w.total w.most r token ss d) (decl_from w.total w.wide r' token ss d)
  unfolding decl_from
  decl_from_lifted token ss d = bind (all_declared_above ss.is_typedef d) (λ ds. given (record { token = token; specs = ss.specs; declared = ds }))

  decl_behind_above : (token : ℕ) (ss : ReadSpecs) → Above w (decl_behind w.total w.most r token ss) (decl_behind w.total w.wide r' token ss)
  unfolding decl_behind
  decl_behind_above token ss =
      tested mark.Semicolon (passed (given (record { token = token; specs = ss.specs; declared = [] })))
      (bind lifts.declarator (λ d. decl_from_lifted token ss d))

  decl_lifted : Above w (decl w.total w.most r) (decl w.total w.wide r')
  unfolding decl
  decl_lifted = numbered (λ number. bind lifts.specs (λ ss. decl_behind_above number ss))

  optional_above : (m : Mark) → Above w (optional w.total w.most r m) (optional w.total w.wide r' m)
  unfolding optional
  optional_above m = tested m (passed (given None)) (bind (lifts.expr extent.Comma) (λ e. expected m (given (Some e))))

  test_above : Above w (bracketed w.total w.most r) (bracketed w.total w.wide r')
  unfolding bracketed
  test_above = expected mark.OpenParen (bind (lifts.expr extent.Comma) (λ e. expected mark.CloseParen (given e)))

  for_start_above : Above w (for_start w.total w.most r) (for_start w.total w.wide r')
  unfolding for_start
  for_start_above =
      judged (λ s. sees_type s.names s.rest) (bind decl_lifted (λ d. given (start.Declaration d)))
      (bind (optional_above mark.Semicolon) (λ e. given (start.Expression e)))

  -- what stands in the parentheses of a `for`, behind its first part
  for_rest_above : (x : ForStart)
      → Above w (λ s. optional w.total w.most r mark.Semicolon s >>= λ y. optional w.total w.most r mark.CloseParen y.1 >>= λ z. Ok (head_of x y.0 z.0, z.1))
      (λ s. optional w.total w.wide r' mark.Semicolon s >>= λ y. optional w.total w.wide r' mark.CloseParen y.1 >>= λ z. Ok (head_of x y.0 z.0, z.1))
  for_rest_above x =
      bind (optional_above mark.Semicolon) (λ y. bind (optional_above mark.CloseParen) (λ z. given (head_of x y z)))

  express_above : Above w (express_with w.total w.most r) (express_with w.total w.wide r')
  unfolding express_with
  express_above = numbered (λ number. bind (optional_above mark.Semicolon) (λ x. given (stmt.Express number x)))

-- ---- with room behind none

module _ (w : Rise) (some : 2 ≤ w.extra) (r : ℕ) (takes : TakesInner w (readers w.total w.wide r)) (lifts : Lifts (flat w) r r) where
  takes_decl : Takes w (decl w.total w.wide r)
  unfolding decl
  takes_decl = takes_numbered (λ number. takes_bind takes.specs (λ ss. (decl_behind_above (flat w) r r lifts number ss).on))

  takes_optional : (m : Mark) → Takes w (optional w.total w.wide r m)
  unfolding optional
  takes_optional m = takes_mark m (given {w = w} None).on (takes_bind (takes.expr extent.Comma) (λ e. (expected {w = w} m (given (Some e))).on))

  takes_for_start : Takes w (for_start w.total w.wide r)
  unfolding for_start
  takes_for_start =
      takes_judged (λ s. sees_type s.names s.rest) (takes_bind takes_decl (λ d. (given {w = w} (start.Declaration d)).on))
      (takes_bind (takes_optional mark.Semicolon) (λ e. (given {w = w} (start.Expression e)).on))

  takes_express : Takes w (express_with w.total w.wide r)
  unfolding express_with
  takes_express = takes_numbered (λ number. takes_bind (takes_optional mark.Semicolon) (λ x. (given {w = w} (stmt.Express number x)).on))

-- ---- what stands in the parentheses of a `for`

head_bottom : (w : Rise) → w.extra ≡ 0 → Above w (for_head w.total w.most 0) (for_head w.total w.wide 0)
unfolding for_head too_deep
head_bottom w none = nested none

head_step : (w : Rise) (r r' : ℕ) → Lifts w (suc r) (suc r') → Above w (for_head w.total w.most (suc r)) (for_head w.total w.wide (suc r'))
unfolding for_head
head_step w r r' lifts = both_have r r' (too_deep w.total) (bind (for_start_above w (suc r) (suc r') lifts) (λ x. for_rest_above w (suc r) (suc r') lifts x))

head_gap : (w : Rise) → 2 ≤ w.extra → (r : ℕ) → TakesInner w (readers w.total w.wide (suc r)) → Lifts (flat w) (suc r) (suc r)
    → Above w (for_head w.total w.most 0) (for_head w.total w.wide (suc r))
unfolding for_head too_deep
head_gap w some r takes lifts =
    other_has r (too_deep w.total) (too_deep_for (bind (for_start_above (flat w) (suc r) (suc r) lifts) (λ x. for_rest_above (flat w) (suc r) (suc r) lifts x)).on
    (takes_bind (takes_for_start w some (suc r) takes lifts) (λ x. (for_rest_above (flat w) (suc r) (suc r) lifts x).on)))

-- ---- statements, by what reads one inside

word_above : (w : Rise) (a : Stmt) → Above w (word_alone w.total a) (word_alone w.total a)
unfolding word_alone
word_above w a = expected mark.Semicolon (given a)

default_above : (w : Rise) (inner inner' : Reader Stmt) → Above w inner inner' → (token : ℕ)
    → Above w (default_with w.total inner token) (default_with w.total inner' token)
unfolding default_with
default_above w inner inner' below token = expected mark.Colon (bind below (λ y. given (stmt.Default token y)))

module _ (w : Rise) (r r' : ℕ) (low : Lifts w r r') (head : Above w (for_head w.total w.most r) (for_head w.total w.wide r'))
    (inner inner' : Reader Stmt) (below : Above w inner inner') where
  if_above : (token : ℕ) → Above w (if_with w.total w.most inner r token) (if_with w.total w.wide inner' r' token)
  unfolding if_with left_to
  if_above token =
      scoped (λ names. bind (test_above w r r' low) (λ x. scoped (λ inside. bind below
      (λ y. judged (λ s. sees_keyword keyword.Else s.rest)
      (renamed (outside inside) (passed (bind below (λ z. renamed (outside names) (given (stmt.If token x y (Some z)))))))
      (renamed (outside names) (given (stmt.If token x y None)))))))

  while_above : (token : ℕ) → Above w (while_with w.total w.most inner r token) (while_with w.total w.wide inner' r' token)
  unfolding while_with left_to
  while_above token = scoped (λ names. bind (test_above w r r' low) (λ x. bind below (λ y. renamed (outside names) (given (stmt.While token x y)))))

  switch_above : (token : ℕ) → Above w (switch_with w.total w.most inner r token) (switch_with w.total w.wide inner' r' token)
  unfolding switch_with left_to
  switch_above token = scoped (λ names. bind (test_above w r r' low) (λ x. bind below (λ y. renamed (outside names) (given (stmt.Switch token x y)))))

  do_above : (token : ℕ) → Above w (do_with w.total w.most inner r token) (do_with w.total w.wide inner' r' token)
  unfolding do_with left_to
  do_above token =
      scoped (λ names. bind below (λ x. renamed (outside names) (expected_word keyword.While (bind (test_above w r r' low)
      (λ y. expected mark.Semicolon (renamed (outside names) (given (stmt.Do token x y))))))))

  for_above : (token : ℕ) → Above w (for_with w.total w.most inner r token) (for_with w.total w.wide inner' r' token)
  unfolding for_with left_to
  for_above token =
      scoped (λ names. expected mark.OpenParen (bind head (λ x. bind below
      (λ y. renamed (outside names) (given (stmt.For token x.start x.test x.step y))))))

  item_above : Above w (item w.total w.most inner r) (item w.total w.wide inner' r')
  unfolding item
  item_above =
      judged (λ s. sees_type s.names s.rest) (bind (decl_lifted w r r' low) (λ d. given (an_item.Declaration d)))
      (bind below (λ s. given (an_item.Statement s)))

  items_lifted : (count : ℕ) (front : List (BlockItem Stmt)) → Above w (items w.total w.most inner r count front) (items w.total w.wide inner' r' count front)
  unfolding items
  items_lifted zero front = bind item_above (λ x. unexpected)
  items_lifted (suc count) front = tested mark.CloseBrace (passed (given front)) (bind item_above (λ x. items_lifted count (front ++ x ∷ [])))

  -- behind the brace that opens a block
  block_behind : (number : ℕ) (names : Names)
      → Above w (λ s. items w.total w.most inner r (length s.rest) [] s >>= λ x. Ok (stmt.Block number x.0, state (outside names x.1.names) x.1.rest))
      (λ s. items w.total w.wide inner' r' (length s.rest) [] s >>= λ x. Ok (stmt.Block number x.0, state (outside names x.1.names) x.1.rest))
  block_behind number names = bind (sized (λ count. items_lifted count [])) (λ x. renamed (outside names) (given (stmt.Block number x)))

  block_above : Above w (block_with w.total w.most inner r) (block_with w.total w.wide inner' r')
  unfolding block_with left_to
  block_above = numbered (λ number. scoped (λ names. passed (block_behind number names)))

-- so much room, less one
less_one : (P : ℕ → ℕ → Type 0) (r r' : ℕ) → P r r' → P (suc r - 1) (suc r' - 1)
less_one P r r' p =
    let e : r ≡ suc r - 1 = omega arith in
    let e' : r' ≡ suc r' - 1 = omega arith in
    subst (λ n. P n (suc r' - 1)) e (subst (λ n. P r n) e' p)

-- by the room at the first token
module _ (w : Rise) (r r' : ℕ) (high : Lifts w r r') (low : Lifts w (r - 1) (r' - 1))
    (head : Above w (for_head w.total w.most (r - 1)) (for_head w.total w.wide (r' - 1)))
    (inner inner' : Reader Stmt) (below : Above w inner inner') where
  case_above : (token : ℕ) → Above w (case_with w.total w.most inner r token) (case_with w.total w.wide inner' r' token)
  unfolding case_with
  case_above token = bind (high.expr extent.Cond) (λ x. expected mark.Colon (bind below (λ y. given (stmt.Case token x y))))

  return_above : (token : ℕ) → Above w (return_with w.total w.most r token) (return_with w.total w.wide r' token)
  unfolding return_with
  return_above token = bind (optional_above w r r' high mark.Semicolon) (λ x. given (stmt.Return token x))

  by_keyword_above : (k : Option Keyword) → Above w (by_keyword w.total w.most inner r k) (by_keyword w.total w.wide inner' r' k)
  by_keyword_above (Some keyword.If) = numbered (λ number. passed (if_above w (r - 1) (r' - 1) low head inner inner' below number))
  by_keyword_above (Some keyword.While) = numbered (λ number. passed (while_above w (r - 1) (r' - 1) low head inner inner' below number))
  by_keyword_above (Some keyword.Do) = numbered (λ number. passed (do_above w (r - 1) (r' - 1) low head inner inner' below number))
  by_keyword_above (Some keyword.For) = numbered (λ number. passed (for_above w (r - 1) (r' - 1) low head inner inner' below number))
  by_keyword_above (Some keyword.Switch) = numbered (λ number. passed (switch_above w (r - 1) (r' - 1) low head inner inner' below number))
  by_keyword_above (Some keyword.Case) = numbered (λ number. passed (case_above number))
  by_keyword_above (Some keyword.Default) = numbered (λ number. passed (default_above w inner inner' below number))
  by_keyword_above (Some keyword.Break) = numbered (λ number. passed (word_above w (stmt.Break number)))
  by_keyword_above (Some keyword.Continue) = numbered (λ number. passed (word_above w (stmt.Continue number)))
  by_keyword_above (Some keyword.Return) = numbered (λ number. passed (return_above number))
  by_keyword_above _ = express_above w r r' high

  by_front_above : Above w (λ s. by_keyword w.total w.most inner r (keyword_at s.rest) s) (λ s. by_keyword w.total w.wide inner' r' (keyword_at s.rest) s)
  by_front_above = picked (λ s. keyword_at s.rest) by_keyword_above

-- ---- a statement that is no block

simple_bottom : (w : Rise) → w.extra ≡ 0 → (inner inner' : Reader Stmt) → Above w (simple w.total w.most inner 0) (simple w.total w.wide inner' 0)
unfolding simple cramped too_deep
simple_bottom w none inner inner' =
    picked {h = λ b s. Err (cond b (TooNested (here w.total s)) (Unexpected (here w.total s)))}
    {h' = λ b s. Err (cond b (TooNested (here w.total s)) (Unexpected (here w.total s)))}
    (λ s. sees_simple s.names s.rest) one_of
  where
    one_of : (b : Bool) → Above w {A = Stmt} (λ s. Err (cond b (TooNested (here w.total s)) (Unexpected (here w.total s))))
        (λ s. Err (cond b (TooNested (here w.total s)) (Unexpected (here w.total s))))
    one_of true = nested none
    one_of false = unexpected

simple_step : (w : Rise) (r r' : ℕ) → Lifts w (suc r) (suc r') → Lifts w r r' → Above w (for_head w.total w.most r) (for_head w.total w.wide r')
    → (inner inner' : Reader Stmt) → Above w inner inner' → Above w (simple w.total w.most inner (suc r)) (simple w.total w.wide inner' (suc r'))
unfolding simple
simple_step w r r' high low head inner inner' below =
    both_have r r' (cramped w.total) (by_front_above w (suc r) (suc r') high (less_one (λ n n'. Lifts w n n') r r' low)
    (less_one (λ n n'. Above w (for_head w.total w.most n) (for_head w.total w.wide n')) r r' head) inner inner' below)

-- the second reader alone, where there is room for it
module _ (w : Rise) (some : 2 ≤ w.extra) (r : ℕ) (takes : TakesInner w (readers w.total w.wide (suc r)))
    (high : Lifts (flat w) (suc r) (suc r)) (low : Lifts (flat w) r r)
    (head : Above (flat w) (for_head w.total w.wide r) (for_head w.total w.wide r)) (inner' : Reader Stmt) (on : Onward w.total inner') where
  low_less : Lifts (flat w) (suc r - 1) (suc r - 1)
  low_less = less_one (λ n n'. Lifts (flat w) n n') r r low

  head_less : Above (flat w) (for_head w.total w.wide (suc r - 1)) (for_head w.total w.wide (suc r - 1))
  head_less = less_one (λ n n'. Above (flat w) (for_head w.total w.wide n) (for_head w.total w.wide n')) r r head

  inside : Above (flat w) inner' inner'
  inside = alone w on

  begun : {f' : ℕ → Reader Stmt} → ((number : ℕ) → Above (flat w) (f' number) (f' number)) → {k : Keyword} (s : State) → length s.rest ≤ w.total
      → keyword_at s.rest ≡ Some k → Higher w {A = Stmt} (Err (TooNested (here w.total s))) (f' (here w.total s) (behind s))
  begun b s le is = takes_word (b (here w.total s)).on s le is

  takes_by : (k : Option Keyword) (s : State) → length s.rest ≤ w.total → keyword_at s.rest ≡ k
      → Higher w {A = Stmt} (Err (TooNested (here w.total s))) (by_keyword w.total w.wide inner' (suc r) k s)
  takes_by (Some keyword.If) s le is = begun (if_above (flat w) (suc r - 1) (suc r - 1) low_less head_less inner' inner' inside) s le is
  takes_by (Some keyword.While) s le is = begun (while_above (flat w) (suc r - 1) (suc r - 1) low_less head_less inner' inner' inside) s le is
  takes_by (Some keyword.Do) s le is = begun (do_above (flat w) (suc r - 1) (suc r - 1) low_less head_less inner' inner' inside) s le is
  takes_by (Some keyword.For) s le is = begun (for_above (flat w) (suc r - 1) (suc r - 1) low_less head_less inner' inner' inside) s le is
  takes_by (Some keyword.Switch) s le is = begun (switch_above (flat w) (suc r - 1) (suc r - 1) low_less head_less inner' inner' inside) s le is
  takes_by (Some keyword.Case) s le is = begun (case_above (flat w) (suc r) (suc r) high low_less head_less inner' inner' inside) s le is
  takes_by (Some keyword.Default) s le is = begun (default_above (flat w) inner' inner' inside) s le is
  takes_by (Some keyword.Break) s le is = begun (λ number. word_above (flat w) (stmt.Break number)) s le is
  takes_by (Some keyword.Continue) s le is = begun (λ number. word_above (flat w) (stmt.Continue number)) s le is
  takes_by (Some keyword.Return) s le is = begun (return_above (flat w) (suc r) (suc r) high low_less head_less inner' inner' inside) s le is
  takes_by _ s le is = takes_express w some (suc r) takes high s le

  takes_front : Takes w (λ s. by_keyword w.total w.wide inner' (suc r) (keyword_at s.rest) s)
  takes_front s le = takes_by (keyword_at s.rest) s le refl

  takes_simple : Takes w (simple w.total w.wide inner' (suc r))
  unfolding simple
  takes_simple = takes_equal (skipped r (cramped w.total) (λ s. by_keyword w.total w.wide inner' (suc r) (keyword_at s.rest) s)) takes_front

  cramped_or : (b : Bool) (s : State) → length s.rest ≤ w.total
      → Higher w {A = Stmt} (Err (cond b (TooNested (here w.total s)) (Unexpected (here w.total s))))
      (by_keyword w.total w.wide inner' (suc r) (keyword_at s.rest) s)
  cramped_or true s le = takes_front s le
  cramped_or false s le = free (here w.total s) (by_keyword w.total w.wide inner' (suc r) (keyword_at s.rest) s)

  cramped_above : Above w (λ s. Err (cramped w.total s)) (λ s. by_keyword w.total w.wide inner' (suc r) (keyword_at s.rest) s)
  unfolding cramped too_deep
  cramped_above = record {
    on = (by_front_above (flat w) (suc r) (suc r) high low_less head_less inner' inner' inside).on;
    lift = λ s le. cramped_or (sees_simple s.names s.rest) s le;
  }

  simple_gap : (inner : Reader Stmt) → Above w (simple w.total w.most inner 0) (simple w.total w.wide inner' (suc r))
  unfolding simple
  simple_gap inner = other_has r (cramped w.total) cramped_above

-- ---- statements

statement_step : (w : Rise) (r r' : ℕ) → Lifts w r r' → Above w (for_head w.total w.most r) (for_head w.total w.wide r')
    → Above w (statement w.total w.most r) (statement w.total w.wide r')
    → Above w (simple w.total w.most (statement w.total w.most r) r) (simple w.total w.wide (statement w.total w.wide r') r')
    → Above w (statement w.total w.most (suc r)) (statement w.total w.wide (suc r'))
unfolding statement
statement_step w r r' low head below simpler =
    tested mark.OpenBrace (block_above w r r' low head (statement w.total w.most r) (statement w.total w.wide r') below) simpler

-- what begins with a brace, or is no block
statement_takes : (w : Rise) (r : ℕ) → Lifts (flat w) r r → Above (flat w) (for_head w.total w.wide r) (for_head w.total w.wide r)
    → Onward w.total (statement w.total w.wide r)
    → Takes w (simple w.total w.wide (statement w.total w.wide r) r) → Takes w (statement w.total w.wide (suc r))
unfolding statement block_with left_to
statement_takes w r low head on simpler =
    takes_mark_at mark.OpenBrace
    (λ u. (block_behind (flat w) r r low head (statement w.total w.wide r) (statement w.total w.wide r) (alone w on) (here w.total u) u.names).on) simpler

module _ (w : Rise) (all : (room : ℕ) → AboveInner w room (readers w.total w.most room) (readers w.total w.wide (raised w.extra room)))
    (takes : 2 ≤ w.extra → (room : ℕ) → TakesInner w (readers w.total w.wide (suc room))) (on : (room : ℕ) → OnwardInner w.total (readers w.total w.wide room)) where
  -- the second reader beside itself
  on_init : (room : ℕ) → Onward w.total (init w.total w.wide room)
  unfolding init too_deep
  on_init zero = stopped TooNested (λ number. refl)
  on_init (suc room) = (init_step (flat w) room room (alone w (on_init room)) (alone w ((on (suc room)).expr extent.Assign))).on

  lifts_alone : (room : ℕ) → Lifts (flat w) room room
  lifts_alone room = record {
    expr = λ x. alone w ((on room).expr x);
    specs = alone w (on room).specs;
    declarator = alone w (on room).declarator;
    initial = alone w (on_init room);
  }

  head_alone : (room : ℕ) → Above (flat w) (for_head w.total w.wide room) (for_head w.total w.wide room)
  head_alone zero = head_bottom (flat w) refl
  head_alone (suc room) = head_step (flat w) room room (lifts_alone (suc room))

  simple_alone : (room : ℕ) (inner' : Reader Stmt) → Onward w.total inner' → Above (flat w) (simple w.total w.wide inner' room) (simple w.total w.wide inner' room)
  simple_alone zero inner' reads = simple_bottom (flat w) refl inner' inner'
  simple_alone (suc room) inner' reads = simple_step (flat w) room room (lifts_alone (suc room)) (lifts_alone room) (head_alone room) inner' inner' (alone w reads)

  on_statement : (room : ℕ) → Onward w.total (statement w.total w.wide room)
  unfolding statement too_deep
  on_statement zero = stopped TooNested (λ number. refl)
  on_statement (suc room) =
      (statement_step (flat w) room room (lifts_alone room) (head_alone room) (alone w (on_statement room))
      (simple_alone room (statement w.total w.wide room) (on_statement room))).on

  -- with more room
  takes_init : 2 ≤ w.extra → (room : ℕ) → Takes w (init w.total w.wide (suc room))
  unfolding init
  takes_init some room =
      takes_mark_at mark.OpenBrace
      (λ u. (bind (inits_above (flat w) (init w.total w.wide room) (init w.total w.wide room) (alone w (on_init room)))
      (λ xs. given (an_init.List (here w.total u) xs))).on)
      (takes_bind ((takes some room).expr extent.Assign) (λ e. (given {w = w} (an_init.Value e)).on))

  init_bottom : Above w (init w.total w.most 0) (init w.total w.wide w.extra)
  unfolding init too_deep
  init_bottom =
      by_depth w (λ n. Above w (init w.total w.most 0) (init w.total w.wide n)) (λ none. nested none)
      (λ some k. too_deep_for (on_init (suc (suc k))) (takes_init some (suc k)))

  init_above : (room : ℕ) → Above w (init w.total w.most room) (init w.total w.wide (raised w.extra room))
  init_above zero = init_bottom
  init_above (suc room) = init_step w room (raised w.extra room) (init_above room) ((all (suc room)).expr extent.Assign)

  lifts : (room : ℕ) → Lifts w room (raised w.extra room)
  lifts room = record {
    expr = (all room).expr;
    specs = (all room).specs;
    declarator = (all room).declarator;
    initial = init_above room;
  }

  pub decl_above : (room : ℕ) → Above w (decl w.total w.most room) (decl w.total w.wide (raised w.extra room))
  decl_above room = decl_lifted w room (raised w.extra room) (lifts room)

  pub decl_from_above : (room token : ℕ) (ss : ReadSpecs) (d : ReadDeclarator)
      → Above w (decl_from w.total w.most room token ss d) (decl_from w.total w.wide (raised w.extra room) token ss d)
  decl_from_above room token ss d = decl_from_lifted w room (raised w.extra room) (lifts room) token ss d

  head_above : (room : ℕ) → Above w (for_head w.total w.most room) (for_head w.total w.wide (raised w.extra room))
  head_above zero =
      by_depth w (λ n. Above w (for_head w.total w.most 0) (for_head w.total w.wide n)) (λ none. head_bottom w none)
      (λ some k. head_gap w some (suc k) (takes some (suc k)) (lifts_alone (suc (suc k))))
  head_above (suc room) = head_step w room (raised w.extra room) (lifts (suc room))

  simple_above : (room : ℕ) (inner inner' : Reader Stmt) → Above w inner inner'
      → Above w (simple w.total w.most inner room) (simple w.total w.wide inner' (raised w.extra room))
  simple_above zero inner inner' below =
      by_depth w (λ n. Above w (simple w.total w.most inner 0) (simple w.total w.wide inner' n)) (λ none. simple_bottom w none inner inner')
      (λ some k. simple_gap w some (suc k) (takes some (suc k)) (lifts_alone (suc (suc k))) (lifts_alone (suc k)) (head_alone (suc k)) inner' below.on inner)
  simple_above (suc room) inner inner' below =
      simple_step w room (raised w.extra room) (lifts (suc room)) (lifts room) (head_above room) inner inner' below

  takes_statement : 2 ≤ w.extra → (room : ℕ) → Takes w (statement w.total w.wide (suc (suc room)))
  takes_statement some room =
      statement_takes w (suc room) (lifts_alone (suc room)) (head_alone (suc room)) (on_statement (suc room))
      (takes_simple w some room (takes some room) (lifts_alone (suc room)) (lifts_alone room) (head_alone room)
      (statement w.total w.wide (suc room)) (on_statement (suc room)))

  statement_bottom : Above w (statement w.total w.most 0) (statement w.total w.wide w.extra)
  unfolding statement too_deep
  statement_bottom =
      by_depth w (λ n. Above w (statement w.total w.most 0) (statement w.total w.wide n)) (λ none. nested none)
      (λ some k. too_deep_for (on_statement (suc (suc k))) (takes_statement some k))

  pub statement_above : (room : ℕ) → Above w (statement w.total w.most room) (statement w.total w.wide (raised w.extra room))
  statement_above zero = statement_bottom
  statement_above (suc room) =
      statement_step w room (raised w.extra room) (lifts room) (head_above room) (statement_above room)
      (simple_above room (statement w.total w.most room) (statement w.total w.wide (raised w.extra room)) (statement_above room))

  pub items_above : (room count : ℕ) (front : List (BlockItem Stmt))
      → Above w (items w.total w.most (statement w.total w.most room) room count front)
      (items w.total w.wide (statement w.total w.wide (raised w.extra room)) (raised w.extra room) count front)
  items_above room count front =
      items_lifted w room (raised w.extra room) (lifts room) (head_above room)
      (statement w.total w.most room) (statement w.total w.wide (raised w.extra room)) (statement_above room) count front
