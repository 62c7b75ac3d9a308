-- What a reader of declarations or statements does depends only on the tokens up to where it stops.
use Rattle.std.proofs.Common.{◌≡◌, ℕ, zero, suc, ◌-◌, ◌≤◌, not, Bool, true, false, cond, nat_eq, Option, Some, None, Ok, Err, List, [], ◌∷◌, ◌++◌, length, drop, refl, arith}
use Rattle.c_lex.specs.declared.token.Token.{Token}
use Rattle.c_lex.specs.declared.token.Keyword.{Keyword}
use Rattle.c_lex.specs.declared.token.Keyword.TheVariants as keyword
use Rattle.c_lex.specs.declared.token.Mark.{Mark}
use Rattle.c_lex.specs.declared.token.Mark.TheVariants as mark
use Rattle.c_ast.specs.declared.declaration.Init.{Init}
use Rattle.c_ast.specs.declared.declaration.Init.TheVariants as an_init
use Rattle.c_ast.specs.declared.declaration.InitDeclarator.{InitDeclarator}
use Rattle.c_ast.specs.declared.statement.Stmt.{Stmt}
use Rattle.c_ast.specs.declared.statement.Stmt.TheVariants as stmt
use Rattle.c_ast.specs.declared.statement.ForStart.TheVariants as start
use Rattle.c_ast.specs.declared.statement.BlockItem.{BlockItem}
use Rattle.c_ast.specs.declared.statement.BlockItem.TheVariants as an_item
use Rattle.c_grammar.specs.declared.phrases.Extent.TheVariants as extent
use Rattle.c_grammar.specs.declared.phrases.ReadSpecs.{ReadSpecs}
use Rattle.c_grammar.specs.declared.phrases.ReadDeclarator.{ReadDeclarator}
use Rattle.c_grammar.specs.Names.{Names, declared}
use Rattle.c_grammar.specs.Reading.{State, Unexpected, TooNested, Outcome, Reader, ◌>>=◌, is_mark, sees_mark, sees_keyword, behind, here, expect_mark}
use Rattle.c_grammar.specs.ReadingExpr.{sees_type}
use Rattle.c_grammar.specs.ReadingDecl.{too_deep}
use Rattle.c_grammar.specs.ReadingStmt.{left_to, behind_comma, inits_end, more_inits, inits, init, initialised, init_declarator, more_declared, all_declared, decl_from, decl_behind, decl, optional, bracketed, for_start, for_head, if_with, while_with, switch_with, do_with, for_with, case_with, default_with, word_alone, return_with, express_with, keyword_at, sees_simple, cramped, by_keyword, simple, item, items, block_with, statement}
use Rattle.c_grammar_laws.proofs.Agrees.{Sides, total_one, total_other, state, Both, IsPast, either, scoped, bind, given, wider, weak, falling, equal, picked, numbered, unexpected, nested, taken, passed, stepped, renamed, judged, tested, expected, expected_first, expected_word, forked, counted, sized}
use Rattle.c_grammar_laws.proofs.LocalLevels.{readers_both}

-- what isn't expected, or stands too deep
cramped_both : (w : Sides) (n m : ℕ) {A : Type 0} → Both w n m {A = A} (λ s. Err (cramped (total_one w) s)) (λ s. Err (cramped (total_other w) s))
unfolding cramped too_deep
cramped_both w n m {A = A} =
    picked {h = λ b s. Err (cond b (TooNested (here (total_one w) s)) (Unexpected (here (total_one w) s)))}
    {h' = λ b s. Err (cond b (TooNested (here (total_other w) s)) (Unexpected (here (total_other w) s)))}
    (λ s. sees_simple s.names s.rest) (λ s. sees_simple s.names s.rest) (λ names t ts. refl) one_of
  where
    one_of : (b : Bool) → Both w n m {A = A} (λ s. Err (cond b (TooNested (here (total_one w) s)) (Unexpected (here (total_one w) s))))
        (λ s. Err (cond b (TooNested (here (total_other w) s)) (Unexpected (here (total_other w) s))))
    one_of true = nested
    one_of false = unexpected

-- ---- initialisers

pub behind_either : {A : Type 0} (b : Bool) (s s' : State) (f : State → Outcome A) → cond b (f s) (f s') ≡ f (cond b s s')
behind_either true s s' f = refl
behind_either false s s' f = refl

-- behind the comma, if one comes next
close : {w : Sides} {n m : ℕ} {A : Type 0} {f f' : Reader A} → Both w n m f f' → Both w n m (λ s. f (behind_comma s)) (λ s. f' (behind_comma s))
close {f = f} {f' = f'} b =
    equal (λ s. behind_either (sees_mark mark.Comma s.rest) (behind s) s f) (λ s. behind_either (sees_mark mark.Comma s.rest) (behind s) s f')
    (tested mark.Comma (passed b) b)

closing : (w : Sides) (n : ℕ) (front : List Init) → Both w n n (λ s. expect_mark (total_one w) mark.CloseBrace s >>= λ s'. Ok (front, s')) (λ s. expect_mark (total_other w) mark.CloseBrace s >>= λ s'. Ok (front, s'))
closing w n front = expected mark.CloseBrace (given front)

inits_end_both : (w : Sides) (n : ℕ) (front : List Init) → Both w n n (inits_end (total_one w) front) (inits_end (total_other w) front)
unfolding inits_end
inits_end_both w n front = close (closing w n front)

-- where a comma is the last token in front
inits_end_last : (w : Sides) (front : List Init) (names : Names) (t : Token) → is_mark mark.Comma t.kind ≡ true
    → IsPast w.from (length w.one) (inits_end (total_one w) front (state names (t ∷ w.one)))
    × IsPast w.from (length w.other) (inits_end (total_other w) front (state names (t ∷ w.other)))
unfolding inits_end
inits_end_last w front names t is =
    (rw is ((closing w 0 front).one (state names w.one) (omega arith)), rw is ((closing w 0 front).other (state names w.other) (omega arith)))

-- the names that are left behind a scope
abbrev pub outside : Names → Names → Names
outside before names = drop (length names - length before) names

more_inits_both : (w : Sides) (read read' : Reader Init) → ((n : ℕ) → Both w n n read read') → (n count count' : ℕ) (front : List Init) → n ≤ count → n ≤ count'
    → Both w n n (more_inits (total_one w) read count front) (more_inits (total_other w) read' count' front)
unfolding more_inits
more_inits_both w read read' reads = counted (more_inits (total_one w) read) (more_inits (total_other w) read') (λ n front. unexpected)
    (λ n count count' rec front. forked (suc zero) (λ ts. sees_mark mark.Comma ts) (λ names ts. not (sees_mark mark.CloseBrace ts)) (λ t ts us. refl) (λ names t ts us. refl)
    (λ names t is some. ((bind (reads (n - 1)) (λ x. rec (front ++ x ∷ []))).one (state names w.one) (omega arith), (inits_end_last w front names t is).0))
    (λ names t is some. ((bind (reads (n - 1)) (λ x. rec (front ++ x ∷ []))).other (state names w.other) (omega arith), (inits_end_last w front names t is).1))
    (stepped (bind (reads (n - 1)) (λ x. rec (front ++ x ∷ [])))) (inits_end_both w n front))

inits_both : (w : Sides) (read read' : Reader Init) → ((n : ℕ) → Both w n n read read') → (n : ℕ)
    → Both w n n (inits (total_one w) read) (inits (total_other w) read')
unfolding inits
inits_both w read read' reads n =
    bind (reads n) (λ x. sized (λ l count count' small le le'. wider {n = l} {m = l} (omega arith) (omega (arith, small)) (more_inits_both w read read' reads l count count' (x ∷ []) le le')))

module _ (w : Sides) (most : ℕ) where
  init_both : (room n : ℕ) → Both w n n (init (total_one w) most room) (init (total_other w) most room)
  unfolding init too_deep
  init_both zero n = nested
  init_both (suc room) n =
      tested mark.OpenBrace
      (numbered (λ number. passed (bind (inits_both w (init (total_one w) most room) (init (total_other w) most room) (init_both room) n) (λ xs. given (an_init.List number xs)))))
      (bind ((readers_both w most (suc room)).expr extent.Assign n) (λ e. given (an_init.Value e)))

  -- ---- declarations

  initialised_both : (room n : ℕ) (flag : Bool) (d : ReadDeclarator)
      → Both w n n (initialised (total_one w) most room flag d) (initialised (total_other w) most room flag d)
  unfolding initialised
  initialised_both room n flag d =
      tested mark.Assign
      (renamed (λ names. declared names d.name flag) (passed (bind (init_both room n) (λ x. given (record { declarator = d.tree; init = Some x })))))
      (renamed (λ names. declared names d.name flag) (given (record { declarator = d.tree; init = None })))

  init_declarator_both : (room n : ℕ) (flag : Bool) → Both w n n (init_declarator (total_one w) most room flag) (init_declarator (total_other w) most room flag)
  unfolding init_declarator
  init_declarator_both room n flag = bind ((readers_both w most room).declarator n) (λ d. initialised_both room n flag d)

  more_declared_both : (room : ℕ) (flag : Bool) (n count count' : ℕ) (front : List InitDeclarator) → n ≤ count → n ≤ count'
      → Both w n n (more_declared (total_one w) most room flag count front) (more_declared (total_other w) most room flag count' front)
  unfolding more_declared
  more_declared_both room flag = counted (more_declared (total_one w) most room flag) (more_declared (total_other w) most room flag) (λ n front. unexpected)
      (λ n count count' rec front. tested mark.Comma
      (stepped (bind (init_declarator_both room (n - 1) flag) (λ x. rec (front ++ x ∷ [])))) (expected mark.Semicolon (given front)))

  all_declared_both : (room n : ℕ) (flag : Bool) (d : ReadDeclarator)
      → Both w n n (all_declared (total_one w) most room flag d) (all_declared (total_other w) most room flag d)
  unfolding all_declared
  all_declared_both room n flag d =
      bind (initialised_both room n flag d)
      (λ x. sized (λ l count count' small le le'. wider {n = l} {m = l} (omega arith) (omega (arith, small)) (more_declared_both room flag l count count' (x ∷ []) le le')))

  pub decl_from_both : (room n token : ℕ) (ss : ReadSpecs) (d : ReadDeclarator)
      → Both w n n (decl_from (total_one w) most room token ss d) (decl_from (total_other w) most room token ss d)
  unfolding decl_from
  decl_from_both room n token ss d =
      bind (all_declared_both room n ss.is_typedef d) (λ ds. given (record { token = token; specs = ss.specs; declared = ds }))

  decl_behind_both : (room n token : ℕ) (ss : ReadSpecs) → Both w n n (decl_behind (total_one w) most room token ss) (decl_behind (total_other w) most room token ss)
  unfolding decl_behind
  decl_behind_both room n token ss =
      tested mark.Semicolon (passed (given (record { token = token; specs = ss.specs; declared = [] })))
      (bind ((readers_both w most room).declarator n) (λ d. decl_from_both room n token ss d))

  decl_both : (room n : ℕ) → Both w (suc n) n (decl (total_one w) most room) (decl (total_other w) most room)
  unfolding decl
  decl_both room n = numbered (λ number. bind ((readers_both w most room).specs n) (λ ss. decl_behind_both room n number ss))

  -- ---- parts of statements

  optional_first : (room n : ℕ) (m : Mark) → Both w (suc n) n (optional (total_one w) most room m) (optional (total_other w) most room m)
  unfolding optional
  optional_first room n m =
      tested m (taken (given None)) (bind ((readers_both w most room).expr extent.Comma (suc n)) (λ e. expected_first m (given (Some e))))

  optional_both : (room n : ℕ) (m : Mark) → Both w n n (optional (total_one w) most room m) (optional (total_other w) most room m)
  optional_both room n m = weak (optional_first room n m)

  test_both : (room n : ℕ) → Both w n n (bracketed (total_one w) most room) (bracketed (total_other w) most room)
  unfolding bracketed
  test_both room n =
      expected mark.OpenParen (bind ((readers_both w most room).expr extent.Comma n) (λ e. expected mark.CloseParen (given e)))

  for_start_both : (room n : ℕ) → Both w n n (for_start (total_one w) most room) (for_start (total_other w) most room)
  unfolding for_start
  for_start_both room n =
      judged (λ names ts. sees_type names ts) (λ names t ts. refl) (bind (weak (decl_both room n)) (λ d. given (start.Declaration d)))
      (bind (optional_both room n mark.Semicolon) (λ e. given (start.Expression e)))

  for_head_both : (room n : ℕ) → Both w n n (for_head (total_one w) most room) (for_head (total_other w) most room)
  unfolding for_head too_deep
  for_head_both room n =
      either nested (bind (for_start_both room n) (λ x. bind (optional_both room n mark.Semicolon)
      (λ y. bind (optional_both room n mark.CloseParen) (λ z. given (record { start = x; test = y; step = z }))))) (nat_eq room 0)

  -- ---- statements, by what reads one inside

  module _ (inner inner' : Reader Stmt) (below : (n : ℕ) → Both w (suc n) n inner inner') where
    if_both : (room n token : ℕ) → Both w n n (if_with (total_one w) most inner room token) (if_with (total_other w) most inner' room token)
    unfolding if_with left_to
    if_both room n token =
        scoped (λ names. bind (test_both room n) (λ x. scoped (λ inside. bind (weak (below n))
        (λ y. judged (λ names ts. sees_keyword keyword.Else ts) (λ names t ts. refl)
        (renamed (outside inside) (passed (bind (weak (below n)) (λ z. renamed (outside names) (given (stmt.If token x y (Some z)))))))
        (renamed (outside names) (given (stmt.If token x y None)))))))

    while_both : (room n token : ℕ) → Both w n n (while_with (total_one w) most inner room token) (while_with (total_other w) most inner' room token)
    unfolding while_with left_to
    while_both room n token =
        scoped (λ names. bind (test_both room n) (λ x. bind (weak (below n)) (λ y. renamed (outside names) (given (stmt.While token x y)))))

    switch_both : (room n token : ℕ) → Both w n n (switch_with (total_one w) most inner room token) (switch_with (total_other w) most inner' room token)
    unfolding switch_with left_to
    switch_both room n token =
        scoped (λ names. bind (test_both room n) (λ x. bind (weak (below n)) (λ y. renamed (outside names) (given (stmt.Switch token x y)))))

    do_both : (room n token : ℕ) → Both w n n (do_with (total_one w) most inner room token) (do_with (total_other w) most inner' room token)
    unfolding do_with left_to
    do_both room n token =
        scoped (λ names. bind (weak (below n)) (λ x. renamed (outside names) (expected_word keyword.While (bind (test_both room n)
        (λ y. expected mark.Semicolon (renamed (outside names) (given (stmt.Do token x y))))))))

    for_both : (room n token : ℕ) → Both w n n (for_with (total_one w) most inner room token) (for_with (total_other w) most inner' room token)
    unfolding for_with left_to
    for_both room n token =
        scoped (λ names. expected mark.OpenParen (bind (for_head_both room n) (λ x. bind (weak (below n))
        (λ y. renamed (outside names) (given (stmt.For token x.start x.test x.step y))))))

    case_both : (room n token : ℕ) → Both w n n (case_with (total_one w) most inner room token) (case_with (total_other w) most inner' room token)
    unfolding case_with
    case_both room n token =
        bind ((readers_both w most room).expr extent.Cond n) (λ x. expected mark.Colon (bind (weak (below n)) (λ y. given (stmt.Case token x y))))

    default_both : (n token : ℕ) → Both w n n (default_with (total_one w) inner token) (default_with (total_other w) inner' token)
    unfolding default_with
    default_both n token = expected mark.Colon (bind (weak (below n)) (λ y. given (stmt.Default token y)))

    word_both : (n : ℕ) (a : Stmt) → Both w n n (word_alone (total_one w) a) (word_alone (total_other w) a)
    unfolding word_alone
    word_both n a = expected mark.Semicolon (given a)

    return_both : (room n token : ℕ) → Both w n n (return_with (total_one w) most room token) (return_with (total_other w) most room token)
    unfolding return_with
    return_both room n token = bind (optional_both room n mark.Semicolon) (λ x. given (stmt.Return token x))

    express_both : (room n : ℕ) → Both w (suc n) n (express_with (total_one w) most room) (express_with (total_other w) most room)
    unfolding express_with
    express_both room n = numbered (λ number. bind (optional_first room n mark.Semicolon) (λ x. given (stmt.Express number x)))

    by_keyword_both : (room n : ℕ) (k : Option Keyword)
        → Both w (suc n) n (by_keyword (total_one w) most inner room k) (by_keyword (total_other w) most inner' room k)
    by_keyword_both room n (Some keyword.If) = numbered (λ number. taken (if_both (room - 1) n number))
    by_keyword_both room n (Some keyword.While) = numbered (λ number. taken (while_both (room - 1) n number))
    by_keyword_both room n (Some keyword.Do) = numbered (λ number. taken (do_both (room - 1) n number))
    by_keyword_both room n (Some keyword.For) = numbered (λ number. taken (for_both (room - 1) n number))
    by_keyword_both room n (Some keyword.Switch) = numbered (λ number. taken (switch_both (room - 1) n number))
    by_keyword_both room n (Some keyword.Case) = numbered (λ number. taken (case_both room n number))
    by_keyword_both room n (Some keyword.Default) = numbered (λ number. taken (default_both n number))
    by_keyword_both room n (Some keyword.Break) = numbered (λ number. taken (word_both n (stmt.Break number)))
    by_keyword_both room n (Some keyword.Continue) = numbered (λ number. taken (word_both n (stmt.Continue number)))
    by_keyword_both room n (Some keyword.Return) = numbered (λ number. taken (return_both room n number))
    by_keyword_both room n _ = express_both room n

    simple_both : (room n : ℕ) → Both w (suc n) n (simple (total_one w) most inner room) (simple (total_other w) most inner' room)
    unfolding simple
    simple_both room n =
        either (cramped_both w (suc n) n) (picked (λ s. keyword_at s.rest) (λ s. keyword_at s.rest) (λ names t ts. refl) (by_keyword_both room n)) (nat_eq room 0)

    item_both : (room n : ℕ) → Both w (suc n) n (item (total_one w) most inner room) (item (total_other w) most inner' room)
    unfolding item
    item_both room n =
        judged (λ names ts. sees_type names ts) (λ names t ts. refl) (bind (decl_both room n) (λ d. given (an_item.Declaration d)))
        (bind (below n) (λ s. given (an_item.Statement s)))

    pub items_both : (room n count count' : ℕ) (front : List (BlockItem Stmt)) → n ≤ count → n ≤ count'
        → Both w n n (items (total_one w) most inner room count front) (items (total_other w) most inner' room count' front)
    unfolding items
    items_both room = counted (items (total_one w) most inner room) (items (total_other w) most inner' room)
        (λ n front. weak (bind (item_both room n) (λ x. unexpected)))
        (λ n count count' rec front. tested mark.CloseBrace (passed (given front))
        (falling (bind (item_both room (n - 1)) (λ x. rec (front ++ x ∷ [])))))

    block_both : (room n : ℕ) → Both w (suc n) n (block_with (total_one w) most inner room) (block_with (total_other w) most inner' room)
    unfolding block_with left_to
    block_both room n =
        numbered (λ number. scoped (λ names. taken (bind
        (sized (λ l count count' small le le'. wider {n = l} {m = l} (omega arith) (omega (arith, small)) (items_both room l count count' [] le le')))
        (λ x. renamed (outside names) (given (stmt.Block number x))))))

  pub statement_both : (room n : ℕ) → Both w (suc n) n (statement (total_one w) most room) (statement (total_other w) most room)
  unfolding statement too_deep
  statement_both zero n = nested
  statement_both (suc room) n =
      let inner = statement (total_one w) most room in
      let inner' = statement (total_other w) most room in
      tested mark.OpenBrace (block_both inner inner' (statement_both room) room n) (simple_both inner inner' (statement_both room) room n)
