-- What a reader of expressions does depends only on the tokens up to where it stops.
use Rattle.std.proofs.Common.{◌≡◌, ℕ, zero, suc, ◌-◌, ◌≤◌, ◌&&◌, Bool, true, false, cond, Option, Some, None, Ok, List, [], ◌∷◌, ◌++◌, length, refl, sym, ap, subst, arith}
use Rattle.c_lex.specs.declared.token.Token.{Token}
use Rattle.c_lex.specs.declared.token.TokenKind.{TokenKind}
use Rattle.c_lex.specs.declared.token.TokenKind.TheVariants as kind
use Rattle.c_lex.specs.declared.token.Keyword.TheVariants as keyword
use Rattle.c_lex.specs.declared.token.Mark.{Mark}
use Rattle.c_lex.specs.declared.token.Mark.TheVariants as mark
use Rattle.c_ast.specs.declared.words.PrefixOp.{PrefixOp}
use Rattle.c_ast.specs.declared.expression.Expr.{Expr}
use Rattle.c_ast.specs.declared.expression.Expr.TheVariants as expr
use Rattle.c_ast.specs.declared.expression.Link.{Link}
use Rattle.c_ast.specs.declared.expression.PostfixOp.{PostfixOp}
use Rattle.c_ast.specs.declared.expression.PostfixOp.TheVariants as after
use Rattle.c_ast.specs.declared.declaration.TypeName.{roll-TypeName}
use Rattle.c_grammar.specs.declared.phrases.Extent.{Extent}
use Rattle.c_grammar.specs.declared.phrases.Extent.TheVariants as extent
use Rattle.c_grammar.specs.Names.{Names}
use Rattle.c_grammar.specs.Words.{IsMark, number_of, prefix_of}
use Rattle.c_grammar.specs.Grammar.{postfixed, linked, listed}
use Rattle.c_grammar.specs.Reading.{State, Outcome, Reader, ◌>>=◌, is_mark, is_keyword, sees_mark, sees_keyword, expect_mark, kind_at}
use Rattle.c_grammar.specs.ReadingExpr.{choose, or_else, token_expr, front_expr, starts_type, sees_type, sees_type_in_parens, paren, primary, index, arguments, call, dot, arrow, postfix_by, postfix_of, postfix_at, postfixes, postfix, prefix_at, prefixed, sizeof, type_in_parens, cast, unary, operator_in, links, level_from, cond_from, assign_at, assign, others, comma, expr_of}
use Rattle.c_grammar.specs.ReadingExpr as reading
use Rattle.c_grammar.specs.Inner.{Inner}
use Rattle.c_grammar_laws.proofs.ExprFound.{mark_is}
use Rattle.c_grammar_laws.proofs.Agrees.{Sides, total_one, total_other, state, Both, IsPast, goes, IsTaken, found_there, bind, given, wider, weak, equal, picked, numbered, unexpected, nested, taken, passed, stepped, judged, tested, chosen, expected, expected_first, same_number, name_next, forked, counted, sized, past_bind, taken_bind}

-- what a level does at the last token in front
pub record Takes (from : ℕ) (a : List Token) (room : ℕ) (inner : Inner) : Type 0 where
  pub type_in_parens : (names : Names) (t : Token) → IsMark mark.OpenParen t → IsTaken room from a t (inner.type_in_parens (state names (t ∷ a)))
  pub expr : (names : Names) (t : Token) → IsMark mark.OpenParen t → IsTaken room from a t (inner.expr extent.Unary (state names (t ∷ a)))
  pub specs : (names : Names) (t : Token) → t.kind ≡ kind.Keyword keyword.Void → IsTaken room from a t (inner.specs (state names (t ∷ a)))

-- what is asked of the readers one level further in, on either side
pub record BothInner (w : Sides) (room : ℕ) (inner inner' : Inner) : Type 0 where
  pub expr : (x : Extent) (n : ℕ) → Both w n n (inner.expr x) (inner'.expr x)
  pub specs : (n : ℕ) → Both w (suc n) n inner.specs inner'.specs
  pub declarator : (n : ℕ) → Both w n n inner.declarator inner'.declarator
  pub unnamed : (n : ℕ) → Both w n n inner.unnamed inner'.unnamed
  pub param : (n : ℕ) → Both w n n inner.param inner'.param
  pub type_in_parens : (n : ℕ) → Both w n n inner.type_in_parens inner'.type_in_parens
  pub takes_one : Takes w.from w.one room inner
  pub takes_other : Takes w.from w.other room inner'

-- readers that there are or aren't on both sides
data BothMaybe (w : Sides) (n m : ℕ) {A : Type 0} : Option (Reader A) → Option (Reader A) → Type 0 where
  neither : BothMaybe w n m None None
  each : {f f' : Reader A} → Both w n m f f' → BothMaybe w n m (Some f) (Some f')

maybe_read : {w : Sides} {n m : ℕ} {A B : Type 0} {o o' : Option (Reader A)} {g g' : Reader B} {h h' : Reader A → Reader B} → BothMaybe w (suc n) n o o'
    → Both w n m g g' → ((f f' : Reader A) → Both w (suc n) n f f' → Both w n m (h f) (h' f'))
    → Both w n m (λ s. choose o (g s) (λ read. h read s)) (λ s. choose o' (g' s) (λ read. h' read s))
maybe_read neither b c = b
maybe_read (each {f} {f'} r) b c = c f f' r

else_both : {w : Sides} {n : ℕ} {A : Type 0} (o : Option A) → Both w (suc n) n (λ s. or_else (total_one w) s o) (λ s. or_else (total_other w) s o)
else_both None = unexpected
else_both (Some a) = taken (given a)

by_kind : {B : Type 0} → ℕ → Inner → Reader B → (Reader (PostfixOp Expr) → Reader B) → Option TokenKind → Reader B
by_kind total inner g h None s = g s
by_kind total inner g h (Some k) s = choose (postfix_of total inner k) (g s) (λ read. h read s)

by_kind_is : {B : Type 0} (total : ℕ) (inner : Inner) (g : Reader B) (h : Reader (PostfixOp Expr) → Reader B) (s t : State)
    → by_kind total inner g h (kind_at t.rest) s ≡ choose (postfix_at total inner t.rest) (g s) (λ read. h read s)
unfolding by_kind
by_kind_is total inner g h s t = by_list t.rest
  where
    by_list : (ts : List Token) → by_kind total inner g h (kind_at ts) s ≡ choose (postfix_at total inner ts) (g s) (λ read. h read s)
    by_list [] = refl
    by_list (u ∷ us) = refl

module _ (w : Sides) (room : ℕ) (inner inner' : Inner) (below : BothInner w room inner inner') where
  in_paren : (number n : ℕ) → Both w n n
      (λ s. inner.expr extent.Comma s >>= λ x. expect_mark (total_one w) mark.CloseParen x.1 >>= λ s'. Ok (expr.Paren number x.0, s'))
      (λ s. inner'.expr extent.Comma s >>= λ x. expect_mark (total_other w) mark.CloseParen x.1 >>= λ s'. Ok (expr.Paren number x.0, s'))
  in_paren number n = bind (below.expr extent.Comma n) (λ e. expected mark.CloseParen (given (expr.Paren number e)))

  paren_both : (n : ℕ) → Both w (suc n) n (paren (total_one w) inner) (paren (total_other w) inner')
  unfolding paren
  paren_both n = numbered (λ number. taken (in_paren number n))

  primary_both : (n : ℕ) → Both w (suc n) n (primary (total_one w) inner) (primary (total_other w) inner')
  unfolding primary
  primary_both n = tested mark.OpenParen (paren_both n)
      (picked (λ s. front_expr (total_one w) s.names s.rest) (λ s. front_expr (total_other w) s.names s.rest)
      (λ names t ts. ap (λ number. token_expr number names t t.kind) (same_number w t ts)) else_both)

  -- ---- postfix operators

  index_both : (n : ℕ) → Both w (suc n) n (index (total_one w) inner) (index (total_other w) inner')
  unfolding index
  index_both n = numbered (λ number. taken (bind (below.expr extent.Comma n) (λ e. expected mark.CloseBracket (given (after.Index number e)))))

  arguments_both : (n count count' : ℕ) (front : List Expr) → n ≤ count → n ≤ count'
      → Both w n n (arguments (total_one w) inner count front) (arguments (total_other w) inner' count' front)
  unfolding arguments
  arguments_both = counted (arguments (total_one w) inner) (arguments (total_other w) inner') (λ n front. unexpected)
      (λ n count count' rec front. bind (below.expr extent.Assign n)
      (λ e. tested mark.Comma (stepped (rec (front ++ e ∷ []))) (expected mark.CloseParen (given (front ++ e ∷ [])))))

  call_both : (n : ℕ) → Both w (suc n) n (call (total_one w) inner) (call (total_other w) inner')
  unfolding call
  call_both n = numbered (λ number. sized (λ l count count' small le le'.
      wider {n = l} {m = l - 1} (omega arith) (omega (arith, small)) (stepped (tested mark.CloseParen (passed (given (after.Call number [])))
      (bind (arguments_both (l - 1) count count' [] (omega (arith, le)) (omega (arith, le'))) (λ es. given (after.Call number es)))))))

  dot_both : (n : ℕ) → Both w (suc n) n (dot (total_one w)) (dot (total_other w))
  unfolding dot
  dot_both n = numbered (λ number. taken (bind (weak (name_next w n)) (λ name. given (after.Member number name))))

  arrow_both : (n : ℕ) → Both w (suc n) n (arrow (total_one w)) (arrow (total_other w))
  unfolding arrow
  arrow_both n = numbered (λ number. taken (bind (weak (name_next w n)) (λ name. given (after.Arrow number name))))

  postfix_by_both : (n : ℕ) (m : Mark) → BothMaybe w (suc n) n (postfix_by (total_one w) inner m) (postfix_by (total_other w) inner' m)
  postfix_by_both n mark.OpenBracket = each (index_both n)
  postfix_by_both n mark.OpenParen = each (call_both n)
  postfix_by_both n mark.Dot = each (dot_both n)
  postfix_by_both n mark.Arrow = each (arrow_both n)
  postfix_by_both n mark.PlusPlus = each (numbered (λ number. taken (given (after.Increment number))))
  postfix_by_both n mark.MinusMinus = each (numbered (λ number. taken (given (after.Decrement number))))
  postfix_by_both n _ = neither

  postfix_of_both : (n : ℕ) (k : TokenKind) → BothMaybe w (suc n) n (postfix_of (total_one w) inner k) (postfix_of (total_other w) inner' k)
  postfix_of_both n (kind.Mark m) = postfix_by_both n m
  postfix_of_both n (kind.Keyword k) = neither
  postfix_of_both n kind.Name = neither
  postfix_of_both n (kind.Number t) = neither
  postfix_of_both n kind.Character = neither
  postfix_of_both n kind.Text = neither

  postfix_at_both : {n m : ℕ} {B : Type 0} {g g' : Reader B} {h h' : Reader (PostfixOp Expr) → Reader B} → Both w n m g g'
      → ((f f' : Reader (PostfixOp Expr)) → Both w (suc n) n f f' → Both w n m (h f) (h' f'))
      → Both w n m (λ s. choose (postfix_at (total_one w) inner s.rest) (g s) (λ read. h read s)) (λ s. choose (postfix_at (total_other w) inner' s.rest) (g' s) (λ read. h' read s))
  unfolding by_kind
  postfix_at_both {n = n} {m = m} {g = g} {g' = g'} {h = h} {h' = h'} b c =
      equal (λ s. by_kind_is (total_one w) inner g h s s) (λ s. by_kind_is (total_other w) inner' g' h' s s)
      (picked (λ s. kind_at s.rest) (λ s. kind_at s.rest) (λ names t ts. refl) by_kind_both)
    where
      by_kind_both : (k : Option TokenKind) → Both w n m (by_kind (total_one w) inner g h k) (by_kind (total_other w) inner' g' h' k)
      by_kind_both None = b
      by_kind_both (Some k) = maybe_read (postfix_of_both n k) b c

  postfixes_both : (n spare : ℕ) (front : List (PostfixOp Expr)) → Both w n n (postfixes (total_one w) inner spare front) (postfixes (total_other w) inner' spare front)
  unfolding postfixes
  postfixes_both n zero front = postfix_at_both (given front) (λ f f' r. nested)
  postfixes_both n (suc spare) front =
      postfix_at_both (given front) (λ f f' r. bind (weak r) (λ o. postfixes_both n spare (front ++ o ∷ [])))

  postfix_both : (n most : ℕ) → Both w (suc n) n (postfix (total_one w) most inner) (postfix (total_other w) most inner')
  unfolding postfix
  postfix_both n most =
      numbered (λ number. bind (primary_both n) (λ e. bind (postfixes_both n most []) (λ os. given (postfixed number e os))))

  -- ---- prefix operators

  prefixed_both : (n : ℕ) (op : PrefixOp) → Both w (suc n) n (prefixed (total_one w) inner op) (prefixed (total_other w) inner' op)
  unfolding prefixed
  prefixed_both n op = numbered (λ number. taken (bind (below.expr extent.Unary n) (λ e. given (expr.Prefix number op e))))

  in_type : (n : ℕ) → Both w n n
      (λ s. inner.specs s >>= λ x. inner.unnamed x.1 >>= λ y. expect_mark (total_one w) mark.CloseParen y.1
      >>= λ s'. Ok (roll-TypeName (record { specs = x.0.specs; declarator = y.0 }), s'))
      (λ s. inner'.specs s >>= λ x. inner'.unnamed x.1 >>= λ y. expect_mark (total_other w) mark.CloseParen y.1
      >>= λ s'. Ok (roll-TypeName (record { specs = x.0.specs; declarator = y.0 }), s'))
  in_type n =
      bind (weak (below.specs n))
      (λ ss. bind (below.unnamed n) (λ d. expected mark.CloseParen (given (roll-TypeName (record { specs = ss.specs; declarator = d })))))

  pub type_both : (n : ℕ) → Both w (suc n) n (type_in_parens (total_one w) inner) (type_in_parens (total_other w) inner')
  unfolding type_in_parens
  type_both n = expected_first mark.OpenParen (in_type n)

  cast_both : (n : ℕ) → Both w (suc n) n (cast (total_one w) inner) (cast (total_other w) inner')
  unfolding cast
  cast_both n = numbered (λ number. bind (type_both n) (λ t. bind (below.expr extent.Unary n) (λ e. given (expr.Cast number t e))))

  sizeof_both : (n : ℕ) → Both w (suc n) n (sizeof (total_one w) inner) (sizeof (total_other w) inner')
  unfolding sizeof
  sizeof_both n = numbered (λ number. taken (forked room (λ ts. sees_mark mark.OpenParen ts) (λ names ts. sees_type names ts) (λ t ts us. refl) (λ names t ts us. refl)
      (λ names t is few. (
        taken_bind room w.from w.one t (inner.type_in_parens (state names (t ∷ w.one))) (below.takes_one.type_in_parens names t (mark_is mark.OpenParen t.kind is)) (λ x s le. goes (expr.SizeofType number x) s le),
        taken_bind room w.from w.one t (inner.expr extent.Unary (state names (t ∷ w.one))) (below.takes_one.expr names t (mark_is mark.OpenParen t.kind is)) (λ x s le. goes (expr.SizeofExpr number x) s le),
      ))
      (λ names t is few. (
        taken_bind room w.from w.other t (inner'.type_in_parens (state names (t ∷ w.other))) (below.takes_other.type_in_parens names t (mark_is mark.OpenParen t.kind is)) (λ x s le. goes (expr.SizeofType number x) s le),
        taken_bind room w.from w.other t (inner'.expr extent.Unary (state names (t ∷ w.other))) (below.takes_other.expr names t (mark_is mark.OpenParen t.kind is)) (λ x s le. goes (expr.SizeofExpr number x) s le),
      ))
      (bind (below.type_in_parens n) (λ t. given (expr.SizeofType number t))) (bind (below.expr extent.Unary n) (λ e. given (expr.SizeofExpr number e)))))

  -- ---- at a bracket that is the last token in front

  paren_last : (names : Names) (t : Token) → IsPast w.from (length w.one) (paren (total_one w) inner (state names (t ∷ w.one)))
      × IsPast w.from (length w.other) (paren (total_other w) inner' (state names (t ∷ w.other)))
  unfolding paren
  paren_last names t = (
    (in_paren (number_of (total_one w) (t ∷ w.one)) 0).one (state names w.one) (omega arith),
    (in_paren (number_of (total_other w) (t ∷ w.other)) 0).other (state names w.other) (omega arith),
  )

  pub type_last : (names : Names) (t : Token) → IsMark mark.OpenParen t → IsPast w.from (length w.one) (type_in_parens (total_one w) inner (state names (t ∷ w.one)))
      × IsPast w.from (length w.other) (type_in_parens (total_other w) inner' (state names (t ∷ w.other)))
  unfolding type_in_parens
  type_last names t is =
      let seen : is_mark mark.OpenParen t.kind ≡ true = ap (is_mark mark.OpenParen) is in (
        rw (found_there (total_one w) mark.OpenParen names t w.one seen) ((in_type 0).one (state names w.one) (omega arith)),
        rw (found_there (total_other w) mark.OpenParen names t w.other seen) ((in_type 0).other (state names w.other) (omega arith)),
      )

  cast_last : (names : Names) (t : Token) → IsMark mark.OpenParen t → IsPast w.from (length w.one) (cast (total_one w) inner (state names (t ∷ w.one)))
      × IsPast w.from (length w.other) (cast (total_other w) inner' (state names (t ∷ w.other)))
  unfolding cast
  cast_last names t is =
      let p = type_last names t is in (
        past_bind p.0 (λ x s le. past_bind ((below.expr extent.Unary 0).one s le) (λ e s le. goes _ s le)),
        past_bind p.1 (λ x s le. past_bind ((below.expr extent.Unary 0).other s le) (λ e s le. goes _ s le)),
      )

  postfix_last : (most : ℕ) (names : Names) (t : Token) → IsMark mark.OpenParen t → IsPast w.from (length w.one) (postfix (total_one w) most inner (state names (t ∷ w.one)))
      × IsPast w.from (length w.other) (postfix (total_other w) most inner' (state names (t ∷ w.other)))
  unfolding postfix primary
  postfix_last most names t is =
      let p = paren_last names t in
      let seen : is_mark mark.OpenParen t.kind ≡ true = ap (is_mark mark.OpenParen) is in (
        rw seen (past_bind p.0 (λ x s le. past_bind ((postfixes_both 0 most []).one s le) (λ e s le. goes _ s le))),
        rw seen (past_bind p.1 (λ x s le. past_bind ((postfixes_both 0 most []).other s le) (λ e s le. goes _ s le))),
      )

  unary_both : (n most : ℕ) → Both w (suc n) n (unary (total_one w) most inner) (unary (total_other w) most inner')
  unfolding unary
  unary_both n most =
      chosen (λ s. prefix_at s.rest) (λ s. prefix_at s.rest) (λ names t ts. refl)
      (judged (λ names ts. sees_keyword keyword.Sizeof ts) (λ names t ts. refl) (sizeof_both n)
      (forked (suc zero) (λ ts. sees_mark mark.OpenParen ts) (λ names ts. sees_type names ts) (λ t ts us. refl) (λ names t ts us. refl)
      (λ names t is few. ((cast_last names t (mark_is mark.OpenParen t.kind is)).0, (postfix_last most names t (mark_is mark.OpenParen t.kind is)).0))
      (λ names t is few. ((cast_last names t (mark_is mark.OpenParen t.kind is)).1, (postfix_last most names t (mark_is mark.OpenParen t.kind is)).1))
      (cast_both n) (postfix_both n most)))
      (λ op. prefixed_both n op)

  -- what is read at a bracket without a prefix in front
  by_bracket : (P : Outcome (Expr × State) → Type 0) (k : TokenKind) (b : Bool) (a c d : Outcome (Expr × State)) (f : PrefixOp → Outcome (Expr × State))
      → k ≡ kind.Mark mark.OpenParen → P a → P c
      → P (choose (prefix_of k) (cond (is_keyword keyword.Sizeof k) d (cond (is_mark mark.OpenParen k && b) a c)) f)
  by_bracket P k b a c d f is p q = subst (λ l. P (choose (prefix_of l) (cond (is_keyword keyword.Sizeof l) d (cond (is_mark mark.OpenParen l && b) a c)) f)) (sym is)
      (elim b as (λ z. P (cond z a c)) [ true ↦ p | false ↦ q ])

  pub unary_last : (most : ℕ) (names : Names) (t : Token) → IsMark mark.OpenParen t → IsPast w.from (length w.one) (unary (total_one w) most inner (state names (t ∷ w.one)))
      × IsPast w.from (length w.other) (unary (total_other w) most inner' (state names (t ∷ w.other)))
  unfolding unary
  unary_last most names t is =
      let c = cast_last names t is in
      let p = postfix_last most names t is in
      let s = state names (t ∷ w.one) in
      let s' = state names (t ∷ w.other) in (
        by_bracket (IsPast w.from (length w.one)) t.kind (sees_type names w.one) (cast (total_one w) inner s) (postfix (total_one w) most inner s)
            (sizeof (total_one w) inner s) (λ op. prefixed (total_one w) inner op s) is c.0 p.0,
        by_bracket (IsPast w.from (length w.other)) t.kind (sees_type names w.other) (cast (total_other w) inner' s') (postfix (total_other w) most inner' s')
            (sizeof (total_other w) inner' s') (λ op. prefixed (total_other w) inner' op s') is c.1 p.1,
      )

  -- ---- operators between operands

  links_both : {next next' : Reader Expr} → ((n : ℕ) → Both w n n next next') → (level n spare : ℕ) (front : List (Link Expr))
      → Both w n n (links (total_one w) next level spare front) (links (total_other w) next' level spare front)
  unfolding links
  links_both on level n zero front =
      chosen (λ s. operator_in level s.rest) (λ s. operator_in level s.rest) (λ names t ts. refl) (given front) (λ op. nested)
  links_both on level n (suc spare) front =
      chosen (λ s. operator_in level s.rest) (λ s. operator_in level s.rest) (λ names t ts. refl) (given front)
      (λ op. numbered (λ number. bind (passed (on n)) (λ e. links_both on level n spare (front ++ record { at = number; op = op; right = e } ∷ []))))

  level_from_both : (most : ℕ) {first first' : Reader Expr} → ((n : ℕ) → Both w n n first first') → (level n token : ℕ) (e : Expr)
      → Both w n n (level_from (total_one w) most first level token e) (level_from (total_other w) most first' level token e)
  unfolding level_from
  level_from_both most on zero n token e = given e
  level_from_both most on (suc level) n token e =
      bind (level_from_both most on level n token e)
      (λ x. bind (links_both (λ n. numbered (λ number. bind (on n) (λ y. level_from_both most on level n number y))) (suc level) n most [])
      (λ ls. given (linked token x ls)))

  unary_weak : (n most : ℕ) → Both w n n (unary (total_one w) most inner) (unary (total_other w) most inner')
  unary_weak n most = weak (unary_both n most)

  -- ---- conditions, assignments and commas

  cond_from_both : (n most token : ℕ) (e : Expr) → Both w n n (cond_from (total_one w) most inner token e) (cond_from (total_other w) most inner' token e)
  unfolding cond_from
  cond_from_both n most token e =
      bind (level_from_both most (λ n. unary_weak n most) 10 n token e)
      (λ x. tested mark.Question
      (numbered (λ number. bind (passed (below.expr extent.Comma n))
      (λ y. expected mark.Colon (bind (below.expr extent.Cond n) (λ z. given (expr.Conditional token x number y z))))))
      (given x))

  cond_both : (n most : ℕ) → Both w n n (reading.cond (total_one w) most inner) (reading.cond (total_other w) most inner')
  unfolding reading.cond
  cond_both n most = numbered (λ number. bind (unary_weak n most) (λ x. cond_from_both n most number x))

  assign_both : (n most : ℕ) → Both w n n (assign (total_one w) most inner) (assign (total_other w) most inner')
  unfolding assign
  assign_both n most =
      numbered (λ number. bind (unary_weak n most)
      (λ x. chosen (λ s. assign_at s.rest) (λ s. assign_at s.rest) (λ names t ts. refl) (cond_from_both n most number x)
      (λ op. numbered (λ at. bind (passed (below.expr extent.Assign n)) (λ y. given (expr.Assign number x at op y))))))

  others_both : {next next' : Reader Expr} → ((n : ℕ) → Both w n n next next') → (n spare : ℕ) (front : List Expr)
      → Both w n n (others (total_one w) next spare front) (others (total_other w) next' spare front)
  unfolding others
  others_both on n zero front = tested mark.Comma nested (given front)
  others_both on n (suc spare) front = tested mark.Comma (bind (passed (on n)) (λ x. others_both on n spare (front ++ x ∷ []))) (given front)

  comma_both : (n most : ℕ) → Both w n n (comma (total_one w) most inner) (comma (total_other w) most inner')
  unfolding comma
  comma_both n most =
      numbered (λ number. bind (assign_both n most)
      (λ x. bind (others_both (λ n. assign_both n most) n most []) (λ xs. given (listed number x xs))))

  pub expr_both : (most : ℕ) (x : Extent) (n : ℕ) → Both w n n (expr_of (total_one w) most inner x) (expr_of (total_other w) most inner' x)
  unfolding expr_of
  expr_both most extent.Unary n = unary_weak n most
  expr_both most extent.Cond n = cond_both n most
  expr_both most extent.Assign n = assign_both n most
  expr_both most extent.Comma n = comma_both n most
