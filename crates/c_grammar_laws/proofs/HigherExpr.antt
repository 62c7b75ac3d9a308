-- A reader of expressions beside one that has more room and reads longer chains.
use Rattle.std.proofs.Common.{◌≡◌, ℕ, zero, suc, ◌≤◌, inl, inr, Bool, true, false, cond, Option, Some, None, Ok, Err, List, [], ◌∷◌, ◌++◌, length, refl, sym, ap, subst, arith}
use Rattle.c_lex.specs.declared.token.Token.{Token}
use Rattle.c_lex.specs.declared.token.TokenKind.{TokenKind}
use Rattle.c_lex.specs.declared.token.TokenKind.TheVariants as kind
use Rattle.c_lex.specs.declared.token.Keyword.{Keyword}
use Rattle.c_lex.specs.declared.token.Keyword.TheVariants as keyword
use Rattle.c_lex.specs.declared.token.Mark.{Mark}
use Rattle.c_lex.specs.declared.token.Mark.TheVariants as mark
use Rattle.c_ast.specs.declared.words.Name.{Name}
use Rattle.c_ast.specs.declared.words.PrefixOp.{PrefixOp}
use Rattle.c_ast.specs.declared.expression.Expr.{Expr}
use Rattle.c_ast.specs.declared.expression.Expr.TheVariants as expr
use Rattle.c_ast.specs.declared.expression.Link.{Link}
use Rattle.c_ast.specs.declared.expression.PostfixOp.{PostfixOp}
use Rattle.c_ast.specs.declared.expression.PostfixOp.TheVariants as after
use Rattle.c_ast.specs.declared.declaration.Abstract.{Abstract}
use Rattle.c_ast.specs.declared.declaration.TypeName.{roll-TypeName}
use Rattle.c_grammar.specs.declared.phrases.Extent.{Extent}
use Rattle.c_grammar.specs.declared.phrases.Extent.TheVariants as extent
use Rattle.c_grammar.specs.declared.phrases.ReadSpecs.{ReadSpecs}
use Rattle.c_grammar.specs.Names.{Names}
use Rattle.c_grammar.specs.Words.{number_of}
use Rattle.c_grammar.specs.Grammar.{postfixed, linked, listed}
use Rattle.c_grammar.specs.Reading.{State, Unexpected, TooNested, Outcome, Reader, ◌>>=◌, sees_mark, sees_keyword, tail, behind, here, expect_mark, expect_name, kind_at}
use Rattle.c_grammar.specs.ReadingExpr.{choose, or_else, token_expr, front_expr, sees_type_in_parens, paren, primary, index, arguments, call, dot, arrow, postfix_by, postfix_of, postfix_at, postfixes, postfix, prefix_at, prefixed, sizeof, type_in_parens, cast, unary, operator_in, links, level_from, cond_from, assign_at, assign, others, comma, expr_of}
use Rattle.c_grammar.specs.ReadingExpr as reading
use Rattle.c_grammar.specs.Inner.{Inner}
use Rattle.c_grammar_laws.proofs.Agrees.{state, goes}
use Rattle.c_grammar_laws.proofs.Higher.{Rise, Higher, same, free, missed, still, Onward, Above, Takes, higher_bind, onward_bind, shorter, bind_found, bind, takes_bind, given, equal, picked, numbered, sized, stopped, unexpected, takes_equal, passed, past_token, judged, tested, chosen, takes_judged, takes_mark, expected, takes_expected, name_next, chain_ends, OnwardInner, AboveInner, onward_of}

-- ---- readers beside themselves, with no more room

-- no more room, and chains that are no longer
abbrev pub no_rise : ℕ → ℕ → Rise
no_rise total most = record {
  total = total;
  extra = 0;
  most = most;
  wide = most;
  wider = omega arith;
  deeper = inl refl;
}

pub mirror : {total : ℕ} (most : ℕ) {A : Type 0} {f : Reader A} → Onward total f → Above (no_rise total most) f f
mirror {total = total} most {A = A} {f = f} on = record { on = on; lift = λ s le. alike (f s) }
  where
    alike : (o : Outcome (A × State)) → Higher (no_rise total most) o o
    alike (Ok (x, s)) = same x s
    alike (Err (Unexpected n)) = free n (Err (Unexpected n))
    alike (Err (TooNested n)) = still n (inl refl)

pub inner_mirror : {total : ℕ} (most : ℕ) {inner' : Inner} → OnwardInner total inner' → AboveInner (no_rise total most) 1 inner' inner'
inner_mirror most on = record {
  expr = λ x. mirror most (on.expr x);
  specs = mirror most on.specs;
  declarator = mirror most on.declarator;
  type_in_parens = mirror most on.type_in_parens;
  unnamed_on = on.unnamed;
  unnamed = λ le. (mirror most on.unnamed).lift;
  param_on = on.param;
  param = λ le. (mirror most on.param).lift;
  some_room = λ s x h. omega arith;
}

-- ---- where a chain ends

-- So many operators may still come on either side. Where these are equally many, the chains are equally long.
record Spares (w : Rise) (spare spare' : ℕ) : Type 0 where
  fewer : spare ≤ spare'
  equal_if : spare ≡ spare' → w.most ≡ w.wide

spares_start : (w : Rise) → Spares w w.most w.wide
spares_start w = record { fewer = w.wider; equal_if = λ e. e }

spares_next : {w : Rise} {spare spare' : ℕ} → Spares w (suc spare) (suc spare') → Spares w spare spare'
spares_next p = record { fewer = let f = p.fewer in omega (arith, f); equal_if = λ e. p.equal_if (ap suc e) }

-- where chains are no longer, both stop there
as_long : {w : Rise} {A : Type 0} → w.most ≡ w.wide → Above w {A = A} (λ s. Err (TooNested (here w.total s))) (λ s. Err (TooNested (here w.total s)))
as_long {w = w} e = record {
  on = stopped TooNested (λ number. refl);
  lift = λ s le. still (here w.total s) (inr e);
}

-- a test as a choice
seen : Bool → Option (Unit {0})
seen b = cond b (Some tt) None

by_test : {B : Type 0} (b : Bool) (x y : B) → choose (seen b) x (λ u. y) ≡ cond b y x
unfolding seen
by_test true x y = refl
by_test false x y = refl

mark_ends : {w : Rise} {A : Type 0} {g' : Reader A} (mark : Mark) (x : A) → Onward w.total g'
    → Above w (λ s. cond (sees_mark mark s.rest) (Err (TooNested (here w.total s))) (Ok (x, s))) (λ s. cond (sees_mark mark s.rest) (g' (behind s)) (Ok (x, s)))
unfolding seen
mark_ends {w = w} {g' = g'} mark x on =
    equal (λ s. by_test (sees_mark mark s.rest) (Ok (x, s)) (Err (TooNested (here w.total s)))) (λ s. by_test (sees_mark mark s.rest) (Ok (x, s)) (g' (behind s)))
    (chain_ends {g' = λ u. g'} (λ ts. seen (sees_mark mark ts)) refl x (λ u. on))

-- ---- operators between operands, and commas

links_mirror : {total : ℕ} {next' : Reader Expr} → Onward total next' → (level spare : ℕ) (front : List (Link Expr))
    → Above (no_rise total 0) (links total next' level spare front) (links total next' level spare front)
unfolding links
links_mirror on level zero front = chosen (λ s. operator_in level s.rest) (given front) (λ op. as_long refl)
links_mirror on level (suc spare) front = chosen (λ s. operator_in level s.rest) (given front)
    (λ op. numbered (λ number. bind (passed (mirror 0 on)) (λ e. links_mirror on level spare (front ++ record { at = number; op = op; right = e } ∷ []))))

links_on : {total : ℕ} {next' : Reader Expr} → Onward total next' → (level spare : ℕ) (front : List (Link Expr)) → Onward total (links total next' level spare front)
links_on on level spare front = (links_mirror on level spare front).on

links_above : {w : Rise} {next next' : Reader Expr} → Above w next next' → (level : ℕ) (spare spare' : ℕ) → Spares w spare spare' → (front : List (Link Expr))
    → Above w (links w.total next level spare front) (links w.total next' level spare' front)
unfolding links
links_above b level zero zero p front = chosen (λ s. operator_in level s.rest) (given front) (λ op. as_long (p.equal_if refl))
links_above {w = w} {next' = next'} b level zero (suc spare') p front =
    numbered (λ number. chain_ends
    {g' = λ op s. next' s >>= λ x. links w.total next' level spare' (front ++ record { at = number; op = op; right = x.0 } ∷ []) x.1}
    (operator_in level) refl front (λ op. onward_bind b.on (λ e. links_on b.on level spare' (front ++ record { at = number; op = op; right = e } ∷ []))))
links_above b level (suc spare) zero p front = absurd (let f = p.fewer in omega (arith, f))
links_above b level (suc spare) (suc spare') p front = chosen (λ s. operator_in level s.rest) (given front)
    (λ op. numbered (λ number. bind (passed b) (λ e. links_above b level spare spare' (spares_next p) (front ++ record { at = number; op = op; right = e } ∷ []))))

others_mirror : {total : ℕ} {next' : Reader Expr} → Onward total next' → (spare : ℕ) (front : List Expr)
    → Above (no_rise total 0) (others total next' spare front) (others total next' spare front)
unfolding others
others_mirror on zero front = tested mark.Comma (as_long refl) (given front)
others_mirror on (suc spare) front = tested mark.Comma (bind (passed (mirror 0 on)) (λ x. others_mirror on spare (front ++ x ∷ []))) (given front)

others_on : {total : ℕ} {next' : Reader Expr} → Onward total next' → (spare : ℕ) (front : List Expr) → Onward total (others total next' spare front)
others_on on spare front = (others_mirror on spare front).on

others_above : {w : Rise} {next next' : Reader Expr} → Above w next next' → (spare spare' : ℕ) → Spares w spare spare' → (front : List Expr)
    → Above w (others w.total next spare front) (others w.total next' spare' front)
unfolding others
others_above b zero zero p front = tested mark.Comma (as_long (p.equal_if refl)) (given front)
others_above {w = w} {next' = next'} b zero (suc spare') p front =
    mark_ends {g' = λ s. next' s >>= λ x. others w.total next' spare' (front ++ x.0 ∷ []) x.1} mark.Comma front
    (onward_bind b.on (λ x. others_on b.on spare' (front ++ x ∷ [])))
others_above b (suc spare) zero p front = absurd (let f = p.fewer in omega (arith, f))
others_above b (suc spare) (suc spare') p front =
    tested mark.Comma (bind (passed b) (λ x. others_above b spare spare' (spares_next p) (front ++ x ∷ []))) (given front)

-- ---- readers of postfix operators

-- at a token, which is taken
abbrev TakesOne : Rise → {A : Type 0} → Reader A → Type 0
TakesOne w {A = A} f' = (names : Names) (t : Token) (ts : List Token) → length (t ∷ ts) ≤ w.total
    → Higher w {A = A} (Err (TooNested (number_of w.total (t ∷ ts)))) (f' (state names (t ∷ ts)))

one_behind : {w : Rise} {A : Type 0} {f' : ℕ → Reader A} → ((number : ℕ) → Onward w.total (f' number)) → TakesOne w (λ s. f' (here w.total s) (behind s))
one_behind {w = w} on names t ts le = past_token (on (number_of w.total (t ∷ ts))) names t ts le

-- readers that there are or aren't on both sides
data AboveMaybe (w : Rise) {A : Type 0} : Option (Reader A) → Option (Reader A) → Type 0 where
  neither : AboveMaybe w None None
  each : {f f' : Reader A} → Above w f f' → TakesOne w f' → AboveMaybe w (Some f) (Some f')

maybe_read : {w : Rise} {A B : Type 0} {o o' : Option (Reader A)} {g g' : Reader B} {h h' : Reader A → Reader B} → AboveMaybe w o o'
    → Above w g g' → ((f f' : Reader A) → Above w f f' → Above w (h f) (h' f'))
    → Above w (λ s. choose o (g s) (λ read. h read s)) (λ s. choose o' (g' s) (λ read. h' read s))
maybe_read neither b c = b
maybe_read (each {f} {f'} r one) b c = c f f' r

by_kind : {B : Type 0} → ℕ → Inner → Reader B → (Reader (PostfixOp Expr) → Reader B) → Option TokenKind → Reader B
by_kind total inner g h None s = g s
by_kind total inner g h (Some k) s = choose (postfix_of total inner k) (g s) (λ read. h read s)

by_kind_is : {B : Type 0} (total : ℕ) (inner : Inner) (g : Reader B) (h : Reader (PostfixOp Expr) → Reader B) (s t : State)
    → by_kind total inner g h (kind_at t.rest) s ≡ choose (postfix_at total inner t.rest) (g s) (λ read. h read s)
unfolding by_kind
by_kind_is total inner g h s t = by_list t.rest
  where
    by_list : (ts : List Token) → by_kind total inner g h (kind_at ts) s ≡ choose (postfix_at total inner ts) (g s) (λ read. h read s)
    by_list [] = refl
    by_list (u ∷ us) = refl

else_above : {w : Rise} {A : Type 0} (o : Option A) → Above w (λ s. or_else w.total s o) (λ s. or_else w.total s o)
else_above None = unexpected
else_above (Some a) = passed (given a)

module _ (w : Rise) (room : ℕ) (inner inner' : Inner) (below : AboveInner w room inner inner') where
  in_paren : (number : ℕ) → Above w
      (λ s. inner.expr extent.Comma s >>= λ x. expect_mark w.total mark.CloseParen x.1 >>= λ s'. Ok (expr.Paren number x.0, s'))
      (λ s. inner'.expr extent.Comma s >>= λ x. expect_mark w.total mark.CloseParen x.1 >>= λ s'. Ok (expr.Paren number x.0, s'))
  in_paren number = bind (below.expr extent.Comma) (λ e. expected mark.CloseParen (given (expr.Paren number e)))

  paren_above : Above w (paren w.total inner) (paren w.total inner')
  unfolding paren
  paren_above = numbered (λ number. passed (in_paren number))

  primary_above : Above w (primary w.total inner) (primary w.total inner')
  unfolding primary
  primary_above = tested mark.OpenParen paren_above (picked (λ s. front_expr w.total s.names s.rest) else_above)

  in_index : (number : ℕ) → Above w
      (λ s. inner.expr extent.Comma s >>= λ x. expect_mark w.total mark.CloseBracket x.1 >>= λ s'. Ok (after.Index number x.0, s'))
      (λ s. inner'.expr extent.Comma s >>= λ x. expect_mark w.total mark.CloseBracket x.1 >>= λ s'. Ok (after.Index number x.0, s'))
  in_index number = bind (below.expr extent.Comma) (λ e. expected mark.CloseBracket (given (after.Index number e)))

  index_above : AboveMaybe w (Some (index w.total inner)) (Some (index w.total inner'))
  unfolding index
  index_above = each (numbered (λ number. passed (in_index number))) (one_behind (λ number. (in_index number).on))

  arguments_above : (count : ℕ) (front : List Expr) → Above w (arguments w.total inner count front) (arguments w.total inner' count front)
  unfolding arguments
  arguments_above zero front = unexpected
  arguments_above (suc count) front = bind (below.expr extent.Assign)
      (λ e. tested mark.Comma (passed (arguments_above count (front ++ e ∷ []))) (expected mark.CloseParen (given (front ++ e ∷ []))))

  in_call : (number count : ℕ) → Above w
      (λ s. cond (sees_mark mark.CloseParen s.rest) (Ok (after.Call number [], behind s)) (arguments w.total inner count [] s >>= λ x. Ok (after.Call number x.0, x.1)))
      (λ s. cond (sees_mark mark.CloseParen s.rest) (Ok (after.Call number [], behind s)) (arguments w.total inner' count [] s >>= λ x. Ok (after.Call number x.0, x.1)))
  in_call number count =
      tested mark.CloseParen (passed (given (after.Call number []))) (bind (arguments_above count []) (λ es. given (after.Call number es)))

  call_above : AboveMaybe w (Some (call w.total inner)) (Some (call w.total inner'))
  unfolding call
  call_above = each (numbered (λ number. sized (λ count. passed (in_call number count))))
      (λ names t ts le. past_token (in_call (number_of w.total (t ∷ ts)) (length (t ∷ ts))).on names t ts le)

  in_name : (op : Name → PostfixOp Expr) → Above w (λ s. expect_name w.total s >>= λ x. Ok (op x.0, x.1)) (λ s. expect_name w.total s >>= λ x. Ok (op x.0, x.1))
  in_name op = bind (name_next w) (λ name. given (op name))

  dot_above : AboveMaybe w (Some (dot w.total)) (Some (dot w.total))
  unfolding dot
  dot_above = each (numbered (λ number. passed (in_name (after.Member number)))) (one_behind (λ number. (in_name (after.Member number)).on))

  arrow_above : AboveMaybe w (Some (arrow w.total)) (Some (arrow w.total))
  unfolding arrow
  arrow_above = each (numbered (λ number. passed (in_name (after.Arrow number)))) (one_behind (λ number. (in_name (after.Arrow number)).on))

  plain_above : (op : ℕ → PostfixOp Expr) → AboveMaybe w (Some (λ s. Ok (op (here w.total s), behind s))) (Some (λ s. Ok (op (here w.total s), behind s)))
  plain_above op =
      let in_plain : (number : ℕ) → Above w (λ s. Ok (op number, s)) (λ s. Ok (op number, s)) = λ number. given (op number) in
      each (numbered (λ number. passed (in_plain number))) (one_behind (λ number. (in_plain number).on))

  postfix_by_above : (m : Mark) → AboveMaybe w (postfix_by w.total inner m) (postfix_by w.total inner' m)
  postfix_by_above mark.OpenBracket = index_above
  postfix_by_above mark.OpenParen = call_above
  postfix_by_above mark.Dot = dot_above
  postfix_by_above mark.Arrow = arrow_above
  postfix_by_above mark.PlusPlus = plain_above after.Increment
  postfix_by_above mark.MinusMinus = plain_above after.Decrement
  postfix_by_above _ = neither

  postfix_of_above : (k : TokenKind) → AboveMaybe w (postfix_of w.total inner k) (postfix_of w.total inner' k)
  postfix_of_above (kind.Mark m) = postfix_by_above m
  postfix_of_above (kind.Keyword k) = neither
  postfix_of_above kind.Name = neither
  postfix_of_above (kind.Number t) = neither
  postfix_of_above kind.Character = neither
  postfix_of_above kind.Text = neither

  postfix_at_above : {B : Type 0} {g g' : Reader B} {h h' : Reader (PostfixOp Expr) → Reader B} → Above w g g'
      → ((f f' : Reader (PostfixOp Expr)) → Above w f f' → Above w (h f) (h' f'))
      → Above w (λ s. choose (postfix_at w.total inner s.rest) (g s) (λ read. h read s)) (λ s. choose (postfix_at w.total inner' s.rest) (g' s) (λ read. h' read s))
  unfolding by_kind
  postfix_at_above {g = g} {g' = g'} {h = h} {h' = h'} b c =
      equal (λ s. by_kind_is w.total inner g h s s) (λ s. by_kind_is w.total inner' g' h' s s) (picked (λ s. kind_at s.rest) by_kind_above)
    where
      by_kind_above : (k : Option TokenKind) → Above w (by_kind w.total inner g h k) (by_kind w.total inner' g' h' k)
      by_kind_above None = b
      by_kind_above (Some k) = maybe_read (postfix_of_above k) b c

postfixes_mirror : {total : ℕ} {inner' : Inner} → OnwardInner total inner' → (spare : ℕ) (front : List (PostfixOp Expr))
    → Above (no_rise total 0) (postfixes total inner' spare front) (postfixes total inner' spare front)
unfolding postfixes
postfixes_mirror {total = total} {inner' = inner'} on zero front =
    postfix_at_above (no_rise total 0) 1 inner' inner' (inner_mirror 0 on) (given front) (λ f f' r. as_long refl)
postfixes_mirror {total = total} {inner' = inner'} on (suc spare) front =
    postfix_at_above (no_rise total 0) 1 inner' inner' (inner_mirror 0 on) (given front) (λ f f' r. bind r (λ o. postfixes_mirror on spare (front ++ o ∷ [])))

postfixes_on : {total : ℕ} {inner' : Inner} → OnwardInner total inner' → (spare : ℕ) (front : List (PostfixOp Expr)) → Onward total (postfixes total inner' spare front)
postfixes_on on spare front = (postfixes_mirror on spare front).on

-- one more operator than there may be, at a token
maybe_ends : {w : Rise} {A B : Type 0} {o o' : Option (Reader A)} {g' : A → Reader B} → AboveMaybe w o o' → ((x : A) → Onward w.total (g' x))
    → (x : B) (names : Names) (t : Token) (ts : List Token) → length (t ∷ ts) ≤ w.total
    → Higher w (choose o (Ok (x, state names (t ∷ ts))) (λ read. Err (TooNested (number_of w.total (t ∷ ts)))))
    (choose o' (Ok (x, state names (t ∷ ts))) (λ read. read (state names (t ∷ ts)) >>= λ y. g' y.0 y.1))
maybe_ends neither on x names t ts le = same x (state names (t ∷ ts))
maybe_ends {w = w} {A = A} {B = B} {g' = g'} (each {f} {f'} r one) on x names t ts le =
    higher_bind {w = w} {A = A} {B = B} {o = Err (TooNested (number_of w.total (t ∷ ts)))} {o' = f' (state names (t ∷ ts))} {g = g'} {g' = g'}
    (one names t ts le) (λ y s h h'. absurd cc) on

-- ---- expressions

module _ (w : Rise) (room : ℕ) (inner inner' : Inner) (below : AboveInner w room inner inner') where
  postfixes_end : (spare' : ℕ) (front : List (PostfixOp Expr)) → Above w (postfixes w.total inner zero front) (postfixes w.total inner' (suc spare') front)
  unfolding postfixes
  postfixes_end spare' front = record {
    on = postfixes_on (onward_of below) (suc spare') front;
    lift = λ s le. by_rest s.names s.rest le;
  }
    where
      by_rest : (names : Names) (ts : List Token) → length ts ≤ w.total
          → Higher w (postfixes w.total inner zero front (state names ts)) (postfixes w.total inner' (suc spare') front (state names ts))
      by_rest names [] le = same front (state names [])
      by_rest names (t ∷ ts) le = maybe_ends {g' = λ o. postfixes w.total inner' spare' (front ++ o ∷ [])} (postfix_of_above w room inner inner' below t.kind)
          (λ o. postfixes_on (onward_of below) spare' (front ++ o ∷ [])) front names t ts le

  postfixes_above : (spare spare' : ℕ) → Spares w spare spare' → (front : List (PostfixOp Expr))
      → Above w (postfixes w.total inner spare front) (postfixes w.total inner' spare' front)
  unfolding postfixes
  postfixes_above zero zero p front = postfix_at_above w room inner inner' below (given front) (λ f f' r. as_long (p.equal_if refl))
  postfixes_above zero (suc spare') p front = postfixes_end spare' front
  postfixes_above (suc spare) zero p front = absurd (let f = p.fewer in omega (arith, f))
  postfixes_above (suc spare) (suc spare') p front = postfix_at_above w room inner inner' below (given front)
      (λ f f' r. bind r (λ o. postfixes_above spare spare' (spares_next p) (front ++ o ∷ [])))

  postfix_above : Above w (postfix w.total w.most inner) (postfix w.total w.wide inner')
  unfolding postfix
  postfix_above = numbered (λ number. bind (primary_above w room inner inner' below)
      (λ e. bind (postfixes_above w.most w.wide (spares_start w) []) (λ os. given (postfixed number e os))))

  -- ---- prefix operators

  in_prefixed : (number : ℕ) (op : PrefixOp) → Above w
      (λ s. inner.expr extent.Unary s >>= λ x. Ok (expr.Prefix number op x.0, x.1)) (λ s. inner'.expr extent.Unary s >>= λ x. Ok (expr.Prefix number op x.0, x.1))
  in_prefixed number op = bind (below.expr extent.Unary) (λ e. given (expr.Prefix number op e))

  prefixed_above : (op : PrefixOp) → Above w (prefixed w.total inner op) (prefixed w.total inner' op)
  unfolding prefixed
  prefixed_above op = numbered (λ number. passed (in_prefixed number op))

  in_type : Above w
      (λ s. inner.specs s >>= λ x. inner.unnamed x.1 >>= λ y. expect_mark w.total mark.CloseParen y.1
      >>= λ s'. Ok (roll-TypeName (record { specs = x.0.specs; declarator = y.0 }), s'))
      (λ s. inner'.specs s >>= λ x. inner'.unnamed x.1 >>= λ y. expect_mark w.total mark.CloseParen y.1
      >>= λ s'. Ok (roll-TypeName (record { specs = x.0.specs; declarator = y.0 }), s'))
  in_type =
      let closed : (ss : ReadSpecs) (d : Abstract Expr) → Above w
      (λ s. expect_mark w.total mark.CloseParen s >>= λ s'. Ok (roll-TypeName (record { specs = ss.specs; declarator = d }), s'))
      (λ s. expect_mark w.total mark.CloseParen s >>= λ s'. Ok (roll-TypeName (record { specs = ss.specs; declarator = d }), s'))
      = λ ss d. expected mark.CloseParen (given (roll-TypeName (record { specs = ss.specs; declarator = d }))) in
      bind_found below.specs (λ ss. onward_bind below.unnamed_on (λ d. (closed ss d).on))
      (λ ss s s' h le. higher_bind (below.unnamed (below.some_room s (ss, s') h) s' le)
      (λ d s2 e e'. (closed ss d).lift s2 (let less = shorter below.unnamed_on s' le d s2 e' in omega (arith, less, le))) (λ d. (closed ss d).on))

  pub type_above : Above w (type_in_parens w.total inner) (type_in_parens w.total inner')
  unfolding type_in_parens
  type_above = expected mark.OpenParen in_type

  cast_above : Above w (cast w.total inner) (cast w.total inner')
  unfolding cast
  cast_above = numbered (λ number. bind type_above (λ t. bind (below.expr extent.Unary) (λ e. given (expr.Cast number t e))))

  in_sizeof : (number : ℕ) → Above w
      (λ s. cond (sees_type_in_parens s.names s.rest) (inner.type_in_parens s >>= λ x. Ok (expr.SizeofType number x.0, x.1))
      (inner.expr extent.Unary s >>= λ x. Ok (expr.SizeofExpr number x.0, x.1)))
      (λ s. cond (sees_type_in_parens s.names s.rest) (inner'.type_in_parens s >>= λ x. Ok (expr.SizeofType number x.0, x.1))
      (inner'.expr extent.Unary s >>= λ x. Ok (expr.SizeofExpr number x.0, x.1)))
  in_sizeof number = judged (λ s. sees_type_in_parens s.names s.rest)
      (bind below.type_in_parens (λ t. given (expr.SizeofType number t))) (bind (below.expr extent.Unary) (λ e. given (expr.SizeofExpr number e)))

  sizeof_above : Above w (sizeof w.total inner) (sizeof w.total inner')
  unfolding sizeof
  sizeof_above = numbered (λ number. passed (in_sizeof number))

  unary_above : Above w (unary w.total w.most inner) (unary w.total w.wide inner')
  unfolding unary
  unary_above = chosen (λ s. prefix_at s.rest)
      (judged (λ s. sees_keyword keyword.Sizeof s.rest) sizeof_above (judged (λ s. sees_type_in_parens s.names s.rest) cast_above postfix_above))
      (λ op. prefixed_above op)

  -- ---- operators between operands

  level_from_above : {first first' : Reader Expr} → Above w first first' → (level token : ℕ) (e : Expr)
      → Above w (level_from w.total w.most first level token e) (level_from w.total w.wide first' level token e)
  unfolding level_from
  level_from_above b zero token e = given e
  level_from_above b (suc level) token e =
      bind (level_from_above b level token e)
      (λ x. bind (links_above (numbered (λ number. bind b (λ y. level_from_above b level number y))) (suc level) w.most w.wide (spares_start w) [])
      (λ ls. given (linked token x ls)))

  -- ---- conditions, assignments and commas

  cond_from_above : (token : ℕ) (e : Expr) → Above w (cond_from w.total w.most inner token e) (cond_from w.total w.wide inner' token e)
  unfolding cond_from
  cond_from_above token e =
      bind (level_from_above unary_above 10 token e)
      (λ x. tested mark.Question
      (numbered (λ number. bind (passed (below.expr extent.Comma))
      (λ y. expected mark.Colon (bind (below.expr extent.Cond) (λ z. given (expr.Conditional token x number y z))))))
      (given x))

  cond_above : Above w (reading.cond w.total w.most inner) (reading.cond w.total w.wide inner')
  unfolding reading.cond
  cond_above = numbered (λ number. bind unary_above (λ x. cond_from_above number x))

  assign_behind : (number : ℕ) (x : Expr) → Above w
      (λ s. choose (assign_at s.rest) (cond_from w.total w.most inner number x s)
      (λ op. inner.expr extent.Assign (behind s) >>= λ y. Ok (expr.Assign number x (here w.total s) op y.0, y.1)))
      (λ s. choose (assign_at s.rest) (cond_from w.total w.wide inner' number x s)
      (λ op. inner'.expr extent.Assign (behind s) >>= λ y. Ok (expr.Assign number x (here w.total s) op y.0, y.1)))
  assign_behind number x = chosen (λ s. assign_at s.rest) (cond_from_above number x)
      (λ op. numbered (λ at. bind (passed (below.expr extent.Assign)) (λ y. given (expr.Assign number x at op y))))

  assign_above : Above w (assign w.total w.most inner) (assign w.total w.wide inner')
  unfolding assign
  assign_above = numbered (λ number. bind unary_above (λ x. assign_behind number x))

  comma_behind : (number : ℕ) (x : Expr) → Above w
      (λ s. others w.total (assign w.total w.most inner) w.most [] s >>= λ y. Ok (listed number x y.0, y.1))
      (λ s. others w.total (assign w.total w.wide inner') w.wide [] s >>= λ y. Ok (listed number x y.0, y.1))
  comma_behind number x = bind (others_above assign_above w.most w.wide (spares_start w) []) (λ xs. given (listed number x xs))

  comma_above : Above w (comma w.total w.most inner) (comma w.total w.wide inner')
  unfolding comma
  comma_above = numbered (λ number. bind assign_above (λ x. comma_behind number x))

  pub expr_above : (x : Extent) → Above w (expr_of w.total w.most inner x) (expr_of w.total w.wide inner' x)
  unfolding expr_of
  expr_above extent.Unary = unary_above
  expr_above extent.Cond = cond_above
  expr_above extent.Assign = assign_above
  expr_above extent.Comma = comma_above

-- ---- with more room the next token is taken, or not expected

takes_numbered : {w : Rise} {A : Type 0} {f' : ℕ → Reader A} → ((number : ℕ) → Takes w (f' number)) → Takes w (λ s. f' (here w.total s) s)
takes_numbered {w = w} go s le = go (here w.total s) s le

-- by what is found at a token, which is taken
takes_found : {w : Rise} {A X : Type 0} {f' : Reader A} {g' : X → Reader A} (found : List Token → Option X) → found [] ≡ None → Takes w f'
    → ((x : X) → Onward w.total (g' x)) → Takes w (λ s. choose (found s.rest) (f' s) (λ x. g' x (behind s)))
takes_found {w = w} {A = A} {f' = f'} {g' = g'} found none c on s le = by_rest s.names s.rest le
  where
    by_rest : (names : Names) (ts : List Token) → length ts ≤ w.total
        → Higher w {A = A} (Err (TooNested (number_of w.total ts))) (choose (found ts) (f' (state names ts)) (λ x. g' x (state names (tail ts))))
    by_rest names [] le =
        subst (λ o. Higher w {A = A} (Err (TooNested (number_of w.total []))) (choose o (f' (state names [])) (λ x. g' x (state names []))))
        (sym none) (c (state names []) le)
    by_rest names (t ∷ ts) le =
        elim (found (t ∷ ts)) as (λ o. Higher w {A = A} (Err (TooNested (number_of w.total (t ∷ ts))))
        (choose o (f' (state names (t ∷ ts))) (λ x. g' x (state names ts)))) [
          | None ↦ c (state names (t ∷ ts)) le
          | Some x ↦ past_token (on x) names t ts le
        ]

-- this keyword, which is taken
takes_keyword : {w : Rise} {A : Type 0} {f' g' : Reader A} (keyword : Keyword) → Onward w.total f' → Takes w g'
    → Takes w (λ s. cond (sees_keyword keyword s.rest) (f' (behind s)) (g' s))
unfolding seen
takes_keyword {w = w} {f' = f'} {g' = g'} keyword on c =
    takes_equal (λ s. by_test (sees_keyword keyword s.rest) (g' s) (f' (behind s)))
    (takes_found {g' = λ u. f'} (λ ts. seen (sees_keyword keyword ts)) refl c (λ u. on))

-- the token that is an expression by itself
takes_front : (w : Rise) → 2 ≤ w.extra → Takes w {A = Expr} (λ s. or_else w.total s (front_expr w.total s.names s.rest))
takes_front w some s le = by_rest s.names s.rest le
  where
    by_rest : (names : Names) (ts : List Token) → length ts ≤ w.total
        → Higher w {A = Expr} (Err (TooNested (number_of w.total ts))) (or_else w.total (state names ts) (front_expr w.total names ts))
    by_rest names [] le = missed (number_of w.total []) some
    by_rest names (t ∷ ts) le =
        elim (token_expr (number_of w.total (t ∷ ts)) names t t.kind)
        as (λ o. Higher w {A = Expr} (Err (TooNested (number_of w.total (t ∷ ts)))) (or_else w.total (state names (t ∷ ts)) o)) [
          | None ↦ missed (number_of w.total (t ∷ ts)) some
          | Some e ↦ past_token (λ from len d s le. goes e s le) names t ts le
        ]

module _ (w : Rise) (some : 2 ≤ w.extra) (inner' : Inner) (on : OnwardInner w.total inner') where
  paren_takes : (number : ℕ) → Takes w (λ s. cond (sees_mark mark.OpenParen s.rest)
      (inner'.expr extent.Comma (behind s) >>= λ x. expect_mark w.total mark.CloseParen x.1 >>= λ s'. Ok (expr.Paren number x.0, s'))
      (or_else w.total s (front_expr w.total s.names s.rest)))
  paren_takes number = takes_mark mark.OpenParen (in_paren (no_rise w.total w.wide) 1 inner' inner' (inner_mirror w.wide on) number).on (takes_front w some)

  primary_takes : Takes w (primary w.total inner')
  unfolding primary paren
  primary_takes = takes_numbered (λ number. paren_takes number)

  postfix_takes : Takes w (postfix w.total w.wide inner')
  unfolding postfix
  postfix_takes = takes_numbered (λ number. takes_bind primary_takes
      (λ e. onward_bind (postfixes_on on w.wide []) (λ os from len d s le. goes (postfixed number e os) s le)))

  pub type_takes : Takes w (type_in_parens w.total inner')
  unfolding type_in_parens
  type_takes = takes_expected some mark.OpenParen (in_type (no_rise w.total w.wide) 1 inner' inner' (inner_mirror w.wide on)).on

  cast_takes : Takes w (cast w.total inner')
  unfolding cast
  cast_takes = takes_numbered (λ number. takes_bind type_takes
      (λ t. onward_bind (on.expr extent.Unary) (λ e from len d s le. goes (expr.Cast number t e) s le)))

  in_unary : (number : ℕ) → Takes w (λ s. choose (prefix_at s.rest)
      (cond (sees_keyword keyword.Sizeof s.rest)
      (cond (sees_type_in_parens s.names (tail s.rest)) (inner'.type_in_parens (behind s) >>= λ x. Ok (expr.SizeofType number x.0, x.1))
      (inner'.expr extent.Unary (behind s) >>= λ x. Ok (expr.SizeofExpr number x.0, x.1)))
      (cond (sees_type_in_parens s.names s.rest) (cast w.total inner' s) (postfix w.total w.wide inner' s)))
      (λ op. inner'.expr extent.Unary (behind s) >>= λ x. Ok (expr.Prefix number op x.0, x.1)))
  in_unary number =
      takes_found prefix_at refl
      (takes_keyword keyword.Sizeof (in_sizeof (no_rise w.total w.wide) 1 inner' inner' (inner_mirror w.wide on) number).on
      (takes_judged (λ s. sees_type_in_parens s.names s.rest) cast_takes postfix_takes))
      (λ op. (in_prefixed (no_rise w.total w.wide) 1 inner' inner' (inner_mirror w.wide on) number op).on)

  unary_takes : Takes w (unary w.total w.wide inner')
  unfolding unary sizeof prefixed
  unary_takes = takes_numbered (λ number. in_unary number)

  cond_takes : Takes w (reading.cond w.total w.wide inner')
  unfolding reading.cond
  cond_takes = takes_numbered (λ number. takes_bind unary_takes
      (λ x. (cond_from_above (no_rise w.total w.wide) 1 inner' inner' (inner_mirror w.wide on) number x).on))

  assign_takes : Takes w (assign w.total w.wide inner')
  unfolding assign
  assign_takes = takes_numbered (λ number. takes_bind unary_takes
      (λ x. (assign_behind (no_rise w.total w.wide) 1 inner' inner' (inner_mirror w.wide on) number x).on))

  comma_takes : Takes w (comma w.total w.wide inner')
  unfolding comma
  comma_takes = takes_numbered (λ number. takes_bind assign_takes
      (λ x. (comma_behind (no_rise w.total w.wide) 1 inner' inner' (inner_mirror w.wide on) number x).on))

  pub expr_takes : (x : Extent) → Takes w (expr_of w.total w.wide inner' x)
  unfolding expr_of
  expr_takes extent.Unary = unary_takes
  expr_takes extent.Cond = cond_takes
  expr_takes extent.Assign = assign_takes
  expr_takes extent.Comma = comma_takes
