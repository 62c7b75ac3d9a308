-- One turn of each loop that reads parts of expressions.
use Rattle.std.proofs.Common.{◌≡◌, ℕ, zero, suc, ◌-◌, ◌<◌, ◌++◌, if◌then◌else◌, is_some, Bool, true, false, Option, Some, None, Result, Ok, Err, List, [], ◌∷◌, refl, sym, ap, ◌∙◌, subst, arith}
use Rattle.std.specs.Result.{IsErrAnd}
use Rattle.std.proofs.lemmas.Result.{err_from_is_err_and}
use Rattle.c_lex.specs.declared.token.Mark.TheVariants as mark
use Rattle.c_ast.specs.declared.words.BinaryOp.{BinaryOp}
use Rattle.c_ast.specs.declared.expression.Expr.{Expr}
use Rattle.c_ast.specs.declared.expression.Link.{Link}
use Rattle.c_ast.specs.declared.expression.PostfixOp.{PostfixOp}
use Rattle.c_grammar.specs.declared.error.ParseError.{ParseError}
use Rattle.c_grammar.specs.declared.error.ParseError.TheVariants as error
use Rattle.c_grammar.specs.declared.phrases.Extent.TheVariants as extent
use Rattle.c_grammar.specs.Words.{number_of}
use Rattle.c_grammar.specs.Reading.{State, Fault, Unexpected, TooNested, Outcome, Reader, ◌>>=◌, Gives, FailsBy, sees_mark, behind, here, expect_mark}
use Rattle.c_grammar.specs.Grammar as grammar
use Rattle.c_grammar.specs.Inner.{Inner}
use Rattle.c_grammar.specs.ReadingExpr.{choose, postfix_at, operator_in, level_with}
use Rattle.c_grammar.specs.ReadingExpr as reading
use Rattle.c_grammar.specs.Levels.{readers}
use Rattle.c_grammar.specs.Nests.{error_of}

-- what is passed on where a step fails
pub fails_then : {A B : Type 0} (e : ParseError) (o : Outcome A) (f : A → Outcome B) → FailsBy e o → FailsBy e (o >>= f)
fails_then error.Memory o f h = tt
fails_then (error.Unexpected token) o f h = ap (λ p. p >>= f) h
fails_then (error.TooNested token) o f h = ap (λ p. p >>= f) h

pub fails_along : {A : Type 0} (e : ParseError) (o p : Outcome A) → p ≡ o → FailsBy e o → FailsBy e p
fails_along e o p same h = subst (FailsBy e) (sym same) h

pub passed_on : {X Y : Type 0} (view : X → Y) (result : Result X ParseError) (e : ParseError) (outcome : Outcome Y)
    → IsErrAnd result (λ y. y ≡ e) → FailsBy e outcome → Gives view result outcome
passed_on {X} {Y} view result e outcome err fails =
    let (x, is, same) = err_from_is_err_and result err in
    let f : FailsBy x outcome = subst (λ y. FailsBy y outcome) (sym same) fails in
    subst (λ r. Gives view r outcome) (sym is) f

pub told : {A : Type 0} (e : ParseError) (fault : Fault) (o : Outcome A) → e ≡ error_of fault → o ≡ Err fault → FailsBy e o
told {A} e (Unexpected token) o h k = subst (λ x. FailsBy x o) (sym h) k
told {A} e (TooNested token) o h k = subst (λ x. FailsBy x o) (sym h) k

none_is : {A : Type 0} (o : Option A) → is_some o ≡ false → o ≡ None
none_is None h = refl
none_is (Some a) h = absurd cc

-- ---- arguments

abbrev argued : ℕ → Inner → ℕ → List Expr → Expr × State → Outcome (List Expr × State)
argued total inner count front x =
    if sees_mark mark.Comma x.1.rest then reading.arguments total inner count (front ++ x.0 ∷ []) (behind x.1)
    else (expect_mark total mark.CloseParen x.1 >>= λ s'. Ok (front ++ x.0 ∷ [], s'))

arguments_on : (total : ℕ) (inner : Inner) (count : ℕ) (front : List Expr) (s : State) → 0 < count
    → reading.arguments total inner count front s ≡ (inner.expr extent.Assign s >>= argued total inner (count - 1) front)
unfolding reading.arguments
arguments_on total inner zero front s h = absurd (omega arith)
arguments_on total inner (suc count) front s h =
    let e : count ≡ suc count - 1 = omega arith in ap (λ n. inner.expr extent.Assign s >>= argued total inner n front) e

arguments_none : (total : ℕ) (inner : Inner) (count : ℕ) (front : List Expr) (s : State) → count ≡ 0
    → reading.arguments total inner count front s ≡ Err (Unexpected (here total s))
unfolding reading.arguments
arguments_none total inner count front s h = ap (λ n. reading.arguments total inner n front s) h

module _ (total t most room count : ℕ) (front : List Expr) (s : State) (all : Outcome (List Expr × State)) (same_total : t ≡ total)
    (same : reading.arguments total (readers total most room) count front s ≡ all) where
  pub argument_fails : (e : ParseError) → 0 < count → FailsBy e ((readers t most room).expr extent.Assign s) → FailsBy e all
  argument_fails e more h =
      fails_along e _ all (sym same ∙ arguments_on total (readers total most room) count front s more)
      (fails_then e ((readers total most room).expr extent.Assign s) (argued total (readers total most room) (count - 1) front)
      (subst (λ n. FailsBy e ((readers n most room).expr extent.Assign s)) same_total h))

  -- behind an argument
  argument_read : (a : Expr) (s' : State) (b : Bool) → 0 < count → (readers t most room).expr extent.Assign s ≡ Ok (a, s') → sees_mark mark.Comma s'.rest ≡ b
      → all ≡ (if b then reading.arguments total (readers total most room) (count - 1) (front ++ a ∷ []) (behind s')
      else (expect_mark total mark.CloseParen s' >>= λ s'. Ok (front ++ a ∷ [], s')))
  argument_read a s' b more h is =
      sym same ∙ arguments_on total (readers total most room) count front s more
      ∙ ap (λ o. o >>= argued total (readers total most room) (count - 1) front) (subst (λ n. (readers n most room).expr extent.Assign s ≡ Ok (a, s')) same_total h)
      ∙ ap (λ b. if b then reading.arguments total (readers total most room) (count - 1) (front ++ a ∷ []) (behind s')
      else (expect_mark total mark.CloseParen s' >>= λ s'. Ok (front ++ a ∷ [], s'))) is

  pub arguments_unclosed : (e : ParseError) (a : Expr) (s' : State) (t' : ℕ) → 0 < count → (readers t most room).expr extent.Assign s ≡ Ok (a, s')
      → sees_mark mark.Comma s'.rest ≡ false → t' ≡ t → FailsBy e (expect_mark t' mark.CloseParen s') → FailsBy e all
  arguments_unclosed e a s' t' more h is kept fails =
      fails_along e _ all (argument_read a s' false more h is)
      (fails_then e (expect_mark total mark.CloseParen s') (λ s'. Ok (front ++ a ∷ [], s'))
      (subst (λ n. FailsBy e (expect_mark n mark.CloseParen s')) (kept ∙ same_total) fails))

  pub arguments_closed : (a : Expr) (s' s'' : State) (t' : ℕ) (made : List Expr) → 0 < count → (readers t most room).expr extent.Assign s ≡ Ok (a, s')
      → sees_mark mark.Comma s'.rest ≡ false → t' ≡ t → expect_mark t' mark.CloseParen s' ≡ Ok s'' → made ≡ front ++ a ∷ [] → all ≡ Ok (made, s'')
  arguments_closed a s' s'' t' made more h is kept closes same_made =
      argument_read a s' false more h is
      ∙ ap (λ o. o >>= λ s'. Ok (front ++ a ∷ [], s')) (subst (λ n. expect_mark n mark.CloseParen s' ≡ Ok s'') (kept ∙ same_total) closes)
      ∙ ap (λ m. Ok (m, s'')) (sym same_made)

  pub arguments_go : (a : Expr) (s' s'' : State) (made : List Expr) → 0 < count → (readers t most room).expr extent.Assign s ≡ Ok (a, s')
      → sees_mark mark.Comma s'.rest ≡ true → s'' ≡ behind s' → made ≡ front ++ a ∷ []
      → reading.arguments total (readers total most room) (count - 1) made s'' ≡ all
  arguments_go a s' s'' made more h is skipped same_made =
      ap (λ m. reading.arguments total (readers total most room) (count - 1) m s'') same_made
      ∙ ap (reading.arguments total (readers total most room) (count - 1) (front ++ a ∷ [])) skipped
      ∙ sym (argument_read a s' true more h is)

  pub arguments_out : (e : ParseError) → count ≡ 0 → e ≡ error_of (Unexpected (number_of t s.rest)) → FailsBy e all
  arguments_out e none is =
      told e (Unexpected (number_of total s.rest)) all (is ∙ ap (λ n. error_of (Unexpected (number_of n s.rest))) same_total)
      (sym same ∙ arguments_none total (readers total most room) count front s none)

-- ---- postfix operators

postfixes_on : (total : ℕ) (inner : Inner) (spare : ℕ) (front : List (PostfixOp Expr)) (s : State) → 0 < spare → is_some (postfix_at total inner s.rest) ≡ true
    → reading.postfixes total inner spare front s ≡ (reading.one_postfix total inner s >>= λ x. reading.postfixes total inner (spare - 1) (front ++ x.0 ∷ []) x.1)
unfolding reading.postfixes reading.one_postfix
postfixes_on total inner zero front s h is = absurd (omega arith)
postfixes_on total inner (suc spare) front s h is =
    let e : spare ≡ suc spare - 1 = omega arith in
    by_option (postfix_at total inner s.rest) spare (suc spare - 1) e is
  where
    by_option : (o : Option (Reader (PostfixOp Expr))) (m n : ℕ) → m ≡ n → is_some o ≡ true
        → choose {A = Reader (PostfixOp Expr)} {B = Outcome (List (PostfixOp Expr) × State)} o (Ok (front, s)) (λ read. read s >>= λ x. reading.postfixes total inner m (front ++ x.0 ∷ []) x.1)
        ≡ (choose {A = Reader (PostfixOp Expr)} {B = Outcome (PostfixOp Expr × State)} o (Err (Unexpected (here total s))) (λ read. read s) >>= λ x. reading.postfixes total inner n (front ++ x.0 ∷ []) x.1)
    by_option None m n e h = absurd cc
    by_option (Some read) m n e h = ap (λ k. read s >>= λ x. reading.postfixes total inner k (front ++ x.0 ∷ []) x.1) e

postfixes_none : (total : ℕ) (inner : Inner) (spare : ℕ) (front : List (PostfixOp Expr)) (s : State) → is_some (postfix_at total inner s.rest) ≡ false
    → reading.postfixes total inner spare front s ≡ Ok (front, s)
unfolding reading.postfixes
postfixes_none total inner zero front s is =
    ap (λ o. choose {A = Reader (PostfixOp Expr)} {B = Outcome (List (PostfixOp Expr) × State)} o (Ok (front, s)) (λ read. Err (TooNested (here total s)))) (none_is (postfix_at total inner s.rest) is)
postfixes_none total inner (suc spare) front s is =
    ap (λ o. choose {A = Reader (PostfixOp Expr)} {B = Outcome (List (PostfixOp Expr) × State)} o (Ok (front, s))
    (λ read. read s >>= λ x. reading.postfixes total inner spare (front ++ x.0 ∷ []) x.1)) (none_is (postfix_at total inner s.rest) is)

postfixes_full : (total : ℕ) (inner : Inner) (spare : ℕ) (front : List (PostfixOp Expr)) (s : State) → spare ≡ 0 → is_some (postfix_at total inner s.rest) ≡ true
    → reading.postfixes total inner spare front s ≡ Err (TooNested (here total s))
unfolding reading.postfixes
postfixes_full total inner spare front s h is =
    ap (λ n. reading.postfixes total inner n front s) h ∙ some_chosen (postfix_at total inner s.rest) is
  where
    some_chosen : (o : Option (Reader (PostfixOp Expr))) → is_some o ≡ true
        → choose {A = Reader (PostfixOp Expr)} {B = Outcome (List (PostfixOp Expr) × State)} o (Ok (front, s)) (λ read. Err (TooNested (here total s))) ≡ Err (TooNested (here total s))
    some_chosen None h = absurd cc
    some_chosen (Some read) h = refl

module _ (total t most room spare : ℕ) (front : List (PostfixOp Expr)) (s : State) (all : Outcome (List (PostfixOp Expr) × State)) (same_total : t ≡ total)
    (same : reading.postfixes total (readers total most room) spare front s ≡ all) where
  sees_at : (b : Bool) → is_some (postfix_at t (readers t most room) s.rest) ≡ b → is_some (postfix_at total (readers total most room) s.rest) ≡ b
  sees_at b h = subst (λ n. is_some (postfix_at n (readers n most room) s.rest) ≡ b) same_total h

  pub postfixes_too_long : (e : ParseError) → spare ≡ 0 → is_some (postfix_at t (readers t most room) s.rest) ≡ true → e ≡ error_of (TooNested (number_of t s.rest)) → FailsBy e all
  postfixes_too_long e none sees is =
      told e (TooNested (number_of total s.rest)) all (is ∙ ap (λ n. error_of (TooNested (number_of n s.rest))) same_total)
      (sym same ∙ postfixes_full total (readers total most room) spare front s none (sees_at true sees))

  pub postfix_fails : (e : ParseError) → 0 < spare → is_some (postfix_at t (readers t most room) s.rest) ≡ true
      → FailsBy e (reading.one_postfix t (readers t most room) s) → FailsBy e all
  postfix_fails e more sees h =
      fails_along e _ all (sym same ∙ postfixes_on total (readers total most room) spare front s more (sees_at true sees))
      (fails_then e (reading.one_postfix total (readers total most room) s) (λ x. reading.postfixes total (readers total most room) (spare - 1) (front ++ x.0 ∷ []) x.1)
      (subst (λ n. FailsBy e (reading.one_postfix n (readers n most room) s)) same_total h))

  pub postfixes_go : (o : PostfixOp Expr) (s' : State) (made : List (PostfixOp Expr)) → 0 < spare → is_some (postfix_at t (readers t most room) s.rest) ≡ true
      → reading.one_postfix t (readers t most room) s ≡ Ok (o, s') → made ≡ front ++ o ∷ []
      → reading.postfixes total (readers total most room) (spare - 1) made s' ≡ all
  postfixes_go o s' made more sees h same_made =
      ap (λ m. reading.postfixes total (readers total most room) (spare - 1) m s') same_made
      ∙ sym (sym same ∙ postfixes_on total (readers total most room) spare front s more (sees_at true sees)
      ∙ ap (λ p. p >>= λ x. reading.postfixes total (readers total most room) (spare - 1) (front ++ x.0 ∷ []) x.1)
      (subst (λ n. reading.one_postfix n (readers n most room) s ≡ Ok (o, s')) same_total h))

  pub postfixes_end : is_some (postfix_at t (readers t most room) s.rest) ≡ false → all ≡ Ok (front, s)
  postfixes_end sees = sym same ∙ postfixes_none total (readers total most room) spare front s (sees_at false sees)

-- ---- operators between operands

links_on : (total : ℕ) (next : Reader Expr) (level spare : ℕ) (front : List (Link Expr)) (s : State) (op : BinaryOp) → 0 < spare → operator_in level s.rest ≡ Some op
    → reading.links total next level spare front s
    ≡ (next (behind s) >>= λ x. reading.links total next level (spare - 1) (front ++ record { at = here total s; op = op; right = x.0 } ∷ []) x.1)
unfolding reading.links
links_on total next level zero front s op h is = absurd (omega arith)
links_on total next level (suc spare) front s op h is =
    let e : spare ≡ suc spare - 1 = omega arith in
    ap (λ o. choose {A = BinaryOp} {B = Outcome (List (Link Expr) × State)} o (Ok (front, s))
    (λ op. next (behind s) >>= λ x. reading.links total next level spare (front ++ record { at = here total s; op = op; right = x.0 } ∷ []) x.1)) is
    ∙ ap (λ n. next (behind s) >>= λ x. reading.links total next level n (front ++ record { at = here total s; op = op; right = x.0 } ∷ []) x.1) e

links_none : (total : ℕ) (next : Reader Expr) (level spare : ℕ) (front : List (Link Expr)) (s : State) → operator_in level s.rest ≡ None
    → reading.links total next level spare front s ≡ Ok (front, s)
unfolding reading.links
links_none total next level zero front s is =
    ap (λ o. choose {A = BinaryOp} {B = Outcome (List (Link Expr) × State)} o (Ok (front, s)) (λ op. Err (TooNested (here total s)))) is
links_none total next level (suc spare) front s is =
    ap (λ o. choose {A = BinaryOp} {B = Outcome (List (Link Expr) × State)} o (Ok (front, s))
    (λ op. next (behind s) >>= λ x. reading.links total next level spare (front ++ record { at = here total s; op = op; right = x.0 } ∷ []) x.1)) is

links_full : (total : ℕ) (next : Reader Expr) (level spare : ℕ) (front : List (Link Expr)) (s : State) (op : BinaryOp) → spare ≡ 0 → operator_in level s.rest ≡ Some op
    → reading.links total next level spare front s ≡ Err (TooNested (here total s))
unfolding reading.links
links_full total next level spare front s op h is =
    ap (λ n. reading.links total next level n front s) h
    ∙ ap (λ o. choose {A = BinaryOp} {B = Outcome (List (Link Expr) × State)} o (Ok (front, s)) (λ op. Err (TooNested (here total s)))) is

-- an operand at a place with so much room
abbrev pub operand_at : ℕ → ℕ → ℕ → ℕ → Reader Expr
operand_at total most room level = level_with total most (reading.unary total most (readers total most room)) level

module _ (total t most room level spare : ℕ) (front : List (Link Expr)) (s : State) (all : Outcome (List (Link Expr) × State)) (same_total : t ≡ total)
    (same : reading.links total (operand_at total most room (level - 1)) level spare front s ≡ all) where
  pub links_too_long : (e : ParseError) (op : BinaryOp) → spare ≡ 0 → operator_in level s.rest ≡ Some op → e ≡ error_of (TooNested (number_of t s.rest)) → FailsBy e all
  links_too_long e op none sees is =
      told e (TooNested (number_of total s.rest)) all (is ∙ ap (λ n. error_of (TooNested (number_of n s.rest))) same_total)
      (sym same ∙ links_full total (operand_at total most room (level - 1)) level spare front s op none sees)

  pub link_fails : (e : ParseError) (op : BinaryOp) (t' : ℕ) (s' : State) → 0 < spare → operator_in level s.rest ≡ Some op → t' ≡ t → s' ≡ behind s
      → FailsBy e (operand_at t' most room (level - 1) s') → FailsBy e all
  link_fails e op t' s' more sees kept skipped h =
      fails_along e _ all (sym same ∙ links_on total (operand_at total most room (level - 1)) level spare front s op more sees)
      (fails_then e (operand_at total most room (level - 1) (behind s))
      (λ x. reading.links total (operand_at total most room (level - 1)) level (spare - 1) (front ++ record { at = here total s; op = op; right = x.0 } ∷ []) x.1)
      (subst (λ z. FailsBy e (operand_at total most room (level - 1) z)) skipped
      (subst (λ n. FailsBy e (operand_at n most room (level - 1) s')) (kept ∙ same_total) h)))

  pub links_go : (op : BinaryOp) (t' : ℕ) (s' s'' : State) (a : Expr) (made : List (Link Expr)) → 0 < spare → operator_in level s.rest ≡ Some op → t' ≡ t → s' ≡ behind s
      → operand_at t' most room (level - 1) s' ≡ Ok (a, s'') → made ≡ front ++ record { at = number_of t s.rest; op = op; right = a } ∷ []
      → reading.links total (operand_at total most room (level - 1)) level (spare - 1) made s'' ≡ all
  links_go op t' s' s'' a made more sees kept skipped h same_made =
      ap (λ m. reading.links total (operand_at total most room (level - 1)) level (spare - 1) m s'')
      (same_made ∙ ap (λ n. front ++ record { at = number_of n s.rest; op = op; right = a } ∷ []) same_total)
      ∙ sym (sym same ∙ links_on total (operand_at total most room (level - 1)) level spare front s op more sees
      ∙ ap (λ o. o >>= λ x. reading.links total (operand_at total most room (level - 1)) level (spare - 1) (front ++ record { at = here total s; op = op; right = x.0 } ∷ []) x.1)
      (subst (λ z. operand_at total most room (level - 1) z ≡ Ok (a, s'')) skipped
      (subst (λ n. operand_at n most room (level - 1) s' ≡ Ok (a, s'')) (kept ∙ same_total) h)))

  pub links_end : operator_in level s.rest ≡ None → all ≡ Ok (front, s)
  links_end sees = sym same ∙ links_none total (operand_at total most room (level - 1)) level spare front s sees

-- ---- levels

level_from_on : (total most : ℕ) (unary : Reader Expr) (level token : ℕ) (first : Expr) (s : State) → 0 < level
    → reading.level_from total most unary level token first s
    ≡ (reading.level_from total most unary (level - 1) token first s
    >>= λ x. reading.links total (level_with total most unary (level - 1)) level most [] x.1 >>= λ z. Ok (grammar.linked token x.0 z.0, z.1))
unfolding reading.level_from
level_from_on total most unary zero token first s h = absurd (omega arith)
level_from_on total most unary (suc level) token first s h =
    let e : level ≡ suc level - 1 = omega arith in
    ap (λ n. reading.level_from total most unary n token first s
    >>= λ x. reading.links total (level_with total most unary n) (suc level) most [] x.1 >>= λ z. Ok (grammar.linked token x.0 z.0, z.1)) e

pub level_from_none : (total most : ℕ) (unary : Reader Expr) (level token : ℕ) (first : Expr) (s : State) → level ≡ 0
    → reading.level_from total most unary level token first s ≡ Ok (first, s)
unfolding reading.level_from
level_from_none total most unary level token first s h = ap (λ n. reading.level_from total most unary n token first s) h

abbrev unary_at : ℕ → ℕ → ℕ → Reader Expr
unary_at total most room = reading.unary total most (readers total most room)

pub level_from_fails : (total most room level token : ℕ) (first : Expr) (s : State) (e : ParseError) → 0 < level
    → FailsBy e (reading.level_from total most (unary_at total most room) (level - 1) token first s)
    → FailsBy e (reading.level_from total most (unary_at total most room) level token first s)
level_from_fails total most room level token first s e more h =
    fails_along e _ (reading.level_from total most (unary_at total most room) level token first s) (level_from_on total most (unary_at total most room) level token first s more)
    (fails_then e (reading.level_from total most (unary_at total most room) (level - 1) token first s)
    (λ x. reading.links total (operand_at total most room (level - 1)) level most [] x.1 >>= λ z. Ok (grammar.linked token x.0 z.0, z.1)) h)

-- behind what the levels below give
level_below : (total most room level token : ℕ) (first a : Expr) (s s' : State) → 0 < level
    → reading.level_from total most (unary_at total most room) (level - 1) token first s ≡ Ok (a, s')
    → reading.level_from total most (unary_at total most room) level token first s
    ≡ (reading.links total (operand_at total most room (level - 1)) level most [] s' >>= λ z. Ok (grammar.linked token a z.0, z.1))
level_below total most room level token first a s s' more h =
    level_from_on total most (unary_at total most room) level token first s more
    ∙ ap (λ o. o >>= λ x. reading.links total (operand_at total most room (level - 1)) level most [] x.1 >>= λ z. Ok (grammar.linked token x.0 z.0, z.1)) h

pub level_links_fail : (total t most room level token : ℕ) (first a : Expr) (s s' : State) (e : ParseError) → 0 < level → t ≡ total
    → reading.level_from total most (unary_at total most room) (level - 1) token first s ≡ Ok (a, s')
    → FailsBy e (reading.links t (operand_at t most room (level - 1)) level most [] s')
    → FailsBy e (reading.level_from total most (unary_at total most room) level token first s)
level_links_fail total t most room level token first a s s' e more kept h fails =
    fails_along e _ (reading.level_from total most (unary_at total most room) level token first s) (level_below total most room level token first a s s' more h)
    (fails_then e (reading.links total (operand_at total most room (level - 1)) level most [] s') (λ z. Ok (grammar.linked token a z.0, z.1))
    (subst (λ n. FailsBy e (reading.links n (operand_at n most room (level - 1)) level most [] s')) kept fails))

pub level_from_is : (total t most room level token : ℕ) (first a made : Expr) (s s' s'' : State) (ls : List (Link Expr)) → 0 < level → t ≡ total
    → reading.level_from total most (unary_at total most room) (level - 1) token first s ≡ Ok (a, s')
    → reading.links t (operand_at t most room (level - 1)) level most [] s' ≡ Ok (ls, s'') → made ≡ grammar.linked token a ls
    → reading.level_from total most (unary_at total most room) level token first s ≡ Ok (made, s'')
level_from_is total t most room level token first a made s s' s'' ls more kept h links same_made =
    level_below total most room level token first a s s' more h
    ∙ ap (λ o. o >>= λ z. Ok (grammar.linked token a z.0, z.1)) (subst (λ n. reading.links n (operand_at n most room (level - 1)) level most [] s' ≡ Ok (ls, s'')) kept links)
    ∙ ap (λ m. Ok (m, s'')) (sym same_made)

-- ---- commas

others_on : (total : ℕ) (next : Reader Expr) (spare : ℕ) (front : List Expr) (s : State) → 0 < spare → sees_mark mark.Comma s.rest ≡ true
    → reading.others total next spare front s ≡ (next (behind s) >>= λ x. reading.others total next (spare - 1) (front ++ x.0 ∷ []) x.1)
unfolding reading.others
others_on total next zero front s h is = absurd (omega arith)
others_on total next (suc spare) front s h is =
    let e : spare ≡ suc spare - 1 = omega arith in
    ap (λ b. if b then (next (behind s) >>= λ x. reading.others total next spare (front ++ x.0 ∷ []) x.1) else Ok (front, s)) is
    ∙ ap (λ n. next (behind s) >>= λ x. reading.others total next n (front ++ x.0 ∷ []) x.1) e

others_none : (total : ℕ) (next : Reader Expr) (spare : ℕ) (front : List Expr) (s : State) → sees_mark mark.Comma s.rest ≡ false
    → reading.others total next spare front s ≡ Ok (front, s)
unfolding reading.others
others_none total next zero front s is = ap (λ b. if b then Err (TooNested (here total s)) else Ok (front, s)) is
others_none total next (suc spare) front s is =
    ap (λ b. if b then (next (behind s) >>= λ x. reading.others total next spare (front ++ x.0 ∷ []) x.1) else Ok (front, s)) is

others_full : (total : ℕ) (next : Reader Expr) (spare : ℕ) (front : List Expr) (s : State) → spare ≡ 0 → sees_mark mark.Comma s.rest ≡ true
    → reading.others total next spare front s ≡ Err (TooNested (here total s))
unfolding reading.others
others_full total next spare front s h is =
    ap (λ n. reading.others total next n front s) h ∙ ap (λ b. if b then Err (TooNested (here total s)) else Ok (front, s)) is

abbrev assign_in : ℕ → ℕ → ℕ → Reader Expr
assign_in total most room = reading.assign total most (readers total most room)

module _ (total t most room spare : ℕ) (front : List Expr) (s : State) (all : Outcome (List Expr × State)) (same_total : t ≡ total)
    (same : reading.others total (assign_in total most room) spare front s ≡ all) where
  pub others_too_long : (e : ParseError) → spare ≡ 0 → sees_mark mark.Comma s.rest ≡ true → e ≡ error_of (TooNested (number_of t s.rest)) → FailsBy e all
  others_too_long e none sees is =
      told e (TooNested (number_of total s.rest)) all (is ∙ ap (λ n. error_of (TooNested (number_of n s.rest))) same_total)
      (sym same ∙ others_full total (assign_in total most room) spare front s none sees)

  pub other_fails : (e : ParseError) (t' : ℕ) (s' : State) → 0 < spare → sees_mark mark.Comma s.rest ≡ true → t' ≡ t → s' ≡ behind s
      → FailsBy e (assign_in t' most room s') → FailsBy e all
  other_fails e t' s' more sees kept skipped h =
      fails_along e _ all (sym same ∙ others_on total (assign_in total most room) spare front s more sees)
      (fails_then e (assign_in total most room (behind s)) (λ x. reading.others total (assign_in total most room) (spare - 1) (front ++ x.0 ∷ []) x.1)
      (subst (λ z. FailsBy e (assign_in total most room z)) skipped (subst (λ n. FailsBy e (assign_in n most room s')) (kept ∙ same_total) h)))

  pub others_go : (t' : ℕ) (s' s'' : State) (a : Expr) (made : List Expr) → 0 < spare → sees_mark mark.Comma s.rest ≡ true → t' ≡ t → s' ≡ behind s
      → assign_in t' most room s' ≡ Ok (a, s'') → made ≡ front ++ a ∷ []
      → reading.others total (assign_in total most room) (spare - 1) made s'' ≡ all
  others_go t' s' s'' a made more sees kept skipped h same_made =
      ap (λ m. reading.others total (assign_in total most room) (spare - 1) m s'') same_made
      ∙ sym (sym same ∙ others_on total (assign_in total most room) spare front s more sees
      ∙ ap (λ o. o >>= λ x. reading.others total (assign_in total most room) (spare - 1) (front ++ x.0 ∷ []) x.1)
      (subst (λ z. assign_in total most room z ≡ Ok (a, s'')) skipped (subst (λ n. assign_in n most room s' ≡ Ok (a, s'')) (kept ∙ same_total) h)))

  pub others_end : sees_mark mark.Comma s.rest ≡ false → all ≡ Ok (front, s)
  others_end sees = sym same ∙ others_none total (assign_in total most room) spare front s sees
