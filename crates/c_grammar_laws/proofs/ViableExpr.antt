-- Where an expression isn't read, it is viable.
use Rattle.std.proofs.Common.{◌≡◌, ℕ, zero, suc, ◌+◌, ◌<◌, ◌≤◌, ◌++◌, inl, inr, false, if◌then◌else◌, Option, Some, None, Ok, Err, List, [], ◌∷◌, length, refl, sym, ap, subst, ◌∙◌, arith}
use Rattle.c_lex.specs.declared.token.Token.{Token}
use Rattle.c_lex.specs.declared.token.TokenKind.{TokenKind}
use Rattle.c_lex.specs.declared.token.TokenKind.TheVariants as kind
use Rattle.c_lex.specs.declared.token.Mark.{Mark}
use Rattle.c_lex.specs.declared.token.Mark.TheVariants as mark
use Rattle.c_ast.specs.declared.words.Name.{Name}
use Rattle.c_ast.specs.declared.expression.Expr.{Expr}
use Rattle.c_ast.specs.declared.expression.PostfixOp.{PostfixOp}
use Rattle.c_ast.specs.declared.expression.PostfixOp.TheVariants as after
use Rattle.c_grammar.specs.declared.phrases.Extent.{Extent}
use Rattle.c_grammar.specs.declared.phrases.Extent.TheVariants as extent
use Rattle.c_grammar.specs.Names.{Names}
use Rattle.c_grammar.specs.Words.{IsMark, number_of}
use Rattle.c_grammar.specs.Grammar as g
use Rattle.c_grammar.specs.Grammar.{Part, Primary, Postfix, Unary, Level, Cond, Assign, Comma, IsExpr, AreLinks, AreOthers, ArePostfix, AreArguments, IsTypeNamed, StartsTypeInParens, postfixed, linked, listed}
use Rattle.c_grammar.specs.Nesting.{Bounds, expr_stands, listed_stand, postfix_stand}
use Rattle.c_grammar.specs.Reading.{State, Fault, Unexpected, TooNested, Outcome, Reader, ◌>>=◌, is_mark, is_keyword, sees_mark, sees_keyword, behind, expect_mark, expect_name}
use Rattle.c_grammar.specs.Inner.{Inner, part_of}
use Rattle.c_grammar.specs.ReadingExpr.{front_expr, choose, or_else, sees_type_in_parens}
use Rattle.c_grammar.specs.ReadingExpr as reading
use Rattle.c_grammar.proofs.Late.{raised}
use Rattle.c_grammar.proofs.Laws.{Sound, at_state}
use Rattle.std.proofs.lemmas.List.{length-append}
use Rattle.c_grammar_laws.proofs.ExprSound.{primary_sound, operator_sound}
use Rattle.c_grammar_laws.proofs.ExprFound.{some_same, found, choose_is, cond_is, sees_mark_is, mark_is}
use Rattle.c_grammar_laws.proofs.ExprTokens.{expr_begins}
use Rattle.c_grammar_laws.proofs.ExprStarts.{starts_type_of}
use Rattle.c_grammar_laws.proofs.Deep.{Deeper, bounds, at_tail, more_swapped, deep, none_left, early, ExprAt}
use Rattle.c_grammar_laws.proofs.Moves.{moved_expr, moved_postfix, no_type_moves, opens_there, expr_room}
use Rattle.c_grammar_laws.proofs.Viable.{Viable, ViableExpr, Viables, fault_at, bind_err, err_is, mark_missed, onto, led, behind_part, put_behind, put_here, made, mark_token, number_token, name_token, zero_primary, zero_assign, raised_big, number_no_type}

-- ---- tokens

pub not_paren : (names : Names) (t : Token) (ts : List Token) → is_mark mark.OpenParen t.kind ≡ false → StartsTypeInParens names (t ∷ ts) → ⊥
not_paren names t ts other h =
    let is : is_mark mark.OpenParen t.kind ≡ is_mark mark.OpenParen (kind.Mark mark.OpenParen) = ap (is_mark mark.OpenParen) (opens_there names t ts h) in
    absurd cc

pub no_paren_word : (names : Names) (t : Token) (ts : List Token) (k : TokenKind) → t.kind ≡ k → is_mark mark.OpenParen k ≡ false → StartsTypeInParens names (t ∷ ts) → ⊥
no_paren_word names t ts k is other h = not_paren names t ts (ap (is_mark mark.OpenParen) is ∙ other) h

-- behind `(` something stands that begins no type
pub type_there : (names : Names) (t : Token) (us : List Token) → reading.sees_type names us ≡ false → StartsTypeInParens names (t ∷ us) → ⊥
type_there names t [] other h = h
type_there names t (u ∷ us) other h = let yes = starts_type_of names u h.1 in absurd cc

or_missed : (total : ℕ) (s : State) (o : Option Expr) (e : Fault) → or_else total s o ≡ Err e → fault_at e ≡ number_of total s.rest
or_missed total s (Some a) e h = absurd cc
or_missed total s None e h = let same : Unexpected (number_of total s.rest) ≡ e = err_is h in ap fault_at (sym same)

-- a part of an expression is one of the parts above it
module _ (to : Deeper) (room : ℕ) (names : Names) (total later : ℕ) (ts rest : List Token) (after : Names) where
  pub as_level : (level : ℕ) → ExprAt to Unary room names total later ts rest after → ExprAt to (Level level) room names total later ts rest after
  as_level zero x = (_, g.lowest x.1, x.2)
  as_level (suc level) x = let y = as_level level x in (_, g.chained y.1 g.no_links (omega arith), (y.2, tt))

  pub as_cond : ExprAt to (Level 10) room names total later ts rest after → ExprAt to Cond room names total later ts rest after
  as_cond x = (_, g.binary x.1, x.2)

  pub as_assign : ExprAt to Cond room names total later ts rest after → ExprAt to Assign room names total later ts rest after
  as_assign x = (_, g.value x.1, x.2)

  pub as_comma : ExprAt to Assign room names total later ts rest after → ExprAt to Comma room names total later ts rest after
  as_comma x = (_, g.comma x.1 g.no_others (omega arith), (x.2, tt))

-- ---- postfix operators, one after the other

-- postfix operators behind so many, so many at most
abbrev pub PostfixGo : Deeper → ℕ → Names → ℕ → ℕ → ℕ → ℕ → List Token → List Token → Names → Type 0
PostfixGo to room names before count total later ts rest after =
    (tree : List (PostfixOp Expr)) × (d : ArePostfix total to.wide (raised to.spare room) names ts rest after tree) × (length tree ≤ count)
    × postfix_stand (bounds to later) before d

-- all of two lists of operators
appended : (b : Bounds) {total most room : ℕ} {names between after : Names} {ts mid rest : List Token} {os os' : List (PostfixOp Expr)} (before : ℕ)
    → (d : ArePostfix total most room names ts mid between os) → postfix_stand b before d
    → (d' : ArePostfix total most room between mid rest after os') → postfix_stand b (before + length os) d'
    → (e : ArePostfix total most room names ts rest after (os ++ os')) × postfix_stand b before e
appended b before g.no_postfix s d' s' = let same : before + 0 ≡ before = omega arith in (d', subst (λ n. postfix_stand b n d') same s')
appended b before (g.index {os = os} opens d closes more) s d' s' =
    let same : before + suc (length os) ≡ suc before + length os = omega arith in
    let x = appended b (suc before) more s.4 d' (subst (λ n. postfix_stand b n d') same s') in
    (g.index opens d closes x.0, (s.0, s.1, s.2, s.3, x.1))
appended b before (g.call {os = os} opens d closes more) s d' s' =
    let same : before + suc (length os) ≡ suc before + length os = omega arith in
    let x = appended b (suc before) more s.4 d' (subst (λ n. postfix_stand b n d') same s') in
    (g.call opens d closes x.0, (s.0, s.1, s.2, s.3, x.1))
appended b before (g.dot {os = os} is name more) s d' s' =
    let same : before + suc (length os) ≡ suc before + length os = omega arith in
    let x = appended b (suc before) more s.3 d' (subst (λ n. postfix_stand b n d') same s') in
    (g.dot is name x.0, (s.0, s.1, s.2, x.1))
appended b before (g.arrow {os = os} is name more) s d' s' =
    let same : before + suc (length os) ≡ suc before + length os = omega arith in
    let x = appended b (suc before) more s.3 d' (subst (λ n. postfix_stand b n d') same s') in
    (g.arrow is name x.0, (s.0, s.1, s.2, x.1))
appended b before (g.increment {os = os} is more) s d' s' =
    let same : before + suc (length os) ≡ suc before + length os = omega arith in
    let x = appended b (suc before) more s.2 d' (subst (λ n. postfix_stand b n d') same s') in
    (g.increment is x.0, (s.0, s.1, x.1))
appended b before (g.decrement {os = os} is more) s d' s' =
    let same : before + suc (length os) ≡ suc before + length os = omega arith in
    let x = appended b (suc before) more s.2 d' (subst (λ n. postfix_stand b n d') same s') in
    (g.decrement is x.0, (s.0, s.1, x.1))

-- an argument, and those behind it
abbrev pub SomeArgumentsAt : Deeper → ℕ → Names → ℕ → ℕ → List Token → List Token → Names → Type 0
SomeArgumentsAt to room names total later ts rest after =
    (between : Names) × (mid : List Token) × (a : Expr) × (es : List Expr) × (d : IsExpr total to.wide Assign (raised to.spare room) names ts mid between a)
    × (ds : AreOthers total to.wide (raised to.spare room) between mid rest after es) × expr_stands (bounds to later) d × listed_stand (bounds to later) ds

-- a comma before these
abbrev pub SomeMore : Deeper → ℕ → Names → ℕ → ℕ → List Token → List Token → Names → Type 0
SomeMore to room names total later ts rest after =
    (a : Expr) × (es : List Expr) × (ds : AreOthers total to.wide (raised to.spare room) names ts rest after (a ∷ es)) × listed_stand (bounds to later) ds

pub name_missed : (total : ℕ) (s : State) (e : Fault) → expect_name total s ≡ Err e → fault_at e ≡ number_of total s.rest
unfolding expect_name
name_missed total s e h = missed total s (Rattle.c_grammar.specs.Reading.name_at_front total s.rest) e h
  where
    missed : (total : ℕ) (s : State) (o : Option Name) (e : Fault) → Rattle.c_grammar.specs.Reading.or_unexpected total s o ≡ Err e → fault_at e ≡ number_of total s.rest
    missed total s (Some a) e h = absurd cc
    missed total s None e h = let same : Unexpected (number_of total s.rest) ≡ e = err_is h in ap fault_at (sym same)

-- what follows an expression, and the punctuator that has to come then
module _ (to : Deeper) (total room : ℕ) (inner : Inner) (sound : Sound total to.chain room inner) (below : Viables to total room inner) where
  pub then_mark : {B : Type 0} (x : Extent) (m : Mark) (s : State) (e : Fault) (f : Expr × State → State → B) (long : List Token)
      → (inner.expr x s >>= λ y. expect_mark total m y.1 >>= λ s'. Ok (f y s')) ≡ Err e
      → ViableExpr to total (part_of x) room s.names s.rest e (mark_token m ∷ long)
  then_mark x m s e f long h =
      elim (bind_err (inner.expr x s) (λ y. expect_mark total m y.1 >>= λ s'. Ok (f y s')) e h) [
        | inl p ↦ below.expr x s e p (mark_token m ∷ long)
        | inr q ↦
            let (y, there, go) = q in
            let d : IsExpr total to.chain (part_of x) room s.names s.rest y.1.rest y.1.names y.0 = sound.expr x s y.1 y.0 there in
            let put : List Token = mark_token m ∷ long in
            let moved = moved_expr to d put in
            elim (bind_err (expect_mark total m y.1) (λ s'. Ok (f y s')) e go) [
              | inl p ↦ record {
                whole = put_behind put put (mark_missed total m y.1 e p) moved (omega arith) y.1.names (λ total' later late z. z);
                no_type = λ was. no_type_moves d was moved.swapped;
              }
              | inr r ↦ let (s', closes, made) = r in absurd cc
            ]
      ]

  -- ---- primary expressions

  paren_viable : (names : Names) (t : Token) (ts : List Token) (e : Fault) → IsMark mark.OpenParen t
      → reading.paren total inner (at_state names (t ∷ ts)) ≡ Err e → (tail : List Token) → ViableExpr to total Primary (suc room) names (t ∷ ts) e tail
  unfolding reading.paren
  paren_viable names t ts e opens h tail =
      let v = then_mark extent.Comma mark.CloseParen (at_state names ts) e (λ x s'. (Rattle.c_ast.specs.declared.expression.Expr.TheVariants.Paren (number_of total (t ∷ ts)) x.0, s')) tail h in
      let x = v.whole.is 0 (length v.whole.put) (omega arith) in
      record {
        whole = led t tail v.whole (omega arith) v.whole.after
            (λ total' later late x. (_, g.paren opens x.1 refl, (deep room to.spare, x.2, λ _. let y = v.whole.room_there in omega (arith, late, y))));
        no_type = λ was h. type_there names t v.whole.all (expr_begins x.1).no_type h;
      }

  primary_viable : (names : Names) (ts : List Token) (e : Fault) → reading.primary total inner (at_state names ts) ≡ Err e
      → (tail : List Token) → ViableExpr to total Primary (suc room) names ts e tail
  unfolding reading.primary
  primary_viable names [] e h tail = record {
    whole = put_here (number_token ∷ tail) tail (or_missed total (at_state names []) (front_expr total names []) e h) (omega arith) names
        (λ total' later late. zero_primary to total' later (raised to.spare (suc room)) (omega arith) names tail late);
    no_type = λ was. number_no_type names tail;
  }
  primary_viable names (t ∷ ts) e h tail =
      elim (cond_is (is_mark mark.OpenParen t.kind) (reading.paren total inner (at_state names (t ∷ ts))) (or_else total (at_state names (t ∷ ts)) (front_expr total names (t ∷ ts))) (Err e) h) [
        | inl p ↦ paren_viable names t ts e (mark_is mark.OpenParen t.kind p.0) p.1 tail
        | inr p ↦ record {
          whole = put_here (number_token ∷ tail) tail (or_missed total (at_state names (t ∷ ts)) (front_expr total names (t ∷ ts)) e p.1) (omega arith) names
              (λ total' later late. zero_primary to total' later (raised to.spare (suc room)) (omega arith) names tail late);
          no_type = λ was. number_no_type names tail;
        }
      ]

  -- ---- postfix operators

  arguments_viable : (count : ℕ) (front : List Expr) (s : State) (e : Fault) → reading.arguments total inner count front s ≡ Err e
      → (tail : List Token) → Viable (SomeArgumentsAt to room s.names) total s.rest e (mark_token mark.CloseParen ∷ tail)
  unfolding reading.arguments
  arguments_viable zero front s e h tail =
      let same : Unexpected (number_of total s.rest) ≡ e = err_is h in
      let close : List Token = mark_token mark.CloseParen ∷ tail in
      put_here (number_token ∷ close) close (ap fault_at (sym same)) (omega arith) s.names
      (λ total' later late. let x = zero_assign to total' later (raised to.spare room) (let y = raised_big to.spare room in let z = to.deeper in omega (arith, y, z)) s.names close late in
      (s.names, close, x.0, [], x.1, g.no_others, x.2, tt))
  arguments_viable (suc count) front s e h tail =
      let close : List Token = mark_token mark.CloseParen ∷ tail in
      elim (bind_err (inner.expr extent.Assign s)
      (λ x. if sees_mark mark.Comma x.1.rest then reading.arguments total inner count (front ++ x.0 ∷ []) (behind x.1)
      else (expect_mark total mark.CloseParen x.1 >>= λ s'. Ok (front ++ x.0 ∷ [], s'))) e h) [
        | inl p ↦
            let v = below.expr extent.Assign s e p close in
            onto close v.whole (omega arith) v.whole.after (λ total' later late x. (v.whole.after, close, x.0, [], x.1, g.no_others, x.2, tt))
        | inr q ↦
            let (x, there, go) = q in
            let d : IsExpr total to.chain Assign room s.names s.rest x.1.rest x.1.names x.0 = sound.expr extent.Assign s x.1 x.0 there in
            elim (cond_is (sees_mark mark.Comma x.1.rest) (reading.arguments total inner count (front ++ x.0 ∷ []) (behind x.1))
            (expect_mark total mark.CloseParen x.1 >>= λ s'. Ok (front ++ x.0 ∷ [], s')) (Err e) go) [
              | inl p ↦
                  let c = sees_mark_is mark.Comma x.1.rest p.0 in
                  let v = arguments_viable count (front ++ x.0 ∷ []) (behind x.1) e p.1 tail in
                  let v' = led {B = SomeMore to room x.1.names} c.token close v (omega arith) v.after
                  (λ total' later late y. (y.2, y.3, g.more_others c.is y.4 y.5, (none_left room to.spare (expr_room d), y.6, y.7))) in
                  let d' : IsExpr total to.chain Assign room s.names s.rest (c.token ∷ Rattle.c_grammar.specs.Reading.tail x.1.rest) x.1.names x.0 =
                  subst (λ us. IsExpr total to.chain Assign room s.names s.rest us x.1.names x.0) c.ts_are d in
                  behind_part close v' (moved_expr to d' v'.all) (omega arith) v'.after
                  (λ total' later late y z. (x.1.names, v'.all, y.0, z.0 ∷ z.1, y.1, z.2, y.2, z.3))
              | inr p ↦
                  elim (bind_err (expect_mark total mark.CloseParen x.1) (λ s'. Ok (front ++ x.0 ∷ [], s')) e p.1) [
                    | inl r ↦ put_behind close close (mark_missed total mark.CloseParen x.1 e r) (moved_expr to d close) (omega arith) x.1.names
                        (λ total' later late y. (x.1.names, close, y.0, [], y.1, g.no_others, y.2, tt))
                    | inr r ↦ let (s', closes, made) = r in absurd cc
                  ]
            ]
      ]

  call_viable : (names : Names) (t : Token) (ts : List Token) (e : Fault) → reading.call total inner (at_state names (t ∷ ts)) ≡ Err e
      → (tail : List Token) → Viable (SomeArgumentsAt to room names) total ts e (mark_token mark.CloseParen ∷ tail)
  unfolding reading.call
  call_viable names t ts e h tail =
      elim (cond_is (sees_mark mark.CloseParen ts)
      (Ok (after.Call (number_of total (t ∷ ts)) [], behind (behind (at_state names (t ∷ ts)))))
      (reading.arguments total inner (length (t ∷ ts)) [] (at_state names ts) >>= λ x. Ok (after.Call (number_of total (t ∷ ts)) x.0, x.1)) (Err e) h) [
        | inl p ↦ absurd (let x = p.1 in cc)
        | inr p ↦
            elim (bind_err (reading.arguments total inner (length (t ∷ ts)) [] (at_state names ts)) (λ x. Ok (after.Call (number_of total (t ∷ ts)) x.0, x.1)) e p.1) [
              | inl q ↦ arguments_viable (length (t ∷ ts)) [] (at_state names ts) e q tail
              | inr q ↦ let (x, there, made) = q in absurd cc
            ]
      ]

  -- a name that has to come behind `.` or `->`
  member_viable : {B : ℕ → ℕ → List Token → List Token → Names → Type 0} (names : Names) (t : Token) (ts : List Token) (e : Fault)
      → (f : Name × State → PostfixOp Expr × State) → (expect_name total (at_state names ts) >>= λ x. Ok (f x)) ≡ Err e → (tail : List Token)
      → ((total' later : ℕ) → length (name_token ∷ tail) ≤ later → B total' later (t ∷ name_token ∷ tail) tail names) → Viable B total (t ∷ ts) e tail
  member_viable names t ts e f h tail made =
      elim (bind_err (expect_name total (at_state names ts)) (λ x. Ok (f x)) e h) [
        | inl p ↦ record {
          from = ts;
          stops = name_missed total (at_state names ts) e p;
          put = name_token ∷ tail;
          room_there = omega arith;
          all = t ∷ name_token ∷ tail;
          swapped = more_swapped at_tail;
          after = names;
          is = made;
        }
        | inr p ↦ let (x, there, go) = p in absurd cc
      ]

  -- one operator, behind so many
  mark_viable : (names : Names) (t : Token) (ts : List Token) (m : Mark) (read : Reader (PostfixOp Expr)) (e : Fault) → t.kind ≡ kind.Mark m
      → reading.postfix_by total inner m ≡ Some read → read (at_state names (t ∷ ts)) ≡ Err e → (before : ℕ) → before < to.chain → (tail : List Token)
      → Viable (PostfixGo to (suc room) names before 1) total (t ∷ ts) e tail
  unfolding reading.index reading.dot reading.arrow
  mark_viable names t ts mark.OpenBracket read e is by h before less tail =
      let h' : reading.index total inner (at_state names (t ∷ ts)) ≡ Err e = ap (λ (r : Reader (PostfixOp Expr)). r (at_state names (t ∷ ts))) (some_same by) ∙ h in
      let v = then_mark extent.Comma mark.CloseBracket (at_state names ts) e (λ x s'. (after.Index (number_of total (t ∷ ts)) x.0, s')) tail h' in
      led t tail v.whole (omega arith) v.whole.after
      (λ total' later late x. (
        _,
        g.index is x.1 refl g.no_postfix,
        omega arith,
        (deep room to.spare, early before to.chain less, x.2, λ _. let y = v.whole.room_there in omega (arith, late, y), tt),
      ))
  mark_viable names t ts mark.OpenParen read e is by h before less tail =
      let h' : reading.call total inner (at_state names (t ∷ ts)) ≡ Err e = ap (λ (r : Reader (PostfixOp Expr)). r (at_state names (t ∷ ts))) (some_same by) ∙ h in
      let v = call_viable names t ts e h' tail in
      led t tail v (omega arith) v.after
      (λ total' later late x. (
        _,
        g.call is (g.arguments x.4 x.5) refl g.no_postfix,
        omega arith,
        (deep room to.spare, early before to.chain less, (x.6, x.7), λ _. let y = v.room_there in omega (arith, late, y), tt),
      ))
  mark_viable names t ts mark.Dot read e is by h before less tail =
      let h' : reading.dot total (at_state names (t ∷ ts)) ≡ Err e = ap (λ (r : Reader (PostfixOp Expr)). r (at_state names (t ∷ ts))) (some_same by) ∙ h in
      member_viable names t ts e (λ x. (after.Member (number_of total (t ∷ ts)) x.0, x.1)) h' tail
      (λ total' later late. (_, g.dot is refl g.no_postfix, omega arith, (deep room to.spare, early before to.chain less, λ _. late, tt)))
  mark_viable names t ts mark.Arrow read e is by h before less tail =
      let h' : reading.arrow total (at_state names (t ∷ ts)) ≡ Err e = ap (λ (r : Reader (PostfixOp Expr)). r (at_state names (t ∷ ts))) (some_same by) ∙ h in
      member_viable names t ts e (λ x. (after.Arrow (number_of total (t ∷ ts)) x.0, x.1)) h' tail
      (λ total' later late. (_, g.arrow is refl g.no_postfix, omega arith, (deep room to.spare, early before to.chain less, λ _. late, tt)))
  mark_viable names t ts mark.PlusPlus read e is by h before less tail =
      let h' : ◌≡◌ {A = Outcome (PostfixOp Expr × State)} (Ok (after.Increment (number_of total (t ∷ ts)), at_state names ts)) (Err e) =
      ap (λ (r : Reader (PostfixOp Expr)). r (at_state names (t ∷ ts))) (some_same by) ∙ h in absurd cc
  mark_viable names t ts mark.MinusMinus read e is by h before less tail =
      let h' : ◌≡◌ {A = Outcome (PostfixOp Expr × State)} (Ok (after.Decrement (number_of total (t ∷ ts)), at_state names ts)) (Err e) =
      ap (λ (r : Reader (PostfixOp Expr)). r (at_state names (t ∷ ts))) (some_same by) ∙ h in absurd cc
  mark_viable names t ts _ read e is by h before less tail = absurd cc

  kind_viable : (names : Names) (t : Token) (ts : List Token) (k : TokenKind) (read : Reader (PostfixOp Expr)) (e : Fault) → t.kind ≡ k
      → reading.postfix_of total inner k ≡ Some read → read (at_state names (t ∷ ts)) ≡ Err e → (before : ℕ) → before < to.chain → (tail : List Token)
      → Viable (PostfixGo to (suc room) names before 1) total (t ∷ ts) e tail
  kind_viable names t ts (kind.Mark m) read e is by h before less tail = mark_viable names t ts m read e is by h before less tail
  kind_viable names t ts (kind.Keyword k) read e is by h before less tail = absurd cc
  kind_viable names t ts kind.Name read e is by h before less tail = absurd cc
  kind_viable names t ts (kind.Number n) read e is by h before less tail = absurd cc
  kind_viable names t ts kind.Character read e is by h before less tail = absurd cc
  kind_viable names t ts kind.Text read e is by h before less tail = absurd cc

  operator_viable : (names : Names) (ts : List Token) (read : Reader (PostfixOp Expr)) (e : Fault)
      → reading.postfix_at total inner ts ≡ Some read → read (at_state names ts) ≡ Err e → (before : ℕ) → before < to.chain → (tail : List Token)
      → Viable (PostfixGo to (suc room) names before 1) total ts e tail
  operator_viable names [] read e by h before less tail = absurd cc
  operator_viable names (t ∷ ts) read e by h before less tail = kind_viable names t ts t.kind read e refl by h before less tail

  postfixes_viable : (spare : ℕ) (front : List (PostfixOp Expr)) (s : State) (e : Fault) → reading.postfixes total inner spare front s ≡ Err e
      → (before : ℕ) → before + spare ≡ to.chain → (tail : List Token) → Viable (PostfixGo to (suc room) s.names before spare) total s.rest e tail
  unfolding reading.postfixes
  postfixes_viable zero front s e h before left tail =
      elim (choose_is (reading.postfix_at total inner s.rest) (Ok (front, s)) (λ read. Err (TooNested (number_of total s.rest))) (Err e) h) [
        | inl p ↦ absurd (let x = p.1 in cc)
        | inr p ↦
            let same : TooNested (number_of total s.rest) ≡ e = err_is p.2 in
            put_here tail tail (ap fault_at (sym same)) (omega arith) s.names (λ total' later late. ([], g.no_postfix, omega arith, tt))
      ]
  postfixes_viable (suc spare) front s e h before left tail =
      let less : before < to.chain = omega (arith, left) in
      elim (choose_is (reading.postfix_at total inner s.rest) (Ok (front, s)) (λ read. read s >>= λ x. reading.postfixes total inner spare (front ++ x.0 ∷ []) x.1) (Err e) h) [
        | inl p ↦ absurd (let x = p.1 in cc)
        | inr p ↦
            let (read, by, on) = p in
            elim (bind_err (read s) (λ x. reading.postfixes total inner spare (front ++ x.0 ∷ []) x.1) e on) [
              | inl q ↦
                  let v = operator_viable s.names s.rest read e by q before less tail in
                  onto tail v (omega arith) v.after (λ total' later late x. (x.0, x.1, (let y = x.2 in omega (arith, y)), x.3))
              | inr q ↦
                  let (x, there, go) = q in
                  let v = postfixes_viable spare (front ++ x.0 ∷ []) x.1 e go (suc before) (omega (arith, left)) tail in
                  let one : ArePostfix total to.chain (suc room) s.names s.rest x.1.rest x.1.names (x.0 ∷ []) =
                  operator_sound total to.chain room inner sound s.names s.rest read x by there x.1.rest x.1.names [] g.no_postfix in
                  behind_part tail v (moved_postfix to one before (omega (arith, less)) v.all) (omega arith) v.after
                  (λ total' later late y z.
                  let same : suc before ≡ before + length y.0 = (let one_is : length y.0 ≡ 1 = y.2 in omega (arith, one_is)) in
                  let a = appended (bounds to later) before y.1 y.3 z.1 (subst (λ n. postfix_stand (bounds to later) n z.1) same z.3) in
                  (y.0 ++ z.0, a.0, (let n = length-append y.0 z.0 in let one_is : length y.0 ≡ 1 = y.2 in let few = z.2 in omega (arith, n, one_is, few)), a.1))
            ]
      ]

  pub postfix_viable : (s : State) (e : Fault) → reading.postfix total to.chain inner s ≡ Err e → (tail : List Token)
      → ViableExpr to total Postfix (suc room) s.names s.rest e tail
  unfolding reading.postfix
  postfix_viable s e h tail =
      elim (bind_err (reading.primary total inner s)
      (λ x. reading.postfixes total inner to.chain [] x.1 >>= λ y. Ok (postfixed (number_of total s.rest) x.0 y.0, y.1)) e h) [
        | inl p ↦
            let v = primary_viable s.names s.rest e p tail in
            record {
              whole = onto tail v.whole (omega arith) v.whole.after (λ total' later late x. (_, g.postfix x.1 g.no_postfix (omega arith), (x.2, tt)));
              no_type = v.no_type;
            }
        | inr q ↦
            let (x, there, go) = q in
            let d : IsExpr total to.chain Primary (suc room) s.names s.rest x.1.rest x.1.names x.0 = primary_sound total to.chain room inner sound s x there in
            elim (bind_err (reading.postfixes total inner to.chain [] x.1) (λ y. Ok (postfixed (number_of total s.rest) x.0 y.0, y.1)) e go) [
              | inl p ↦
                  let v = postfixes_viable to.chain [] x.1 e p 0 (omega arith) tail in
                  let m = moved_expr to d v.all in
                  record {
                    whole = behind_part tail v m (omega arith) v.after
                        (λ total' later late y z. (_, g.postfix y.1 z.1 (let few = z.2 in let wider = to.wider in omega (arith, few, wider)), (y.2, z.3)));
                    no_type = λ was. no_type_moves d was m.swapped;
                  }
              | inr r ↦ let (z, found, made) = r in absurd cc
            ]
      ]
