-- What is read as an expression is one.
use Rattle.std.proofs.Common.{append_assoc, append-nil, if◌then◌else◌, ◌≡◌, ℕ, zero, suc, ◌≤◌, ◌++◌, true, false, cond, nat_eq, Option, Some, None, Ok, Err, List, [], ◌∷◌, length, refl, sym, ap, ◌∙◌, subst, inl, inr, arith}
use Rattle.std.proofs.lemmas.Bool.Decides.{Decides-eqb}
use Rattle.c_lex.specs.declared.token.Token.{Token}
use Rattle.c_lex.specs.declared.token.TokenKind.{TokenKind}
use Rattle.c_lex.specs.declared.token.TokenKind.TheVariants as kind
use Rattle.c_lex.specs.declared.token.Keyword.TheVariants as keyword
use Rattle.c_lex.specs.declared.token.Mark.{Mark}
use Rattle.c_lex.specs.declared.token.Mark.TheVariants as mark
use Rattle.c_ast.specs.declared.words.Name.{Name}
use Rattle.c_ast.specs.declared.words.BinaryOp.{BinaryOp}
use Rattle.c_ast.specs.declared.words.AssignOp.{AssignOp}
use Rattle.c_ast.specs.declared.words.PrefixOp.{PrefixOp}
use Rattle.c_ast.specs.declared.expression.Expr.{Expr}
use Rattle.c_ast.specs.declared.expression.Expr.TheVariants as expr
use Rattle.c_ast.specs.declared.expression.Link.{Link}
use Rattle.c_ast.specs.declared.expression.PostfixOp.{PostfixOp}
use Rattle.c_ast.specs.declared.expression.PostfixOp.TheVariants as after
use Rattle.c_ast.specs.declared.declaration.TypeName.{TypeName, roll-TypeName}
use Rattle.c_grammar.specs.declared.phrases.Extent.{Extent}
use Rattle.c_grammar.specs.declared.phrases.Extent.TheVariants as extent
use Rattle.c_grammar.specs.Names.{Names, name_at, is_type_in}
use Rattle.c_grammar.specs.Words.{IsMark, IsKeyword, number_of, prefix_of, placed, operator_of, assign_of}
use Rattle.c_grammar.specs.Grammar.{operand, lowest, chained, binary, conditional, assigned, comma, AreSpecs, IsAbstract, IsTypeNamed, type_named, Part, Primary, Postfix, Unary, Level, Cond, Assign, Comma, IsExpr, AreLinks, no_links, more_links, AreOthers, no_others, more_others, ArePostfix, no_postfix, index, call, dot, arrow, increment, decrement, AreArguments, no_arguments, postfixed, linked, listed}
use Rattle.c_grammar.specs.Grammar as grammar
use Rattle.c_grammar.specs.Reading.{State, TooNested, Reader, ◌>>=◌, sees_mark, sees_keyword, tail, behind, here, expect_mark, expect_name}
use Rattle.c_grammar.specs.Inner.{Inner, part_of}
use Rattle.c_grammar.specs.ReadingExpr.{token_expr, front_expr, choose, or_else}
use Rattle.c_grammar.specs.ReadingExpr as reading
use Rattle.c_grammar.proofs.Laws.{Sound, IsTypeInParens, at_state}
use Rattle.c_grammar_laws.proofs.ExprStarts.{starts_no_type}
use Rattle.c_grammar_laws.proofs.ExprFound.{found, some_same, moved, bind_ok, choose_is, cond_is, Stands, sees_mark_is, StandsWord, sees_keyword_is, Expected, expect_mark_is, Named, expect_name_is}

-- ---- operators

pub operator_at_is : (ts : List Token) (p : ℕ × BinaryOp) → reading.operator_at ts ≡ Some p → (t : Token) × (ts ≡ t ∷ tail ts) × (operator_of t.kind ≡ Some p)
operator_at_is [] p h = absurd cc
operator_at_is (t ∷ ts) p h = (t, refl, h)

pub operator_in_is : (level : ℕ) (ts : List Token) (op : BinaryOp) → reading.operator_in level ts ≡ Some op
    → (t : Token) × (ts ≡ t ∷ tail ts) × (operator_of t.kind ≡ placed level op)
operator_in_is level ts op h =
    elim (choose_is {A = ℕ × BinaryOp} {B = Option BinaryOp} (reading.operator_at ts) None (reading.of_level level) (Some op) h) [
      | inl p ↦ absurd (let e = p.1 in cc)
      | inr p ↦
          let (t, stands, is) = operator_at_is ts p.0 p.1 in
          elim (cond_is (nat_eq p.0.0 level) (Some p.0.1) None (Some op) p.2) [
            | inl q ↦
                let same : p.0.0 ≡ level = (Decides-eqb p.0.0 level).0 q.0 in
                (t, stands, is ∙ ap (λ l. placed l p.0.1) same ∙ ap (λ o. placed level o) (some_same q.1))
            | inr q ↦ absurd (let e = q.1 in cc)
          ]
    ]

module _ (total most : ℕ) (room : ℕ) (inner : Inner) (sound : Sound total most room inner) where
  -- what was read from a state on is such a part
  abbrev pub Is : Part → State → Expr × State → Type 0
  Is part s y = IsExpr total most part (suc room) s.names s.rest y.1.rest y.1.names y.0

  -- ---- primary expressions

  paren_sound : (s : State) (o : Token) (ts : List Token) (y : Expr × State) → s.rest ≡ o ∷ ts → IsMark mark.OpenParen o
      → reading.paren total inner s ≡ Ok y → Is Primary s y
  unfolding reading.paren
  paren_sound s o ts y e opens h =
      let (x, there, go) = bind_ok (inner.expr extent.Comma (behind s)) (λ x. expect_mark total mark.CloseParen x.1 >>= λ s'. Ok (expr.Paren (here total s) x.0, s')) y h in
      let (s', closes, made) = bind_ok (expect_mark total mark.CloseParen x.1) (λ s'. Ok (expr.Paren (here total s) x.0, s')) y go in
      let c = expect_mark_is total mark.CloseParen x.1 s' closes in
      let inside : IsExpr total most Comma room s.names (tail s.rest) x.1.rest x.1.names x.0 = sound.expr extent.Comma (behind s) x.1 x.0 there in
      let inside' : IsExpr total most Comma room s.names ts (c.stands.token ∷ s'.rest) s'.names x.0 =
      subst (λ ns. IsExpr total most Comma room s.names ts (c.stands.token ∷ s'.rest) ns x.0) (sym c.names_are)
      (subst (λ us. IsExpr total most Comma room s.names ts us x.1.names x.0) c.stands.ts_are
      (subst (λ us. IsExpr total most Comma room s.names (tail us) x.1.rest x.1.names x.0) e inside)) in
      moved (λ (z : Expr × State). Is Primary s z)
      (subst (λ us. IsExpr total most Primary (suc room) s.names us s'.rest s'.names (expr.Paren (number_of total us) x.0)) (sym e)
      (grammar.paren opens inside' c.stands.is)) made

  token_sound : (names : Names) (t : Token) (ts : List Token) (k : TokenKind) (y : Expr × State) → t.kind ≡ k
      → or_else total (at_state names (t ∷ ts)) (token_expr (number_of total (t ∷ ts)) names t k) ≡ Ok y → Is Primary (at_state names (t ∷ ts)) y
  token_sound names t ts kind.Name y e h =
      elim (is_type_in names t.headers t.text) as (λ b. is_type_in names t.headers t.text ≡ b
      → or_else total (at_state names (t ∷ ts)) (cond b None (Some (expr.Name (name_at (number_of total (t ∷ ts)) t)))) ≡ Ok y → Is Primary (at_state names (t ∷ ts)) y) [
        | true ↦ λ b k. absurd cc
        | false ↦ λ b k. moved (λ (z : Expr × State). Is Primary (at_state names (t ∷ ts)) z) (grammar.name (e, b)) k
      ] refl h
  token_sound names t ts (kind.Number type) y e h = moved (λ (z : Expr × State). Is Primary (at_state names (t ∷ ts)) z) (grammar.number type e) h
  token_sound names t ts kind.Character y e h = moved (λ (z : Expr × State). Is Primary (at_state names (t ∷ ts)) z) (grammar.character e) h
  token_sound names t ts kind.Text y e h = moved (λ (z : Expr × State). Is Primary (at_state names (t ∷ ts)) z) (grammar.text e) h
  token_sound names t ts (kind.Keyword k) y e h = absurd cc
  token_sound names t ts (kind.Mark m) y e h = absurd cc

  front_sound : (names : Names) (ts : List Token) (y : Expr × State)
      → or_else total (at_state names ts) (front_expr total names ts) ≡ Ok y → Is Primary (at_state names ts) y
  front_sound names [] y h = absurd cc
  front_sound names (t ∷ ts) y h = token_sound names t ts t.kind y refl h

  pub primary_sound : (s : State) (y : Expr × State) → reading.primary total inner s ≡ Ok y → Is Primary s y
  unfolding reading.primary
  primary_sound s y h =
      elim (cond_is (sees_mark mark.OpenParen s.rest) (reading.paren total inner s) (or_else total s (front_expr total s.names s.rest)) (Ok y) h) [
        | inl p ↦ let o = sees_mark_is mark.OpenParen s.rest p.0 in paren_sound s o.token (tail s.rest) y o.ts_are o.is p.1
        | inr p ↦ front_sound s.names s.rest y p.1
      ]

  -- ---- postfix operators

  -- what was read goes before any operators that stand behind it
  abbrev pub Prepends : State → PostfixOp Expr × State → Type 0
  Prepends s y = (rest : List Token) (names : Names) (os : List (PostfixOp Expr)) → ArePostfix total most (suc room) y.1.names y.1.rest rest names os
      → ArePostfix total most (suc room) s.names s.rest rest names (y.0 ∷ os)

  index_sound : (s : State) (y : PostfixOp Expr × State) → Stands mark.OpenBracket s.rest (tail s.rest) → reading.index total inner s ≡ Ok y → Prepends s y
  unfolding reading.index
  index_sound s y o h =
      let (x, there, go) = bind_ok (inner.expr extent.Comma (behind s)) (λ x. expect_mark total mark.CloseBracket x.1 >>= λ s'. Ok (after.Index (here total s) x.0, s')) y h in
      let (s', closes, made) = bind_ok (expect_mark total mark.CloseBracket x.1) (λ s'. Ok (after.Index (here total s) x.0, s')) y go in
      let c = expect_mark_is total mark.CloseBracket x.1 s' closes in
      let inside : IsExpr total most Comma room s.names (tail s.rest) x.1.rest x.1.names x.0 = sound.expr extent.Comma (behind s) x.1 x.0 there in
      let inside' : IsExpr total most Comma room s.names (tail s.rest) (c.stands.token ∷ s'.rest) s'.names x.0 =
      subst (λ ns. IsExpr total most Comma room s.names (tail s.rest) (c.stands.token ∷ s'.rest) ns x.0) (sym c.names_are)
      (subst (λ us. IsExpr total most Comma room s.names (tail s.rest) us x.1.names x.0) c.stands.ts_are inside) in
      moved (λ (z : PostfixOp Expr × State). Prepends s z)
      (λ rest names os d. subst (λ us. ArePostfix total most (suc room) s.names us rest names (after.Index (number_of total us) x.0 ∷ os)) (sym o.ts_are)
      (index o.is inside' c.stands.is d)) made

  -- behind the arguments so far come these, and the bracket that closes them
  record Arguments (s : State) (front : List Expr) (y : List Expr × State) : Type 0 where
    first : Expr
    others : List Expr
    names : Names
    mid : List Token
    close : Token
    closes : IsMark mark.CloseParen close
    all : y.0 ≡ front ++ first ∷ others
    one : IsExpr total most Assign room s.names s.rest mid names first
    more : AreOthers total most room names mid (close ∷ y.1.rest) y.1.names others

  arguments_sound : (count : ℕ) (front : List Expr) (s : State) (y : List Expr × State) → reading.arguments total inner count front s ≡ Ok y → Arguments s front y
  unfolding reading.arguments
  arguments_sound zero front s y h = absurd cc
  arguments_sound (suc count) front s y h =
      let (x, there, go) = bind_ok (inner.expr extent.Assign s)
      (λ x. if sees_mark mark.Comma x.1.rest then reading.arguments total inner count (front ++ x.0 ∷ []) (behind x.1)
      else (expect_mark total mark.CloseParen x.1 >>= λ s'. Ok (front ++ x.0 ∷ [], s'))) y h in
      let one : IsExpr total most Assign room s.names s.rest x.1.rest x.1.names x.0 = sound.expr extent.Assign s x.1 x.0 there in
      elim (cond_is (sees_mark mark.Comma x.1.rest) (reading.arguments total inner count (front ++ x.0 ∷ []) (behind x.1))
      (expect_mark total mark.CloseParen x.1 >>= λ s'. Ok (front ++ x.0 ∷ [], s')) (Ok y) go) [
        | inl p ↦
            let m = sees_mark_is mark.Comma x.1.rest p.0 in
            let a = arguments_sound count (front ++ x.0 ∷ []) (behind x.1) y p.1 in
            record {
              first = x.0;
              others = a.first ∷ a.others;
              names = x.1.names;
              mid = x.1.rest;
              close = a.close;
              closes = a.closes;
              all = a.all ∙ append_assoc front (x.0 ∷ []) (a.first ∷ a.others);
              one = one;
              more = subst (λ us. AreOthers total most room x.1.names us (a.close ∷ y.1.rest) y.1.names (a.first ∷ a.others)) (sym m.ts_are) (more_others m.is a.one a.more);
            }
        | inr p ↦
            let (s', closes, made) = bind_ok (expect_mark total mark.CloseParen x.1) (λ s'. Ok (front ++ x.0 ∷ [], s')) y p.1 in
            let c = expect_mark_is total mark.CloseParen x.1 s' closes in
            moved (λ (z : List Expr × State). Arguments s front z)
            (record {
              first = x.0;
              others = [];
              names = x.1.names;
              mid = x.1.rest;
              close = c.stands.token;
              closes = c.stands.is;
              all = refl;
              one = one;
              more = subst (λ us. AreOthers total most room x.1.names us (c.stands.token ∷ s'.rest) s'.names []) (sym c.stands.ts_are)
                  (subst (λ ns. AreOthers total most room x.1.names (c.stands.token ∷ s'.rest) (c.stands.token ∷ s'.rest) ns []) (sym c.names_are) no_others);
            }) made
      ]

  call_sound : (s : State) (y : PostfixOp Expr × State) → Stands mark.OpenParen s.rest (tail s.rest) → reading.call total inner s ≡ Ok y → Prepends s y
  unfolding reading.call
  call_sound s y o h =
      elim (cond_is (sees_mark mark.CloseParen (tail s.rest)) (Ok (after.Call (here total s) [], behind (behind s)))
      (reading.arguments total inner (length s.rest) [] (behind s) >>= λ x. Ok (after.Call (here total s) x.0, x.1)) (Ok y) h) [
        | inl p ↦
            let c = sees_mark_is mark.CloseParen (tail s.rest) p.0 in
            moved (λ (z : PostfixOp Expr × State). Prepends s z)
            (λ rest names os d. subst (λ us. ArePostfix total most (suc room) s.names us rest names (after.Call (number_of total us) [] ∷ os)) (sym o.ts_are)
            (call o.is (subst (λ us. AreArguments total most room s.names (tail s.rest) us s.names []) c.ts_are no_arguments) c.is d)) p.1
        | inr p ↦
            let (x, there, made) = bind_ok (reading.arguments total inner (length s.rest) [] (behind s)) (λ x. Ok (after.Call (here total s) x.0, x.1)) y p.1 in
            let a = arguments_sound (length s.rest) [] (behind s) x there in
            let inside : AreArguments total most room s.names (tail s.rest) (a.close ∷ x.1.rest) x.1.names x.0 =
            subst (λ es. AreArguments total most room s.names (tail s.rest) (a.close ∷ x.1.rest) x.1.names es) (sym a.all) (grammar.arguments a.one a.more) in
            moved (λ (z : PostfixOp Expr × State). Prepends s z)
            (λ rest names os d. subst (λ us. ArePostfix total most (suc room) s.names us rest names (after.Call (number_of total us) x.0 ∷ os)) (sym o.ts_are)
            (call o.is inside a.closes d)) made
      ]

  -- an operator and a name behind it
  dot_at : (s : State) (x : Name × State) (d : Token) → IsMark mark.Dot d → s.rest ≡ d ∷ tail s.rest → Named total (behind s) x
      → Prepends s (after.Member (here total s) x.0, x.1)
  dot_at s x d is e n rest names os p =
      let p' : ArePostfix total most (suc room) s.names x.1.rest rest names os = subst (λ ns. ArePostfix total most (suc room) ns x.1.rest rest names os) n.names_are p in
      subst (λ us. ArePostfix total most (suc room) s.names us rest names (after.Member (number_of total us) x.0 ∷ os)) (sym e)
      (subst (λ us. ArePostfix total most (suc room) s.names (d ∷ us) rest names (after.Member (number_of total (d ∷ us)) x.0 ∷ os)) (sym n.rest_is)
      (subst (λ w. ArePostfix total most (suc room) s.names (d ∷ n.token ∷ x.1.rest) rest names (after.Member (number_of total (d ∷ n.token ∷ x.1.rest)) w ∷ os)) (sym n.name_is)
      (dot is n.is p')))

  arrow_at : (s : State) (x : Name × State) (d : Token) → IsMark mark.Arrow d → s.rest ≡ d ∷ tail s.rest → Named total (behind s) x
      → Prepends s (after.Arrow (here total s) x.0, x.1)
  arrow_at s x d is e n rest names os p =
      let p' : ArePostfix total most (suc room) s.names x.1.rest rest names os = subst (λ ns. ArePostfix total most (suc room) ns x.1.rest rest names os) n.names_are p in
      subst (λ us. ArePostfix total most (suc room) s.names us rest names (after.Arrow (number_of total us) x.0 ∷ os)) (sym e)
      (subst (λ us. ArePostfix total most (suc room) s.names (d ∷ us) rest names (after.Arrow (number_of total (d ∷ us)) x.0 ∷ os)) (sym n.rest_is)
      (subst (λ w. ArePostfix total most (suc room) s.names (d ∷ n.token ∷ x.1.rest) rest names (after.Arrow (number_of total (d ∷ n.token ∷ x.1.rest)) w ∷ os)) (sym n.name_is)
      (arrow is n.is p')))

  dot_sound : (s : State) (y : PostfixOp Expr × State) → Stands mark.Dot s.rest (tail s.rest) → reading.dot total s ≡ Ok y → Prepends s y
  unfolding reading.dot
  dot_sound s y o h =
      let (x, there, made) = bind_ok (expect_name total (behind s)) (λ x. Ok (after.Member (here total s) x.0, x.1)) y h in
      moved (λ (z : PostfixOp Expr × State). Prepends s z) (dot_at s x o.token o.is o.ts_are (expect_name_is total (behind s) x there)) made

  arrow_sound : (s : State) (y : PostfixOp Expr × State) → Stands mark.Arrow s.rest (tail s.rest) → reading.arrow total s ≡ Ok y → Prepends s y
  unfolding reading.arrow
  arrow_sound s y o h =
      let (x, there, made) = bind_ok (expect_name total (behind s)) (λ x. Ok (after.Arrow (here total s) x.0, x.1)) y h in
      moved (λ (z : PostfixOp Expr × State). Prepends s z) (arrow_at s x o.token o.is o.ts_are (expect_name_is total (behind s) x there)) made

  increment_sound : (s : State) (y : PostfixOp Expr × State) → Stands mark.PlusPlus s.rest (tail s.rest) → found (after.Increment (here total s), behind s) ≡ Ok y → Prepends s y
  increment_sound s y o h = moved (λ (z : PostfixOp Expr × State). Prepends s z)
      (λ rest names os d. subst (λ us. ArePostfix total most (suc room) s.names us rest names (after.Increment (number_of total us) ∷ os)) (sym o.ts_are) (increment o.is d)) h

  decrement_sound : (s : State) (y : PostfixOp Expr × State) → Stands mark.MinusMinus s.rest (tail s.rest) → found (after.Decrement (here total s), behind s) ≡ Ok y → Prepends s y
  decrement_sound s y o h = moved (λ (z : PostfixOp Expr × State). Prepends s z)
      (λ rest names os d. subst (λ us. ArePostfix total most (suc room) s.names us rest names (after.Decrement (number_of total us) ∷ os)) (sym o.ts_are) (decrement o.is d)) h

  mark_sound : (m : Mark) (read : Reader (PostfixOp Expr)) (s : State) (y : PostfixOp Expr × State) → Stands m s.rest (tail s.rest)
      → reading.postfix_by total inner m ≡ Some read → read s ≡ Ok y → Prepends s y
  mark_sound mark.OpenBracket read s y o e h = index_sound s y o (ap (λ (r : Reader (PostfixOp Expr)). r s) (some_same e) ∙ h)
  mark_sound mark.OpenParen read s y o e h = call_sound s y o (ap (λ (r : Reader (PostfixOp Expr)). r s) (some_same e) ∙ h)
  mark_sound mark.Dot read s y o e h = dot_sound s y o (ap (λ (r : Reader (PostfixOp Expr)). r s) (some_same e) ∙ h)
  mark_sound mark.Arrow read s y o e h = arrow_sound s y o (ap (λ (r : Reader (PostfixOp Expr)). r s) (some_same e) ∙ h)
  mark_sound mark.PlusPlus read s y o e h = increment_sound s y o (ap (λ (r : Reader (PostfixOp Expr)). r s) (some_same e) ∙ h)
  mark_sound mark.MinusMinus read s y o e h = decrement_sound s y o (ap (λ (r : Reader (PostfixOp Expr)). r s) (some_same e) ∙ h)
  mark_sound _ read s y o e h = absurd cc

  kind_sound : (t : Token) (ts : List Token) (names : Names) (k : TokenKind) (read : Reader (PostfixOp Expr)) (y : PostfixOp Expr × State) → t.kind ≡ k
      → reading.postfix_of total inner k ≡ Some read → read (at_state names (t ∷ ts)) ≡ Ok y → Prepends (at_state names (t ∷ ts)) y
  kind_sound t ts names (kind.Mark m) read y k e h = mark_sound m read (at_state names (t ∷ ts)) y (record { token = t; is = k; ts_are = refl }) e h
  kind_sound t ts names (kind.Keyword w) read y k e h = absurd cc
  kind_sound t ts names kind.Name read y k e h = absurd cc
  kind_sound t ts names (kind.Number n) read y k e h = absurd cc
  kind_sound t ts names kind.Character read y k e h = absurd cc
  kind_sound t ts names kind.Text read y k e h = absurd cc

  pub operator_sound : (names : Names) (ts : List Token) (read : Reader (PostfixOp Expr)) (y : PostfixOp Expr × State)
      → reading.postfix_at total inner ts ≡ Some read → read (at_state names ts) ≡ Ok y → Prepends (at_state names ts) y
  operator_sound names [] read y e h = absurd cc
  operator_sound names (t ∷ ts) read y e h = kind_sound t ts names t.kind read y refl e h

  -- behind the operators so far come these, so many at most
  record Operators (spare : ℕ) (s : State) (front : List (PostfixOp Expr)) (y : List (PostfixOp Expr) × State) : Type 0 where
    more : List (PostfixOp Expr)
    all : y.0 ≡ front ++ more
    few : length more ≤ spare
    are : ArePostfix total most (suc room) s.names s.rest y.1.rest y.1.names more

  no_more_operators : (spare : ℕ) (s : State) (front : List (PostfixOp Expr)) → Operators spare s front (front, s)
  no_more_operators spare s front = record { more = []; all = sym (append-nil front); few = omega arith; are = no_postfix }

  postfixes_sound : (spare : ℕ) (front : List (PostfixOp Expr)) (s : State) (y : List (PostfixOp Expr) × State)
      → reading.postfixes total inner spare front s ≡ Ok y → Operators spare s front y
  unfolding reading.postfixes
  postfixes_sound zero front s y h =
      elim (choose_is (reading.postfix_at total inner s.rest) (Ok (front, s)) (λ read. Err (TooNested (here total s))) (Ok y) h) [
        | inl p ↦ moved (λ (z : List (PostfixOp Expr) × State). Operators 0 s front z) (no_more_operators 0 s front) p.1
        | inr p ↦ absurd (let e = p.2 in cc)
      ]
  postfixes_sound (suc spare) front s y h =
      elim (choose_is (reading.postfix_at total inner s.rest) (Ok (front, s)) (λ read. read s >>= λ x. reading.postfixes total inner spare (front ++ x.0 ∷ []) x.1) (Ok y) h) [
        | inl p ↦ moved (λ (z : List (PostfixOp Expr) × State). Operators (suc spare) s front z) (no_more_operators (suc spare) s front) p.1
        | inr p ↦
            let (x, there, go) = bind_ok (p.0 s) (λ x. reading.postfixes total inner spare (front ++ x.0 ∷ []) x.1) y p.2 in
            let a = postfixes_sound spare (front ++ x.0 ∷ []) x.1 y go in
            let few : length a.more ≤ spare = a.few in
            record {
              more = x.0 ∷ a.more;
              all = a.all ∙ append_assoc front (x.0 ∷ []) a.more;
              few = omega arith;
              are = operator_sound s.names s.rest p.0 x p.1 there y.1.rest y.1.names a.more a.are;
            }
      ]

  postfix_sound : (s : State) (y : Expr × State) → reading.postfix total most inner s ≡ Ok y → Is Postfix s y
  unfolding reading.postfix
  postfix_sound s y h =
      let (x, there, go) = bind_ok (reading.primary total inner s) (λ x. reading.postfixes total inner most [] x.1 >>= λ y. Ok (postfixed (here total s) x.0 y.0, y.1)) y h in
      let (z, behind_it, made) = bind_ok (reading.postfixes total inner most [] x.1) (λ y. Ok (postfixed (here total s) x.0 y.0, y.1)) y go in
      let a = postfixes_sound most [] x.1 z behind_it in
      let is : IsExpr total most Postfix (suc room) s.names s.rest z.1.rest z.1.names (postfixed (number_of total s.rest) x.0 a.more) =
      grammar.postfix (primary_sound s x there) a.are a.few in
      moved (λ (w : Expr × State). Is Postfix s w)
      (subst (λ os. IsExpr total most Postfix (suc room) s.names s.rest z.1.rest z.1.names (postfixed (number_of total s.rest) x.0 os)) (sym a.all) is) made

  -- ---- prefix operators

  pub prefix_at_is : (ts : List Token) (op : PrefixOp) → reading.prefix_at ts ≡ Some op → (t : Token) × (ts ≡ t ∷ tail ts) × (prefix_of t.kind ≡ Some op)
  prefix_at_is [] op h = absurd cc
  prefix_at_is (t ∷ ts) op h = (t, refl, h)

  prefixed_sound : (op : PrefixOp) (s : State) (y : Expr × State) → reading.prefix_at s.rest ≡ Some op → reading.prefixed total inner op s ≡ Ok y → Is Unary s y
  unfolding reading.prefixed
  prefixed_sound op s y e h =
      let (x, there, made) = bind_ok (inner.expr extent.Unary (behind s)) (λ x. Ok (expr.Prefix (here total s) op x.0, x.1)) y h in
      let (t, stands, is) = prefix_at_is s.rest op e in
      let inside : IsExpr total most Unary room s.names (tail s.rest) x.1.rest x.1.names x.0 = sound.expr extent.Unary (behind s) x.1 x.0 there in
      moved (λ (z : Expr × State). Is Unary s z)
      (subst (λ us. IsExpr total most Unary (suc room) s.names us x.1.rest x.1.names (expr.Prefix (number_of total us) op x.0)) (sym stands) (grammar.prefixed op is inside)) made

  sizeof_type_sound : (s : State) (t : Token) (ts : List Token) (x : TypeName × State) → s.rest ≡ t ∷ ts → IsKeyword keyword.Sizeof t
      → IsTypeInParens total most room s.names ts x.1.rest x.1.names x.0 → Is Unary s (expr.SizeofType (here total s) x.0, x.1)
  sizeof_type_sound s t ts x e is p =
      subst (λ us. IsExpr total most Unary (suc room) s.names us x.1.rest x.1.names (expr.SizeofType (number_of total us) x.0)) (sym e)
      (subst (λ r. IsExpr total most Unary (suc r) s.names (t ∷ ts) x.1.rest x.1.names (expr.SizeofType (number_of total (t ∷ ts)) x.0)) (sym p.room_is)
      (subst (λ us. IsExpr total most Unary (suc (suc p.inner)) s.names (t ∷ us) x.1.rest x.1.names (expr.SizeofType (number_of total (t ∷ us)) x.0)) (sym p.ts_are)
      (grammar.sizeof_type is p.opens p.named p.closes)))

  sizeof_sound : (s : State) (y : Expr × State) → StandsWord keyword.Sizeof s.rest (tail s.rest) → reading.sizeof total inner s ≡ Ok y → Is Unary s y
  unfolding reading.sizeof
  sizeof_sound s y o h =
      elim (cond_is (reading.sees_type_in_parens s.names (tail s.rest)) (inner.type_in_parens (behind s) >>= λ x. Ok (expr.SizeofType (here total s) x.0, x.1))
      (inner.expr extent.Unary (behind s) >>= λ x. Ok (expr.SizeofExpr (here total s) x.0, x.1)) (Ok y) h) [
        | inl p ↦
            let (x, there, made) = bind_ok (inner.type_in_parens (behind s)) (λ x. Ok (expr.SizeofType (here total s) x.0, x.1)) y p.1 in
            moved (λ (z : Expr × State). Is Unary s z)
            (sizeof_type_sound s o.token (tail s.rest) x o.ts_are o.is (sound.type_in_parens (behind s) x.1 x.0 there)) made
        | inr p ↦
            let (x, there, made) = bind_ok (inner.expr extent.Unary (behind s)) (λ x. Ok (expr.SizeofExpr (here total s) x.0, x.1)) y p.1 in
            let inside : IsExpr total most Unary room s.names (tail s.rest) x.1.rest x.1.names x.0 = sound.expr extent.Unary (behind s) x.1 x.0 there in
            moved (λ (z : Expr × State). Is Unary s z)
            (subst (λ us. IsExpr total most Unary (suc room) s.names us x.1.rest x.1.names (expr.SizeofExpr (number_of total us) x.0)) (sym o.ts_are)
            (grammar.sizeof_expr o.is (starts_no_type s.names (tail s.rest) p.0) inside)) made
      ]

  type_in_parens_sound : (s : State) (y : TypeName × State) → reading.type_in_parens total inner s ≡ Ok y
      → IsTypeInParens total most (suc room) s.names s.rest y.1.rest y.1.names y.0
  unfolding reading.type_in_parens
  type_in_parens_sound s y h =
      let (start, opens, a) = bind_ok (expect_mark total mark.OpenParen s)
      (λ start. inner.specs start >>= λ x. inner.unnamed x.1 >>= λ y. expect_mark total mark.CloseParen y.1 >>= λ s'. Ok (roll-TypeName (record { specs = x.0.specs; declarator = y.0 }), s')) y h in
      let (x, specs, b) = bind_ok (inner.specs start)
      (λ x. inner.unnamed x.1 >>= λ y. expect_mark total mark.CloseParen y.1 >>= λ s'. Ok (roll-TypeName (record { specs = x.0.specs; declarator = y.0 }), s')) y a in
      let (z, unnamed, d) = bind_ok (inner.unnamed x.1)
      (λ y. expect_mark total mark.CloseParen y.1 >>= λ s'. Ok (roll-TypeName (record { specs = x.0.specs; declarator = y.0 }), s')) y b in
      let (s', closes, made) = bind_ok (expect_mark total mark.CloseParen z.1) (λ s'. Ok (roll-TypeName (record { specs = x.0.specs; declarator = z.0 }), s')) y d in
      let o = expect_mark_is total mark.OpenParen s start opens in
      let c = expect_mark_is total mark.CloseParen z.1 s' closes in
      let first : AreSpecs total most room s.names start.rest x.1.rest x.1.names x.0.is_typedef x.0.specs =
      subst (λ ns. AreSpecs total most room ns start.rest x.1.rest x.1.names x.0.is_typedef x.0.specs) o.names_are (sound.specs start x.1 x.0 specs) in
      let second : IsAbstract total most room x.1.names x.1.rest (c.stands.token ∷ s'.rest) s'.names z.0 =
      subst (λ ns. IsAbstract total most room x.1.names x.1.rest (c.stands.token ∷ s'.rest) ns z.0) (sym c.names_are)
      (subst (λ us. IsAbstract total most room x.1.names x.1.rest us z.1.names z.0) c.stands.ts_are (sound.unnamed x.1 z.1 z.0 unnamed)) in
      moved (λ (w : TypeName × State). IsTypeInParens total most (suc room) s.names s.rest w.1.rest w.1.names w.0)
      (record {
        inner = room;
        open_token = o.stands.token;
        start = start.rest;
        close_token = c.stands.token;
        room_is = refl;
        ts_are = o.stands.ts_are;
        opens = o.stands.is;
        named = type_named first second;
        closes = c.stands.is;
      }) made

  cast_sound : (s : State) (y : Expr × State) → reading.cast total inner s ≡ Ok y → Is Unary s y
  unfolding reading.cast
  cast_sound s y h =
      let (x, there, go) = bind_ok (reading.type_in_parens total inner s) (λ x. inner.expr extent.Unary x.1 >>= λ y. Ok (expr.Cast (here total s) x.0 y.0, y.1)) y h in
      let (z, right, made) = bind_ok (inner.expr extent.Unary x.1) (λ y. Ok (expr.Cast (here total s) x.0 y.0, y.1)) y go in
      let p = type_in_parens_sound s x there in
      let same : p.inner ≡ room = let e = p.room_is in omega arith in
      let named : IsTypeNamed total most room s.names p.start (p.close_token ∷ x.1.rest) x.1.names x.0 =
      subst (λ r. IsTypeNamed total most r s.names p.start (p.close_token ∷ x.1.rest) x.1.names x.0) same p.named in
      let inside : IsExpr total most Unary room x.1.names x.1.rest z.1.rest z.1.names z.0 = sound.expr extent.Unary x.1 z.1 z.0 right in
      moved (λ (w : Expr × State). Is Unary s w)
      (subst (λ us. IsExpr total most Unary (suc room) s.names us z.1.rest z.1.names (expr.Cast (number_of total us) x.0 z.0)) (sym p.ts_are)
      (grammar.cast p.opens named p.closes inside)) made

  pub unary_sound : (s : State) (y : Expr × State) → reading.unary total most inner s ≡ Ok y → Is Unary s y
  unfolding reading.unary
  unary_sound s y h =
      elim (choose_is (reading.prefix_at s.rest)
      (if sees_keyword keyword.Sizeof s.rest then reading.sizeof total inner s
      else (if reading.sees_type_in_parens s.names s.rest then reading.cast total inner s else reading.postfix total most inner s))
      (λ op. reading.prefixed total inner op s) (Ok y) h) [
        | inr p ↦ prefixed_sound p.0 s y p.1 p.2
        | inl p ↦ elim (cond_is (sees_keyword keyword.Sizeof s.rest) (reading.sizeof total inner s)
            (if reading.sees_type_in_parens s.names s.rest then reading.cast total inner s else reading.postfix total most inner s) (Ok y) p.1) [
              | inl q ↦ sizeof_sound s y (sees_keyword_is keyword.Sizeof s.rest q.0) q.1
              | inr q ↦ elim (cond_is (reading.sees_type_in_parens s.names s.rest) (reading.cast total inner s) (reading.postfix total most inner s) (Ok y) q.1) [
                | inl r ↦ cast_sound s y r.1
                | inr r ↦ operand (postfix_sound s y r.1)
              ]
            ]
      ]

  -- ---- operators between operands

  -- behind the links so far come these, so many at most
  record Links (level spare : ℕ) (s : State) (front : List (Link Expr)) (y : List (Link Expr) × State) : Type 0 where
    more : List (Link Expr)
    all : y.0 ≡ front ++ more
    few : length more ≤ spare
    are : AreLinks total most level (suc room) s.names s.rest y.1.rest y.1.names more

  no_more_links : (level spare : ℕ) (s : State) (front : List (Link Expr)) → Links level spare s front (front, s)
  no_more_links level spare s front = record { more = []; all = sym (append-nil front); few = omega arith; are = no_links }

  links_sound : (level : ℕ) (next : Reader Expr) → ((s : State) (y : Expr × State) → next s ≡ Ok y → Is (Level level) s y)
      → (spare : ℕ) (front : List (Link Expr)) (s : State) (y : List (Link Expr) × State)
      → reading.links total next (suc level) spare front s ≡ Ok y → Links level spare s front y
  unfolding reading.links
  links_sound level next is zero front s y h =
      elim (choose_is (reading.operator_in (suc level) s.rest) (Ok (front, s)) (λ op. Err (TooNested (here total s))) (Ok y) h) [
        | inl p ↦ moved (λ (z : List (Link Expr) × State). Links level 0 s front z) (no_more_links level 0 s front) p.1
        | inr p ↦ absurd (let e = p.2 in cc)
      ]
  links_sound level next is (suc spare) front s y h =
      elim (choose_is (reading.operator_in (suc level) s.rest) (Ok (front, s))
      (λ op. next (behind s) >>= λ x. reading.links total next (suc level) spare (front ++ record { at = here total s; op = op; right = x.0 } ∷ []) x.1) (Ok y) h) [
        | inl p ↦ moved (λ (z : List (Link Expr) × State). Links level (suc spare) s front z) (no_more_links level (suc spare) s front) p.1
        | inr p ↦
            let link : Expr → Link Expr = λ right. record { at = here total s; op = p.0; right = right } in
            let (x, there, go) = bind_ok (next (behind s)) (λ x. reading.links total next (suc level) spare (front ++ record { at = here total s; op = p.0; right = x.0 } ∷ []) x.1) y p.2 in
            let a = links_sound level next is spare (front ++ record { at = here total s; op = p.0; right = x.0 } ∷ []) x.1 y go in
            let few : length a.more ≤ spare = a.few in
            let (t, stands, op) = operator_in_is (suc level) s.rest p.0 p.1 in
            record {
              more = record { at = here total s; op = p.0; right = x.0 } ∷ a.more;
              all = a.all ∙ append_assoc front (record { at = here total s; op = p.0; right = x.0 } ∷ []) a.more;
              few = omega arith;
              are = subst (λ us. AreLinks total most level (suc room) s.names us y.1.rest y.1.names (record { at = number_of total us; op = p.0; right = x.0 } ∷ a.more)) (sym stands)
                  (more_links p.0 op (is (behind s) x there) a.are);
            }
      ]

  pub level_from_sound : (read : Reader Expr) → ((s : State) (y : Expr × State) → read s ≡ Ok y → Is Unary s y)
      → (level : ℕ) (start s : State) (e : Expr) (y : Expr × State) → Is Unary start (e, s)
      → reading.level_from total most read level (here total start) e s ≡ Ok y → Is (Level level) start y
  unfolding reading.level_from
  level_from_sound read is zero start s e y d h = moved (λ (z : Expr × State). Is (Level 0) start z) (lowest d) h
  level_from_sound read is (suc level) start s e y d h =
      let next : Reader Expr = λ t. read t >>= λ y. reading.level_from total most read level (here total t) y.0 y.1 in
      let (x, there, go) = bind_ok (reading.level_from total most read level (here total start) e s)
      (λ x. reading.links total next (suc level) most [] x.1 >>= λ z. Ok (linked (here total start) x.0 z.0, z.1)) y h in
      let (z, behind_it, made) = bind_ok (reading.links total next (suc level) most [] x.1) (λ z. Ok (linked (here total start) x.0 z.0, z.1)) y go in
      let a = links_sound level next
      (λ t w k. let (u, one, more) = bind_ok (read t) (λ y. reading.level_from total most read level (here total t) y.0 y.1) w k in
      level_from_sound read is level t u.1 u.0 w (is t u one) more) most [] x.1 z behind_it in
      let done : IsExpr total most (Level (suc level)) (suc room) start.names start.rest z.1.rest z.1.names (linked (number_of total start.rest) x.0 a.more) =
      chained (level_from_sound read is level start s e x d there) a.are a.few in
      moved (λ (w : Expr × State). Is (Level (suc level)) start w)
      (subst (λ ls. IsExpr total most (Level (suc level)) (suc room) start.names start.rest z.1.rest z.1.names (linked (number_of total start.rest) x.0 ls)) (sym a.all) done) made

  -- ---- conditions, assignments and commas

  conditional_sound : (start : State) (a : Expr × State) (y z : Expr × State) (s' : State) (q : Stands mark.Question a.1.rest (tail a.1.rest)) (c : Expected mark.Colon y.1 s')
      → Is (Level 10) start a → IsExpr total most Comma room a.1.names (tail a.1.rest) y.1.rest y.1.names y.0
      → IsExpr total most Cond room s'.names s'.rest z.1.rest z.1.names z.0
      → Is Cond start (expr.Conditional (here total start) a.0 (here total a.1) y.0 z.0, z.1)
  conditional_sound start a y z s' q c test middle otherwise =
      let test' : IsExpr total most (Level 10) (suc room) start.names start.rest (q.token ∷ tail a.1.rest) a.1.names a.0 =
      subst (λ us. IsExpr total most (Level 10) (suc room) start.names start.rest us a.1.names a.0) q.ts_are test in
      let middle' : IsExpr total most Comma room a.1.names (tail a.1.rest) (c.stands.token ∷ s'.rest) s'.names y.0 =
      subst (λ ns. IsExpr total most Comma room a.1.names (tail a.1.rest) (c.stands.token ∷ s'.rest) ns y.0) (sym c.names_are)
      (subst (λ us. IsExpr total most Comma room a.1.names (tail a.1.rest) us y.1.names y.0) c.stands.ts_are middle) in
      subst (λ us. IsExpr total most Cond (suc room) start.names start.rest z.1.rest z.1.names (expr.Conditional (number_of total start.rest) a.0 (number_of total us) y.0 z.0)) (sym q.ts_are)
      (conditional test' q.is middle' c.stands.is otherwise)

  cond_from_sound : (start s : State) (e : Expr) (y : Expr × State) → Is Unary start (e, s)
      → reading.cond_from total most inner (here total start) e s ≡ Ok y → Is Cond start y
  unfolding reading.cond_from
  cond_from_sound start s e y d h =
      let (a, there, go) = bind_ok (reading.level_from total most (reading.unary total most inner) 10 (here total start) e s)
      (λ x. if sees_mark mark.Question x.1.rest
      then (inner.expr extent.Comma (behind x.1) >>= λ y. expect_mark total mark.Colon y.1 >>= λ s'. inner.expr extent.Cond s'
      >>= λ z. Ok (expr.Conditional (here total start) x.0 (here total x.1) y.0 z.0, z.1)) else Ok x) y h in
      let test = level_from_sound (reading.unary total most inner) unary_sound 10 start s e a d there in
      elim (cond_is (sees_mark mark.Question a.1.rest) (inner.expr extent.Comma (behind a.1) >>= λ y. expect_mark total mark.Colon y.1 >>= λ s'. inner.expr extent.Cond s'
      >>= λ z. Ok (expr.Conditional (here total start) a.0 (here total a.1) y.0 z.0, z.1)) (Ok a) (Ok y) go) [
        | inl p ↦
            let (b, middle, more) = bind_ok (inner.expr extent.Comma (behind a.1)) (λ y. expect_mark total mark.Colon y.1 >>= λ s'. inner.expr extent.Cond s'
            >>= λ z. Ok (expr.Conditional (here total start) a.0 (here total a.1) y.0 z.0, z.1)) y p.1 in
            let (s', colon, last) = bind_ok (expect_mark total mark.Colon b.1) (λ s'. inner.expr extent.Cond s' >>= λ z. Ok (expr.Conditional (here total start) a.0 (here total a.1) b.0 z.0, z.1)) y more in
            let (z, otherwise, made) = bind_ok (inner.expr extent.Cond s') (λ z. Ok (expr.Conditional (here total start) a.0 (here total a.1) b.0 z.0, z.1)) y last in
            moved (λ (w : Expr × State). Is Cond start w)
            (conditional_sound start a b z s' (sees_mark_is mark.Question a.1.rest p.0) (expect_mark_is total mark.Colon b.1 s' colon) test
            (sound.expr extent.Comma (behind a.1) b.1 b.0 middle) (sound.expr extent.Cond s' z.1 z.0 otherwise)) made
        | inr p ↦ moved (λ (w : Expr × State). Is Cond start w) (binary test) p.1
      ]

  cond_sound : (s : State) (y : Expr × State) → reading.cond total most inner s ≡ Ok y → Is Cond s y
  unfolding reading.cond
  cond_sound s y h =
      let (x, there, go) = bind_ok (reading.unary total most inner s) (λ x. reading.cond_from total most inner (here total s) x.0 x.1) y h in
      cond_from_sound s x.1 x.0 y (unary_sound s x there) go

  pub assign_at_is : (ts : List Token) (op : AssignOp) → reading.assign_at ts ≡ Some op → (t : Token) × (ts ≡ t ∷ tail ts) × (assign_of t.kind ≡ Some op)
  assign_at_is [] op h = absurd cc
  assign_at_is (t ∷ ts) op h = (t, refl, h)

  pub assign_sound : (s : State) (y : Expr × State) → reading.assign total most inner s ≡ Ok y → Is Assign s y
  unfolding reading.assign
  assign_sound s y h =
      let (x, there, go) = bind_ok (reading.unary total most inner s)
      (λ x. choose (reading.assign_at x.1.rest) (reading.cond_from total most inner (here total s) x.0 x.1)
      (λ op. inner.expr extent.Assign (behind x.1) >>= λ y. Ok (expr.Assign (here total s) x.0 (here total x.1) op y.0, y.1))) y h in
      let place = unary_sound s x there in
      elim (choose_is (reading.assign_at x.1.rest) (reading.cond_from total most inner (here total s) x.0 x.1)
      (λ op. inner.expr extent.Assign (behind x.1) >>= λ y. Ok (expr.Assign (here total s) x.0 (here total x.1) op y.0, y.1)) (Ok y) go) [
        | inl p ↦ grammar.value (cond_from_sound s x.1 x.0 y place p.1)
        | inr p ↦
            let (z, right, made) = bind_ok (inner.expr extent.Assign (behind x.1)) (λ y. Ok (expr.Assign (here total s) x.0 (here total x.1) p.0 y.0, y.1)) y p.2 in
            let (t, stands, op) = assign_at_is x.1.rest p.0 p.1 in
            let place' : IsExpr total most Unary (suc room) s.names s.rest (t ∷ tail x.1.rest) x.1.names x.0 =
            subst (λ us. IsExpr total most Unary (suc room) s.names s.rest us x.1.names x.0) stands place in
            let right' : IsExpr total most Assign room x.1.names (tail x.1.rest) z.1.rest z.1.names z.0 = sound.expr extent.Assign (behind x.1) z.1 z.0 right in
            moved (λ (w : Expr × State). Is Assign s w)
            (subst (λ us. IsExpr total most Assign (suc room) s.names s.rest z.1.rest z.1.names (expr.Assign (number_of total s.rest) x.0 (number_of total us) p.0 z.0)) (sym stands)
            (assigned p.0 place' op right')) made
      ]

  -- behind the expressions so far come these, so many at most
  record Others (spare : ℕ) (s : State) (front : List Expr) (y : List Expr × State) : Type 0 where
    more : List Expr
    all : y.0 ≡ front ++ more
    few : length more ≤ spare
    are : AreOthers total most (suc room) s.names s.rest y.1.rest y.1.names more

  no_more_others : (spare : ℕ) (s : State) (front : List Expr) → Others spare s front (front, s)
  no_more_others spare s front = record { more = []; all = sym (append-nil front); few = omega arith; are = no_others }

  others_sound : (spare : ℕ) (front : List Expr) (s : State) (y : List Expr × State)
      → reading.others total (reading.assign total most inner) spare front s ≡ Ok y → Others spare s front y
  unfolding reading.others
  others_sound zero front s y h =
      elim (cond_is (sees_mark mark.Comma s.rest) (Err (TooNested (here total s))) (Ok (front, s)) (Ok y) h) [
        | inl p ↦ absurd (let e = p.1 in cc)
        | inr p ↦ moved (λ (z : List Expr × State). Others 0 s front z) (no_more_others 0 s front) p.1
      ]
  others_sound (suc spare) front s y h =
      elim (cond_is (sees_mark mark.Comma s.rest)
      (reading.assign total most inner (behind s) >>= λ x. reading.others total (reading.assign total most inner) spare (front ++ x.0 ∷ []) x.1) (Ok (front, s)) (Ok y) h) [
        | inl p ↦
            let (x, there, go) = bind_ok (reading.assign total most inner (behind s)) (λ x. reading.others total (reading.assign total most inner) spare (front ++ x.0 ∷ []) x.1) y p.1 in
            let a = others_sound spare (front ++ x.0 ∷ []) x.1 y go in
            let c = sees_mark_is mark.Comma s.rest p.0 in
            let few : length a.more ≤ spare = a.few in
            record {
              more = x.0 ∷ a.more;
              all = a.all ∙ append_assoc front (x.0 ∷ []) a.more;
              few = omega arith;
              are = subst (λ us. AreOthers total most (suc room) s.names us y.1.rest y.1.names (x.0 ∷ a.more)) (sym c.ts_are) (more_others c.is (assign_sound (behind s) x there) a.are);
            }
        | inr p ↦ moved (λ (z : List Expr × State). Others (suc spare) s front z) (no_more_others (suc spare) s front) p.1
      ]

  comma_sound : (s : State) (y : Expr × State) → reading.comma total most inner s ≡ Ok y → Is Comma s y
  unfolding reading.comma
  comma_sound s y h =
      let (x, there, go) = bind_ok (reading.assign total most inner s) (λ x. reading.others total (reading.assign total most inner) most [] x.1 >>= λ y. Ok (listed (here total s) x.0 y.0, y.1)) y h in
      let (z, behind_it, made) = bind_ok (reading.others total (reading.assign total most inner) most [] x.1) (λ y. Ok (listed (here total s) x.0 y.0, y.1)) y go in
      let a = others_sound most [] x.1 z behind_it in
      let is : IsExpr total most Comma (suc room) s.names s.rest z.1.rest z.1.names (listed (number_of total s.rest) x.0 a.more) = comma (assign_sound s x there) a.are a.few in
      moved (λ (w : Expr × State). Is Comma s w)
      (subst (λ es. IsExpr total most Comma (suc room) s.names s.rest z.1.rest z.1.names (listed (number_of total s.rest) x.0 es)) (sym a.all) is) made

  read_sound : (x : Extent) (s : State) (y : Expr × State) → reading.expr_of total most inner x s ≡ Ok y → Is (part_of x) s y
  unfolding reading.expr_of
  read_sound extent.Unary s y h = unary_sound s y h
  read_sound extent.Cond s y h = cond_sound s y h
  read_sound extent.Assign s y h = assign_sound s y h
  read_sound extent.Comma s y h = comma_sound s y h

pub expr_sound : (total most room : ℕ) (inner : Inner) → Sound total most room inner → (x : Extent) (s s' : State) (e : Expr)
    → reading.expr_of total most inner x s ≡ Ok (e, s') → IsExpr total most (part_of x) (suc room) s.names s.rest s'.rest s'.names e
expr_sound total most room inner sound x s s' e h = read_sound total most room inner sound x s (e, s') h

pub type_sound : (total most room : ℕ) (inner : Inner) → Sound total most room inner → (s s' : State) (t : TypeName)
    → reading.type_in_parens total inner s ≡ Ok (t, s') → IsTypeInParens total most (suc room) s.names s.rest s'.rest s'.names t
type_sound total most room inner sound s s' t h = type_in_parens_sound total most room inner sound s (t, s') h
