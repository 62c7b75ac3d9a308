-- What is read as a statement, or as what stands in a block, is such a part.
use Rattle.std.proofs.Common.{◌≡◌, ℕ, zero, suc, ◌++◌, ◌-◌, Bool, true, false, cond, nat_eq, Option, Some, None, Ok, Err, List, [], ◌∷◌, length, refl, sym, ap, ◌∙◌, subst, inl, inr, append_assoc, append-nil, arith}
use Rattle.c_lex.specs.declared.token.Token.{Token}
use Rattle.c_lex.specs.declared.token.TokenKind.{TokenKind}
use Rattle.c_lex.specs.declared.token.TokenKind.TheVariants as kind
use Rattle.c_lex.specs.declared.token.Keyword.{Keyword}
use Rattle.c_lex.specs.declared.token.Keyword.TheVariants as keyword
use Rattle.c_lex.specs.declared.token.Mark.{Mark}
use Rattle.c_lex.specs.declared.token.Mark.TheVariants as mark
use Rattle.c_ast.specs.declared.expression.Expr.{Expr}
use Rattle.c_ast.specs.declared.statement.Stmt.{Stmt}
use Rattle.c_ast.specs.declared.statement.Stmt.TheVariants as stmt
use Rattle.c_ast.specs.declared.statement.ForStart.{ForStart}
use Rattle.c_ast.specs.declared.statement.ForStart.TheVariants as start
use Rattle.c_ast.specs.declared.statement.BlockItem.{BlockItem}
use Rattle.c_ast.specs.declared.statement.BlockItem.TheVariants as an_item
use Rattle.c_grammar.specs.declared.phrases.Extent.TheVariants as extent
use Rattle.c_grammar.specs.declared.phrases.Head.{Head}
use Rattle.c_grammar.specs.Names.{Names}
use Rattle.c_grammar.specs.Words.{IsMark, IsKeyword, number_of}
use Rattle.c_grammar.specs.Grammar.{Cond, Comma, IsExpr, IsOptional, IsForStart, IsTest, IsStmt, AreItems}
use Rattle.c_grammar.specs.Grammar as grammar
use Rattle.c_grammar.specs.Reading.{State, Reader, Fault, Unexpected, ◌>>=◌, sees_mark, sees_keyword, tail, behind, here, expect_mark, expect_keyword}
use Rattle.c_grammar.specs.ReadingExpr.{sees_type}
use Rattle.c_grammar.specs.ReadingDecl.{too_deep}
use Rattle.c_grammar.specs.Levels.{readers}
use Rattle.c_grammar.specs.ReadingStmt.{left, keyword_of, keyword_at}
use Rattle.c_grammar.specs.ReadingStmt as reading
use Rattle.c_grammar.proofs.Laws.{Sound, at_state}
use Rattle.c_grammar.proofs.Extends.{Extends, joined, closed}
use Rattle.c_grammar_laws.proofs.ExprFound.{some_same, moved, bind_ok, cond_is, sees_mark_is, StandsWord, sees_keyword_is, expect_mark_is}
use Rattle.c_grammar_laws.proofs.StmtExtends.{alone, left_is, optional_extends, start_extends, test_extends, stmt_extends, items_extend}
use Rattle.c_grammar_laws.proofs.StmtDeclSound.{decl_sound}

pub has_room : (room : ℕ) → nat_eq room 0 ≡ false → (r : ℕ) × (room ≡ suc r)
has_room zero h = absurd cc
has_room (suc r) h = (r, refl)

-- a keyword that had to come next
pub record ExpectedWord (w : Keyword) (s s' : State) : Type 0 where
  pub stands : StandsWord w s.rest s'.rest
  pub names_are : s'.names ≡ s.names

pub expect_keyword_is : (total : ℕ) (w : Keyword) (s s' : State) → expect_keyword total w s ≡ Ok s' → ExpectedWord w s s'
unfolding expect_keyword
expect_keyword_is total w s s' h =
    elim (cond_is (sees_keyword w s.rest) (Ok (behind s)) (Err (Fault.Unexpected (here total s))) (Ok s') h) [
      | inl p ↦ moved (λ (z : State). ExpectedWord w s z) (record { stands = sees_keyword_is w s.rest p.0; names_are = refl }) p.1
      | inr p ↦ absurd (let e = p.1 in cc)
    ]

module _ (total most : ℕ) (sound : (room : ℕ) → Sound total most room (readers total most room)) where
  pub record StmtFound (room : ℕ) (names : Names) (ts : List Token) (y : Stmt × State) : Type 0 where
    pub ends : Bool
    pub is : IsStmt total most ends room names ts y.1.rest y.1.names y.0
    pub no_else : ends ≡ true → sees_keyword keyword.Else y.1.rest ≡ false

  abbrev pub SoundStmt : ℕ → Reader Stmt → Type 0
  SoundStmt room read = (s : State) (y : Stmt × State) → read s ≡ Ok y → StmtFound room s.names s.rest y

  -- a statement before an `else` doesn't end with an `if` that has none
  pub before_else : (room : ℕ) (names : Names) (ts : List Token) (y : Stmt × State) → StmtFound room names ts y → sees_keyword keyword.Else y.1.rest ≡ true
      → IsStmt total most false room names ts y.1.rest y.1.names y.0
  before_else room names ts y f h = go f.ends f.is f.no_else where
    go : (ends : Bool) → IsStmt total most ends room names ts y.1.rest y.1.names y.0 → (ends ≡ true → sees_keyword keyword.Else y.1.rest ≡ false)
        → IsStmt total most false room names ts y.1.rest y.1.names y.0
    go false is no_else = is
    go true is no_else = absurd (let e = no_else refl in cc)

  -- ---- parts of statements

  pub record Optional (room : ℕ) (m : Mark) (s : State) (y : Option Expr × State) : Type 0 where
    pub token : Token
    pub ends : IsMark m token
    pub is : IsOptional total most room s.names s.rest (token ∷ y.1.rest) y.1.names y.0

  pub optional_sound : (room : ℕ) (m : Mark) (s : State) (y : Option Expr × State) → reading.optional total most room m s ≡ Ok y → Optional room m s y
  unfolding reading.optional
  optional_sound room m s y h =
      elim (cond_is (sees_mark m s.rest) (Ok (None, behind s))
      ((readers total most room).expr extent.Comma s >>= λ x. expect_mark total m x.1 >>= λ s'. Ok (Some x.0, s')) (Ok y) h) [
        | inl p ↦
            let o = sees_mark_is m s.rest p.0 in
            let f : Optional room m s (None, behind s) = record {
              token = o.token;
              ends = o.is;
              is = subst (λ us. IsOptional total most room s.names s.rest us s.names None) o.ts_are grammar.none;
            } in
            moved (λ (z : Option Expr × State). Optional room m s z) f p.1
        | inr p ↦
            let (x, there, go) = bind_ok ((readers total most room).expr extent.Comma s) (λ x. expect_mark total m x.1 >>= λ s'. Ok (Some x.0, s')) y p.1 in
            let (s', stops, made) = bind_ok (expect_mark total m x.1) (λ s'. Ok (Some x.0, s')) y go in
            let c = expect_mark_is total m x.1 s' stops in
            let e : IsExpr total most Comma room s.names s.rest x.1.rest x.1.names x.0 = (sound room).expr extent.Comma s x.1 x.0 there in
            let f : Optional room m s (Some x.0, s') = record {
              token = c.stands.token;
              ends = c.stands.is;
              is = grammar.some (subst (λ ns. IsExpr total most Comma room s.names s.rest (c.stands.token ∷ s'.rest) ns x.0) (sym c.names_are)
                  (subst (λ us. IsExpr total most Comma room s.names s.rest us x.1.names x.0) c.stands.ts_are e));
            } in
            moved (λ (z : Option Expr × State). Optional room m s z) f made
      ]

  pub test_sound : (room : ℕ) (s : State) (y : Expr × State) → reading.bracketed total most room s ≡ Ok y
      → IsTest total most (suc room) s.names s.rest y.1.rest y.1.names y.0
  unfolding reading.bracketed
  test_sound room s y h =
      let (u, opens, a) = bind_ok (expect_mark total mark.OpenParen s) (λ start. (readers total most room).expr extent.Comma start >>= λ x. expect_mark total mark.CloseParen x.1 >>= λ s'. Ok (x.0, s')) y h in
      let (x, there, b) = bind_ok ((readers total most room).expr extent.Comma u) (λ x. expect_mark total mark.CloseParen x.1 >>= λ s'. Ok (x.0, s')) y a in
      let (s', closes, made) = bind_ok (expect_mark total mark.CloseParen x.1) (λ s'. Ok (x.0, s')) y b in
      let o = expect_mark_is total mark.OpenParen s u opens in
      let c = expect_mark_is total mark.CloseParen x.1 s' closes in
      let e : IsExpr total most Comma room u.names u.rest x.1.rest x.1.names x.0 = (sound room).expr extent.Comma u x.1 x.0 there in
      let e' : IsExpr total most Comma room s.names u.rest (c.stands.token ∷ s'.rest) s'.names x.0 =
      subst (λ ns. IsExpr total most Comma room ns u.rest (c.stands.token ∷ s'.rest) s'.names x.0) o.names_are
      (subst (λ ns. IsExpr total most Comma room u.names u.rest (c.stands.token ∷ s'.rest) ns x.0) (sym c.names_are)
      (subst (λ us. IsExpr total most Comma room u.names u.rest us x.1.names x.0) c.stands.ts_are e)) in
      moved (λ (z : Expr × State). IsTest total most (suc room) s.names s.rest z.1.rest z.1.names z.0)
      (subst (λ us. IsTest total most (suc room) s.names us s'.rest s'.names x.0) (sym o.stands.ts_are) (grammar.test o.stands.is e' c.stands.is)) made

  pub for_start_sound : (room : ℕ) (s : State) (y : ForStart × State) → reading.for_start total most (suc room) s ≡ Ok y
      → IsForStart total most (suc room) s.names s.rest y.1.rest y.1.names y.0
  unfolding reading.for_start
  for_start_sound room s y h =
      elim (cond_is (sees_type s.names s.rest) (reading.decl total most (suc room) s >>= λ x. Ok (start.Declaration x.0, x.1))
      (reading.optional total most (suc room) mark.Semicolon s >>= λ x. Ok (start.Expression x.0, x.1)) (Ok y) h) [
        | inl p ↦
            let (x, there, made) = bind_ok (reading.decl total most (suc room) s) (λ x. Ok (start.Declaration x.0, x.1)) y p.1 in
            moved (λ (z : ForStart × State). IsForStart total most (suc room) s.names s.rest z.1.rest z.1.names z.0)
            (grammar.declaration (decl_sound total most sound (suc room) s x there)) made
        | inr p ↦
            let (x, there, made) = bind_ok (reading.optional total most (suc room) mark.Semicolon s) (λ x. Ok (start.Expression x.0, x.1)) y p.1 in
            let f = optional_sound (suc room) mark.Semicolon s x there in
            moved (λ (z : ForStart × State). IsForStart total most (suc room) s.names s.rest z.1.rest z.1.names z.0) (grammar.expression f.is f.ends) made
      ]

  pub record HeadFound (room : ℕ) (s : State) (y : Head × State) : Type 0 where
    pub n : Names
    pub m : Names
    pub mid : List Token
    pub others : List Token
    pub semicolon : Token
    pub close : Token
    pub ends : IsMark mark.Semicolon semicolon
    pub closes : IsMark mark.CloseParen close
    pub start_is : IsForStart total most room s.names s.rest mid n y.0.start
    pub test_is : IsOptional total most room n mid (semicolon ∷ others) m y.0.test
    pub step_is : IsOptional total most room m others (close ∷ y.1.rest) y.1.names y.0.step

  pub for_head_sound : (room : ℕ) (s : State) (y : Head × State) → reading.for_head total most room s ≡ Ok y → HeadFound room s y
  unfolding reading.for_head
  for_head_sound room s y h =
      elim (cond_is (nat_eq room 0) (Err (too_deep total s))
      (reading.for_start total most room s
      >>= λ x. reading.optional total most room mark.Semicolon x.1
      >>= λ y. reading.optional total most room mark.CloseParen y.1
      >>= λ z. Ok (record { start = x.0; test = y.0; step = z.0 }, z.1)) (Ok y) h) [
        | inl p ↦ absurd (let e = p.1 in cc)
        | inr p ↦
            let (r, rooms) = has_room room p.0 in
            let (a, starts, go) = bind_ok (reading.for_start total most room s) (λ x. reading.optional total most room mark.Semicolon x.1
            >>= λ y. reading.optional total most room mark.CloseParen y.1 >>= λ z. Ok (record { start = x.0; test = y.0; step = z.0 }, z.1)) y p.1 in
            let (b, tests, on) = bind_ok (reading.optional total most room mark.Semicolon a.1)
            (λ y. reading.optional total most room mark.CloseParen y.1 >>= λ z. Ok (record { start = a.0; test = y.0; step = z.0 }, z.1)) y go in
            let (d, steps, made) = bind_ok (reading.optional total most room mark.CloseParen b.1) (λ z. Ok (record { start = a.0; test = b.0; step = z.0 }, z.1)) y on in
            let e = optional_sound room mark.Semicolon a.1 b tests in
            let f = optional_sound room mark.CloseParen b.1 d steps in
            let i : IsForStart total most (suc r) s.names s.rest a.1.rest a.1.names a.0 = for_start_sound r s a (subst (λ n. reading.for_start total most n s ≡ Ok a) rooms starts) in
            let g : HeadFound room s (record { start = a.0; test = b.0; step = d.0 }, d.1) = record {
              n = a.1.names;
              m = b.1.names;
              mid = a.1.rest;
              others = b.1.rest;
              semicolon = e.token;
              close = f.token;
              ends = e.ends;
              closes = f.ends;
              start_is = subst (λ n. IsForStart total most n s.names s.rest a.1.rest a.1.names a.0) (sym rooms) i;
              test_is = e.is;
              step_is = f.is;
            } in
            moved (λ (z : Head × State). HeadFound room s z) g made
      ]

  -- ---- statements, by the room inside of brackets

  -- a statement that is a scope, behind which only the names before are left
  scoped : (room : ℕ) (names : Names) (ts mid : List Token) (a : Stmt) (s : State) (ends : Bool) → Extends names s.names mid s.rest
      → IsStmt total most ends room names ts s.rest names a → (ends ≡ true → sees_keyword keyword.Else s.rest ≡ false)
      → StmtFound room names ts (a, left names s)
  scoped room names ts mid a s ends e is no_else =
      subst (λ (u : State). StmtFound room names ts (a, u)) (sym (left_is e)) (record { ends = ends; is = is; no_else = no_else })

  module _ (room : ℕ) (inner : Reader Stmt) (inner_sound : SoundStmt (suc room) inner) where
    while_sound : (t : Token) (s : State) (y : Stmt × State) → IsKeyword keyword.While t
        → reading.while_with total most inner room (number_of total (t ∷ s.rest)) s ≡ Ok y → StmtFound (suc (suc room)) s.names (t ∷ s.rest) y
    unfolding reading.while_with
    while_sound t s y is h =
        let token = number_of total (t ∷ s.rest) in
        let (x, tests, go) = bind_ok (reading.bracketed total most room s) (λ x. inner x.1 >>= λ y. Ok (stmt.While token x.0 y.0, left s.names y.1)) y h in
        let (b, there, made) = bind_ok (inner x.1) (λ y. Ok (stmt.While token x.0 y.0, left s.names y.1)) y go in
        let f = test_sound room s x tests in
        let i : StmtFound (suc room) x.1.names x.1.rest b = inner_sound x.1 b there in
        moved (λ (z : Stmt × State). StmtFound (suc (suc room)) s.names (t ∷ s.rest) z)
        (scoped (suc (suc room)) s.names (t ∷ s.rest) s.rest (stmt.While token x.0 b.0) b.1 i.ends (joined (test_extends f) (stmt_extends i.is))
        (grammar.while_do is f i.is) i.no_else) made

    switch_sound : (t : Token) (s : State) (y : Stmt × State) → IsKeyword keyword.Switch t
        → reading.switch_with total most inner room (number_of total (t ∷ s.rest)) s ≡ Ok y → StmtFound (suc (suc room)) s.names (t ∷ s.rest) y
    unfolding reading.switch_with
    switch_sound t s y is h =
        let token = number_of total (t ∷ s.rest) in
        let (x, tests, go) = bind_ok (reading.bracketed total most room s) (λ x. inner x.1 >>= λ y. Ok (stmt.Switch token x.0 y.0, left s.names y.1)) y h in
        let (b, there, made) = bind_ok (inner x.1) (λ y. Ok (stmt.Switch token x.0 y.0, left s.names y.1)) y go in
        let f = test_sound room s x tests in
        let i : StmtFound (suc room) x.1.names x.1.rest b = inner_sound x.1 b there in
        moved (λ (z : Stmt × State). StmtFound (suc (suc room)) s.names (t ∷ s.rest) z)
        (scoped (suc (suc room)) s.names (t ∷ s.rest) s.rest (stmt.Switch token x.0 b.0) b.1 i.ends (joined (test_extends f) (stmt_extends i.is))
        (grammar.switch is f i.is) i.no_else) made

    if_sound : (t : Token) (s : State) (y : Stmt × State) → IsKeyword keyword.If t
        → reading.if_with total most inner room (number_of total (t ∷ s.rest)) s ≡ Ok y → StmtFound (suc (suc room)) s.names (t ∷ s.rest) y
    unfolding reading.if_with
    if_sound t s y is h =
        let token = number_of total (t ∷ s.rest) in
        let P : Stmt × State → Type 0 = λ z. StmtFound (suc (suc room)) s.names (t ∷ s.rest) z in
        let (x, tests, go) = bind_ok (reading.bracketed total most room s) (λ x. inner x.1 >>= λ y. cond (sees_keyword keyword.Else y.1.rest)
        (inner (behind (left x.1.names y.1)) >>= λ z. Ok (stmt.If token x.0 y.0 (Some z.0), left s.names z.1)) (Ok (stmt.If token x.0 y.0 None, left s.names y.1))) y h in
        let (b, there, on) = bind_ok (inner x.1) (λ y. cond (sees_keyword keyword.Else y.1.rest)
        (inner (behind (left x.1.names y.1)) >>= λ z. Ok (stmt.If token x.0 y.0 (Some z.0), left s.names z.1)) (Ok (stmt.If token x.0 y.0 None, left s.names y.1))) y go in
        let f = test_sound room s x tests in
        let i : StmtFound (suc room) x.1.names x.1.rest b = inner_sound x.1 b there in
        elim (cond_is (sees_keyword keyword.Else b.1.rest)
        (inner (behind (left x.1.names b.1)) >>= λ z. Ok (stmt.If token x.0 b.0 (Some z.0), left s.names z.1)) (Ok (stmt.If token x.0 b.0 None, left s.names b.1)) (Ok y) on) [
          | inl p ↦
              let (z, then, made) = bind_ok (inner (behind (left x.1.names b.1))) (λ z. Ok (stmt.If token x.0 b.0 (Some z.0), left s.names z.1)) y p.1 in
              let e = sees_keyword_is keyword.Else b.1.rest p.0 in
              let first = before_else (suc room) x.1.names x.1.rest b i p.0 in
              let first' : IsStmt total most false (suc room) x.1.names x.1.rest (e.token ∷ tail b.1.rest) b.1.names b.0 =
              subst (λ us. IsStmt total most false (suc room) x.1.names x.1.rest us b.1.names b.0) e.ts_are first in
              let again : inner (at_state x.1.names (tail b.1.rest)) ≡ Ok z =
              subst (λ (u : State). inner (behind u) ≡ Ok z) (left_is (stmt_extends first)) then in
              let o : StmtFound (suc room) x.1.names (tail b.1.rest) z = inner_sound (at_state x.1.names (tail b.1.rest)) z again in
              moved P (scoped (suc (suc room)) s.names (t ∷ s.rest) s.rest (stmt.If token x.0 b.0 (Some z.0)) z.1 o.ends
              (joined (test_extends f) (joined (closed (alone (stmt_extends first'))) (stmt_extends o.is)))
              (grammar.if_else is f first' e.is o.is) o.no_else) made
          | inr p ↦
              moved P (scoped (suc (suc room)) s.names (t ∷ s.rest) s.rest (stmt.If token x.0 b.0 None) b.1 true (joined (test_extends f) (stmt_extends i.is))
              (grammar.if_then is f i.is) (λ _. p.0)) p.1
        ]

    do_sound : (t : Token) (s : State) (y : Stmt × State) → IsKeyword keyword.Do t
        → reading.do_with total most inner room (number_of total (t ∷ s.rest)) s ≡ Ok y → StmtFound (suc (suc room)) s.names (t ∷ s.rest) y
    unfolding reading.do_with
    do_sound t s y is h =
        let token = number_of total (t ∷ s.rest) in
        let (b, there, go) = bind_ok (inner s) (λ x. expect_keyword total keyword.While (left s.names x.1) >>= λ s'. reading.bracketed total most room s'
        >>= λ y. expect_mark total mark.Semicolon y.1 >>= λ s''. Ok (stmt.Do token x.0 y.0, left s.names s'')) y h in
        let (u, words, on) = bind_ok (expect_keyword total keyword.While (left s.names b.1)) (λ s'. reading.bracketed total most room s'
        >>= λ y. expect_mark total mark.Semicolon y.1 >>= λ s''. Ok (stmt.Do token b.0 y.0, left s.names s'')) y go in
        let (x, tests, more) = bind_ok (reading.bracketed total most room u) (λ y. expect_mark total mark.Semicolon y.1 >>= λ s''. Ok (stmt.Do token b.0 y.0, left s.names s'')) y on in
        let (s', stops, made) = bind_ok (expect_mark total mark.Semicolon x.1) (λ s''. Ok (stmt.Do token b.0 x.0, left s.names s'')) y more in
        let i : StmtFound (suc room) s.names s.rest b = inner_sound s b there in
        let same : left s.names b.1 ≡ at_state s.names b.1.rest = left_is (stmt_extends i.is) in
        let w : ExpectedWord keyword.While (at_state s.names b.1.rest) u =
        expect_keyword_is total keyword.While (at_state s.names b.1.rest) u (subst (λ (v : State). expect_keyword total keyword.While v ≡ Ok u) same words) in
        let c = expect_mark_is total mark.Semicolon x.1 s' stops in
        let body : IsStmt total most i.ends (suc room) s.names s.rest (w.stands.token ∷ u.rest) b.1.names b.0 =
        subst (λ us. IsStmt total most i.ends (suc room) s.names s.rest us b.1.names b.0) w.stands.ts_are i.is in
        let f : IsTest total most (suc room) u.names u.rest x.1.rest x.1.names x.0 = test_sound room u x tests in
        let f' : IsTest total most (suc room) s.names u.rest (c.stands.token ∷ s'.rest) s'.names x.0 =
        subst (λ ns. IsTest total most (suc room) ns u.rest (c.stands.token ∷ s'.rest) s'.names x.0) w.names_are
        (subst (λ ns. IsTest total most (suc room) u.names u.rest (c.stands.token ∷ s'.rest) ns x.0) (sym c.names_are)
        (subst (λ us. IsTest total most (suc room) u.names u.rest us x.1.names x.0) c.stands.ts_are f)) in
        moved (λ (z : Stmt × State). StmtFound (suc (suc room)) s.names (t ∷ s.rest) z)
        (scoped (suc (suc room)) s.names (t ∷ s.rest) s.rest (stmt.Do token b.0 x.0) s' false
        (joined (alone (closed (stmt_extends body))) (closed (test_extends f')))
        (grammar.do_while is body w.stands.is f' c.stands.is) (λ n. absurd cc)) made

    for_sound : (t : Token) (s : State) (y : Stmt × State) → IsKeyword keyword.For t
        → reading.for_with total most inner room (number_of total (t ∷ s.rest)) s ≡ Ok y → StmtFound (suc (suc room)) s.names (t ∷ s.rest) y
    unfolding reading.for_with
    for_sound t s y is h =
        let token = number_of total (t ∷ s.rest) in
        let (u, opens, go) = bind_ok (expect_mark total mark.OpenParen s) (λ s'. reading.for_head total most room s'
        >>= λ x. inner x.1 >>= λ y. Ok (stmt.For token x.0.start x.0.test x.0.step y.0, left s.names y.1)) y h in
        let (x, heads, on) = bind_ok (reading.for_head total most room u) (λ x. inner x.1 >>= λ y. Ok (stmt.For token x.0.start x.0.test x.0.step y.0, left s.names y.1)) y go in
        let (b, there, made) = bind_ok (inner x.1) (λ y. Ok (stmt.For token x.0.start x.0.test x.0.step y.0, left s.names y.1)) y on in
        let o = expect_mark_is total mark.OpenParen s u opens in
        let f = for_head_sound room u x heads in
        let i : StmtFound (suc room) x.1.names x.1.rest b = inner_sound x.1 b there in
        let starts : IsForStart total most room s.names u.rest f.mid f.n x.0.start =
        subst (λ ns. IsForStart total most room ns u.rest f.mid f.n x.0.start) o.names_are f.start_is in
        let is' : IsStmt total most i.ends (suc (suc room)) s.names (t ∷ o.stands.token ∷ u.rest) b.1.rest s.names
        (stmt.For (number_of total (t ∷ o.stands.token ∷ u.rest)) x.0.start x.0.test x.0.step b.0) =
        grammar.for_do is o.stands.is starts f.test_is f.ends f.step_is f.closes i.is in
        moved (λ (z : Stmt × State). StmtFound (suc (suc room)) s.names (t ∷ s.rest) z)
        (scoped (suc (suc room)) s.names (t ∷ s.rest) u.rest (stmt.For token x.0.start x.0.test x.0.step b.0) b.1 i.ends
        (joined (start_extends starts) (joined (closed (optional_extends f.test_is)) (joined (closed (optional_extends f.step_is)) (stmt_extends i.is))))
        (subst (λ us. IsStmt total most i.ends (suc (suc room)) s.names (t ∷ us) b.1.rest s.names (stmt.For (number_of total (t ∷ us)) x.0.start x.0.test x.0.step b.0))
        (sym o.stands.ts_are) is') i.no_else) made

    case_sound : (t : Token) (s : State) (y : Stmt × State) → IsKeyword keyword.Case t
        → reading.case_with total most inner (suc room) (number_of total (t ∷ s.rest)) s ≡ Ok y → StmtFound (suc (suc room)) s.names (t ∷ s.rest) y
    unfolding reading.case_with
    case_sound t s y is h =
        let token = number_of total (t ∷ s.rest) in
        let (x, there, go) = bind_ok ((readers total most (suc room)).expr extent.Cond s) (λ x. expect_mark total mark.Colon x.1 >>= λ s'. inner s' >>= λ y. Ok (stmt.Case token x.0 y.0, y.1)) y h in
        let (u, colon, on) = bind_ok (expect_mark total mark.Colon x.1) (λ s'. inner s' >>= λ y. Ok (stmt.Case token x.0 y.0, y.1)) y go in
        let (b, body, made) = bind_ok (inner u) (λ y. Ok (stmt.Case token x.0 y.0, y.1)) y on in
        let c = expect_mark_is total mark.Colon x.1 u colon in
        let i : StmtFound (suc room) u.names u.rest b = inner_sound u b body in
        let e : IsExpr total most Cond (suc room) s.names s.rest x.1.rest x.1.names x.0 = (sound (suc room)).expr extent.Cond s x.1 x.0 there in
        let e' : IsExpr total most Cond (suc room) s.names s.rest (c.stands.token ∷ u.rest) u.names x.0 =
        subst (λ ns. IsExpr total most Cond (suc room) s.names s.rest (c.stands.token ∷ u.rest) ns x.0) (sym c.names_are)
        (subst (λ us. IsExpr total most Cond (suc room) s.names s.rest us x.1.names x.0) c.stands.ts_are e) in
        let f : StmtFound (suc (suc room)) s.names (t ∷ s.rest) (stmt.Case token x.0 b.0, b.1) =
        record { ends = i.ends; is = grammar.case is e' c.stands.is i.is; no_else = i.no_else } in
        moved (λ (z : Stmt × State). StmtFound (suc (suc room)) s.names (t ∷ s.rest) z) f made

    default_sound : (t : Token) (s : State) (y : Stmt × State) → IsKeyword keyword.Default t
        → reading.default_with total inner (number_of total (t ∷ s.rest)) s ≡ Ok y → StmtFound (suc (suc room)) s.names (t ∷ s.rest) y
    unfolding reading.default_with
    default_sound t s y is h =
        let token = number_of total (t ∷ s.rest) in
        let (u, colon, on) = bind_ok (expect_mark total mark.Colon s) (λ s'. inner s' >>= λ y. Ok (stmt.Default token y.0, y.1)) y h in
        let (b, body, made) = bind_ok (inner u) (λ y. Ok (stmt.Default token y.0, y.1)) y on in
        let c = expect_mark_is total mark.Colon s u colon in
        let i : StmtFound (suc room) u.names u.rest b = inner_sound u b body in
        let i' : IsStmt total most i.ends (suc room) s.names u.rest b.1.rest b.1.names b.0 =
        subst (λ ns. IsStmt total most i.ends (suc room) ns u.rest b.1.rest b.1.names b.0) c.names_are i.is in
        let f : StmtFound (suc (suc room)) s.names (t ∷ s.rest) (stmt.Default token b.0, b.1) = record {
          ends = i.ends;
          is = subst (λ us. IsStmt total most i.ends (suc (suc room)) s.names (t ∷ us) b.1.rest b.1.names (stmt.Default (number_of total (t ∷ us)) b.0)) (sym c.stands.ts_are)
              (grammar.default is c.stands.is i');
          no_else = i.no_else;
        } in
        moved (λ (z : Stmt × State). StmtFound (suc (suc room)) s.names (t ∷ s.rest) z) f made

    break_sound : (t : Token) (s : State) (y : Stmt × State) → IsKeyword keyword.Break t
        → reading.word_alone total (stmt.Break (number_of total (t ∷ s.rest))) s ≡ Ok y → StmtFound (suc (suc room)) s.names (t ∷ s.rest) y
    unfolding reading.word_alone
    break_sound t s y is h =
        let token = number_of total (t ∷ s.rest) in
        let (u, stops, made) = bind_ok (expect_mark total mark.Semicolon s) (λ s'. Ok (stmt.Break token, s')) y h in
        let c = expect_mark_is total mark.Semicolon s u stops in
        let f : StmtFound (suc (suc room)) s.names (t ∷ s.rest) (stmt.Break token, u) = record {
          ends = false;
          is = subst (λ ns. IsStmt total most false (suc (suc room)) s.names (t ∷ s.rest) u.rest ns (stmt.Break token)) (sym c.names_are)
              (subst (λ us. IsStmt total most false (suc (suc room)) s.names (t ∷ us) u.rest s.names (stmt.Break (number_of total (t ∷ us)))) (sym c.stands.ts_are)
              (grammar.break is c.stands.is));
          no_else = λ n. absurd cc;
        } in
        moved (λ (z : Stmt × State). StmtFound (suc (suc room)) s.names (t ∷ s.rest) z) f made

    continue_sound : (t : Token) (s : State) (y : Stmt × State) → IsKeyword keyword.Continue t
        → reading.word_alone total (stmt.Continue (number_of total (t ∷ s.rest))) s ≡ Ok y → StmtFound (suc (suc room)) s.names (t ∷ s.rest) y
    unfolding reading.word_alone
    continue_sound t s y is h =
        let token = number_of total (t ∷ s.rest) in
        let (u, stops, made) = bind_ok (expect_mark total mark.Semicolon s) (λ s'. Ok (stmt.Continue token, s')) y h in
        let c = expect_mark_is total mark.Semicolon s u stops in
        let f : StmtFound (suc (suc room)) s.names (t ∷ s.rest) (stmt.Continue token, u) = record {
          ends = false;
          is = subst (λ ns. IsStmt total most false (suc (suc room)) s.names (t ∷ s.rest) u.rest ns (stmt.Continue token)) (sym c.names_are)
              (subst (λ us. IsStmt total most false (suc (suc room)) s.names (t ∷ us) u.rest s.names (stmt.Continue (number_of total (t ∷ us)))) (sym c.stands.ts_are)
              (grammar.continue is c.stands.is));
          no_else = λ n. absurd cc;
        } in
        moved (λ (z : Stmt × State). StmtFound (suc (suc room)) s.names (t ∷ s.rest) z) f made

    return_sound : (t : Token) (s : State) (y : Stmt × State) → IsKeyword keyword.Return t
        → reading.return_with total most (suc room) (number_of total (t ∷ s.rest)) s ≡ Ok y → StmtFound (suc (suc room)) s.names (t ∷ s.rest) y
    unfolding reading.return_with
    return_sound t s y is h =
        let token = number_of total (t ∷ s.rest) in
        let (x, there, made) = bind_ok (reading.optional total most (suc room) mark.Semicolon s) (λ x. Ok (stmt.Return token x.0, x.1)) y h in
        let o = optional_sound (suc room) mark.Semicolon s x there in
        let f : StmtFound (suc (suc room)) s.names (t ∷ s.rest) (stmt.Return token x.0, x.1) =
        record { ends = false; is = grammar.return is o.is o.ends; no_else = λ n. absurd cc } in
        moved (λ (z : Stmt × State). StmtFound (suc (suc room)) s.names (t ∷ s.rest) z) f made

    express_sound : (s : State) (y : Stmt × State) → reading.express_with total most (suc room) s ≡ Ok y → StmtFound (suc (suc room)) s.names s.rest y
    unfolding reading.express_with
    express_sound s y h =
        let (x, there, made) = bind_ok (reading.optional total most (suc room) mark.Semicolon s) (λ x. Ok (stmt.Express (here total s) x.0, x.1)) y h in
        let o = optional_sound (suc room) mark.Semicolon s x there in
        let f : StmtFound (suc (suc room)) s.names s.rest (stmt.Express (here total s) x.0, x.1) =
        record { ends = false; is = grammar.express o.is o.ends; no_else = λ n. absurd cc } in
        moved (λ (z : Stmt × State). StmtFound (suc (suc room)) s.names s.rest z) f made

    less_one : suc room - 1 ≡ room
    less_one = omega arith

    pub keyword_kind : (k : TokenKind) (w : Keyword) → keyword_of k ≡ Some w → k ≡ kind.Keyword w
    keyword_kind (kind.Keyword v) w h = ap kind.Keyword (some_same h)
    keyword_kind (kind.Mark m) w h = absurd cc
    keyword_kind kind.Name w h = absurd cc
    keyword_kind (kind.Number n) w h = absurd cc
    keyword_kind kind.Character w h = absurd cc
    keyword_kind kind.Text w h = absurd cc

    word_sound : (names : Names) (t : Token) (ts : List Token) (w : Keyword) (y : Stmt × State) → IsKeyword w t
        → reading.by_keyword total most inner (suc room) (Some w) (at_state names (t ∷ ts)) ≡ Ok y → StmtFound (suc (suc room)) names (t ∷ ts) y
    word_sound names t ts keyword.If y is h =
        if_sound t (at_state names ts) y is (subst (λ n. reading.if_with total most inner n (number_of total (t ∷ ts)) (at_state names ts) ≡ Ok y) less_one h)
    word_sound names t ts keyword.While y is h =
        while_sound t (at_state names ts) y is (subst (λ n. reading.while_with total most inner n (number_of total (t ∷ ts)) (at_state names ts) ≡ Ok y) less_one h)
    word_sound names t ts keyword.Do y is h =
        do_sound t (at_state names ts) y is (subst (λ n. reading.do_with total most inner n (number_of total (t ∷ ts)) (at_state names ts) ≡ Ok y) less_one h)
    word_sound names t ts keyword.For y is h =
        for_sound t (at_state names ts) y is (subst (λ n. reading.for_with total most inner n (number_of total (t ∷ ts)) (at_state names ts) ≡ Ok y) less_one h)
    word_sound names t ts keyword.Switch y is h =
        switch_sound t (at_state names ts) y is (subst (λ n. reading.switch_with total most inner n (number_of total (t ∷ ts)) (at_state names ts) ≡ Ok y) less_one h)
    word_sound names t ts keyword.Case y is h = case_sound t (at_state names ts) y is h
    word_sound names t ts keyword.Default y is h = default_sound t (at_state names ts) y is h
    word_sound names t ts keyword.Break y is h = break_sound t (at_state names ts) y is h
    word_sound names t ts keyword.Continue y is h = continue_sound t (at_state names ts) y is h
    word_sound names t ts keyword.Return y is h = return_sound t (at_state names ts) y is h
    word_sound names t ts _ y is h = express_sound (at_state names (t ∷ ts)) y h

    first_sound : (names : Names) (t : Token) (ts : List Token) (o : Option Keyword) (y : Stmt × State) → keyword_of t.kind ≡ o
        → reading.by_keyword total most inner (suc room) o (at_state names (t ∷ ts)) ≡ Ok y → StmtFound (suc (suc room)) names (t ∷ ts) y
    first_sound names t ts (Some w) y e h = word_sound names t ts w y (keyword_kind t.kind w e) h
    first_sound names t ts None y e h = express_sound (at_state names (t ∷ ts)) y h

    front_sound : (names : Names) (ts : List Token) (y : Stmt × State)
        → reading.by_keyword total most inner (suc room) (keyword_at ts) (at_state names ts) ≡ Ok y → StmtFound (suc (suc room)) names ts y
    front_sound names [] y h = express_sound (at_state names []) y h
    front_sound names (t ∷ ts) y h = first_sound names t ts (keyword_of t.kind) y refl h

  -- ---- blocks

  item_sound : (room : ℕ) (inner : Reader Stmt) → SoundStmt room inner → (s : State) (y : BlockItem Stmt × State) → reading.item total most inner room s ≡ Ok y
      → (rest : List Token) (after : Names) (is : List (BlockItem Stmt)) → AreItems total most room y.1.names y.1.rest rest after is
      → AreItems total most room s.names s.rest rest after (y.0 ∷ is)
  unfolding reading.item
  item_sound room inner inner_sound s y h =
      let P : BlockItem Stmt × State → Type 0 = λ y. (rest : List Token) (after : Names) (is : List (BlockItem Stmt)) → AreItems total most room y.1.names y.1.rest rest after is
      → AreItems total most room s.names s.rest rest after (y.0 ∷ is) in
      elim (cond_is (sees_type s.names s.rest) (reading.decl total most room s >>= λ x. Ok (an_item.Declaration x.0, x.1))
      (inner s >>= λ x. Ok (an_item.Statement x.0, x.1)) (Ok y) h) [
        | inl p ↦
            let (x, there, made) = bind_ok (reading.decl total most room s) (λ x. Ok (an_item.Declaration x.0, x.1)) y p.1 in
            moved P (λ rest after is d. grammar.declaration_item (decl_sound total most sound room s x there) d) made
        | inr p ↦
            let (x, there, made) = bind_ok (inner s) (λ x. Ok (an_item.Statement x.0, x.1)) y p.1 in
            let f : StmtFound room s.names s.rest x = inner_sound s x there in
            moved P (λ rest after is d. grammar.statement_item f.is d) made
      ]

  pub record ItemsFound (room : ℕ) (front : List (BlockItem Stmt)) (s : State) (y : List (BlockItem Stmt) × State) : Type 0 where
    pub others : List (BlockItem Stmt)
    pub close : Token
    pub closes : IsMark mark.CloseBrace close
    pub all : y.0 ≡ front ++ others
    pub are : AreItems total most room s.names s.rest (close ∷ y.1.rest) y.1.names others

  items_sound : (room : ℕ) (inner : Reader Stmt) → SoundStmt room inner → (count : ℕ) (front : List (BlockItem Stmt)) (s : State) (y : List (BlockItem Stmt) × State)
      → reading.items total most inner room count front s ≡ Ok y → ItemsFound room front s y
  unfolding reading.items
  items_sound room inner inner_sound zero front s y h =
      let (x, there, made) = bind_ok (reading.item total most inner room s) (λ x. Err (Unexpected (here total x.1))) y h in absurd cc
  items_sound room inner inner_sound (suc count) front s y h =
      elim (cond_is (sees_mark mark.CloseBrace s.rest) (Ok (front, behind s))
      (reading.item total most inner room s >>= λ x. reading.items total most inner room count (front ++ x.0 ∷ []) x.1) (Ok y) h) [
        | inl p ↦
            let o = sees_mark_is mark.CloseBrace s.rest p.0 in
            let f : ItemsFound room front s (front, behind s) = record {
              others = [];
              close = o.token;
              closes = o.is;
              all = sym (append-nil front);
              are = subst (λ us. AreItems total most room s.names s.rest us s.names []) o.ts_are grammar.no_items;
            } in
            moved (λ (z : List (BlockItem Stmt) × State). ItemsFound room front s z) f p.1
        | inr p ↦
            let (x, there, go) = bind_ok (reading.item total most inner room s) (λ x. reading.items total most inner room count (front ++ x.0 ∷ []) x.1) y p.1 in
            let r : ItemsFound room (front ++ x.0 ∷ []) x.1 y = items_sound room inner inner_sound count (front ++ x.0 ∷ []) x.1 y go in
            record {
              others = x.0 ∷ r.others;
              close = r.close;
              closes = r.closes;
              all = r.all ∙ append_assoc front (x.0 ∷ []) r.others;
              are = item_sound room inner inner_sound s x there (r.close ∷ y.1.rest) y.1.names r.others r.are;
            }
      ]

  block_sound : (room : ℕ) (inner : Reader Stmt) → SoundStmt room inner → (s : State) (y : Stmt × State) → sees_mark mark.OpenBrace s.rest ≡ true
      → reading.block_with total most inner room s ≡ Ok y → StmtFound (suc room) s.names s.rest y
  unfolding reading.block_with
  block_sound room inner inner_sound s y sees h =
      let o = sees_mark_is mark.OpenBrace s.rest sees in
      let token = here total s in
      let (x, there, made) = bind_ok (reading.items total most inner room (length (tail s.rest)) [] (behind s)) (λ x. Ok (stmt.Block token x.0, left s.names x.1)) y h in
      let r : ItemsFound room [] (behind s) x = items_sound room inner inner_sound (length (tail s.rest)) [] (behind s) x there in
      let are : AreItems total most room s.names (tail s.rest) (r.close ∷ x.1.rest) x.1.names x.0 =
      subst (λ is. AreItems total most room s.names (tail s.rest) (r.close ∷ x.1.rest) x.1.names is) (sym r.all) r.are in
      moved (λ (z : Stmt × State). StmtFound (suc room) s.names s.rest z)
      (scoped (suc room) s.names s.rest (tail s.rest) (stmt.Block token x.0) x.1 false (closed (items_extend are))
      (subst (λ us. IsStmt total most false (suc room) s.names us x.1.rest s.names (stmt.Block (number_of total us) x.0)) (sym o.ts_are) (grammar.block o.is are r.closes))
      (λ n. absurd cc)) made

  simple_sound : (room : ℕ) (inner : Reader Stmt) → SoundStmt room inner → (s : State) (y : Stmt × State) → reading.simple total most inner room s ≡ Ok y
      → StmtFound (suc room) s.names s.rest y
  unfolding reading.simple
  simple_sound zero inner inner_sound s y h =
      elim (cond_is (nat_eq 0 0) (Err (reading.cramped total s)) (reading.by_keyword total most inner 0 (keyword_at s.rest) s) (Ok y) h) [
        | inl p ↦ absurd (let e = p.1 in cc)
        | inr p ↦ absurd (let e = p.0 in cc)
      ]
  simple_sound (suc room) inner inner_sound s y h =
      elim (cond_is (nat_eq (suc room) 0) (Err (reading.cramped total s)) (reading.by_keyword total most inner (suc room) (keyword_at s.rest) s) (Ok y) h) [
        | inl p ↦ absurd (let e = p.1 in cc)
        | inr p ↦ front_sound room inner inner_sound s.names s.rest y p.1
      ]

  pub statement_sound : (room : ℕ) → SoundStmt room (reading.statement total most room)
  unfolding reading.statement
  statement_sound zero s y h = absurd cc
  statement_sound (suc room) s y h =
      elim (cond_is (sees_mark mark.OpenBrace s.rest) (reading.block_with total most (reading.statement total most room) room s)
      (reading.simple total most (reading.statement total most room) room s) (Ok y) h) [
        | inl p ↦ block_sound room (reading.statement total most room) (statement_sound room) s y p.0 p.1
        | inr p ↦ simple_sound room (reading.statement total most room) (statement_sound room) s y p.1
      ]

  -- what stands behind the brace that opens a block
  pub block_items_sound : (room : ℕ) (s : State) (y : List (BlockItem Stmt) × State)
      → reading.items total most (reading.statement total most room) room (length s.rest) [] s ≡ Ok y → ItemsFound room [] s y
  block_items_sound room s y h = items_sound room (reading.statement total most room) (statement_sound room) (length s.rest) [] s y h
