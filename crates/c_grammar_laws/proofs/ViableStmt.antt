-- Where a statement, or what stands in a block, isn't read, it is viable.
use Rattle.std.proofs.Common.{◌≡◌, ℕ, zero, suc, ◌-◌, ◌≤◌, ◌⊎◌, ◌++◌, inl, inr, Bool, true, false, cond, nat_eq, Option, Some, None, Ok, Err, List, [], ◌∷◌, length, refl, sym, ap, subst, arith}
use Rattle.c_lex.specs.declared.token.Token.{Token}
use Rattle.c_lex.specs.declared.token.Keyword.{Keyword}
use Rattle.c_lex.specs.declared.token.Keyword.TheVariants as keyword
use Rattle.c_lex.specs.declared.token.Mark.TheVariants as mark
use Rattle.c_ast.specs.declared.expression.Expr.{Expr}
use Rattle.c_ast.specs.declared.statement.Stmt.{Stmt}
use Rattle.c_ast.specs.declared.statement.Stmt.TheVariants as stmt
use Rattle.c_ast.specs.declared.statement.BlockItem.{BlockItem}
use Rattle.c_ast.specs.declared.statement.BlockItem.TheVariants as an_item
use Rattle.c_grammar.specs.declared.phrases.Extent.TheVariants as extent
use Rattle.c_grammar.specs.declared.phrases.Head.{Head}
use Rattle.c_grammar.specs.Names.{Names}
use Rattle.c_grammar.specs.Words.{IsMark, IsKeyword, number_of}
use Rattle.c_grammar.specs.Grammar as g
use Rattle.c_grammar.specs.Grammar.{Cond, IsExpr, IsDecl, IsOptional, IsForStart, IsTest, IsStmt, AreItems}
use Rattle.c_grammar.specs.Nesting.{test_stands, stmt_stands}
use Rattle.c_grammar.specs.Reading.{State, Fault, Unexpected, Outcome, Reader, ◌>>=◌, sees_mark, sees_keyword, tail, behind, here, expect_mark, expect_keyword}
use Rattle.c_grammar.specs.ReadingExpr.{sees_type}
use Rattle.c_grammar.specs.ReadingDecl.{too_deep}
use Rattle.c_grammar.specs.Levels.{readers}
use Rattle.c_grammar.specs.ReadingStmt.{left, keyword_of, keyword_at, sees_simple}
use Rattle.c_grammar.specs.ReadingStmt as reading
use Rattle.c_grammar.proofs.Late.{raised}
use Rattle.c_grammar.proofs.Laws.{Sound, at_state}
use Rattle.c_grammar_laws.proofs.ExprFound.{moved, bind_ok, cond_is, sees_mark_is, sees_keyword_is, expect_mark_is}
use Rattle.c_grammar_laws.proofs.SpecsPartsRead.{some_room}
use Rattle.c_grammar_laws.proofs.StmtExtends.{left_is, stmt_extends}
use Rattle.c_grammar_laws.proofs.StmtDeclSound.{decl_sound}
use Rattle.c_grammar_laws.proofs.StmtSound.{StmtFound, SoundStmt, HeadFound, ExpectedWord, expect_keyword_is, before_else, test_sound, for_head_sound, statement_sound, keyword_kind}
use Rattle.c_grammar_laws.proofs.Deep.{Deeper, bounds, at_tail, more_swapped, joined, deep, none_left, TestAt, StmtAt, ItemsAt}
use Rattle.c_grammar_laws.proofs.Moves.{moved_expr, moved_decl, moved_optional, moved_for_start, moved_test, moved_stmt, for_start_room}
use Rattle.c_grammar_laws.proofs.Viable.{Viable, Viables, fault_at, bind_err, err_is, deep_at, mark_missed, onto, led, behind_part, put_here, mark_token, word_token}
use Rattle.c_grammar_laws.proofs.ViableDecl.{at_front, decl_viable}
use Rattle.c_grammar_laws.proofs.ViableParts.{placed, along, put_along, much, zero_in_parens, zero_test, empty_stmt, keyword_missed, optional_viable, test_viable, for_head_viable, empty_head, empty_head_is}

-- a condition in parentheses, and a statement
pub record TestedAt (to : Deeper) (ends : Bool) (room : ℕ) (names : Names) (total later : ℕ) (ts rest : List Token)
    (after : Names) : Type 0 where
  pub between : Names
  pub mid : List Token
  pub test_tree : Expr
  pub stmt_tree : Stmt
  pub test_is : IsTest total to.wide (raised to.spare room) names ts mid between test_tree
  pub stmt_is : IsStmt total to.wide ends (raised to.spare room) between mid rest after stmt_tree
  pub tests : test_stands (bounds to later) test_is
  pub stands : stmt_stands (bounds to later) stmt_is

-- A statement, and whether it ends with an `if` that has no `else`.
pub record ViableStmt (to : Deeper) (total room : ℕ) (names : Names) (ts : List Token) (fault : Fault)
    (end : List Token) : Type 0 where
  pub ends : Bool
  pub whole : Viable (StmtAt to ends room names) total ts fault end

record ViableTested (to : Deeper) (total room : ℕ) (names : Names) (ts : List Token) (fault : Fault)
    (end : List Token) : Type 0 where
  ends : Bool
  whole : Viable (TestedAt to ends room names) total ts fault end

stmt_placed : {to : Deeper} {total room : ℕ} {names names' : Names} {us ts : List Token} {e : Fault} {end : List Token}
    → names' ≡ names → ts ≡ us → ViableStmt to total room names' us e end → ViableStmt to total room names ts e end
stmt_placed {to = to} {room = room} same these v =
    record { ends = v.ends; whole = placed (λ ns. StmtAt to v.ends room ns) same these v.whole }

module _ (to : Deeper) (total : ℕ) (sound : (room : ℕ) → Sound total to.chain room (readers total to.chain room))
    (below : (room : ℕ) → Viables to total room (readers total to.chain room)) where
  -- ---- statements, by the room inside of brackets

  abbrev pub ViableReader : ℕ → Reader Stmt → Type 0
  ViableReader room read = (s : State) (e : Fault) → read s ≡ Err e → (end : List Token)
      → ViableStmt to total room s.names s.rest e end

  module _ (room : ℕ) (inner : Reader Stmt) (inner_sound : SoundStmt total to.chain sound (suc room) inner)
      (inner_viable : ViableReader (suc room) inner) where
    two_left : 2 ≤ raised to.spare (suc room)
    two_left = let x = much to room in omega (arith, x)

    -- A condition and a statement aren't read, or what follows them isn't.
    tested_viable : {B : Type 0} (s : State) (e : Fault) (f : Expr × State → Stmt × State → Outcome B)
        → (reading.bracketed total to.chain room s >>= λ x. inner x.1 >>= λ y. f x y) ≡ Err e → (end : List Token)
        → ViableTested to total (suc room) s.names s.rest e end
        ⊎ ((x : Expr × State) × (y : Stmt × State) × (reading.bracketed total to.chain room s ≡ Ok x) × (inner x.1 ≡ Ok y)
        × (f x y ≡ Err e))
    tested_viable s e f h end =
        elim (bind_err (reading.bracketed total to.chain room s) (λ x. inner x.1 >>= λ y. f x y) e h) [
          | inl p ↦
              let put : List Token = mark_token mark.Semicolon ∷ end in
              let v = test_viable to total sound below room s e p put in
              inl (record {
                ends = false;
                whole = onto end v (omega arith) v.after (λ total' later late x.
                    let y = empty_stmt to total' later (raised to.spare (suc room)) two_left v.after end
                    (let z = v.room_there in omega (arith, late, z)) in
                    record {
                      between = v.after;
                      mid = put;
                      test_tree = x.0;
                      stmt_tree = y.0;
                      test_is = x.1;
                      stmt_is = y.1;
                      tests = x.2;
                      stands = y.2;
                    });
              })
          | inr p ↦
              let (x, tests, go) = p in
              elim (bind_err (inner x.1) (λ y. f x y) e go) [
                | inl q ↦
                    let v = inner_viable x.1 e q end in
                    let m = moved_test to (test_sound total to.chain sound room s x tests) v.whole.all in
                    inl (record {
                      ends = v.ends;
                      whole = behind_part end v.whole m (omega arith) v.whole.after (λ total' later late y z.
                          record {
                            between = x.1.names;
                            mid = v.whole.all;
                            test_tree = y.0;
                            stmt_tree = z.0;
                            test_is = y.1;
                            stmt_is = z.1;
                            tests = y.2;
                            stands = z.2;
                          });
                    })
                | inr q ↦ let (y, there, on) = q in inr (x, y, tests, there, on)
              ]
        ]

    while_viable : (t : Token) (token : ℕ) (s : State) (e : Fault) → IsKeyword keyword.While t
        → reading.while_with total to.chain inner room token s ≡ Err e
        → (end : List Token) → ViableStmt to total (suc (suc room)) s.names (t ∷ s.rest) e end
    unfolding reading.while_with
    while_viable t token s e is h end =
        elim (tested_viable s e (λ x y. Ok (stmt.While token x.0 y.0, left s.names y.1)) h end) [
          | inl v ↦ record {
            ends = v.ends;
            whole = led t end v.whole (omega arith) s.names
                (λ total' later late x. (_, g.while_do is x.test_is x.stmt_is, (deep room to.spare, x.tests, x.stands)));
          }
          | inr p ↦ let (x, y, tests, there, made) = p in absurd cc
        ]

    switch_viable : (t : Token) (token : ℕ) (s : State) (e : Fault) → IsKeyword keyword.Switch t
        → reading.switch_with total to.chain inner room token s ≡ Err e
        → (end : List Token) → ViableStmt to total (suc (suc room)) s.names (t ∷ s.rest) e end
    unfolding reading.switch_with
    switch_viable t token s e is h end =
        elim (tested_viable s e (λ x y. Ok (stmt.Switch token x.0 y.0, left s.names y.1)) h end) [
          | inl v ↦ record {
            ends = v.ends;
            whole = led t end v.whole (omega arith) s.names
                (λ total' later late x. (_, g.switch is x.test_is x.stmt_is, (deep room to.spare, x.tests, x.stands)));
          }
          | inr p ↦ let (x, y, tests, there, made) = p in absurd cc
        ]

    -- the statement behind `else`
    else_viable : (t o : Token) (x : Expr × State) (b : Stmt) (between : Names) (s u : State) (e : Fault) → IsKeyword keyword.If t
        → IsTest total to.chain (suc room) s.names s.rest x.1.rest x.1.names x.0
        → IsStmt total to.chain false (suc room) x.1.names x.1.rest (o ∷ u.rest) between b → IsKeyword keyword.Else o
        → inner u ≡ Err e
        → u.names ≡ x.1.names → (end : List Token) → ViableStmt to total (suc (suc room)) s.names (t ∷ s.rest) e end
    else_viable t o x b between s u e is d first other h same end =
        let v = stmt_placed same refl (inner_viable u e h end) in
        let m1 = moved_stmt to first (o ∷ v.whole.all) in
        let m0 = moved_test to d m1.all in
        record {
          ends = v.ends;
          whole = along end v.whole (t ∷ m0.all) (more_swapped (joined m0.swapped (joined m1.swapped (more_swapped at_tail))))
              (omega arith) s.names
              (λ total' later late z.
              let y0 = m0.is total' later in
              let y1 = m1.is total' later in
              (_, g.if_else is y0.1 y1.1 other z.1, (deep room to.spare, y0.2, y1.2, deep room to.spare, z.2)));
        }

    if_viable : (t : Token) (token : ℕ) (s : State) (e : Fault) → IsKeyword keyword.If t
        → reading.if_with total to.chain inner room token s ≡ Err e
        → (end : List Token) → ViableStmt to total (suc (suc room)) s.names (t ∷ s.rest) e end
    unfolding reading.if_with
    if_viable t token s e is h end =
        elim (tested_viable s e (λ x y. cond (sees_keyword keyword.Else y.1.rest)
        (inner (behind (left x.1.names y.1)) >>= λ z. Ok (stmt.If token x.0 y.0 (Some z.0), left s.names z.1))
        (Ok (stmt.If token x.0 y.0 None, left s.names y.1))) h end) [
          | inl v ↦ record {
            ends = true;
            whole = led t end v.whole (omega arith) s.names
                (λ total' later late x. (_, g.if_then is x.test_is x.stmt_is, (deep room to.spare, x.tests, x.stands)));
          }
          | inr p ↦
              let (x, b, tests, there, on) = p in
              elim (cond_is (sees_keyword keyword.Else b.1.rest)
              (inner (behind (left x.1.names b.1)) >>= λ z. Ok (stmt.If token x.0 b.0 (Some z.0), left s.names z.1))
              (Ok (stmt.If token x.0 b.0 None, left s.names b.1)) (Err e) on) [
                | inl q ↦
                    let i : StmtFound total to.chain sound (suc room) x.1.names x.1.rest b = inner_sound x.1 b there in
                    let o = sees_keyword_is keyword.Else b.1.rest q.0 in
                    let first = before_else total to.chain sound (suc room) x.1.names x.1.rest b i q.0 in
                    let first' : IsStmt total to.chain false (suc room) x.1.names x.1.rest (o.token ∷ tail b.1.rest)
                    b.1.names b.0 =
                    subst (λ us. IsStmt total to.chain false (suc room) x.1.names x.1.rest us b.1.names b.0) o.ts_are first in
                    elim (bind_err (inner (behind (left x.1.names b.1)))
                    (λ z. Ok (stmt.If token x.0 b.0 (Some z.0), left s.names z.1)) e q.1) [
                      | inl r ↦
                          let again : inner (at_state x.1.names (tail b.1.rest)) ≡ Err e =
                          subst (λ (u : State). inner (behind u) ≡ Err e) (left_is (stmt_extends first)) r in
                          else_viable t o.token x b.0 b.1.names s (at_state x.1.names (tail b.1.rest)) e is
                          (test_sound total to.chain sound room s x tests) first' o.is again refl end
                      | inr r ↦ let (z, found, made) = r in absurd cc
                    ]
                | inr q ↦ absurd (let z = q.1 in cc)
              ]
        ]

    -- `while ( 0 ) ;`
    abbrev while_zero : List Token → List Token
    while_zero end = word_token keyword.While ∷ zero_in_parens (mark_token mark.Semicolon ∷ end)

    -- behind the `while` that ends it
    do_test_viable : (t w : Token) (names between : Names) (ts : List Token) (ends : Bool) (b : Stmt) (u : State) (e : Fault)
        → IsKeyword keyword.Do t
        → IsStmt total to.chain ends (suc room) names ts (w ∷ u.rest) between b → IsKeyword keyword.While w → u.names ≡ names
        → (f : Expr × State → State → Stmt × State)
        → (reading.bracketed total to.chain room u >>= λ y. expect_mark total mark.Semicolon y.1 >>= λ s'. Ok (f y s')) ≡ Err e
        → (end : List Token) → ViableStmt to total (suc (suc room)) names (t ∷ ts) e end
    do_test_viable t w names between ts ends b u e is body word same f h end =
        let close : List Token = mark_token mark.Semicolon ∷ end in
        elim (bind_err (reading.bracketed total to.chain room u) (λ y. expect_mark total mark.Semicolon y.1 >>= λ s'. Ok (f y s')) e h) [
          | inl p ↦
              let v : Viable (TestAt to (suc room) names) total u.rest e close =
              placed (λ ns. TestAt to (suc room) ns) same refl (test_viable to total sound below room u e p close) in
              let m = moved_stmt to body (w ∷ v.all) in
              record {
                ends = false;
                whole = along end v (t ∷ m.all) (more_swapped (joined m.swapped (more_swapped at_tail))) (omega arith) names
                    (λ total' later late y.
                    let x = m.is total' later in (
                      _,
                      g.do_while is x.1 word y.1 refl,
                      (deep room to.spare, x.2, deep room to.spare, y.2, λ _. let z = v.room_there in omega (arith, late, z)),
                    ));
              }
          | inr p ↦
              let (x, tests, more) = p in
              let d : IsTest total to.chain (suc room) names u.rest x.1.rest x.1.names x.0 =
              subst (λ ns. IsTest total to.chain (suc room) ns u.rest x.1.rest x.1.names x.0) same
              (test_sound total to.chain sound room u x tests) in
              elim (bind_err (expect_mark total mark.Semicolon x.1) (λ s'. Ok (f x s')) e more) [
                | inl q ↦
                    let m1 = moved_test to d close in
                    let m0 = moved_stmt to body (w ∷ m1.all) in
                    record {
                      ends = false;
                      whole = put_along close end (mark_missed total mark.Semicolon x.1 e q) (t ∷ m0.all)
                          (more_swapped (joined m0.swapped (more_swapped m1.swapped))) (omega arith) names (λ total' later late.
                          let y0 = m0.is total' later in
                          let y1 = m1.is total' later in (
                            _,
                            g.do_while is y0.1 word y1.1 refl,
                            (deep room to.spare, y0.2, deep room to.spare, y1.2, λ _. late),
                          ));
                    }
                | inr q ↦ let (s', stops, made) = q in absurd cc
              ]
        ]

    -- behind its statement
    do_word_viable : (t : Token) (names : Names) (ts : List Token) (b : Stmt × State) (e : Fault) → IsKeyword keyword.Do t
        → StmtFound total to.chain sound (suc room) names ts b → (f : Expr × State → State → Stmt × State)
        → (expect_keyword total keyword.While (at_state names b.1.rest) >>= λ s'. reading.bracketed total to.chain room s'
        >>= λ y. expect_mark total mark.Semicolon y.1 >>= λ s''. Ok (f y s'')) ≡ Err e
        → (end : List Token) → ViableStmt to total (suc (suc room)) names (t ∷ ts) e end
    do_word_viable t names ts b e is i f h end =
        let close : List Token = mark_token mark.Semicolon ∷ end in
        let s : State = at_state names b.1.rest in
        elim (bind_err (expect_keyword total keyword.While s)
        (λ s'. reading.bracketed total to.chain room s' >>= λ y. expect_mark total mark.Semicolon y.1 >>= λ s''. Ok (f y s'')) e h) [
          | inl p ↦
              let m = moved_stmt to i.is (while_zero end) in
              record {
                ends = false;
                whole = put_along (while_zero end) end (keyword_missed total keyword.While s e p) (t ∷ m.all)
                    (more_swapped m.swapped)
                    (omega arith) names (λ total' later late.
                    let x = m.is total' later in
                    let less : length (zero_in_parens close) ≤ later = omega (arith, late) in
                    let y = zero_test to total' later (raised to.spare (suc room)) two_left names close less in
                    (_, g.do_while is x.1 refl y.1 refl, (deep room to.spare, x.2, (λ _. late), y.2, λ _. omega (arith, less))));
              }
          | inr p ↦
              let (u, words, on) = p in
              let w : ExpectedWord keyword.While s u = expect_keyword_is total keyword.While s u words in
              let body : IsStmt total to.chain i.ends (suc room) names ts (w.stands.token ∷ u.rest) b.1.names b.0 =
              subst (λ us. IsStmt total to.chain i.ends (suc room) names ts us b.1.names b.0) w.stands.ts_are i.is in
              do_test_viable t w.stands.token names b.1.names ts i.ends b.0 u e is body w.stands.is w.names_are f on end
        ]

    do_viable : (t : Token) (token : ℕ) (s : State) (e : Fault) → IsKeyword keyword.Do t
        → reading.do_with total to.chain inner room token s ≡ Err e
        → (end : List Token) → ViableStmt to total (suc (suc room)) s.names (t ∷ s.rest) e end
    unfolding reading.do_with
    do_viable t token s e is h end =
        let close : List Token = mark_token mark.Semicolon ∷ end in
        elim (bind_err (inner s)
        (λ x. expect_keyword total keyword.While (left s.names x.1) >>= λ s'. reading.bracketed total to.chain room s'
        >>= λ y. expect_mark total mark.Semicolon y.1 >>= λ s''. Ok (stmt.Do token x.0 y.0, left s.names s'')) e h) [
          | inl p ↦
              let v = inner_viable s e p (while_zero end) in
              record {
                ends = false;
                whole = led t end v.whole (omega arith) s.names (λ total' later late x.
                    let r = v.whole.room_there in
                    let less : length (zero_in_parens close) ≤ later = omega (arith, late, r) in
                    let y = zero_test to total' later (raised to.spare (suc room)) two_left s.names close less in (
                      _,
                      g.do_while is x.1 refl y.1 refl,
                      (deep room to.spare, x.2, (λ _. omega (arith, late, r)), y.2, λ _. omega (arith, less)),
                    ));
              }
          | inr p ↦
              let (b, there, go) = p in
              let i : StmtFound total to.chain sound (suc room) s.names s.rest b = inner_sound s b there in
              let f : Expr × State → State → Stmt × State = λ y s''. (stmt.Do token b.0 y.0, left s.names s'') in
              do_word_viable t s.names s.rest b e is i f
              (subst (λ (v : State). (expect_keyword total keyword.While v >>= λ s'. reading.bracketed total to.chain room s'
              >>= λ y. expect_mark total mark.Semicolon y.1 >>= λ s''. Ok (f y s'')) ≡ Err e) (left_is (stmt_extends i.is)) go)
              end
        ]

    -- behind the bracket that opens it
    for_behind_viable : (t o : Token) (u : State) (e : Fault) → IsKeyword keyword.For t → IsMark mark.OpenParen o
        → (f : Head × State → Stmt × State → Stmt × State)
        → (reading.for_head total to.chain room u >>= λ x. inner x.1 >>= λ y. Ok (f x y)) ≡ Err e
        → (end : List Token) → ViableStmt to total (suc (suc room)) u.names (t ∷ o ∷ u.rest) e end
    for_behind_viable t o u e is opens f h end =
        elim (bind_err (reading.for_head total to.chain room u) (λ x. inner x.1 >>= λ y. Ok (f x y)) e h) [
          | inl p ↦
              let v = for_head_viable to total sound below room u e p (mark_token mark.Semicolon ∷ end) in
              record {
                ends = false;
                whole = along end v (t ∷ o ∷ v.all) (more_swapped (more_swapped at_tail)) (omega arith) u.names
                    (λ total' later late x.
                    let y = empty_stmt to total' later (raised to.spare (suc room)) two_left v.after end
                    (let z = v.room_there in omega (arith, late, z)) in (
                      _,
                      g.for_do is opens x.start_is x.test_is x.ends x.step_is x.closes y.1,
                      (
                        deep room to.spare,
                        deep room to.spare,
                        x.starts,
                        x.tests,
                        x.semicolon_stands,
                        x.steps,
                        x.close_stands,
                        y.2,
                      ),
                    ));
              }
          | inr p ↦
              let (x, heads, on) = p in
              elim (bind_err (inner x.1) (λ y. Ok (f x y)) e on) [
                | inl q ↦
                    let d : HeadFound total to.chain sound room u x = for_head_sound total to.chain sound room u x heads in
                    let v = inner_viable x.1 e q end in
                    let m2 = moved_optional to d.step_is (d.close ∷ v.whole.all) in
                    let m1 = moved_optional to d.test_is (d.semicolon ∷ m2.all) in
                    let m0 = moved_for_start to d.start_is m1.all in
                    record {
                      ends = v.ends;
                      whole = along end v.whole (t ∷ o ∷ m0.all)
                          (more_swapped
                          (more_swapped
                          (joined m0.swapped
                          (joined m1.swapped (more_swapped (joined m2.swapped (more_swapped at_tail)))))))
                          (omega arith) u.names
                          (λ total' later late z.
                          let y0 = m0.is total' later in
                          let y1 = m1.is total' later in
                          let y2 = m2.is total' later in (
                            _,
                            g.for_do is opens y0.1 y1.1 d.ends y2.1 d.closes z.1,
                            (
                              deep room to.spare,
                              deep room to.spare,
                              y0.2,
                              y1.2,
                              none_left room to.spare
                                  (for_start_room d.start_is),
                              y2.2,
                              deep room to.spare,
                              z.2,
                            ),
                          ));
                    }
                | inr q ↦ let (y, there, made) = q in absurd cc
              ]
        ]

    for_viable : (t : Token) (token : ℕ) (s : State) (e : Fault) → IsKeyword keyword.For t
        → reading.for_with total to.chain inner room token s ≡ Err e
        → (end : List Token) → ViableStmt to total (suc (suc room)) s.names (t ∷ s.rest) e end
    unfolding reading.for_with
    for_viable t token s e is h end =
        let close : List Token = mark_token mark.Semicolon ∷ end in
        elim (bind_err (expect_mark total mark.OpenParen s) (λ s'. reading.for_head total to.chain room s'
        >>= λ x. inner x.1 >>= λ y. Ok (stmt.For token x.0.start x.0.test x.0.step y.0, left s.names y.1)) e h) [
          | inl p ↦
              let put : List Token = mark_token mark.OpenParen ∷ empty_head close in
              record {
                ends = false;
                whole = put_along put end (mark_missed total mark.OpenParen s e p) (t ∷ put) (more_swapped at_tail) (omega arith)
                    s.names (λ total' later late.
                    let less : length (empty_head close) ≤ later = omega (arith, late) in
                    let x = empty_head_is to total' later room s.names close less in
                    let y = empty_stmt to total' later (raised to.spare (suc room)) two_left s.names end
                    (omega (arith, late)) in (
                      _,
                      g.for_do is refl x.start_is x.test_is x.ends x.step_is x.closes y.1,
                      (deep room to.spare, (λ _. late), x.starts, x.tests, x.semicolon_stands, x.steps, x.close_stands, y.2),
                    ));
              }
          | inr p ↦
              let (u, opens, go) = p in
              let o = expect_mark_is total mark.OpenParen s u opens in
              stmt_placed o.names_are (ap (λ us. t ∷ us) o.stands.ts_are)
              (for_behind_viable t o.stands.token u e is o.stands.is
              (λ x y. (stmt.For token x.0.start x.0.test x.0.step y.0, left s.names y.1)) go end)
        ]

    case_viable : (t : Token) (token : ℕ) (s : State) (e : Fault) → IsKeyword keyword.Case t
        → reading.case_with total to.chain inner (suc room) token s ≡ Err e
        → (end : List Token) → ViableStmt to total (suc (suc room)) s.names (t ∷ s.rest) e end
    unfolding reading.case_with
    case_viable t token s e is h end =
        let close : List Token = mark_token mark.Semicolon ∷ end in
        let put : List Token = mark_token mark.Colon ∷ close in
        elim (bind_err ((readers total to.chain (suc room)).expr extent.Cond s)
        (λ x. expect_mark total mark.Colon x.1 >>= λ s'. inner s' >>= λ y. Ok (stmt.Case token x.0 y.0, y.1)) e h) [
          | inl p ↦
              let v = (below (suc room)).expr extent.Cond s e p put in
              record {
                ends = false;
                whole = led t end v.whole (omega arith) v.whole.after (λ total' later late x.
                    let r = v.whole.room_there in
                    let y = empty_stmt to total' later (raised to.spare (suc room)) two_left v.whole.after end
                    (omega (arith, late, r)) in
                    (_, g.case is x.1 refl y.1, (deep room to.spare, x.2, (λ _. omega (arith, late, r)), y.2)));
              }
          | inr p ↦
              let (x, there, go) = p in
              let d : IsExpr total to.chain Cond (suc room) s.names s.rest x.1.rest x.1.names x.0 =
              (sound (suc room)).expr extent.Cond s x.1 x.0 there in
              elim (bind_err (expect_mark total mark.Colon x.1) (λ s'. inner s' >>= λ y. Ok (stmt.Case token x.0 y.0, y.1)) e go) [
                | inl q ↦
                    let m = moved_expr to d put in
                    record {
                      ends = false;
                      whole = put_along put end (mark_missed total mark.Colon x.1 e q) (t ∷ m.all) (more_swapped m.swapped)
                          (omega arith) x.1.names (λ total' later late.
                          let z = m.is total' later in
                          let y = empty_stmt to total' later (raised to.spare (suc room)) two_left x.1.names end
                          (omega (arith, late)) in
                          (_, g.case is z.1 refl y.1, (deep room to.spare, z.2, (λ _. late), y.2)));
                    }
                | inr q ↦
                    let (u, colon, on) = q in
                    let c = expect_mark_is total mark.Colon x.1 u colon in
                    elim (bind_err (inner u) (λ y. Ok (stmt.Case token x.0 y.0, y.1)) e on) [
                      | inl r ↦
                          let v = inner_viable u e r end in
                          let d' : IsExpr total to.chain Cond (suc room) s.names s.rest (c.stands.token ∷ u.rest) u.names x.0 =
                          subst (λ ns. IsExpr total to.chain Cond (suc room) s.names s.rest (c.stands.token ∷ u.rest) ns x.0)
                          (sym c.names_are)
                          (subst (λ us. IsExpr total to.chain Cond (suc room) s.names s.rest us x.1.names x.0)
                          c.stands.ts_are d) in
                          let m = moved_expr to d' (c.stands.token ∷ v.whole.all) in
                          record {
                            ends = v.ends;
                            whole = along end v.whole (t ∷ m.all) (more_swapped (joined m.swapped (more_swapped at_tail)))
                                (omega arith) v.whole.after (λ total' later late z.
                                let y = m.is total' later in
                                (_, g.case is y.1 c.stands.is z.1, (deep room to.spare, y.2, deep room to.spare, z.2)));
                          }
                      | inr r ↦ let (y, body, made) = r in absurd cc
                    ]
              ]
        ]

    default_viable : (t : Token) (token : ℕ) (s : State) (e : Fault) → IsKeyword keyword.Default t
        → reading.default_with total inner token s ≡ Err e
        → (end : List Token) → ViableStmt to total (suc (suc room)) s.names (t ∷ s.rest) e end
    unfolding reading.default_with
    default_viable t token s e is h end =
        let put : List Token = mark_token mark.Colon ∷ mark_token mark.Semicolon ∷ end in
        elim (bind_err (expect_mark total mark.Colon s) (λ s'. inner s' >>= λ y. Ok (stmt.Default token y.0, y.1)) e h) [
          | inl p ↦ record {
            ends = false;
            whole = put_along put end (mark_missed total mark.Colon s e p) (t ∷ put) (more_swapped at_tail) (omega arith) s.names
                (λ total' later late.
                let y = empty_stmt to total' later (raised to.spare (suc room)) two_left s.names end (omega (arith, late)) in
                (_, g.default is refl y.1, (deep room to.spare, (λ _. late), y.2)));
          }
          | inr p ↦
              let (u, colon, on) = p in
              let c = expect_mark_is total mark.Colon s u colon in
              elim (bind_err (inner u) (λ y. Ok (stmt.Default token y.0, y.1)) e on) [
                | inl q ↦
                    let v = inner_viable u e q end in
                    record {
                      ends = v.ends;
                      whole = placed (λ ns. StmtAt to v.ends (suc (suc room)) ns) c.names_are (ap (λ us. t ∷ us) c.stands.ts_are)
                          (along end v.whole (t ∷ c.stands.token ∷ v.whole.all) (more_swapped (more_swapped at_tail))
                          (omega arith) v.whole.after
                          (λ total' later late z.
                          (_, g.default is c.stands.is z.1, (deep room to.spare, deep room to.spare, z.2))));
                    }
                | inr q ↦ let (y, body, made) = q in absurd cc
              ]
        ]

    -- a keyword alone, and its semicolon is missed
    alone_missed : (a : Stmt) (s : State) (e : Fault) → reading.word_alone total a s ≡ Err e → fault_at e ≡ number_of total s.rest
    unfolding reading.word_alone
    alone_missed a s e h =
        elim (bind_err (expect_mark total mark.Semicolon s) (λ s'. Ok (a, s')) e h) [
          | inl p ↦ mark_missed total mark.Semicolon s e p
          | inr p ↦ let (s', stops, made) = p in absurd cc
        ]

    break_viable : (t : Token) (a : Stmt) (s : State) (e : Fault) → IsKeyword keyword.Break t
        → reading.word_alone total a s ≡ Err e
        → (end : List Token) → ViableStmt to total (suc (suc room)) s.names (t ∷ s.rest) e end
    break_viable t a s e is h end =
        let put : List Token = mark_token mark.Semicolon ∷ end in
        record {
          ends = false;
          whole = put_along put end (alone_missed a s e h) (t ∷ put) (more_swapped at_tail) (omega arith) s.names
              (λ total' later late. (_, g.break is refl, (deep room to.spare, λ _. late)));
        }

    continue_viable : (t : Token) (a : Stmt) (s : State) (e : Fault) → IsKeyword keyword.Continue t
        → reading.word_alone total a s ≡ Err e
        → (end : List Token) → ViableStmt to total (suc (suc room)) s.names (t ∷ s.rest) e end
    continue_viable t a s e is h end =
        let put : List Token = mark_token mark.Semicolon ∷ end in
        record {
          ends = false;
          whole = put_along put end (alone_missed a s e h) (t ∷ put) (more_swapped at_tail) (omega arith) s.names
              (λ total' later late. (_, g.continue is refl, (deep room to.spare, λ _. late)));
        }

    return_viable : (t : Token) (token : ℕ) (s : State) (e : Fault) → IsKeyword keyword.Return t
        → reading.return_with total to.chain (suc room) token s ≡ Err e
        → (end : List Token) → ViableStmt to total (suc (suc room)) s.names (t ∷ s.rest) e end
    unfolding reading.return_with
    return_viable t token s e is h end =
        elim (bind_err (reading.optional total to.chain (suc room) mark.Semicolon s) (λ x. Ok (stmt.Return token x.0, x.1)) e h) [
          | inl p ↦
              let v = optional_viable to total sound below (suc room) mark.Semicolon s e p end in
              record {
                ends = false;
                whole = led t end v (omega arith) v.after
                    (λ total' later late x. (
                      _,
                      g.return is x.1 refl,
                      (deep room to.spare, x.2, λ _. let y = v.room_there in omega (arith, late, y)),
                    ));
              }
          | inr p ↦ let (x, there, made) = p in absurd cc
        ]

    express_viable : (s : State) (e : Fault) → reading.express_with total to.chain (suc room) s ≡ Err e → (end : List Token)
        → ViableStmt to total (suc (suc room)) s.names s.rest e end
    unfolding reading.express_with
    express_viable s e h end =
        elim (bind_err (reading.optional total to.chain (suc room) mark.Semicolon s)
        (λ x. Ok (stmt.Express (here total s) x.0, x.1)) e h) [
          | inl p ↦
              let v = optional_viable to total sound below (suc room) mark.Semicolon s e p end in
              record {
                ends = false;
                whole = onto end v (omega arith) v.after
                    (λ total' later late x. (_, g.express x.1 refl, (x.2, λ _. let y = v.room_there in omega (arith, late, y))));
              }
          | inr p ↦ let (x, there, made) = p in absurd cc
        ]

    less_one : suc room - 1 ≡ room
    less_one = omega arith

    word_viable : (names : Names) (t : Token) (ts : List Token) (w : Keyword) (e : Fault) → IsKeyword w t
        → reading.by_keyword total to.chain inner (suc room) (Some w) (at_state names (t ∷ ts)) ≡ Err e → (end : List Token)
        → ViableStmt to total (suc (suc room)) names (t ∷ ts) e end
    word_viable names t ts keyword.If e is h end =
        if_viable t (number_of total (t ∷ ts)) (at_state names ts) e is
        (subst (λ n. reading.if_with total to.chain inner n (number_of total (t ∷ ts)) (at_state names ts) ≡ Err e) less_one h)
        end
    word_viable names t ts keyword.While e is h end =
        while_viable t (number_of total (t ∷ ts)) (at_state names ts) e is
        (subst (λ n. reading.while_with total to.chain inner n (number_of total (t ∷ ts)) (at_state names ts) ≡ Err e) less_one h)
        end
    word_viable names t ts keyword.Do e is h end =
        do_viable t (number_of total (t ∷ ts)) (at_state names ts) e is
        (subst (λ n. reading.do_with total to.chain inner n (number_of total (t ∷ ts)) (at_state names ts) ≡ Err e) less_one h)
        end
    word_viable names t ts keyword.For e is h end =
        for_viable t (number_of total (t ∷ ts)) (at_state names ts) e is
        (subst (λ n. reading.for_with total to.chain inner n (number_of total (t ∷ ts)) (at_state names ts) ≡ Err e) less_one h)
        end
    word_viable names t ts keyword.Switch e is h end =
        switch_viable t (number_of total (t ∷ ts)) (at_state names ts) e is
        (subst (λ n. reading.switch_with total to.chain inner n (number_of total (t ∷ ts)) (at_state names ts) ≡ Err e)
        less_one h) end
    word_viable names t ts keyword.Case e is h end = case_viable t (number_of total (t ∷ ts)) (at_state names ts) e is h end
    word_viable names t ts keyword.Default e is h end = default_viable t (number_of total (t ∷ ts)) (at_state names ts) e is h end
    word_viable names t ts keyword.Break e is h end =
        break_viable t (stmt.Break (number_of total (t ∷ ts))) (at_state names ts) e is h end
    word_viable names t ts keyword.Continue e is h end =
        continue_viable t (stmt.Continue (number_of total (t ∷ ts))) (at_state names ts) e is h end
    word_viable names t ts keyword.Return e is h end = return_viable t (number_of total (t ∷ ts)) (at_state names ts) e is h end
    word_viable names t ts _ e is h end = express_viable (at_state names (t ∷ ts)) e h end

    first_viable : (names : Names) (t : Token) (ts : List Token) (o : Option Keyword) (e : Fault) → keyword_of t.kind ≡ o
        → reading.by_keyword total to.chain inner (suc room) o (at_state names (t ∷ ts)) ≡ Err e → (end : List Token)
        → ViableStmt to total (suc (suc room)) names (t ∷ ts) e end
    first_viable names t ts (Some w) e found h end =
        word_viable names t ts w e (keyword_kind total to.chain sound room inner inner_sound t.kind w found) h end
    first_viable names t ts None e found h end = express_viable (at_state names (t ∷ ts)) e h end

    front_viable : (names : Names) (ts : List Token) (e : Fault)
        → reading.by_keyword total to.chain inner (suc room) (keyword_at ts) (at_state names ts) ≡ Err e → (end : List Token)
        → ViableStmt to total (suc (suc room)) names ts e end
    front_viable names [] e h end = express_viable (at_state names []) e h end
    front_viable names (t ∷ ts) e h end = first_viable names t ts (keyword_of t.kind) e refl h end

  -- ---- blocks

  -- what stands in a block, where its first part isn't read
  item_viable : (room : ℕ) (inner : Reader Stmt) → ViableReader room inner → (s : State) (e : Fault)
      → reading.item total to.chain inner room s ≡ Err e
      → (end : List Token) → Viable (ItemsAt to room s.names) total s.rest e end
  unfolding reading.item
  item_viable room inner inner_viable s e h end =
      elim (cond_is (sees_type s.names s.rest) (reading.decl total to.chain room s >>= λ x. Ok (an_item.Declaration x.0, x.1))
      (inner s >>= λ x. Ok (an_item.Statement x.0, x.1)) (Err e) h) [
        | inl p ↦
            elim (bind_err (reading.decl total to.chain room s) (λ x. Ok (an_item.Declaration x.0, x.1)) e p.1) [
              | inl q ↦
                  let v = decl_viable to total sound below room s e q end in
                  onto end v (omega arith) v.after (λ total' later late x. (_, g.declaration_item x.1 g.no_items, (x.2, tt)))
              | inr q ↦ let (x, there, made) = q in absurd cc
            ]
        | inr p ↦
            elim (bind_err (inner s) (λ x. Ok (an_item.Statement x.0, x.1)) e p.1) [
              | inl q ↦
                  let v = inner_viable s e q end in
                  onto end v.whole (omega arith) v.whole.after
                  (λ total' later late x. (_, g.statement_item x.1 g.no_items, (x.2, tt)))
              | inr q ↦ let (x, there, made) = q in absurd cc
            ]
      ]

  -- what stands in a block, behind what was read
  behind_item : (room : ℕ) (inner : Reader Stmt) → SoundStmt total to.chain sound room inner
      → (s : State) (y : BlockItem Stmt × State)
      → reading.item total to.chain inner room s ≡ Ok y → (e : Fault) (end : List Token)
      → Viable (ItemsAt to room y.1.names) total y.1.rest e end
      → Viable (ItemsAt to room s.names) total s.rest e end
  unfolding reading.item
  behind_item room inner inner_sound s y h e end =
      let P : BlockItem Stmt × State → Type 0 = λ y. Viable (ItemsAt to room y.1.names) total y.1.rest e end
      → Viable (ItemsAt to room s.names) total s.rest e end in
      elim (cond_is (sees_type s.names s.rest) (reading.decl total to.chain room s >>= λ x. Ok (an_item.Declaration x.0, x.1))
      (inner s >>= λ x. Ok (an_item.Statement x.0, x.1)) (Ok y) h) [
        | inl p ↦
            let (x, there, made) = bind_ok (reading.decl total to.chain room s) (λ x. Ok (an_item.Declaration x.0, x.1)) y p.1 in
            let d : IsDecl total to.chain room s.names s.rest x.1.rest x.1.names x.0 =
            decl_sound total to.chain sound room s x there in
            moved P (λ v. behind_part end v (moved_decl to d v.all) (omega arith) v.after
            (λ total' later late a b. (_, g.declaration_item a.1 b.1, (a.2, b.2)))) made
        | inr p ↦
            let (x, there, made) = bind_ok (inner s) (λ x. Ok (an_item.Statement x.0, x.1)) y p.1 in
            let f : StmtFound total to.chain sound room s.names s.rest x = inner_sound s x there in
            moved P (λ v. behind_part end v (moved_stmt to f.is v.all) (omega arith) v.after
            (λ total' later late a b. (_, g.statement_item a.1 b.1, (a.2, b.2)))) made
      ]

  items_viable : (room : ℕ) (inner : Reader Stmt) → SoundStmt total to.chain sound room inner → ViableReader room inner
      → (count : ℕ) (front : List (BlockItem Stmt))
      (s : State) (e : Fault) → reading.items total to.chain inner room count front s ≡ Err e → (end : List Token)
      → Viable (ItemsAt to room s.names) total s.rest e end
  unfolding reading.items
  items_viable room inner inner_sound inner_viable zero front s e h end =
      elim (bind_err (reading.item total to.chain inner room s) (λ x. Err (Unexpected (here total x.1))) e h) [
        | inl q ↦ item_viable room inner inner_viable s e q end
        | inr q ↦
            let (x, there, stops) = q in
            let same : Unexpected (number_of total x.1.rest) ≡ e = err_is stops in
            behind_item room inner inner_sound s x there e end
            (put_here end end (ap fault_at (sym same)) (omega arith) x.1.names (λ total' later late. (_, g.no_items, tt)))
      ]
  items_viable room inner inner_sound inner_viable (suc count) front s e h end =
      elim (cond_is (sees_mark mark.CloseBrace s.rest) (Ok (front, behind s))
      (reading.item total to.chain inner room s >>= λ x. reading.items total to.chain inner room count (front ++ x.0 ∷ []) x.1)
      (Err e) h) [
        | inl p ↦ absurd (let x = p.1 in cc)
        | inr p ↦
            elim (bind_err (reading.item total to.chain inner room s)
            (λ x. reading.items total to.chain inner room count (front ++ x.0 ∷ []) x.1) e p.1) [
              | inl q ↦ item_viable room inner inner_viable s e q end
              | inr q ↦
                  let (x, there, go) = q in
                  behind_item room inner inner_sound s x there e end
                  (items_viable room inner inner_sound inner_viable count (front ++ x.0 ∷ []) x.1 e go end)
            ]
      ]

  block_viable : (room : ℕ) (inner : Reader Stmt) → SoundStmt total to.chain sound room inner → ViableReader room inner
      → (s : State) (e : Fault)
      → sees_mark mark.OpenBrace s.rest ≡ true → reading.block_with total to.chain inner room s ≡ Err e → (end : List Token)
      → ViableStmt to total (suc room) s.names s.rest e end
  unfolding reading.block_with
  block_viable room inner inner_sound inner_viable s e sees h end =
      let o = sees_mark_is mark.OpenBrace s.rest sees in
      elim (bind_err (reading.items total to.chain inner room (length (tail s.rest)) [] (behind s))
      (λ x. Ok (stmt.Block (here total s) x.0, left s.names x.1)) e h) [
        | inl p ↦
            let v = items_viable room inner inner_sound inner_viable (length (tail s.rest)) [] (behind s) e p
            (mark_token mark.CloseBrace ∷ end) in
            record {
              ends = false;
              whole = at_front o.ts_are (led o.token end v (omega arith) s.names
                  (λ total' later late x. (
                    _,
                    g.block o.is x.1 refl,
                    (deep room to.spare, x.2, λ _. let y = v.room_there in omega (arith, late, y)),
                  )));
            }
        | inr p ↦ let (x, there, made) = p in absurd cc
      ]

  -- an empty statement in place of one that isn't there
  stmt_missed : (room : ℕ) (s : State) (e : Fault) → fault_at e ≡ number_of total s.rest → (end : List Token)
      → ViableStmt to total room s.names s.rest e end
  stmt_missed room s e stops end = record {
    ends = false;
    whole = put_here (mark_token mark.Semicolon ∷ end) end stops (omega arith) s.names
        (λ total' later late. empty_stmt to total' later (raised to.spare room) (let x = much to room in omega (arith, x))
        s.names end late);
  }

  cramped_at : (s : State) (e : Fault) → reading.cramped total s ≡ e → fault_at e ≡ number_of total s.rest
  unfolding reading.cramped
  cramped_at s e h = elim (sees_simple s.names s.rest) as (λ b. cond b (too_deep total s) (Unexpected (here total s)) ≡ e → fault_at e ≡ number_of total s.rest) [
    | true ↦ λ h. deep_at total s e h
    | false ↦ λ h. ap fault_at (sym h)
  ] h

  simple_viable : (room : ℕ) (inner : Reader Stmt) → SoundStmt total to.chain sound room inner → ViableReader room inner
      → (s : State) (e : Fault)
      → reading.simple total to.chain inner room s ≡ Err e → (end : List Token)
      → ViableStmt to total (suc room) s.names s.rest e end
  unfolding reading.simple
  simple_viable zero inner inner_sound inner_viable s e h end =
      elim (cond_is (nat_eq 0 0) (Err (reading.cramped total s)) (reading.by_keyword total to.chain inner 0 (keyword_at s.rest) s)
      (Err e) h) [
        | inl p ↦ stmt_missed 1 s e (cramped_at s e (err_is p.1)) end
        | inr p ↦ absurd (let x = p.0 in cc)
      ]
  simple_viable (suc room) inner inner_sound inner_viable s e h end =
      elim (cond_is (nat_eq (suc room) 0) (Err (reading.cramped total s))
      (reading.by_keyword total to.chain inner (suc room) (keyword_at s.rest) s) (Err e) h) [
        | inl p ↦ absurd (let no = some_room room in let x = p.0 in cc)
        | inr p ↦ front_viable room inner inner_sound inner_viable s.names s.rest e p.1 end
      ]

  pub statement_viable : (room : ℕ) → ViableReader room (reading.statement total to.chain room)
  unfolding reading.statement
  statement_viable zero s e h end = stmt_missed 0 s e (deep_at total s e (err_is h)) end
  statement_viable (suc room) s e h end =
      elim (cond_is (sees_mark mark.OpenBrace s.rest)
      (reading.block_with total to.chain (reading.statement total to.chain room) room s)
      (reading.simple total to.chain (reading.statement total to.chain room) room s) (Err e) h) [
        | inl p ↦
            block_viable room (reading.statement total to.chain room) (statement_sound total to.chain sound room)
            (statement_viable room) s e p.0 p.1 end
        | inr p ↦
            simple_viable room (reading.statement total to.chain room) (statement_sound total to.chain sound room)
            (statement_viable room) s e p.1 end
      ]

  -- what stands behind the brace that opens a block
  pub block_items_viable : (room : ℕ) (s : State) (e : Fault)
      → reading.items total to.chain (reading.statement total to.chain room) room (length s.rest) [] s ≡ Err e
      → (end : List Token)
      → Viable (ItemsAt to room s.names) total s.rest e end
  block_items_viable room s e h end =
      items_viable room (reading.statement total to.chain room) (statement_sound total to.chain sound room)
      (statement_viable room) (length s.rest) [] s e h end
