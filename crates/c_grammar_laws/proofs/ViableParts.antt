-- Where a part of a statement isn't read, it is viable.
use Rattle.std.proofs.Common.{◌≡◌, ℕ, zero, suc, ◌≤◌, inl, inr, false, nat_eq, Option, Some, None, Ok, Err, List, ◌∷◌, length, refl, sym, ap, subst, arith}
use Rattle.c_lex.specs.declared.token.Token.{Token}
use Rattle.c_lex.specs.declared.token.Keyword.{Keyword}
use Rattle.c_lex.specs.declared.token.Mark.{Mark}
use Rattle.c_lex.specs.declared.token.Mark.TheVariants as mark
use Rattle.c_ast.specs.declared.expression.Expr.{Expr}
use Rattle.c_ast.specs.declared.statement.Stmt.{Stmt}
use Rattle.c_ast.specs.declared.statement.ForStart.{ForStart}
use Rattle.c_ast.specs.declared.statement.ForStart.TheVariants as start
use Rattle.c_grammar.specs.declared.phrases.Extent.TheVariants as extent
use Rattle.c_grammar.specs.declared.phrases.Head.{Head}
use Rattle.c_grammar.specs.Names.{Names}
use Rattle.c_grammar.specs.Words.{IsMark, number_of}
use Rattle.c_grammar.specs.Grammar as g
use Rattle.c_grammar.specs.Grammar.{Cond, IsExpr, IsDecl, IsOptional, IsForStart, IsTest, IsStmt, AreItems}
use Rattle.c_grammar.specs.Nesting.{Stands, optional_stands, for_start_stands, test_stands, stmt_stands}
use Rattle.c_grammar.specs.Reading.{State, Fault, Unexpected, ◌>>=◌, sees_mark, sees_keyword, behind, here, expect_mark, expect_keyword}
use Rattle.c_grammar.specs.ReadingExpr.{sees_type}
use Rattle.c_grammar.specs.ReadingDecl.{too_deep}
use Rattle.c_grammar.specs.Levels.{readers}
use Rattle.c_grammar.specs.ReadingStmt.{left, keyword_of, keyword_at}
use Rattle.c_grammar.specs.ReadingStmt as reading
use Rattle.c_grammar.proofs.Late.{raised}
use Rattle.c_grammar.proofs.Laws.{Sound}
use Rattle.c_grammar_laws.proofs.ExprFound.{cond_is, expect_mark_is}
use Rattle.c_grammar_laws.proofs.SpecsPartsRead.{some_room}
use Rattle.c_grammar_laws.proofs.StmtSound.{optional_sound, for_start_sound}
use Rattle.c_grammar_laws.proofs.Deep.{Deeper, bounds, Swapped, at_tail, more_swapped, joined, deep, none_left, OptionalAt, ForStartAt, TestAt}
use Rattle.c_grammar_laws.proofs.Moves.{moved_optional, moved_for_start}
use Rattle.c_grammar_laws.proofs.Viable.{Viable, Viables, fault_at, bind_err, err_is, deep_at, mark_missed, onto, led, behind_part, put_here, mark_token, number_token, zero_comma, raised_big}
use Rattle.c_grammar_laws.proofs.ViableExpr.{then_mark}
use Rattle.c_grammar_laws.proofs.ViableDecl.{at_front, decl_viable}

pub keyword_missed : (total : ℕ) (k : Keyword) (s : State) (e : Fault) → expect_keyword total k s ≡ Err e
    → fault_at e ≡ number_of total s.rest
unfolding expect_keyword
keyword_missed total k s e h =
    elim (cond_is (sees_keyword k s.rest) (Ok (behind s)) (Err (Unexpected (here total s))) (Err e) h) [
      | inl p ↦ absurd (let x = p.1 in cc)
      | inr p ↦ let same : Unexpected (number_of total s.rest) ≡ e = err_is p.1 in ap fault_at (sym same)
    ]

-- the same place, written otherwise
pub placed : (At : Names → ℕ → ℕ → List Token → List Token → Names → Type 0) {names names' : Names} {total : ℕ}
    {us ts : List Token} {e : Fault} {end : List Token}
    → names' ≡ names → ts ≡ us → Viable (At names') total us e end → Viable (At names) total ts e end
placed At {total = total} {ts = ts} {e = e} {end = end} same these v =
    subst (λ ns. Viable (At ns) total ts e end) same (at_front these v)

-- behind tokens and parts that were read
abbrev pub along : {A B : ℕ → ℕ → List Token → List Token → Names → Type 0} {total : ℕ} {ts mid : List Token} {e : Fault}
    {long : List Token}
    (end : List Token) (v : Viable A total mid e long) (all : List Token) → Swapped mid v.all ts all → length end ≤ length long
    → (after : Names)
    → ((total' later : ℕ) → length v.put ≤ later → A total' later v.all long v.after → B total' later all end after)
    → Viable B total ts e end
along end v all swapped less after on = record {
  from = v.from;
  stops = v.stops;
  put = v.put;
  room_there = let x = v.room_there in omega (arith, less, x);
  all = all;
  swapped = joined swapped v.swapped;
  after = after;
  is = λ total' later late. on total' later late (v.is total' later late);
}

-- tokens that are put behind tokens and parts that were read
abbrev pub put_along : {B : ℕ → ℕ → List Token → List Token → Names → Type 0} {total : ℕ} {ts mid : List Token} {e : Fault}
    (put end : List Token)
    → fault_at e ≡ number_of total mid → (all : List Token) → Swapped mid put ts all → length end ≤ length put → (after : Names)
    → ((total' later : ℕ) → length put ≤ later → B total' later all end after) → Viable B total ts e end
put_along {mid = mid} put end stops all swapped less after is =
    record { from = mid; stops = stops; put = put; room_there = less; all = all; swapped = swapped; after = after; is = is }

-- ---- what is put in a place

pub much : (to : Deeper) (room : ℕ) → 4 ≤ raised to.spare room
much to room = let x = raised_big to.spare room in let y = to.deeper in omega (arith, x, y)

-- `( 0 )`
abbrev pub zero_in_parens : List Token → List Token
zero_in_parens end = mark_token mark.OpenParen ∷ number_token ∷ mark_token mark.CloseParen ∷ end

pub zero_test : (to : Deeper) (total later room : ℕ) → 2 ≤ room → (names : Names) (end : List Token)
    → length (zero_in_parens end) ≤ later
    → (tree : Expr) × (d : IsTest total to.wide room names (zero_in_parens end) end names tree) × test_stands (bounds to later) d
zero_test to total later zero more names end late = absurd (omega (arith, more))
zero_test to total later (suc room) more names end late =
    let less : length (number_token ∷ mark_token mark.CloseParen ∷ end) ≤ later = omega (arith, late) in
    let x = zero_comma to total later room (omega (arith, more)) names (mark_token mark.CloseParen ∷ end) less in
    (_, g.test refl x.1 refl, (λ h. late, x.2, λ h. omega (arith, late)))

-- `;`
pub empty_start : (to : Deeper) (total later room : ℕ) → 1 ≤ room → (names : Names) (end : List Token)
    → length (mark_token mark.Semicolon ∷ end) ≤ later
    → (tree : ForStart) × (d : IsForStart total to.wide room names (mark_token mark.Semicolon ∷ end) end names tree)
    × for_start_stands (bounds to later) d
empty_start to total later zero more names end late = absurd (omega (arith, more))
empty_start to total later (suc room) more names end late = (_, g.expression g.IsOptional.none refl, (tt, λ h. late))

pub empty_stmt : (to : Deeper) (total later room : ℕ) → 2 ≤ room → (names : Names) (end : List Token)
    → length (mark_token mark.Semicolon ∷ end) ≤ later
    → (tree : Stmt) × (d : IsStmt total to.wide false room names (mark_token mark.Semicolon ∷ end) end names tree)
    × stmt_stands (bounds to later) d
empty_stmt to total later zero more names end late = absurd (omega (arith, more))
empty_stmt to total later (suc zero) more names end late = absurd (omega (arith, more))
empty_stmt to total later (suc (suc room)) more names end late = (_, g.express g.IsOptional.none refl, (tt, λ h. late))

-- ---- parts of statements

-- what stands in the parentheses of a `for`, and the one that closes them
pub record HeadAt (to : Deeper) (room : ℕ) (names : Names) (total later : ℕ) (ts rest : List Token) (after : Names) : Type 0 where
  pub n : Names
  pub m : Names
  pub mid : List Token
  pub others : List Token
  pub semicolon : Token
  pub close : Token
  pub start_tree : ForStart
  pub test_tree : Option Expr
  pub step_tree : Option Expr
  pub ends : IsMark mark.Semicolon semicolon
  pub closes : IsMark mark.CloseParen close
  pub start_is : IsForStart total to.wide (raised to.spare room) names ts mid n start_tree
  pub test_is : IsOptional total to.wide (raised to.spare room) n mid (semicolon ∷ others) m test_tree
  pub step_is : IsOptional total to.wide (raised to.spare room) m others (close ∷ rest) after step_tree
  pub starts : for_start_stands (bounds to later) start_is
  pub tests : optional_stands (bounds to later) test_is
  pub semicolon_stands : Stands (bounds to later) (raised to.spare room) (semicolon ∷ others)
  pub steps : optional_stands (bounds to later) step_is
  pub close_stands : Stands (bounds to later) (suc (raised to.spare room)) (close ∷ rest)

-- `; ; )`
abbrev pub empty_head : List Token → List Token
empty_head end = mark_token mark.Semicolon ∷ mark_token mark.Semicolon ∷ mark_token mark.CloseParen ∷ end

pub empty_head_is : (to : Deeper) (total later room : ℕ) (names : Names) (end : List Token) → length (empty_head end) ≤ later
    → HeadAt to room names total later (empty_head end) end names
empty_head_is to total later room names end late =
    let less : length (mark_token mark.Semicolon ∷ mark_token mark.CloseParen ∷ end) ≤ later = omega (arith, late) in
    let x = empty_start to total later (raised to.spare room) (let y = much to room in omega (arith, y)) names
    (mark_token mark.Semicolon ∷ mark_token mark.CloseParen ∷ end) late in
    record {
      n = names;
      m = names;
      mid = mark_token mark.Semicolon ∷ mark_token mark.CloseParen ∷ end;
      others = mark_token mark.CloseParen ∷ end;
      semicolon = mark_token mark.Semicolon;
      close = mark_token mark.CloseParen;
      start_tree = x.0;
      test_tree = None;
      step_tree = None;
      ends = refl;
      closes = refl;
      start_is = x.1;
      test_is = g.IsOptional.none;
      step_is = g.IsOptional.none;
      starts = x.2;
      tests = tt;
      semicolon_stands = λ _. less;
      steps = tt;
      close_stands = λ _. omega (arith, less);
    }

module _ (to : Deeper) (total : ℕ) (sound : (room : ℕ) → Sound total to.chain room (readers total to.chain room))
    (below : (room : ℕ) → Viables to total room (readers total to.chain room)) where
  pub optional_viable : (room : ℕ) (m : Mark) (s : State) (e : Fault) → reading.optional total to.chain room m s ≡ Err e
      → (end : List Token)
      → Viable (OptionalAt to room s.names) total s.rest e (mark_token m ∷ end)
  unfolding reading.optional
  optional_viable room m s e h end =
      elim (cond_is (sees_mark m s.rest) (Ok (None, behind s))
      ((readers total to.chain room).expr extent.Comma s >>= λ x. expect_mark total m x.1 >>= λ s'. Ok (Some x.0, s')) (Err e) h) [
        | inl p ↦ absurd (let x = p.1 in cc)
        | inr p ↦
            let v = then_mark to total room (readers total to.chain room) (sound room) (below room) extent.Comma m s e
            (λ x s'. (Some x.0, s')) end p.1 in
            onto (mark_token m ∷ end) v.whole (omega arith) v.whole.after (λ total' later late x. (_, g.IsOptional.some x.1, x.2))
      ]

  pub test_viable : (room : ℕ) (s : State) (e : Fault) → reading.bracketed total to.chain room s ≡ Err e → (end : List Token)
      → Viable (TestAt to (suc room) s.names) total s.rest e end
  unfolding reading.bracketed
  test_viable room s e h end =
      elim (bind_err (expect_mark total mark.OpenParen s)
      (λ start. (readers total to.chain room).expr extent.Comma start >>= λ x. expect_mark total mark.CloseParen x.1
      >>= λ s'. Ok (x.0, s')) e h) [
        | inl p ↦
            put_here (zero_in_parens end) end (mark_missed total mark.OpenParen s e p) (omega arith) s.names
            (λ total' later late. zero_test to total' later (suc (raised to.spare room))
            (let x = much to room in omega (arith, x)) s.names end late)
        | inr p ↦
            let (u, opens, go) = p in
            let o = expect_mark_is total mark.OpenParen s u opens in
            let v = then_mark to total room (readers total to.chain room) (sound room) (below room) extent.Comma mark.CloseParen u
            e (λ x s'. (x.0, s')) end go in
            placed (λ ns. TestAt to (suc room) ns) o.names_are o.stands.ts_are
            (led o.stands.token end v.whole (omega arith) v.whole.after
            (λ total' later late x. (
              _,
              g.test o.stands.is x.1 refl,
              (deep room to.spare, x.2, λ _. let y = v.whole.room_there in omega (arith, late, y)),
            )))
      ]

  pub for_start_viable : (room : ℕ) (s : State) (e : Fault) → reading.for_start total to.chain (suc room) s ≡ Err e
      → (end : List Token)
      → Viable (ForStartAt to (suc room) s.names) total s.rest e end
  unfolding reading.for_start
  for_start_viable room s e h end =
      elim (cond_is (sees_type s.names s.rest) (reading.decl total to.chain (suc room) s >>= λ x. Ok (start.Declaration x.0, x.1))
      (reading.optional total to.chain (suc room) mark.Semicolon s >>= λ x. Ok (start.Expression x.0, x.1)) (Err e) h) [
        | inl p ↦
            elim (bind_err (reading.decl total to.chain (suc room) s) (λ x. Ok (start.Declaration x.0, x.1)) e p.1) [
              | inl q ↦
                  let v = decl_viable to total sound below (suc room) s e q end in
                  onto end v (omega arith) v.after (λ total' later late x. (_, g.IsForStart.declaration x.1, x.2))
              | inr q ↦ let (x, there, made) = q in absurd cc
            ]
        | inr p ↦
            elim (bind_err (reading.optional total to.chain (suc room) mark.Semicolon s)
            (λ x. Ok (start.Expression x.0, x.1)) e p.1) [
              | inl q ↦
                  let v = optional_viable (suc room) mark.Semicolon s e q end in
                  onto end v (omega arith) v.after
                  (λ total' later late x. (_, g.expression x.1 refl, (x.2, λ _. let y = v.room_there in omega (arith, late, y))))
              | inr q ↦ let (x, there, made) = q in absurd cc
            ]
      ]

  -- behind the first part of what stands in the parentheses
  head_behind : (room : ℕ) (names : Names) (ts : List Token) (a : ForStart) (s : State) (e : Fault)
      → IsForStart total to.chain (suc room) names ts s.rest s.names a → (f : Option Expr → Option Expr → Head)
      → ◌>>=◌ {B = Head × State} (reading.optional total to.chain (suc room) mark.Semicolon s)
      (λ y. reading.optional total to.chain (suc room) mark.CloseParen y.1 >>= λ z. Ok (f y.0 z.0, z.1)) ≡ Err e
      → (end : List Token) → Viable (HeadAt to (suc room) names) total ts e end
  head_behind room names ts a s e d f h end =
      elim (bind_err (reading.optional total to.chain (suc room) mark.Semicolon s)
      (λ y. reading.optional total to.chain (suc room) mark.CloseParen y.1 >>= λ z. Ok (f y.0 z.0, z.1)) e h) [
        | inl p ↦
            let close : List Token = mark_token mark.CloseParen ∷ end in
            let v = optional_viable (suc room) mark.Semicolon s e p close in
            let m = moved_for_start to d v.all in
            behind_part end v m (omega arith) v.after (λ total' later late y z.
            record {
              n = s.names;
              m = v.after;
              mid = v.all;
              others = close;
              semicolon = mark_token mark.Semicolon;
              close = mark_token mark.CloseParen;
              start_tree = y.0;
              test_tree = z.0;
              step_tree = None;
              ends = refl;
              closes = refl;
              start_is = y.1;
              test_is = z.1;
              step_is = g.IsOptional.none;
              starts = y.2;
              tests = z.2;
              semicolon_stands = λ _. let x = v.room_there in omega (arith, late, x);
              steps = tt;
              close_stands = λ _. let x = v.room_there in omega (arith, late, x);
            })
        | inr p ↦
            let (b, there, go) = p in
            elim (bind_err (reading.optional total to.chain (suc room) mark.CloseParen b.1) (λ z. Ok (f b.0 z.0, z.1)) e go) [
              | inl q ↦
                  let v = optional_viable (suc room) mark.CloseParen b.1 e q end in
                  let o = optional_sound total to.chain sound (suc room) mark.Semicolon s b there in
                  let m1 = moved_optional to o.is (o.token ∷ v.all) in
                  let m0 = moved_for_start to d m1.all in
                  along end v m0.all (joined m0.swapped (joined m1.swapped (more_swapped at_tail))) (omega arith) v.after
                  (λ total' later late z.
                  let x = m0.is total' later in
                  let y = m1.is total' later in
                  record {
                    n = s.names;
                    m = b.1.names;
                    mid = m1.all;
                    others = v.all;
                    semicolon = o.token;
                    close = mark_token mark.CloseParen;
                    start_tree = x.0;
                    test_tree = y.0;
                    step_tree = z.0;
                    ends = o.ends;
                    closes = refl;
                    start_is = x.1;
                    test_is = y.1;
                    step_is = z.1;
                    starts = x.2;
                    tests = y.2;
                    semicolon_stands = none_left (suc room) to.spare (omega arith);
                    steps = z.2;
                    close_stands = λ _. let r = v.room_there in omega (arith, late, r);
                  })
              | inr q ↦ let (z, found, made) = q in absurd cc
            ]
      ]

  pub for_head_viable : (room : ℕ) (s : State) (e : Fault) → reading.for_head total to.chain room s ≡ Err e → (end : List Token)
      → Viable (HeadAt to room s.names) total s.rest e end
  unfolding reading.for_head
  for_head_viable zero s e h end =
      elim (cond_is (nat_eq 0 0) (Err (too_deep total s))
      (reading.for_start total to.chain 0 s
      >>= λ x. reading.optional total to.chain 0 mark.Semicolon x.1
      >>= λ y. reading.optional total to.chain 0 mark.CloseParen y.1
      >>= λ z. Ok (record { start = x.0; test = y.0; step = z.0 }, z.1)) (Err e) h) [
        | inl p ↦
            put_here (empty_head end) end (deep_at total s e (err_is p.1)) (omega arith) s.names
            (λ total' later late. empty_head_is to total' later 0 s.names end late)
        | inr p ↦ absurd (let x = p.0 in cc)
      ]
  for_head_viable (suc room) s e h end =
      elim (cond_is (nat_eq (suc room) 0) (Err (too_deep total s))
      (reading.for_start total to.chain (suc room) s
      >>= λ x. reading.optional total to.chain (suc room) mark.Semicolon x.1
      >>= λ y. reading.optional total to.chain (suc room) mark.CloseParen y.1
      >>= λ z. Ok (record { start = x.0; test = y.0; step = z.0 }, z.1)) (Err e) h) [
        | inl p ↦ absurd (let no = some_room room in let x = p.0 in cc)
        | inr p ↦
            elim (bind_err (reading.for_start total to.chain (suc room) s)
            (λ x. reading.optional total to.chain (suc room) mark.Semicolon x.1
            >>= λ y. reading.optional total to.chain (suc room) mark.CloseParen y.1
            >>= λ z. Ok (record { start = x.0; test = y.0; step = z.0 }, z.1)) e p.1) [
              | inl q ↦
                  let close : List Token = mark_token mark.CloseParen ∷ end in
                  let semicolon : List Token = mark_token mark.Semicolon ∷ close in
                  let v = for_start_viable room s e q semicolon in
                  onto end v (omega arith) v.after (λ total' later late x.
                  record {
                    n = v.after;
                    m = v.after;
                    mid = semicolon;
                    others = close;
                    semicolon = mark_token mark.Semicolon;
                    close = mark_token mark.CloseParen;
                    start_tree = x.0;
                    test_tree = None;
                    step_tree = None;
                    ends = refl;
                    closes = refl;
                    start_is = x.1;
                    test_is = g.IsOptional.none;
                    step_is = g.IsOptional.none;
                    starts = x.2;
                    tests = tt;
                    semicolon_stands = λ _. let y = v.room_there in omega (arith, late, y);
                    steps = tt;
                    close_stands = λ _. let y = v.room_there in omega (arith, late, y);
                  })
              | inr q ↦
                  let (a, there, go) = q in
                  head_behind room s.names s.rest a.0 a.1 e (for_start_sound total to.chain sound room s a there)
                  (λ b d. record { start = a.0; test = b; step = d }) go end
            ]
      ]
