-- How many instructions the code of each statement has.
use Rattle.std.proofs.Common.{◌≡◌, ℕ, ◌+◌, List, [], ◌∷◌, map, length, refl, sym, ap, ◌∙◌, subst, arith, length-append}
use Rattle.std.specs.Prelude.{Option, None, Some}
use Rattle.vm_code.specs.declared.instr.Instr.{Instr}
use Rattle.vm_code.specs.declared.instr.Instr.TheVariants as instr
use Rattle.c_types.specs.declared.expression.FullExpr.{FullExpr}
use Rattle.c_types.specs.declared.statement.Stmt.{Stmt, map-Stmt}
use Rattle.c_types.specs.declared.statement.Stmt.TheOpen.{Stmt-F}
use Rattle.c_types.specs.declared.statement.Stmt.TheViews.{roll-Stmt}
use Rattle.c_types.specs.declared.statement.Stmt.TheFolds.{fold-roll-Stmt, ind-Stmt}
use Rattle.c_types.specs.declared.statement.Declared.{Declared}
use Rattle.c_types.specs.declared.statement.Span.{Span}
use Rattle.c_types.specs.declared.statement.Store.{Store}
use Rattle.c_types.specs.declared.statement.Case.{Case}
use Rattle.codegen.specs.Layout.{Part, nothing, one, ◌then◌}
use Rattle.codegen.specs.Sizes.{expr_size, dropped_size, test_size, again_size, zeros_size, stores_size, declared_size, all_declared_size, return_size, cases_size}
use Rattle.codegen.specs.Statements.{Within, Targets, Piece, ticked, full_part, dropped_part, test_part, zeros_part, put_part, stores_part, declared_part, all_declared_part, again_part, continue_place, returned_part, in_order_part, sizes_of, case_part, cases_part, led_to, default_to, choice_part, stmt_step, stmt_piece}
use Rattle.codegen.proofs.Spanning.{Saying, Spans, spans_then}
use Rattle.codegen.proofs.Measuring.{measured}

-- wherever the part stands, it has so many instructions
pub record Sized (part : Part) (size : ℕ) : Type 0 where
  pub by : (place : ℕ) → length (part place) ≡ size

-- wherever a piece stands and its jumps lead, it has its size
pub record SizedPiece (p : Piece) : Type 0 where
  pub by : (t : Targets) (place : ℕ) → length (p.part t place) ≡ p.size

-- two parts stand one behind the other
pub spans_split : (says : Saying) (place after n : ℕ) (a b : Part) → Sized a n → Spans says place (a then b) after
    → Spans says place a (place + n) × Spans says (place + n) b after
spans_split says place after n a b sized sp =
    let parts = spans_then says place after a b sp in
    let e : parts.0 ≡ place + n = parts.3 ∙ ap (λ m. place + m) (sized.by place) in
    (subst (λ p. Spans says place a p) e parts.1, subst (λ p. Spans says p b after) e parts.2)

-- where a part ends
pub spans_end : (says : Saying) (place after n : ℕ) (a : Part) → Sized a n → Spans says place a after → after ≡ place + n
spans_end says place after n a sized sp = sp.after_is ∙ ap (λ m. place + m) (sized.by place)

pub sized_none : Sized nothing 0
sized_none = record { by = λ place. refl }

pub sized_one : (i : Instr) → Sized (one i) 1
sized_one i = record { by = λ place. refl }

pub sized_then : (a b : Part) (n m : ℕ) → Sized a n → Sized b m → Sized (a then b) (n + m)
unfolding ◌then◌
sized_then a b n m x y = record {
  by = λ place.
      let first = x.by place in
      let second = y.by (place + length (a place)) in
      omega (arith, first, second, length-append (a place) (b (place + length (a place))));
}

pub sized_piece : (p : Piece) (t : Targets) → SizedPiece p → Sized (p.part t) p.size
sized_piece p t x = record { by = λ place. x.by t place }

-- ---- the choice of a `switch`

pub sized_case : (to : ℕ) (c : Case) → Sized (case_part to c) 6
unfolding case_part
sized_case to c = record { by = λ place. refl }

pub sized_cases : (to : ℕ → ℕ) (cs : List Case) → Sized (cases_part to cs) (cases_size cs)
sized_cases to [] = sized_none
sized_cases to (c ∷ cs) = sized_then (case_part (to c.label) c) (cases_part to cs) 6 (cases_size cs) (sized_case (to c.label) c) (sized_cases to cs)

pub sized_choice : (to : ℕ → ℕ) (end : ℕ) (cs : List Case) (default : Option ℕ) → Sized (choice_part to end cs default) (cases_size cs + 2)
sized_choice to end cs default =
    sized_then (cases_part to cs) _ (cases_size cs) 2 (sized_cases to cs)
    (sized_then (one instr.Pop) (one (instr.Jump (default_to to end default))) 1 1 (sized_one _) (sized_one _))

module _ (w : Within) where
  pub sized_ticked : (line : ℕ) → Sized (ticked w line) 1
  sized_ticked line = record { by = λ place. refl }

  pub sized_full : (e : FullExpr) → Sized (full_part w e) (expr_size e.expr)
  sized_full e = record { by = (measured [] w.object e.expr).sized }

  pub sized_dropped : (e : Option FullExpr) → Sized (dropped_part w e) (dropped_size e)
  sized_dropped None = sized_none
  sized_dropped (Some e) = sized_then (full_part w e) (one instr.Pop) (expr_size e.expr) 1 (sized_full e) (sized_one instr.Pop)

  pub sized_test : (e : Option FullExpr) (end : ℕ) → Sized (test_part w e end) (test_size e)
  sized_test None end = sized_none
  sized_test (Some e) end = sized_then (full_part w e) (one (instr.JumpIfZero end)) (expr_size e.expr) 1 (sized_full e) (sized_one (instr.JumpIfZero end))

  pub sized_zeros : (span : Option Span) → Sized (zeros_part span) (zeros_size span)
  sized_zeros None = sized_none
  sized_zeros (Some span) = record { by = λ place. (sized_then (one (instr.Local span.offset)) (one (instr.Zero span.size)) 1 1 (sized_one _) (sized_one _)).by place }

  pub sized_stores : (ss : List Store) → Sized (stores_part w ss) (stores_size ss)
  sized_stores [] = sized_none
  sized_stores (a ∷ ss) = record {
    by = λ place.
        let rest = sized_then (one instr.Pop) (stores_part w ss) 1 (stores_size ss) (sized_one instr.Pop) (sized_stores ss) in
        let put = sized_then (one (put_part a.stored)) _ 1 _ (sized_one (put_part a.stored)) rest in
        let value = sized_then (full_part w a.value) _ (expr_size a.value.expr) _ (sized_full a.value) put in
        let all = (sized_then (one (instr.Local a.offset)) _ 1 _ (sized_one (instr.Local a.offset)) value).by place in
        omega (arith, all);
  }

  pub sized_declared : (d : Declared) → Sized (declared_part w d) (declared_size d)
  sized_declared d = record {
    by = λ place.
        let rest = sized_then (zeros_part d.zeros) (stores_part w d.stores) (zeros_size d.zeros) (stores_size d.stores) (sized_zeros d.zeros) (sized_stores d.stores) in
        let all = (sized_then (ticked w d.line) _ 1 _ (sized_ticked d.line) rest).by place in
        omega (arith, all);
  }

  pub sized_all_declared : (ds : List Declared) → Sized (all_declared_part w ds) (all_declared_size ds)
  sized_all_declared [] = sized_none
  sized_all_declared (d ∷ ds) =
      sized_then (declared_part w d) (all_declared_part w ds) (declared_size d) (all_declared_size ds) (sized_declared d) (sized_all_declared ds)

  pub sized_again : (line : ℕ) (e : Option FullExpr) → Sized (again_part w line e) (again_size e)
  sized_again line None = sized_none
  sized_again line (Some e) = record {
    by = λ place.
        let rest = sized_then (full_part w e) (one instr.Pop) (expr_size e.expr) 1 (sized_full e) (sized_one instr.Pop) in
        let told = sized_then (ticked w line) _ 1 _ (sized_ticked line) rest in
        let all = (sized_then (one (instr.Jump (place + 2))) _ 1 _ (sized_one (instr.Jump (place + 2))) told).by place in
        omega (arith, all);
  }

  pub sized_returned : (e : Option FullExpr) → Sized (returned_part w e) (return_size e)
  sized_returned None = sized_one (instr.Push 0)
  sized_returned (Some e) = sized_full e

  pub piece_roll : (x : Stmt-F Stmt) → stmt_piece w (roll-Stmt x) ≡ stmt_step w (map-Stmt Stmt Piece (stmt_piece w) x)
  unfolding stmt_piece
  piece_roll x = fold-roll-Stmt Piece (stmt_step w) x

  abbrev HasSize : Stmt → Type 0
  HasSize s = SizedPiece (stmt_piece w s)

  abbrev Known : Type 0
  Known = (s : Stmt) × HasSize s

  abbrev closed : Stmt-F Known → Stmt-F Stmt
  closed y = map-Stmt Known Stmt (λ p. p.0) y

  sized_in_order : (ss : List Known) → (t : Targets) → Sized (in_order_part (map (stmt_piece w) (map (λ p. p.0) ss)) t) (sizes_of (map (stmt_piece w) (map (λ p. p.0) ss)))
  sized_in_order [] t = sized_none
  sized_in_order (a ∷ ss) t = sized_then _ _ _ _ (sized_piece (stmt_piece w a.0) t a.1) (sized_in_order ss t)

  layer : (y : Stmt-F Known) → SizedPiece (stmt_step w (map-Stmt Stmt Piece (stmt_piece w) (closed y)))
  layer (Stmt-F.Empty line) = record { by = λ t place. refl }
  layer (Stmt-F.Express line e) = record {
    by = λ t place.
        let rest = sized_then (full_part w e) (one instr.Pop) (expr_size e.expr) 1 (sized_full e) (sized_one instr.Pop) in
        let all = (sized_then (ticked w line) _ 1 _ (sized_ticked line) rest).by place in
        omega (arith, all);
  }
  layer (Stmt-F.Declare d) = record { by = λ t place. (sized_declared d).by place }
  layer (Stmt-F.Block ss) = record { by = λ t place. (sized_in_order ss t).by place }
  layer (Stmt-F.If line e a None) = record {
    by = λ t place.
        let n = expr_size e.expr in
        let p = stmt_piece w a.0 in
        let test = one (instr.JumpIfZero (place + 1 + n + 1 + p.size)) in
        let rest = sized_then test (p.part t) 1 p.size (sized_one _) (sized_piece p t a.1) in
        let value = sized_then (full_part w e) _ n _ (sized_full e) rest in
        let all = (sized_then (ticked w line) _ 1 _ (sized_ticked line) value).by place in
        omega (arith, all);
  }
  layer (Stmt-F.If line e a (Some b)) = record {
    by = λ t place.
        let n = expr_size e.expr in
        let p = stmt_piece w a.0 in
        let q = stmt_piece w b.0 in
        let test = one (instr.JumpIfZero (place + 1 + n + 1 + p.size + 1)) in
        let jump = one (instr.Jump (place + 1 + n + 1 + p.size + 1 + q.size)) in
        let last = sized_then jump (q.part t) 1 q.size (sized_one _) (sized_piece q t b.1) in
        let first = sized_then (p.part t) _ p.size _ (sized_piece p t a.1) last in
        let rest = sized_then test _ 1 _ (sized_one _) first in
        let value = sized_then (full_part w e) _ n _ (sized_full e) rest in
        let all = (sized_then (ticked w line) _ 1 _ (sized_ticked line) value).by place in
        omega (arith, all);
  }
  layer (Stmt-F.While line e a) = record {
    by = λ t place.
        let n = expr_size e.expr in
        let p = stmt_piece w a.0 in
        let t' : Targets = record { to_break = place + (2 + n + 1 + p.size + 1); to_continue = place + 1 } in
        let last = sized_then (p.part t') (one (instr.Jump (place + 1))) p.size 1 (sized_piece p t' a.1) (sized_one _) in
        let rest = sized_then (one (instr.JumpIfZero (place + (2 + n + 1 + p.size + 1)))) _ 1 _ (sized_one _) last in
        let value = sized_then (full_part w e) _ n _ (sized_full e) rest in
        let test = sized_then (ticked w line) _ 1 _ (sized_ticked line) value in
        let all = (sized_then (ticked w line) _ 1 _ (sized_ticked line) test).by place in
        omega (arith, all);
  }
  layer (Stmt-F.Do line a e) = record {
    by = λ t place.
        let n = expr_size e.expr in
        let p = stmt_piece w a.0 in
        let end = place + (3 + n + 1 + p.size + 1) in
        let t' : Targets = record { to_break = end; to_continue = place + 2 } in
        let last = sized_then (p.part t') (one (instr.Jump (place + 2))) p.size 1 (sized_piece p t' a.1) (sized_one _) in
        let rest = sized_then (one (instr.JumpIfZero end)) _ 1 _ (sized_one _) last in
        let value = sized_then (full_part w e) _ n _ (sized_full e) rest in
        let test = sized_then (ticked w line) _ 1 _ (sized_ticked line) value in
        let jump = sized_then (one (instr.Jump (place + 3 + n + 1))) _ 1 _ (sized_one _) test in
        let all = (sized_then (ticked w line) _ 1 _ (sized_ticked line) jump).by place in
        omega (arith, all);
  }
  layer (Stmt-F.For line ds start test step a) = record {
    by = λ t place.
        let p = stmt_piece w a.0 in
        let before = 1 + all_declared_size ds + dropped_size start in
        let behind = before + 1 + test_size test + p.size in
        let end = place + (behind + again_size step + 1) in
        let t' : Targets = record { to_break = end; to_continue = continue_place step (place + before) (place + behind + 2) } in
        let last = sized_then (again_part w line step) (one (instr.Jump (place + before))) (again_size step) 1 (sized_again line step) (sized_one _) in
        let body = sized_then (p.part t') _ p.size _ (sized_piece p t' a.1) last in
        let tests = sized_then (test_part w test end) _ (test_size test) _ (sized_test test end) body in
        let ticks = sized_then (ticked w line) _ 1 _ (sized_ticked line) tests in
        let starts = sized_then (dropped_part w start) _ (dropped_size start) _ (sized_dropped start) ticks in
        let declares = sized_then (all_declared_part w ds) _ (all_declared_size ds) _ (sized_all_declared ds) starts in
        let all = (sized_then (ticked w line) _ 1 _ (sized_ticked line) declares).by place in
        omega (arith, all);
  }
  layer (Stmt-F.Switch line e cases default a) = record {
    by = λ t place.
        let p = stmt_piece w a.0 in
        let front = 1 + expr_size e.expr + cases_size cases + 2 in
        let end = place + (front + p.size) in
        let to : ℕ → ℕ = λ label. led_to (place + front) end (p.label label) in
        let t' : Targets = record { to_break = end; to_continue = t.to_continue } in
        let body = sized_then (choice_part to end cases default) (p.part t') (cases_size cases + 2) p.size (sized_choice to end cases default) (sized_piece p t' a.1) in
        let value = sized_then (full_part w e) _ (expr_size e.expr) _ (sized_full e) body in
        let all = (sized_then (ticked w line) _ 1 _ (sized_ticked line) value).by place in
        omega (arith, all);
  }
  layer (Stmt-F.Labelled label a) = record { by = λ t place. a.1.by t place }
  layer (Stmt-F.Break line) = record { by = λ t place. (sized_then (ticked w line) (one (instr.Jump t.to_break)) 1 1 (sized_ticked line) (sized_one _)).by place }
  layer (Stmt-F.Continue line) = record { by = λ t place. (sized_then (ticked w line) (one (instr.Jump t.to_continue)) 1 1 (sized_ticked line) (sized_one _)).by place }
  layer (Stmt-F.Return line e) = record {
    by = λ t place.
        let rest = sized_then (returned_part w e) (one instr.Return) (return_size e) 1 (sized_returned e) (sized_one instr.Return) in
        let all = (sized_then (ticked w line) _ 1 _ (sized_ticked line) rest).by place in
        omega (arith, all);
  }

  layers : (y : Stmt-F Known) → HasSize (roll-Stmt (closed y))
  layers y = subst SizedPiece (sym (piece_roll (closed y))) (layer y)

  pub has_size : (s : Stmt) → HasSize s
  has_size = ind-Stmt HasSize (λ x y is. subst (λ z. HasSize (roll-Stmt z)) is (layers y))

  pub sized_pieces : (ss : List Stmt) (t : Targets) → Sized (in_order_part (map (stmt_piece w) ss) t) (sizes_of (map (stmt_piece w) ss))
  sized_pieces [] t = sized_none
  sized_pieces (a ∷ ss) t = sized_then _ _ _ _ (sized_piece (stmt_piece w a) t (has_size a)) (sized_pieces ss t)
