-- The code of each statement does what the statement means, as a whole and from each of its labels on.
use Rattle.std.proofs.Common.{◌≡◌, ℕ, ◌+◌, ◌<◌, ◌≤◌, Bool, true, false, List, [], ◌∷◌, ◌++◌, map, length, refl, sym, ap, ◌∙◌, subst, arith}
use Rattle.std.specs.Prelude.{◌&&◌, nat_eq, if◌then◌else◌, Option, None, Some, Ok, slice_get}
use Rattle.std.specs.Ordering.{int_eq}
use Rattle.std.specs.List.{flat_map}
use Rattle.rank_range.specs.declared.kinds.Kind.TheVariants.{UnsignedLong}
use Rattle.rank_range.specs.declared.operators.Binary.TheVariants.{Equal}
use Rattle.rank_range.specs.Kinds.{value_of}
use Rattle.rank_range.specs.Operators.{operate, truth}
use Rattle.vm_code.specs.declared.code.Code.{Code}
use Rattle.vm_code.specs.declared.instr.Instr.TheVariants as instr
use Rattle.c_types.specs.declared.expression.FullExpr.{FullExpr}
use Rattle.c_types.specs.declared.statement.Stmt.{Stmt, map-Stmt}
use Rattle.c_types.specs.declared.statement.Stmt.TheOpen.{Stmt-F}
use Rattle.c_types.specs.declared.statement.Stmt.TheViews.{roll-Stmt}
use Rattle.c_types.specs.declared.statement.Stmt.TheFolds.{ind-Stmt}
use Rattle.c_types.specs.declared.statement.Declared.{Declared}
use Rattle.c_types.specs.declared.statement.Case.{Case}
use Rattle.c_types.specs.declared.program.Function.{Function}
use Rattle.c_types.specs.Need.{Pending, pending, pending_if, in_declared, joined, pending_step, pending_of}
use Rattle.c_model.specs.Outcome.{Rest, choose}
use Rattle.c_model.specs.Run.{Calling}
use Rattle.c_model.specs.Statements as run
use Rattle.c_model.specs.Statements.{Exits, Frame, Meaning, Acts, evaluated_if, tested, loop_from, do_from, either, mapped, followed_by, in_order_from, is_case, target, switched, entered_at, acts_step, acts, statements}
use Rattle.codegen.specs.Layout.{Part, one, ◌then◌}
use Rattle.codegen.specs.Sizes.{expr_size, dropped_size, test_size, again_size, all_declared_size, cases_size}
use Rattle.codegen.specs.Statements.{Within, Targets, Piece, further, first_of, label_in_order, ticked, full_part, in_order_part, case_part, cases_part, led_to, default_to, choice_part, stmt_step, stmt_piece}
use Rattle.codegen.specs.Covered.{all_true, expr_covered, covered_if, all_declared_covered, begins_once, stmt_covered_step, stmt_covered}
use Rattle.codegen.proofs.Running.{Standing, Does, fewer, from_place, does_push, does_pop, does_dup, does_word, does_jump, does_if_zero}
use Rattle.codegen.proofs.Spanning.{Spans, Stands, spans_none, spans_one, spans_then, spans_first}
use Rattle.codegen.proofs.Valuing.{DoesCalls}
use Rattle.codegen.proofs.Measuring.{and_left, and_right}
use Rattle.codegen.proofs.Shaping.{SizedPiece, spans_split, spans_end, sized_piece, sized_case, sized_cases, sized_choice, piece_roll, has_size}
use Rattle.codegen.proofs.Acting.{AllFit, fit_front, fit_back, Leads, leads_fewer, ActsAs, EntersAt, acts_roll, covered_roll, pending_roll, frame_in, ticked_full, behind_full, over_loop_from, over_do_from, while_loop, do_loop_at, for_loop, acts_empty, acts_express, acts_declare, acts_if, acts_if_else, acts_while, acts_do, acts_for, acts_break, acts_continue, acts_return}

-- ---- labels

-- a label stands in the code where it stands in the statement
abbrev pub EntersIf : Code → Standing → Frame → Piece → Option ℕ → Option Meaning → Type 0
EntersIf code s f p None None = Unit {0}
EntersIf code s f p None (Some m) = ⊥
EntersIf code s f p (Some n) None = ⊥
EntersIf code s f p (Some n) (Some m) = EntersAt code s f p n m

-- the code follows the statement, as a whole and from each label on
pub record Follows (code : Code) (s : Standing) (f : Frame) (p : Piece) (a : Acts) : Type 0 where
  pub whole : ActsAs code s f p a.whole
  pub labels : (label : ℕ) → EntersIf code s f p (p.label label) (a.from label)

module _ (code : Code) (s : Standing) (f : Frame) where
  enters_further : (p q : Piece) (k : ℕ) (g : Meaning → Meaning) → ((n : ℕ) (m : Meaning) → EntersAt code s f p n m → EntersAt code s f q (k + n) (g m))
      → (o : Option ℕ) (m : Option Meaning) → EntersIf code s f p o m → EntersIf code s f q (further k o) (mapped g m)
  enters_further p q k g inner None None h = tt
  enters_further p q k g inner None (Some m) h = absurd h
  enters_further p q k g inner (Some n) None h = absurd h
  enters_further p q k g inner (Some n) (Some m) h = inner n m h

  enters_same : (p q : Piece) (k : ℕ) → ((n : ℕ) (m : Meaning) → EntersAt code s f p n m → EntersAt code s f q (k + n) m)
      → (o : Option ℕ) (m : Option Meaning) → EntersIf code s f p o m → EntersIf code s f q (further k o) m
  enters_same p q k inner None None h = tt
  enters_same p q k inner None (Some m) h = absurd h
  enters_same p q k inner (Some n) None h = absurd h
  enters_same p q k inner (Some n) (Some m) h = inner n m h

  enters_first : (q : Piece) (o o' : Option ℕ) (m m' : Option Meaning) → EntersIf code s f q o m → EntersIf code s f q o' m'
      → EntersIf code s f q (first_of o o') (either m m')
  enters_first q None o' None m' h g = g
  enters_first q None o' (Some m) m' h g = absurd h
  enters_first q (Some n) o' None m' h g = absurd h
  enters_first q (Some n) o' (Some m) m' h g = h

  enters_alone : (q : Piece) (o : Option ℕ) (m : Option Meaning) → EntersIf code s f q o m → EntersIf code s f q o (either m None)
  enters_alone q None None h = tt
  enters_alone q None (Some m) h = absurd h
  enters_alone q (Some n) None h = absurd h
  enters_alone q (Some n) (Some m) h = h

  enters_followed : (p q : Piece) (ss : List Acts) (o o' : Option ℕ) (m m' : Option Meaning)
      → ((n : ℕ) (e : Meaning) → EntersAt code s f p n e → EntersAt code s f q n (λ g exits next. e g exits (run.in_order ss g exits next)))
      → EntersIf code s f p o m → EntersIf code s f q o' m' → EntersIf code s f q (first_of o o') (followed_by m ss m')
  enters_followed p q ss None o' None m' inner h g = g
  enters_followed p q ss None o' (Some m) m' inner h g = absurd h
  enters_followed p q ss (Some n) o' None m' inner h g = absurd h
  enters_followed p q ss (Some n) o' (Some m) m' inner h g = inner n m h

  enters_other : (p q : Piece) (o : Option ℕ) (m : Option Meaning) → ((n : ℕ) (e : Meaning) → EntersAt code s f p n e → EntersAt code s f q n e)
      → EntersIf code s f p o m → EntersIf code s f q o m
  enters_other p q None None inner h = tt
  enters_other p q None (Some m) inner h = absurd h
  enters_other p q (Some n) None inner h = absurd h
  enters_other p q (Some n) (Some m) inner h = inner n m h

  enters_labelled : (q : Piece) (b : Bool) (o : Option ℕ) (m : Meaning) (m' : Option Meaning) → EntersAt code s f q 0 m → EntersIf code s f q o m'
      → EntersIf code s f q (if b then Some 0 else o) (if b then Some m else m')
  enters_labelled q true o m m' h g = h
  enters_labelled q false o m m' h g = g

-- ---- the choice of a `switch`

equal_gives : (x v : ℕ) → operate Equal UnsignedLong x v ≡ Ok (truth (int_eq (value_of UnsignedLong x) (value_of UnsignedLong v)))
unfolding operate
equal_gives x v = refl

module _ (code : Code) (s : Standing) where
  chosen : (b : Bool) (place : ℕ) (stack : List ℕ) (most : ℕ) (next : Option ℕ → Rest) (o o' : Option ℕ)
      → Does code s place stack most (choose (truth b) (next o) (next o')) → Does code s place stack most (next (if b then o else o'))
  chosen true place stack most next o o' h = h
  chosen false place stack most next o o' h = h

  over_case : (to : ℕ) (c : Case) (x place most : ℕ) (first second : Rest) → Spans (Stands code) place (case_part to c) (place + 6)
      → Does code s to [] most first → Does code s (place + 6) (x ∷ []) most second
      → Does code s place (x ∷ []) most (choose (truth (is_case c x)) first second)
  unfolding case_part
  over_case to c x place most first second sp d e =
      let h = sp.instrs in
      does_dup code s x place [] most _ h.0 (omega arith)
      (does_push code s c.value (place + 1) (x ∷ x ∷ []) most _ h.1.0 (omega arith)
      (does_word code s Equal UnsignedLong x c.value _ (place + 1 + 1) (x ∷ []) most _ h.1.1.0 (omega arith) (equal_gives x c.value)
      (does_if_zero code s (place + 6) (truth (is_case c x)) (place + 1 + 1 + 1) (x ∷ []) most first second h.1.1.1.0
      (does_pop code s x (place + 1 + 1 + 1 + 1) [] most first h.1.1.1.1.0 (omega arith)
      (does_jump code s to (place + 1 + 1 + 1 + 1 + 1) [] most first h.1.1.1.1.1.0 d))
      e)))

  over_cases : (to : ℕ → ℕ) (cases : List Case) (default : Option ℕ) (x place low most : ℕ) (next : Option ℕ → Rest) → Spans (Stands code) place (cases_part to cases) low
      → ((label : ℕ) → Does code s (to label) [] most (next (Some label))) → Does code s low (x ∷ []) most (next default)
      → Does code s place (x ∷ []) most (next (target cases default x))
  over_cases to [] default x place low most next sp labels d = from_place code s _ _ _ _ _ (spans_none (Stands code) place low sp) d
  over_cases to (c ∷ cs) default x place low most next sp labels d =
      let parts = spans_split (Stands code) place low 6 (case_part (to c.label) c) (cases_part to cs) (sized_case (to c.label) c) sp in
      chosen (is_case c x) place (x ∷ []) most next (Some c.label) (target cs default x)
      (over_case (to c.label) c x place most _ _ parts.0 (labels c.label) (over_cases to cs default x (place + 6) low most next parts.1 labels d))

  over_default : (to : ℕ → ℕ) (end : ℕ) (default : Option ℕ) (most : ℕ) (next : Option ℕ → Rest) → ((label : ℕ) → Does code s (to label) [] most (next (Some label)))
      → Does code s end [] most (next None) → Does code s (default_to to end default) [] most (next default)
  over_default to end None most next labels d = d
  over_default to end (Some label) most next labels d = labels label

  over_choice : (to : ℕ → ℕ) (end : ℕ) (cases : List Case) (default : Option ℕ) (x place after most : ℕ) (next : Option ℕ → Rest)
      → Spans (Stands code) place (choice_part to end cases default) after
      → ((label : ℕ) → Does code s (to label) [] most (next (Some label))) → Does code s end [] most (next None)
      → Does code s place (x ∷ []) most (next (target cases default x))
  over_choice to end cases default x place after most next sp labels d =
      let k = cases_size cases in
      let goal = default_to to end default in
      let parts = spans_split (Stands code) place after k (cases_part to cases) _ (sized_cases to cases) sp in
      let pop = spans_first (Stands code) (place + k) after instr.Pop (one (instr.Jump goal)) parts.1 in
      let jump = spans_one (Stands code) (place + k + 1) after (instr.Jump goal) pop.1 in
      over_cases to cases default x place (place + k) most next parts.0 labels
      (does_pop code s x (place + k) [] most _ pop.0 (omega arith)
      (does_jump code s goal (place + k + 1) [] most _ jump.0 (over_default to end default most next labels d)))

  -- the body from a label on, or what stands behind it
  over_entry : (f : Frame) (p : Piece) (o : Option ℕ) (m : Option Meaning) (body low after end most : ℕ) (t : Targets) (exits : Exits) (next : Rest) → EntersIf code s f p o m
      → low ≡ body → Spans (Stands code) low (p.part t) after → Leads code s most t (record exits { on_break = next }) → Does code s after [] most next
      → Does code s end [] most next → Does code s (led_to body end o) [] most (entered_at m f exits next)
  over_entry f p None None body low after end most t exits next h is sp leads d e = e
  over_entry f p None (Some m) body low after end most t exits next h is sp leads d e = absurd h
  over_entry f p (Some n) None body low after end most t exits next h is sp leads d e = absurd h
  over_entry f p (Some n) (Some m) body low after end most t exits next h is sp leads d e =
      from_place code s _ _ _ _ _ (ap (λ q. q + n) is) (h.by low after most t _ next sp leads d)

module _ (fs : List Function) (code : Code) (s : Standing) (calling : Calling) (calls : DoesCalls fs code s calling) (object : ℕ → ℕ) (unit : ℕ) where
  abbrev within : Within
  within = record { unit = unit; object = object }

  abbrev frame : Frame
  frame = frame_in s calling object unit

  -- the whole of a statement is entered at its beginning
  enters_whole : (p : Piece) (m : Meaning) → ActsAs code s frame p m → EntersAt code s frame p 0 m
  enters_whole p m has = record {
    by = λ place after most t exits next sp leads d.
        let e : place ≡ place + 0 = omega arith in
        from_place code s _ _ _ _ _ e (has.by place after most t exits next sp leads d);
  }

  enters_then : (line : ℕ) (e : FullExpr) (p : Piece) (n : ℕ) (m : Meaning) → EntersAt code s frame p n m
      → EntersAt code s frame (stmt_step within (Stmt-F.If line e p None)) (1 + expr_size e.expr + 1 + n) m
  enters_then line e p n m enters = record {
    by = λ place after most t exits next sp leads d.
        let k = expr_size e.expr in
        let end = place + 1 + k + 1 + p.size in
        let sp' : Spans (Stands code) place (ticked within line then full_part within e then one (instr.JumpIfZero end) then p.part t) after = record { instrs = sp.instrs; after_is = sp.after_is } in
        let rest = behind_full fs code s calling calls object unit e line place after _ sp' in
        let test = spans_first (Stands code) (place + 1 + k) after (instr.JumpIfZero end) (p.part t) rest in
        let e1 : place + 1 + k + 1 + n ≡ place + (1 + k + 1 + n) = omega arith in
        from_place code s _ _ _ _ _ e1 (enters.by (place + 1 + k + 1) after most t exits next test.1 leads d);
  }

  enters_first_branch : (line : ℕ) (e : FullExpr) (p q : Piece) (n : ℕ) (m : Meaning) → SizedPiece p → SizedPiece q → EntersAt code s frame p n m
      → EntersAt code s frame (stmt_step within (Stmt-F.If line e p (Some q))) (1 + expr_size e.expr + 1 + n) m
  enters_first_branch line e p q n m sized_p sized_q enters = record {
    by = λ place after most t exits next sp leads d.
        let k = expr_size e.expr in
        let otherwise = place + 1 + k + 1 + p.size + 1 in
        let end = place + 1 + k + 1 + p.size + 1 + q.size in
        let sp' : Spans (Stands code) place (ticked within line then full_part within e then one (instr.JumpIfZero otherwise) then p.part t
        then one (instr.Jump end) then q.part t) after = record { instrs = sp.instrs; after_is = sp.after_is } in
        let rest = behind_full fs code s calling calls object unit e line place after _ sp' in
        let test = spans_first (Stands code) (place + 1 + k) after (instr.JumpIfZero otherwise) _ rest in
        let parts = spans_split (Stands code) (place + 1 + k + 1) after p.size (p.part t) _ (sized_piece p t sized_p) test.1 in
        let jump = spans_first (Stands code) (place + 1 + k + 1 + p.size) after (instr.Jump end) (q.part t) parts.1 in
        let e1 : after ≡ end = spans_end (Stands code) otherwise after q.size (q.part t) (sized_piece q t sized_q) jump.1 in
        let e2 : place + 1 + k + 1 + n ≡ place + (1 + k + 1 + n) = omega arith in
        from_place code s _ _ _ _ _ e2 (enters.by (place + 1 + k + 1) (place + 1 + k + 1 + p.size) most t exits next parts.0 leads
        (does_jump code s end (place + 1 + k + 1 + p.size) [] most next jump.0 (from_place code s _ _ _ _ _ e1 d)));
  }

  enters_second_branch : (line : ℕ) (e : FullExpr) (p q : Piece) (n : ℕ) (m : Meaning) → SizedPiece p → EntersAt code s frame q n m
      → EntersAt code s frame (stmt_step within (Stmt-F.If line e p (Some q))) (1 + expr_size e.expr + 1 + p.size + 1 + n) m
  enters_second_branch line e p q n m sized_p enters = record {
    by = λ place after most t exits next sp leads d.
        let k = expr_size e.expr in
        let otherwise = place + 1 + k + 1 + p.size + 1 in
        let end = place + 1 + k + 1 + p.size + 1 + q.size in
        let sp' : Spans (Stands code) place (ticked within line then full_part within e then one (instr.JumpIfZero otherwise) then p.part t
        then one (instr.Jump end) then q.part t) after = record { instrs = sp.instrs; after_is = sp.after_is } in
        let rest = behind_full fs code s calling calls object unit e line place after _ sp' in
        let test = spans_first (Stands code) (place + 1 + k) after (instr.JumpIfZero otherwise) _ rest in
        let parts = spans_split (Stands code) (place + 1 + k + 1) after p.size (p.part t) _ (sized_piece p t sized_p) test.1 in
        let jump = spans_first (Stands code) (place + 1 + k + 1 + p.size) after (instr.Jump end) (q.part t) parts.1 in
        let e2 : otherwise + n ≡ place + (1 + k + 1 + p.size + 1 + n) = omega arith in
        from_place code s _ _ _ _ _ e2 (enters.by otherwise after most t exits next jump.1 leads d);
  }

  enters_while : (line : ℕ) (e : FullExpr) (p : Piece) (w m : Meaning) (n : ℕ) → SizedPiece p → (expr_covered fs) e.expr ≡ true → AllFit (pending 0 e) → ActsAs code s frame p w
      → EntersAt code s frame p n m
      → EntersAt code s frame (stmt_step within (Stmt-F.While line e p)) (2 + expr_size e.expr + 1 + n) (λ f exits next. loop_from (tested (Some e) f line) w (λ r. r) m f exits next)
  enters_while line e p w m n sized covered fits has enters = record {
    by = λ place after most t exits next sp leads d.
        let k = expr_size e.expr in
        let l = while_loop fs code s calling calls object unit line e p w sized covered fits has place after t sp in
        let e1 : place + 1 + 1 + k + 1 + n ≡ place + (2 + k + 1 + n) = omega arith in
        from_place code s _ _ _ _ _ e1 (over_loop_from fs code s calling calls object unit line _ _ p w _ _ _ _ (place + (2 + k + 1 + p.size + 1)) n m l.0 enters most t exits next leads
        (from_place code s _ _ _ _ _ (sym l.1) d));
  }

  enters_do : (line : ℕ) (p : Piece) (e : FullExpr) (w m : Meaning) (n : ℕ) → SizedPiece p → (expr_covered fs) e.expr ≡ true → AllFit (pending 0 e) → ActsAs code s frame p w
      → EntersAt code s frame p n m
      → EntersAt code s frame (stmt_step within (Stmt-F.Do line p e)) (3 + expr_size e.expr + 1 + n) (λ f exits next. do_from (tested (Some e) f line) w m f exits next)
  enters_do line p e w m n sized covered fits has enters = record {
    by = λ place after most t exits next sp leads d.
        let k = expr_size e.expr in
        let l = do_loop_at fs code s calling calls object unit line p e w sized covered fits has place after t sp in
        let e1 : place + 1 + 1 + 1 + k + 1 + n ≡ place + (3 + k + 1 + n) = omega arith in
        from_place code s _ _ _ _ _ e1 (over_do_from fs code s calling calls object unit line _ p w _ _ _ (place + (3 + k + 1 + p.size + 1)) n m l.0 enters most t exits next leads
        (from_place code s _ _ _ _ _ (sym l.1) d));
  }

  enters_for : (line : ℕ) (ds : List Declared) (start test step : Option FullExpr) (p : Piece) (w m : Meaning) (n : ℕ) → SizedPiece p
      → (covered_if fs) test ≡ true → (covered_if fs) step ≡ true → AllFit (pending_if test) → AllFit (pending_if step) → ActsAs code s frame p w
      → EntersAt code s frame p n m
      → EntersAt code s frame (stmt_step within (Stmt-F.For line ds start test step p)) (1 + all_declared_size ds + dropped_size start + 1 + test_size test + n)
      (λ f exits next. loop_from (tested test f line) w (evaluated_if step f line) m f exits next)
  enters_for line ds start test step p w m n sized covered_test covered_step fits_test fits_step has enters = record {
    by = λ place after most t exits next sp leads d.
        let n0 = all_declared_size ds in
        let n1 = dropped_size start in
        let n2 = test_size test in
        let l = for_loop fs code s calling calls object unit line ds start test step p w sized covered_test covered_step fits_test fits_step has place after t sp in
        let e1 : place + 1 + n0 + n1 + 1 + n2 + n ≡ place + (1 + n0 + n1 + 1 + n2 + n) = omega arith in
        from_place code s _ _ _ _ _ e1 (over_loop_from fs code s calling calls object unit line _ _ p w _ _ _ _ (place + (1 + n0 + n1 + 1 + n2 + p.size + again_size step + 1)) n m l.0 enters
        most t exits next leads (from_place code s _ _ _ _ _ (sym l.1) d));
  }

  acts_switch : (line : ℕ) (e : FullExpr) (cases : List Case) (default : Option ℕ) (p : Piece) (a : Acts) → SizedPiece p → (expr_covered fs) e.expr ≡ true → AllFit (pending 0 e)
      → Follows code s frame p a
      → ActsAs code s frame (stmt_step within (Stmt-F.Switch line e cases default p)) ((acts_step (Stmt-F.Switch line e cases default a)).whole)
  acts_switch line e cases default p a sized covered fits has = record {
    by = λ place after most t exits next sp leads d.
        let n = expr_size e.expr in
        let k = cases_size cases in
        let front = 1 + n + k + 2 in
        let end = place + (front + p.size) in
        let to : ℕ → ℕ = λ label. led_to (place + front) end (p.label label) in
        let t' : Targets = record { to_break = end; to_continue = t.to_continue } in
        let choice = choice_part to end cases default in
        let low = place + 1 + n + (k + 2) in
        let sp' : Spans (Stands code) place (ticked within line then full_part within e then choice then p.part t') after = record { instrs = sp.instrs; after_is = sp.after_is } in
        let rest = behind_full fs code s calling calls object unit e line place after (choice then p.part t') sp' in
        let parts = spans_split (Stands code) (place + 1 + n) after (k + 2) choice (p.part t') (sized_choice to end cases default) rest in
        let e1 : after ≡ low + p.size = spans_end (Stands code) low after p.size (p.part t') (sized_piece p t' sized) parts.1 in
        let e2 : after ≡ end = omega (arith, e1) in
        let e3 : low ≡ place + front = omega arith in
        ticked_full fs code s calling calls object unit e line place after most (choice then p.part t') _ covered fits sp' (λ less x lt.
        let le : less ≤ most = omega (arith, lt) in
        let d' = fewer code s after [] most less next le d in
        let past = from_place code s _ _ _ _ _ e2 d' in
        let leads1 = leads_fewer code s most less t exits le leads in
        let leads2 : Leads code s less t' (record exits { on_break = next }) = record { on_break = past; on_continue = leads1.on_continue; on_return = leads1.on_return } in
        over_choice code s to end cases default x (place + 1 + n) low less (λ o. switched o a frame exits next) parts.0
        (λ label. over_entry code s frame p (p.label label) (a.from label) (place + front) low after end less t' exits next (has.labels label) e3 parts.1 leads2 d' past)
        past);
  }

  abbrev HasActs : Stmt → Type 0
  HasActs a = (stmt_covered fs) a ≡ true → AllFit (pending_of a) → Follows code s frame (stmt_piece within a) (acts a)

  -- ---- every statement

  abbrev Known : Type 0
  Known = (a : Stmt) × HasActs a

  abbrev closed : Stmt-F Known → Stmt-F Stmt
  closed y = map-Stmt Known Stmt (λ p. p.0) y

  acts_all : (ss : List Known) → all_true (map (stmt_covered fs) (map (λ p. p.0) ss)) ≡ true → AllFit (joined (map pending_of (map (λ p. p.0) ss)))
      → (place after most : ℕ) (t : Targets) (exits : Exits) (next : Rest)
      → Spans (Stands code) place (in_order_part (map (stmt_piece within) (map (λ p. p.0) ss)) t) after
      → Leads code s most t exits → Does code s after [] most next
      → Does code s place [] most (run.in_order (map acts (map (λ p. p.0) ss)) frame exits next)
  acts_all [] covered fits place after most t exits next sp leads d = from_place code s _ _ _ _ _ (spans_none (Stands code) place after sp) d
  acts_all (a ∷ ss) covered fits place after most t exits next sp leads d =
      let parts = spans_then (Stands code) place after ((stmt_piece within a.0).part t) _ sp in
      let rest = joined (map pending_of (map (λ p. p.0) ss)) in
      let others = all_true (map (stmt_covered fs) (map (λ p. p.0) ss)) in
      ((a.1 (and_left ((stmt_covered fs) a.0) others covered) (fit_front (pending_of a.0) rest fits)).whole).by place parts.0 most t exits _ parts.1 leads
      (acts_all ss (and_right ((stmt_covered fs) a.0) others covered) (fit_back (pending_of a.0) rest fits) parts.0 after most t exits next parts.2 leads d)

  -- the labels of statements in order
  labels_all : (ss : List Known) → all_true (map (stmt_covered fs) (map (λ p. p.0) ss)) ≡ true → AllFit (joined (map pending_of (map (λ p. p.0) ss))) → (label : ℕ)
      → EntersIf code s frame (stmt_step within (Stmt-F.Block (map (stmt_piece within) (map (λ p. p.0) ss))))
      (label_in_order (map (stmt_piece within) (map (λ p. p.0) ss)) label) (in_order_from (map acts (map (λ p. p.0) ss)) label)
  labels_all [] covered fits label = tt
  labels_all (a ∷ ss) covered fits label =
      let p = stmt_piece within a.0 in
      let ps = map (stmt_piece within) (map (λ p. p.0) ss) in
      let others = all_true (map (stmt_covered fs) (map (λ p. p.0) ss)) in
      let rest = joined (map pending_of (map (λ p. p.0) ss)) in
      let covered' = and_right ((stmt_covered fs) a.0) others covered in
      let fits' = fit_back (pending_of a.0) rest fits in
      let here = a.1 (and_left ((stmt_covered fs) a.0) others covered) (fit_front (pending_of a.0) rest fits) in
      let whole = stmt_step within (Stmt-F.Block (p ∷ ps)) in
      enters_followed code s frame p whole (map acts (map (λ p. p.0) ss)) (p.label label) (further p.size (label_in_order ps label)) ((acts a.0).from label)
      (in_order_from (map acts (map (λ p. p.0) ss)) label)
      (λ n e enters. record {
        by = λ place after most t exits next sp leads d.
            let parts = spans_then (Stands code) place after (p.part t) (in_order_part ps t) sp in
            enters.by place parts.0 most t exits _ parts.1 leads (acts_all ss covered' fits' parts.0 after most t exits next parts.2 leads d);
      })
      (here.labels label)
      (enters_same code s frame (stmt_step within (Stmt-F.Block ps)) whole p.size (λ n m enters. record {
        by = λ place after most t exits next sp leads d.
            let parts = spans_split (Stands code) place after p.size (p.part t) (in_order_part ps t) (sized_piece p t (has_size within a.0)) sp in
            let e : place + p.size + n ≡ place + (p.size + n) = omega arith in
            from_place code s _ _ _ _ _ e (enters.by (place + p.size) after most t exits next parts.1 leads d);
      }) (label_in_order ps label) (in_order_from (map acts (map (λ p. p.0) ss)) label) (labels_all ss covered' fits' label))

  layer : (y : Stmt-F Known) → (stmt_covered_step fs) (map-Stmt Stmt Bool (stmt_covered fs) (closed y)) ≡ true
      → AllFit (pending_step (map-Stmt Stmt (List Pending) pending_of (closed y)))
      → Follows code s frame (stmt_step within (map-Stmt Stmt Piece (stmt_piece within) (closed y))) (acts_step (map-Stmt Stmt Acts acts (closed y)))
  layer (Stmt-F.Empty line) covered fits = record { whole = acts_empty fs code s calling calls object unit line; labels = λ label. tt }
  layer (Stmt-F.Express line e) covered fits = record { whole = acts_express fs code s calling calls object unit line e covered fits; labels = λ label. tt }
  layer (Stmt-F.Declare d) covered fits = record { whole = acts_declare fs code s calling calls object unit d covered fits; labels = λ label. tt }
  layer (Stmt-F.Block ss) covered fits = record { whole = record { by = acts_all ss covered fits }; labels = labels_all ss covered fits }
  layer (Stmt-F.If line e a None) covered fits =
      let p = stmt_piece within a.0 in
      let here = and_left ((expr_covered fs) e.expr) ((stmt_covered fs) a.0 && true) covered in
      let inner = and_right ((expr_covered fs) e.expr) ((stmt_covered fs) a.0 && true) covered in
      let rest = fit_back (pending 0 e) (pending_of a.0 ++ []) fits in
      let has = a.1 (and_left ((stmt_covered fs) a.0) true inner) (fit_front (pending_of a.0) [] rest) in
      let whole = stmt_step within (Stmt-F.If line e p None) in
      record {
        whole = acts_if fs code s calling calls object unit line e p (acts a.0) (has_size within a.0) here (fit_front (pending 0 e) (pending_of a.0 ++ []) fits) has.whole;
        labels = λ label. enters_alone code s frame whole (further (1 + expr_size e.expr + 1) (p.label label)) ((acts a.0).from label)
            (enters_same code s frame p whole (1 + expr_size e.expr + 1) (λ n m h. enters_then line e p n m h) (p.label label) ((acts a.0).from label) (has.labels label));
      }
  layer (Stmt-F.If line e a (Some b)) covered fits =
      let p = stmt_piece within a.0 in
      let q = stmt_piece within b.0 in
      let n = expr_size e.expr in
      let here = and_left ((expr_covered fs) e.expr) ((stmt_covered fs) a.0 && (stmt_covered fs) b.0) covered in
      let inner = and_right ((expr_covered fs) e.expr) ((stmt_covered fs) a.0 && (stmt_covered fs) b.0) covered in
      let rest = fit_back (pending 0 e) (pending_of a.0 ++ pending_of b.0) fits in
      let has = a.1 (and_left ((stmt_covered fs) a.0) ((stmt_covered fs) b.0) inner) (fit_front (pending_of a.0) (pending_of b.0) rest) in
      let others = b.1 (and_right ((stmt_covered fs) a.0) ((stmt_covered fs) b.0) inner) (fit_back (pending_of a.0) (pending_of b.0) rest) in
      let whole = stmt_step within (Stmt-F.If line e p (Some q)) in
      record {
        whole = acts_if_else fs code s calling calls object unit line e p q (acts a.0) (acts b.0) (has_size within a.0) (has_size within b.0) here
            (fit_front (pending 0 e) (pending_of a.0 ++ pending_of b.0) fits) has.whole others.whole;
        labels = λ label. enters_first code s frame whole (further (1 + n + 1) (p.label label)) (further (1 + n + 1 + p.size + 1) (q.label label)) ((acts a.0).from label) ((acts b.0).from label)
            (enters_same code s frame p whole (1 + n + 1) (λ k m h. enters_first_branch line e p q k m (has_size within a.0) (has_size within b.0) h) (p.label label) ((acts a.0).from label) (has.labels label))
            (enters_same code s frame q whole (1 + n + 1 + p.size + 1) (λ k m h. enters_second_branch line e p q k m (has_size within a.0) h) (q.label label) ((acts b.0).from label) (others.labels label));
      }
  layer (Stmt-F.While line e a) covered fits =
      let p = stmt_piece within a.0 in
      let here = and_left ((expr_covered fs) e.expr) ((stmt_covered fs) a.0) covered in
      let fit = fit_front (pending 0 e) (pending_of a.0) fits in
      let has = a.1 (and_right ((expr_covered fs) e.expr) ((stmt_covered fs) a.0) covered) (fit_back (pending 0 e) (pending_of a.0) fits) in
      record {
        whole = acts_while fs code s calling calls object unit line e p (acts a.0) (has_size within a.0) here fit has.whole;
        labels = λ label. enters_further code s frame p (stmt_step within (Stmt-F.While line e p)) (2 + expr_size e.expr + 1)
            (λ m f exits next. loop_from (tested (Some e) f line) ((acts a.0).whole) (λ r. r) m f exits next)
            (λ n m h. enters_while line e p ((acts a.0).whole) m n (has_size within a.0) here fit has.whole h) (p.label label) ((acts a.0).from label) (has.labels label);
      }
  layer (Stmt-F.Do line a e) covered fits =
      let p = stmt_piece within a.0 in
      let here = and_left ((expr_covered fs) e.expr) ((stmt_covered fs) a.0) covered in
      let fit = fit_back (pending_of a.0) (pending 0 e) fits in
      let has = a.1 (and_right ((expr_covered fs) e.expr) ((stmt_covered fs) a.0) covered) (fit_front (pending_of a.0) (pending 0 e) fits) in
      record {
        whole = acts_do fs code s calling calls object unit line p e (acts a.0) (has_size within a.0) here fit has.whole;
        labels = λ label. enters_further code s frame p (stmt_step within (Stmt-F.Do line p e)) (3 + expr_size e.expr + 1)
            (λ m f exits next. do_from (tested (Some e) f line) ((acts a.0).whole) m f exits next)
            (λ n m h. enters_do line p e ((acts a.0).whole) m n (has_size within a.0) here fit has.whole h) (p.label label) ((acts a.0).from label) (has.labels label);
      }
  layer (Stmt-F.For line ds start test step a) covered fits =
      let p = stmt_piece within a.0 in
      let c4 = (covered_if fs) step && (stmt_covered fs) a.0 in
      let c3 = (covered_if fs) test && c4 in
      let c2 = (covered_if fs) start && c3 in
      let c1 = (all_declared_covered fs) ds && c2 in
      let k1 = and_right (begins_once ds start) c1 covered in
      let k2 = and_right ((all_declared_covered fs) ds) c2 k1 in
      let k3 = and_right ((covered_if fs) start) c3 k2 in
      let k4 = and_right ((covered_if fs) test) c4 k3 in
      let g1 = flat_map in_declared ds in
      let g2 = g1 ++ pending_if start in
      let g3 = g2 ++ pending_if test in
      let g4 = g3 ++ pending_if step in
      let h4 = fit_front g4 (pending_of a.0) fits in
      let h3 = fit_front g3 (pending_if step) h4 in
      let h2 = fit_front g2 (pending_if test) h3 in
      let has = a.1 (and_right ((covered_if fs) step) ((stmt_covered fs) a.0) k4) (fit_back g4 (pending_of a.0) fits) in
      let covered_test = and_left ((covered_if fs) test) c4 k3 in
      let covered_step = and_left ((covered_if fs) step) ((stmt_covered fs) a.0) k4 in
      let fits_test = fit_back g2 (pending_if test) h3 in
      let fits_step = fit_back g3 (pending_if step) h4 in
      record {
        whole = acts_for fs code s calling calls object unit line ds start test step p (acts a.0) (has_size within a.0) (and_left (begins_once ds start) c1 covered)
            (and_left ((all_declared_covered fs) ds) c2 k1) (and_left ((covered_if fs) start) c3 k2) covered_test covered_step
            (fit_front g1 (pending_if start) h2) (fit_back g1 (pending_if start) h2) fits_test fits_step has.whole;
        labels = λ label. enters_further code s frame p (stmt_step within (Stmt-F.For line ds start test step p)) (1 + all_declared_size ds + dropped_size start + 1 + test_size test)
            (λ m f exits next. loop_from (tested test f line) ((acts a.0).whole) (evaluated_if step f line) m f exits next)
            (λ n m h. enters_for line ds start test step p ((acts a.0).whole) m n (has_size within a.0) covered_test covered_step fits_test fits_step has.whole h)
            (p.label label) ((acts a.0).from label) (has.labels label);
      }
  layer (Stmt-F.Switch line e cases default a) covered fits =
      record {
        whole = acts_switch line e cases default (stmt_piece within a.0) (acts a.0) (has_size within a.0) (and_left ((expr_covered fs) e.expr) ((stmt_covered fs) a.0) covered)
            (fit_front (pending 0 e) (pending_of a.0) fits) (a.1 (and_right ((expr_covered fs) e.expr) ((stmt_covered fs) a.0) covered) (fit_back (pending 0 e) (pending_of a.0) fits));
        labels = λ label. tt;
      }
  layer (Stmt-F.Labelled number a) covered fits =
      let p = stmt_piece within a.0 in
      let has = a.1 covered fits in
      let whole = stmt_step within (Stmt-F.Labelled number p) in
      let same : Follows code s frame whole (record { whole = (acts a.0).whole; from = λ label. if nat_eq label number then Some ((acts a.0).whole) else (acts a.0).from label }) = record {
        whole = record { by = has.whole.by };
        labels = λ label. enters_labelled code s frame whole (nat_eq label number) (p.label label) ((acts a.0).whole) ((acts a.0).from label)
            (enters_whole whole ((acts a.0).whole) (record { by = has.whole.by })) (enters_other code s frame p whole (p.label label) ((acts a.0).from label) (λ n m h. record { by = h.by }) (has.labels label));
      } in
      same
  layer (Stmt-F.Break line) covered fits = record { whole = acts_break fs code s calling calls object unit line; labels = λ label. tt }
  layer (Stmt-F.Continue line) covered fits = record { whole = acts_continue fs code s calling calls object unit line; labels = λ label. tt }
  layer (Stmt-F.Return line e) covered fits = record { whole = acts_return fs code s calling calls object unit line e covered fits; labels = λ label. tt }

  layers : (y : Stmt-F Known) → HasActs (roll-Stmt (closed y))
  layers y covered fits =
      let x = closed y in
      let has = layer y (sym (covered_roll fs x) ∙ covered) (subst AllFit (pending_roll x) fits) in
      subst (λ p. Follows code s frame p (acts (roll-Stmt x))) (sym (piece_roll within x))
      (subst (λ a. Follows code s frame (stmt_step within (map-Stmt Stmt Piece (stmt_piece within) x)) a) (sym (acts_roll x)) has)

  pub has_acts : (a : Stmt) → HasActs a
  has_acts = ind-Stmt HasActs (λ x y is. subst (λ z. HasActs (roll-Stmt z)) is (layers y))

  -- the statements of a function, behind which it returns 0
  pub does_statements : (ss : List Stmt) → all_true (map (stmt_covered fs) ss) ≡ true → AllFit (flat_map pending_of ss)
      → (place after most : ℕ) (t : Targets) (exits : Exits)
      → Spans (Stands code) place (in_order_part (map (stmt_piece within) ss) t) after
      → Leads code s most t exits → Does code s after [] most (exits.on_return 0) → Does code s place [] most (statements ss frame exits)
  does_statements [] covered fits place after most t exits sp leads d = from_place code s _ _ _ _ _ (spans_none (Stands code) place after sp) d
  does_statements (a ∷ ss) covered fits place after most t exits sp leads d =
      let parts = spans_then (Stands code) place after ((stmt_piece within a).part t) _ sp in
      let rest = flat_map pending_of ss in
      let others = all_true (map (stmt_covered fs) ss) in
      ((has_acts a (and_left ((stmt_covered fs) a) others covered) (fit_front (pending_of a) rest fits)).whole).by place parts.0 most t exits _ parts.1 leads
      (does_statements ss (and_right ((stmt_covered fs) a) others covered) (fit_back (pending_of a) rest fits) parts.0 after most t exits parts.2 leads d)
