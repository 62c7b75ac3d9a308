-- Each jump of a program's code that doesn't lead forward leads to a tick point.
use Rattle.std.proofs.Common.{◌≡◌, ◌⊎◌, inl, inr, ℕ, zero, suc, ◌+◌, ◌<◌, ◌≤◌, Bool, true, List, [], ◌∷◌, map, length, refl, sym, ap, subst, arith}
use Rattle.std.specs.Prelude.{Option, None, Some, slice_get}
use Rattle.rank_range.specs.declared.run.Segment.{Segment}
use Rattle.rank_range.specs.declared.kinds.Kind.TheVariants.{UnsignedLong}
use Rattle.rank_range.specs.declared.operators.Binary.TheVariants.{Equal}
use Rattle.vm_code.specs.declared.instr.Instr.{Instr}
use Rattle.vm_code.specs.declared.instr.Instr.TheVariants as instr
use Rattle.vm_code.specs.Bounded.{target_of, is_tick, LoopsTick}
use Rattle.c_types.specs.declared.expression.FullExpr.{FullExpr}
use Rattle.c_types.specs.declared.statement.Stmt.{Stmt, map-Stmt}
use Rattle.c_types.specs.declared.statement.Stmt.TheOpen.{Stmt-F}
use Rattle.c_types.specs.declared.statement.Stmt.TheViews.{roll-Stmt}
use Rattle.c_types.specs.declared.statement.Stmt.TheFolds.{ind-Stmt}
use Rattle.c_types.specs.declared.statement.Declared.{Declared}
use Rattle.c_types.specs.declared.statement.Span.{Span}
use Rattle.c_types.specs.declared.statement.Store.{Store}
use Rattle.c_types.specs.declared.statement.Case.{Case}
use Rattle.c_types.specs.declared.statement.Stored.{Stored}
use Rattle.c_types.specs.declared.statement.Stored.TheVariants.{Number, Structure}
use Rattle.c_types.specs.declared.program.Program.{Program}
use Rattle.c_types.specs.declared.program.Function.{Function}
use Rattle.c_types.specs.declared.program.Body.{Body}
use Rattle.c_types.specs.declared.program.Main.{Main}
use Rattle.c_model.specs.Statements.{parameter_count}
use Rattle.codegen.specs.Layout.{Part, nothing, one, ◌then◌}
use Rattle.codegen.specs.Sizes.{expr_size, dropped_size, test_size, again_size, zeros_size, declared_size, all_declared_size, cases_size}
use Rattle.codegen.specs.Statements.{Within, Targets, Piece, ticked, full_part, dropped_part, test_part, zeros_part, put_part, stores_part, declared_part, all_declared_part, again_part, continue_place, in_order_part, sizes_of, case_part, cases_part, led_to, default_to, choice_part, stmt_step, stmt_piece, pieces_of, end_targets, body_part, function_part, function_size, functions_part, offset_in, program_part}
use Rattle.codegen.proofs.Spanning.{HasAt, Saying, Spans, In, spans_all, spans_first}
use Rattle.codegen.proofs.Measuring.{IsForward, Fair, measured, has_both}
use Rattle.codegen.proofs.Shaping.{Sized, spans_split, spans_end, sized_piece, sized_one, sized_full, sized_dropped, sized_test, sized_zeros, sized_declared, sized_all_declared, sized_again, sized_case, sized_cases, sized_choice, sized_pieces, piece_roll, has_size}
use Rattle.codegen.proofs.Meaning.{sized_function}

module _ (instrs : List Instr) where
  -- a jump that doesn't lead forward leads to a tick point
  abbrev Bounded : Saying
  Bounded place i = (q : ℕ) → target_of (Some i) ≡ Some q → q ≤ place → is_tick (slice_get instrs q) ≡ true

  abbrev Bounds : ℕ → Part → Type 0
  Bounds place part = HasAt Bounded place (part place)

  forward_jump : (place to q : ℕ) → place < to → Some to ≡ Some q → q ≤ place → is_tick (slice_get instrs q) ≡ true
  forward_jump place to q lt e le = let same : to ≡ q = cc (e) in absurd (omega (arith, lt, le, same))

  ticking_jump : (place to q : ℕ) → is_tick (slice_get instrs to) ≡ true → Some to ≡ Some q → q ≤ place → is_tick (slice_get instrs q) ≡ true
  ticking_jump place to q ticks e le = let same : to ≡ q = cc (e) in subst (λ p. is_tick (slice_get instrs p) ≡ true) same ticks

  forward_bounded : (place : ℕ) (i : Instr) → IsForward place i → Bounded place i
  forward_bounded place (instr.Push w) is = λ q e le. absurd (cc (e))
  forward_bounded place instr.Pop is = λ q e le. absurd (cc (e))
  forward_bounded place instr.Dup is = λ q e le. absurd (cc (e))
  forward_bounded place (instr.Local w) is = λ q e le. absurd (cc (e))
  forward_bounded place (instr.Global w) is = λ q e le. absurd (cc (e))
  forward_bounded place (instr.Load w) is = λ q e le. absurd (cc (e))
  forward_bounded place (instr.Store w) is = λ q e le. absurd (cc (e))
  forward_bounded place (instr.Copy w) is = λ q e le. absurd (cc (e))
  forward_bounded place (instr.Zero w) is = λ q e le. absurd (cc (e))
  forward_bounded place (instr.Binary o k) is = λ q e le. absurd (cc (e))
  forward_bounded place (instr.Unary o k) is = λ q e le. absurd (cc (e))
  forward_bounded place (instr.Extend k) is = λ q e le. absurd (cc (e))
  forward_bounded place (instr.Jump p) lt = λ q e le. forward_jump place p q lt e le
  forward_bounded place (instr.JumpIfZero p) lt = λ q e le. forward_jump place p q lt e le
  forward_bounded place (instr.JumpIfNot p) lt = λ q e le. forward_jump place p q lt e le
  forward_bounded place (instr.Tick u l) is = λ q e le. absurd (cc (e))
  forward_bounded place (instr.Call f n) is = λ q e le. absurd (cc (e))
  forward_bounded place (instr.Library f n) is = λ q e le. absurd (cc (e))
  forward_bounded place (instr.Mpi f n second) is = λ q e le. absurd (cc (e))
  forward_bounded place instr.Return is = λ q e le. absurd (cc (e))

  has_bounded : (c : Bool) (place : ℕ) (is : List Instr) → HasAt (Fair [] c) place is → HasAt Bounded place is
  has_bounded c place [] h = tt
  has_bounded c place (i ∷ is) h = (forward_bounded place i h.0.0, has_bounded c (place + 1) is h.1)

  bounds_then : (a b : Part) (n place : ℕ) → Sized a n → Bounds place a → Bounds (place + n) b → Bounds place (a then b)
  unfolding ◌then◌
  bounds_then a b n place sized x y =
      let e : place + n ≡ place + length (a place) = ap (λ m. place + m) (sym (sized.by place)) in
      has_both Bounded place (a place) (b (place + length (a place))) x (subst (λ p. Bounds p b) e y)

  bounds_before : (i : Instr) (b : Part) (place : ℕ) → Bounded place i → Bounds (place + 1) b → Bounds place (one i then b)
  bounds_before i b place x y = bounds_then (one i) b 1 place (sized_one i) (x, tt) y

  -- it is no jump
  abbrev IsPlain : Instr → Type 0
  IsPlain i = (place : ℕ) → IsForward place i

  plain : (i : Instr) (place : ℕ) → IsPlain i → Bounded place i
  plain i place is = forward_bounded place i (is place)

  forwards : (jump : ℕ → Instr) (place to : ℕ) → (place < to → IsForward place (jump to)) → place < to → Bounded place (jump to)
  forwards jump place to is lt = forward_bounded place (jump to) (is lt)

  module _ (w : Within) where
    bounds_full : (e : FullExpr) (place : ℕ) → Bounds place (full_part w e)
    bounds_full e place = has_bounded _ place (full_part w e place) ((measured [] w.object e.expr).fair place)

    bounds_ticked : (line : ℕ) (b : Part) (place : ℕ) → Bounds (place + 1) b → Bounds place (ticked w line then b)
    bounds_ticked line b place y = bounds_before (instr.Tick w.unit line) b place (plain (instr.Tick w.unit line) place (λ p. tt)) y

    bounds_value : (e : FullExpr) (b : Part) (place : ℕ) → Bounds (place + expr_size e.expr) b → Bounds place (full_part w e then b)
    bounds_value e b place y = bounds_then (full_part w e) b (expr_size e.expr) place (sized_full w e) (bounds_full e place) y

    bounds_pop : (place : ℕ) → Bounds place (one instr.Pop)
    bounds_pop place = (plain instr.Pop place (λ p. tt), tt)

    bounds_dropped : (e : Option FullExpr) (place : ℕ) → Bounds place (dropped_part w e)
    bounds_dropped None place = tt
    bounds_dropped (Some e) place = bounds_value e (one instr.Pop) place (bounds_pop (place + expr_size e.expr))

    bounds_test : (e : Option FullExpr) (end place : ℕ) → place + test_size e ≤ end → Bounds place (test_part w e end)
    bounds_test None end place le = tt
    bounds_test (Some e) end place le =
        bounds_value e (one (instr.JumpIfZero end)) place (forwards instr.JumpIfZero (place + expr_size e.expr) end (λ lt. lt) (omega (arith, le)), tt)

    bounds_zeros : (span : Option Span) (place : ℕ) → Bounds place (zeros_part span)
    bounds_zeros None place = tt
    bounds_zeros (Some span) place =
        bounds_before (instr.Local span.offset) (one (instr.Zero span.size)) place (plain (instr.Local span.offset) place (λ p. tt)) (plain (instr.Zero span.size) (place + 1) (λ p. tt), tt)

    bounded_put : (stored : Stored) (place : ℕ) → Bounded place (put_part stored)
    bounded_put (Number k) place = plain (instr.Store k) place (λ p. tt)
    bounded_put (Structure size) place = plain (instr.Copy size) place (λ p. tt)

    bounds_stores : (ss : List Store) (place : ℕ) → Bounds place (stores_part w ss)
    bounds_stores [] place = tt
    bounds_stores (a ∷ ss) place =
        bounds_before (instr.Local a.offset) _ place (plain (instr.Local a.offset) place (λ p. tt)) (bounds_value a.value _ (place + 1)
        (bounds_before (put_part a.stored) _ (place + 1 + expr_size a.value.expr) (bounded_put a.stored (place + 1 + expr_size a.value.expr))
        (bounds_before instr.Pop (stores_part w ss) (place + 1 + expr_size a.value.expr + 1) (plain instr.Pop (place + 1 + expr_size a.value.expr + 1) (λ p. tt))
        (bounds_stores ss (place + 1 + expr_size a.value.expr + 1 + 1)))))

    bounds_declared : (d : Declared) (place : ℕ) → Bounds place (declared_part w d)
    bounds_declared d place =
        bounds_ticked d.line _ place (bounds_then (zeros_part d.zeros) (stores_part w d.stores) (zeros_size d.zeros) (place + 1) (sized_zeros w d.zeros)
        (bounds_zeros d.zeros (place + 1)) (bounds_stores d.stores (place + 1 + zeros_size d.zeros)))

    bounds_all_declared : (ds : List Declared) (place : ℕ) → Bounds place (all_declared_part w ds)
    bounds_all_declared [] place = tt
    bounds_all_declared (d ∷ ds) place =
        bounds_then (declared_part w d) (all_declared_part w ds) (declared_size d) place (sized_declared w d) (bounds_declared d place) (bounds_all_declared ds (place + declared_size d))

    bounds_again : (line : ℕ) (e : Option FullExpr) (place : ℕ) → Bounds place (again_part w line e)
    bounds_again line None place = tt
    bounds_again line (Some e) place =
        bounds_before (instr.Jump (place + 2)) (ticked w line then full_part w e then one instr.Pop) place
        (forwards instr.Jump place (place + 2) (λ lt. lt) (omega arith))
        (bounds_ticked line (full_part w e then one instr.Pop) (place + 1) (bounds_value e (one instr.Pop) (place + 1 + 1) (bounds_pop (place + 1 + 1 + expr_size e.expr))))

    -- ---- the choice of a `switch`

    bounds_case : (to : ℕ) (c : Case) (place : ℕ) → place + 6 ≤ to → Bounds place (case_part to c)
    unfolding case_part
    bounds_case to c place le = (
      plain instr.Dup place (λ p. tt),
      (
        plain (instr.Push c.value) (place + 1) (λ p. tt),
        (
          plain (instr.Binary Equal UnsignedLong) (place + 1 + 1) (λ p. tt),
          (
            forwards instr.JumpIfZero (place + 1 + 1 + 1) (place + 6) (λ lt. lt) (omega arith),
            (
              plain instr.Pop (place + 1 + 1 + 1 + 1) (λ p. tt),
              (forwards instr.Jump (place + 1 + 1 + 1 + 1 + 1) to (λ lt. lt) (omega (arith, le)), tt),
            ),
          ),
        ),
      ),
    )

    bounds_cases : (to : ℕ → ℕ) (cs : List Case) (low place : ℕ) → ((label : ℕ) → low ≤ to label) → place + cases_size cs ≤ low → Bounds place (cases_part to cs)
    bounds_cases to [] low place least le = tt
    bounds_cases to (c ∷ cs) low place least le =
        let here = least c.label in
        bounds_then (case_part (to c.label) c) (cases_part to cs) 6 place (sized_case (to c.label) c) (bounds_case (to c.label) c place (omega (arith, le, here)))
        (bounds_cases to cs low (place + 6) least (omega (arith, le)))

    led_least : (body end : ℕ) (o : Option ℕ) → body ≤ end → body ≤ led_to body end o
    led_least body end None le = le
    led_least body end (Some n) le = omega arith

    default_least : (to : ℕ → ℕ) (end : ℕ) (o : Option ℕ) (low : ℕ) → ((label : ℕ) → low ≤ to label) → low ≤ end → low ≤ default_to to end o
    default_least to end None low least le = le
    default_least to end (Some label) low least le = least label

    bounds_choice : (to : ℕ → ℕ) (end : ℕ) (cs : List Case) (default : Option ℕ) (low place : ℕ) → ((label : ℕ) → low ≤ to label) → low ≤ end
        → place + cases_size cs + 2 ≤ low → Bounds place (choice_part to end cs default)
    bounds_choice to end cs default low place least past le =
        let n = cases_size cs in
        let goes = default_least to end default low least past in
        bounds_then (cases_part to cs) _ n place (sized_cases to cs) (bounds_cases to cs low place least (omega (arith, le)))
        (bounds_before instr.Pop (one (instr.Jump (default_to to end default))) (place + n) (plain instr.Pop (place + n) (λ p. tt))
        (forwards instr.Jump (place + n + 1) (default_to to end default) (λ lt. lt) (omega (arith, goes, le)), tt))

    -- where a piece's exits lead
    record Exiting (after : ℕ) (t : Targets) : Type 0 where
      on_break : after ≤ t.to_break
      on_continue : (after ≤ t.to_continue) ⊎ (is_tick (slice_get instrs t.to_continue) ≡ true)

    record BoundedPiece (p : Piece) : Type 0 where
      by : (place after : ℕ) (t : Targets) → Spans (In instrs) place (p.part t) after → Exiting after t → HasAt Bounded place (p.part t place)

    abbrev HasBounds : Stmt → Type 0
    HasBounds s = BoundedPiece (stmt_piece w s)

    abbrev Known : Type 0
    Known = (s : Stmt) × HasBounds s

    abbrev closed : Stmt-F Known → Stmt-F Stmt
    closed y = map-Stmt Known Stmt (λ p. p.0) y

    exits_before : (middle after : ℕ) (t : Targets) → middle ≤ after → Exiting after t → Exiting middle t
    exits_before middle after t le x = record { on_break = let b = x.on_break in omega (arith, le, b); on_continue = either x.on_continue }
      where
        either : (after ≤ t.to_continue) ⊎ (is_tick (slice_get instrs t.to_continue) ≡ true) → (middle ≤ t.to_continue) ⊎ (is_tick (slice_get instrs t.to_continue) ≡ true)
        either (inl l) = inl (omega (arith, le, l))
        either (inr l) = inr l

    bounds_in_order : (ss : List Known) (place after : ℕ) (t : Targets) → Spans (In instrs) place (in_order_part (map (stmt_piece w) (map (λ p. p.0) ss)) t) after
        → Exiting after t → Bounds place (in_order_part (map (stmt_piece w) (map (λ p. p.0) ss)) t)
    bounds_in_order [] place after t sp x = tt
    bounds_in_order (a ∷ ss) place after t sp x =
        let p = stmt_piece w a.0 in
        let parts = spans_split (In instrs) place after p.size (p.part t) _ (sized_piece p t (has_size w a.0)) sp in
        let grows = parts.1.after_is in
        bounds_then (p.part t) _ p.size place (sized_piece p t (has_size w a.0)) (a.1.by place (place + p.size) t parts.0 (exits_before (place + p.size) after t (omega (arith, grows)) x))
        (bounds_in_order ss (place + p.size) after t parts.1 x)

    on_continues : (place : ℕ) (t : Targets) → Exiting (place + 1 + 1) t → Bounded (place + 1) (instr.Jump t.to_continue)
    on_continues place t x = either x.on_continue
      where
        either : (place + 1 + 1 ≤ t.to_continue) ⊎ (is_tick (slice_get instrs t.to_continue) ≡ true) → Bounded (place + 1) (instr.Jump t.to_continue)
        either (inl l) = forwards instr.Jump (place + 1) t.to_continue (λ lt. lt) (omega (arith, l))
        either (inr l) = λ q e le. ticking_jump (place + 1) t.to_continue q l e le

    -- a tick stands there
    ticks_at : (place line : ℕ) → slice_get instrs place ≡ Some (instr.Tick w.unit line) → is_tick (slice_get instrs place) ≡ true
    ticks_at place line e = ap is_tick e

    continues : (step : Option FullExpr) (behind start into : ℕ) → is_tick (slice_get instrs start) ≡ true → behind ≤ into
        → (behind ≤ continue_place step start into) ⊎ (is_tick (slice_get instrs (continue_place step start into)) ≡ true)
    continues None behind start into ticks le = inr ticks
    continues (Some e) behind start into ticks le = inl le

    layer : (y : Stmt-F Known) → BoundedPiece (stmt_step w (map-Stmt Stmt Piece (stmt_piece w) (closed y)))
    layer (Stmt-F.Empty line) = record { by = λ place after t sp x. (plain (instr.Tick w.unit line) place (λ p. tt), tt) }
    layer (Stmt-F.Express line e) = record {
      by = λ place after t sp x.
          bounds_ticked line (full_part w e then one instr.Pop) place (bounds_value e (one instr.Pop) (place + 1) (bounds_pop (place + 1 + expr_size e.expr)));
    }
    layer (Stmt-F.Declare d) = record { by = λ place after t sp x. bounds_declared d place }
    layer (Stmt-F.Block ss) = record { by = bounds_in_order ss }
    layer (Stmt-F.If line e a None) = record {
      by = λ place after t sp x.
          let n = expr_size e.expr in
          let p = stmt_piece w a.0 in
          let end = place + 1 + n + 1 + p.size in
          let test = one (instr.JumpIfZero end) in
          let sp' : Spans (In instrs) place (ticked w line then full_part w e then test then p.part t) after = record { instrs = sp.instrs; after_is = sp.after_is } in
          let s1 = spans_first (In instrs) place after (instr.Tick w.unit line) _ sp' in
          let s2 = spans_split (In instrs) (place + 1) after n (full_part w e) _ (sized_full w e) s1.1 in
          let s3 = spans_first (In instrs) (place + 1 + n) after (instr.JumpIfZero end) (p.part t) s2.1 in
          bounds_ticked line _ place (bounds_value e _ (place + 1) (bounds_before (instr.JumpIfZero end) (p.part t) (place + 1 + n)
          (forwards instr.JumpIfZero (place + 1 + n) end (λ lt. lt) (omega arith)) (a.1.by (place + 1 + n + 1) after t s3.1 x)));
    }
    layer (Stmt-F.If line e a (Some b)) = record {
      by = λ place after t sp x.
          let n = expr_size e.expr in
          let p = stmt_piece w a.0 in
          let q = stmt_piece w b.0 in
          let low = place + 1 + n + 1 in
          let otherwise = place + 1 + n + 1 + p.size + 1 in
          let end = place + 1 + n + 1 + p.size + 1 + q.size in
          let sp' : Spans (In instrs) place (ticked w line then full_part w e then one (instr.JumpIfZero otherwise) then p.part t then one (instr.Jump end) then q.part t) after
          = record { instrs = sp.instrs; after_is = sp.after_is } in
          let s1 = spans_first (In instrs) place after (instr.Tick w.unit line) _ sp' in
          let s2 = spans_split (In instrs) (place + 1) after n (full_part w e) _ (sized_full w e) s1.1 in
          let s3 = spans_first (In instrs) (place + 1 + n) after (instr.JumpIfZero otherwise) _ s2.1 in
          let s4 = spans_split (In instrs) low after p.size (p.part t) _ (sized_piece p t (has_size w a.0)) s3.1 in
          let s5 = spans_first (In instrs) (low + p.size) after (instr.Jump end) (q.part t) s4.1 in
          let grows = s5.1.after_is in
          bounds_ticked line _ place (bounds_value e _ (place + 1) (bounds_before (instr.JumpIfZero otherwise) _ (place + 1 + n)
          (forwards instr.JumpIfZero (place + 1 + n) otherwise (λ lt. lt) (omega arith))
          (bounds_then (p.part t) _ p.size low (sized_piece p t (has_size w a.0)) (a.1.by low (low + p.size) t s4.0 (exits_before (low + p.size) after t (omega (arith, grows)) x))
          (bounds_before (instr.Jump end) (q.part t) (low + p.size)
          (forwards instr.Jump (low + p.size) end (λ lt. lt) (omega arith)) (b.1.by otherwise after t s5.1 x)))));
    }
    layer (Stmt-F.While line e a) = record {
      by = λ place after t sp x.
          let n = expr_size e.expr in
          let p = stmt_piece w a.0 in
          let end = place + (2 + n + 1 + p.size + 1) in
          let low = place + 1 + 1 + n + 1 in
          let t' : Targets = record { to_break = end; to_continue = place + 1 } in
          let sp' : Spans (In instrs) place (ticked w line then ticked w line then full_part w e then one (instr.JumpIfZero end) then p.part t' then one (instr.Jump (place + 1))) after
          = record { instrs = sp.instrs; after_is = sp.after_is } in
          let s1 = spans_first (In instrs) place after (instr.Tick w.unit line) _ sp' in
          let s2 = spans_first (In instrs) (place + 1) after (instr.Tick w.unit line) _ s1.1 in
          let s3 = spans_split (In instrs) (place + 1 + 1) after n (full_part w e) _ (sized_full w e) s2.1 in
          let s4 = spans_first (In instrs) (place + 1 + 1 + n) after (instr.JumpIfZero end) _ s3.1 in
          let s5 = spans_split (In instrs) low after p.size (p.part t') _ (sized_piece p t' (has_size w a.0)) s4.1 in
          let ticks = ticks_at (place + 1) line s2.0 in
          bounds_ticked line _ place (bounds_ticked line _ (place + 1) (bounds_value e _ (place + 1 + 1) (bounds_before (instr.JumpIfZero end) _ (place + 1 + 1 + n)
          (forwards instr.JumpIfZero (place + 1 + 1 + n) end (λ lt. lt) (omega arith))
          (bounds_then (p.part t') _ p.size low (sized_piece p t' (has_size w a.0))
          (a.1.by low (low + p.size) t' s5.0 (record { on_break = omega arith; on_continue = inr ticks }))
          ((λ q e' le. ticking_jump (low + p.size) (place + 1) q ticks e' le), tt)))));
    }
    layer (Stmt-F.Do line a e) = record {
      by = λ place after t sp x.
          let n = expr_size e.expr in
          let p = stmt_piece w a.0 in
          let end = place + (3 + n + 1 + p.size + 1) in
          let low = place + 1 + 1 + 1 + n + 1 in
          let t' : Targets = record { to_break = end; to_continue = place + 2 } in
          let sp' : Spans (In instrs) place (ticked w line then one (instr.Jump (place + 3 + n + 1)) then ticked w line then full_part w e then one (instr.JumpIfZero end)
          then p.part t' then one (instr.Jump (place + 2))) after = record { instrs = sp.instrs; after_is = sp.after_is } in
          let s1 = spans_first (In instrs) place after (instr.Tick w.unit line) _ sp' in
          let s2 = spans_first (In instrs) (place + 1) after (instr.Jump (place + 3 + n + 1)) _ s1.1 in
          let s3 = spans_first (In instrs) (place + 1 + 1) after (instr.Tick w.unit line) _ s2.1 in
          let s4 = spans_split (In instrs) (place + 1 + 1 + 1) after n (full_part w e) _ (sized_full w e) s3.1 in
          let s5 = spans_first (In instrs) (place + 1 + 1 + 1 + n) after (instr.JumpIfZero end) _ s4.1 in
          let s6 = spans_split (In instrs) low after p.size (p.part t') _ (sized_piece p t' (has_size w a.0)) s5.1 in
          let two : place + 1 + 1 ≡ place + 2 = omega arith in
          let ticks = subst (λ q. is_tick (slice_get instrs q) ≡ true) two (ticks_at (place + 1 + 1) line s3.0) in
          bounds_ticked line _ place (bounds_before (instr.Jump (place + 3 + n + 1)) _ (place + 1)
          (forwards instr.Jump (place + 1) (place + 3 + n + 1) (λ lt. lt) (omega arith))
          (bounds_ticked line _ (place + 1 + 1) (bounds_value e _ (place + 1 + 1 + 1) (bounds_before (instr.JumpIfZero end) _ (place + 1 + 1 + 1 + n)
          (forwards instr.JumpIfZero (place + 1 + 1 + 1 + n) end (λ lt. lt) (omega arith))
          (bounds_then (p.part t') _ p.size low (sized_piece p t' (has_size w a.0))
          (a.1.by low (low + p.size) t' s6.0 (record { on_break = omega arith; on_continue = inr ticks }))
          ((λ q e' le. ticking_jump (low + p.size) (place + 2) q ticks e' le), tt))))));
    }
    layer (Stmt-F.For line ds start test step a) = record {
      by = λ place after t sp x.
          let p = stmt_piece w a.0 in
          let n0 = all_declared_size ds in
          let n1 = dropped_size start in
          let n2 = test_size test in
          let n3 = again_size step in
          let before = 1 + n0 + n1 in
          let behind = before + 1 + n2 + p.size in
          let end = place + (behind + n3 + 1) in
          let into = continue_place step (place + before) (place + behind + 2) in
          let t' : Targets = record { to_break = end; to_continue = into } in
          let sp' : Spans (In instrs) place (ticked w line then all_declared_part w ds then dropped_part w start then ticked w line then test_part w test end
          then p.part t' then again_part w line step then one (instr.Jump (place + before))) after = record { instrs = sp.instrs; after_is = sp.after_is } in
          let s1 = spans_first (In instrs) place after (instr.Tick w.unit line) _ sp' in
          let s2 = spans_split (In instrs) (place + 1) after n0 (all_declared_part w ds) _ (sized_all_declared w ds) s1.1 in
          let s3 = spans_split (In instrs) (place + 1 + n0) after n1 (dropped_part w start) _ (sized_dropped w start) s2.1 in
          let s4 = spans_first (In instrs) (place + 1 + n0 + n1) after (instr.Tick w.unit line) _ s3.1 in
          let s5 = spans_split (In instrs) (place + 1 + n0 + n1 + 1) after n2 (test_part w test end) _ (sized_test w test end) s4.1 in
          let low = place + 1 + n0 + n1 + 1 + n2 in
          let s6 = spans_split (In instrs) low after p.size (p.part t') _ (sized_piece p t' (has_size w a.0)) s5.1 in
          let e2 : place + 1 + n0 + n1 ≡ place + before = omega arith in
          let ticks = subst (λ q. is_tick (slice_get instrs q) ≡ true) e2 (ticks_at (place + 1 + n0 + n1) line s4.0) in
          bounds_ticked line _ place (bounds_then (all_declared_part w ds) _ n0 (place + 1) (sized_all_declared w ds) (bounds_all_declared ds (place + 1))
          (bounds_then (dropped_part w start) _ n1 (place + 1 + n0) (sized_dropped w start) (bounds_dropped start (place + 1 + n0))
          (bounds_ticked line _ (place + 1 + n0 + n1)
          (bounds_then (test_part w test end) _ n2 (place + 1 + n0 + n1 + 1) (sized_test w test end) (bounds_test test end (place + 1 + n0 + n1 + 1) (omega arith))
          (bounds_then (p.part t') _ p.size low (sized_piece p t' (has_size w a.0))
          (a.1.by low (low + p.size) t' s6.0 (record { on_break = omega arith; on_continue = continues step (low + p.size) (place + before) (place + behind + 2) ticks (omega arith) }))
          (bounds_then (again_part w line step) _ n3 (low + p.size) (sized_again w line step) (bounds_again line step (low + p.size))
          ((λ q e' le. ticking_jump (low + p.size + n3) (place + before) q ticks e' le), tt)))))));
    }
    layer (Stmt-F.Switch line e cases default a) = record {
      by = λ place after t sp x.
          let p = stmt_piece w a.0 in
          let n = expr_size e.expr in
          let k = cases_size cases in
          let front = 1 + n + k + 2 in
          let end = place + (front + p.size) in
          let to : ℕ → ℕ = λ label. led_to (place + front) end (p.label label) in
          let t' : Targets = record { to_break = end; to_continue = t.to_continue } in
          let choice = choice_part to end cases default in
          let low = place + 1 + n + (k + 2) in
          let sp' : Spans (In instrs) place (ticked w line then full_part w e then choice then p.part t') after = record { instrs = sp.instrs; after_is = sp.after_is } in
          let s1 = spans_first (In instrs) place after (instr.Tick w.unit line) _ sp' in
          let s2 = spans_split (In instrs) (place + 1) after n (full_part w e) _ (sized_full w e) s1.1 in
          let s3 = spans_split (In instrs) (place + 1 + n) after (k + 2) choice (p.part t') (sized_choice to end cases default) s2.1 in
          let sized = sized_piece p t' (has_size w a.0) in
          let e1 : after ≡ low + p.size = spans_end (In instrs) low after p.size (p.part t') sized s3.1 in
          let inner : Exiting after t' = record { on_break = omega (arith, e1); on_continue = x.on_continue } in
          bounds_ticked line _ place (bounds_value e _ (place + 1)
          (bounds_then choice (p.part t') (k + 2) (place + 1 + n) (sized_choice to end cases default)
          (bounds_choice to end cases default (place + front) (place + 1 + n) (λ label. led_least (place + front) end (p.label label) (omega arith)) (omega arith) (omega arith))
          (a.1.by low after t' s3.1 inner)));
    }
    layer (Stmt-F.Labelled label a) = record { by = a.1.by }
    layer (Stmt-F.Break line) = record {
      by = λ place after t sp x.
          let b = x.on_break in
          let s1 = spans_first (In instrs) place after (instr.Tick w.unit line) (one (instr.Jump t.to_break)) sp in
          let s2 = s1.1.after_is in
          bounds_ticked line (one (instr.Jump t.to_break)) place (forwards instr.Jump (place + 1) t.to_break (λ lt. lt) (omega (arith, b, s2)), tt);
    }
    layer (Stmt-F.Continue line) = record {
      by = λ place after t sp x.
          let s1 = spans_first (In instrs) place after (instr.Tick w.unit line) (one (instr.Jump t.to_continue)) sp in
          let s2 = s1.1.after_is in
          bounds_ticked line (one (instr.Jump t.to_continue)) place (on_continues place t (exits_before (place + 1 + 1) after t (omega (arith, s2)) x), tt);
    }
    layer (Stmt-F.Return line None) = record {
      by = λ place after t sp x.
          bounds_ticked line _ place (bounds_before (instr.Push 0) (one instr.Return) (place + 1) (plain (instr.Push 0) (place + 1) (λ p. tt)) (plain instr.Return (place + 1 + 1) (λ p. tt), tt));
    }
    layer (Stmt-F.Return line (Some e)) = record {
      by = λ place after t sp x.
          bounds_ticked line _ place (bounds_value e (one instr.Return) (place + 1) (plain instr.Return (place + 1 + expr_size e.expr) (λ p. tt), tt));
    }

    layers : (y : Stmt-F Known) → HasBounds (roll-Stmt (closed y))
    layers y = subst BoundedPiece (sym (piece_roll w (closed y))) (layer y)

    has_bounds : (s : Stmt) → HasBounds s
    has_bounds = ind-Stmt HasBounds (λ x y is. subst (λ z. HasBounds (roll-Stmt z)) is (layers y))

    bounds_pieces : (ss : List Stmt) (place after : ℕ) (t : Targets) → Spans (In instrs) place (in_order_part (map (stmt_piece w) ss) t) after
        → Exiting after t → Bounds place (in_order_part (map (stmt_piece w) ss) t)
    bounds_pieces [] place after t sp x = tt
    bounds_pieces (a ∷ ss) place after t sp x =
        let p = stmt_piece w a in
        let parts = spans_split (In instrs) place after p.size (p.part t) _ (sized_piece p t (has_size w a)) sp in
        let grows = parts.1.after_is in
        bounds_then (p.part t) _ p.size place (sized_piece p t (has_size w a))
        ((has_bounds a).by place (place + p.size) t parts.0 (exits_before (place + p.size) after t (omega (arith, grows)) x))
        (bounds_pieces ss (place + p.size) after t parts.1 x)

  -- ---- functions

  bounds_body : (object : ℕ → ℕ) (body : Body) (place after : ℕ) → Spans (In instrs) place (body_part object body) after → Bounds place (body_part object body)
  bounds_body object body place after sp =
      let w : Within = record { unit = body.unit; object = object } in
      let n = sizes_of (pieces_of object body) in
      let end = place + n in
      let all = in_order_part (pieces_of object body) (end_targets end) in
      let sized = sized_pieces w body.stmts (end_targets end) in
      let sp' : Spans (In instrs) place (all then one (instr.Push 0) then one instr.Return) after = record { instrs = sp.instrs; after_is = sp.after_is } in
      let parts = spans_split (In instrs) place after n all _ sized sp' in
      bounds_then all (one (instr.Push 0) then one instr.Return) n place sized
      (bounds_pieces w body.stmts place end (end_targets end) parts.0 (record { on_break = omega arith; on_continue = inl (omega arith) }))
      (bounds_before (instr.Push 0) (one instr.Return) end (plain (instr.Push 0) end (λ p. tt)) (plain instr.Return (end + 1) (λ p. tt), tt))

  bounds_if : (object : ℕ → ℕ) (o : Option Body) (place after : ℕ) → Spans (In instrs) place (elim o [ None ↦ nothing | Some body ↦ body_part object body ]) after
      → Bounds place (elim o [ None ↦ nothing | Some body ↦ body_part object body ])
  bounds_if object None place after sp = tt
  bounds_if object (Some body) place after sp = bounds_body object body place after sp

  bounds_functions : (object : ℕ → ℕ) (fs : List Function) (place after : ℕ) → Spans (In instrs) place (functions_part object fs) after → Bounds place (functions_part object fs)
  bounds_functions object [] place after sp = tt
  bounds_functions object (f ∷ fs) place after sp =
      let n = function_size object f in
      let parts = spans_split (In instrs) place after n (function_part object f) (functions_part object fs) (sized_function object f) sp in
      bounds_then (function_part object f) (functions_part object fs) n place (sized_function object f)
      (bounds_if object f.body place (place + n) parts.0) (bounds_functions object fs (place + n) after parts.1)

  -- what is said of each instruction is said of the one at a place
  said_at : (says : Saying) (is : List Instr) (place p : ℕ) (i : Instr) → HasAt says place is → slice_get is p ≡ Some i → says (place + p) i
  said_at says [] place p i h e = absurd (cc (e))
  said_at says (j ∷ is) place zero i h e =
      let same : j ≡ i = cc (e) in
      let here : place ≡ place + 0 = omega arith in
      subst (λ q. says q i) here (subst (says place) same h.0)
  said_at says (j ∷ is) place (suc p) i h e =
      let there : place + 1 + p ≡ place + suc p = omega arith in
      subst (λ q. says q i) there (said_at says is (place + 1) p i h.1 e)

  ticks_by : HasAt Bounded 0 instrs → (p q : ℕ) (o : Option Instr) → slice_get instrs p ≡ o → target_of o ≡ Some q → q ≤ p → is_tick (slice_get instrs q) ≡ true
  ticks_by h p q None e target le = absurd (cc (target))
  ticks_by h p q (Some i) e target le =
      let same : 0 + p ≡ p = omega arith in
      (subst (λ r. Bounded r i) same (said_at Bounded instrs 0 p i h e)) q target le

  -- the code of a program is bounded
  pub loops_tick : (program : Program) (segment : Segment) (main : Main) → instrs ≡ program_part program segment main 0 → LoopsTick instrs
  unfolding program_part
  loops_tick program segment main is p q target le =
      let call = instr.Call main.function (parameter_count program main.function) in
      let sp = spans_all instrs (program_part program segment main) is in
      let first = spans_first (In instrs) 0 (length instrs) call (functions_part (offset_in segment) program.functions) sp in
      let all = bounds_before call (functions_part (offset_in segment) program.functions) 0 (plain call 0 (λ r. tt))
      (bounds_functions (offset_in segment) program.functions 1 (length instrs) first.1) in
      ticks_by (subst (HasAt Bounded 0) (sym is) all) p q (slice_get instrs p) refl target le
