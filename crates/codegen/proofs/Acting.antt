-- The code of a statement does what the statement means.
use Rattle.std.proofs.Common.{◌≡◌, ℕ, zero, suc, ◌+◌, ◌<◌, ◌≤◌, Bool, true, List, [], ◌∷◌, ◌++◌, map, length, sym, ap, ◌∙◌, subst, arith, true≢false}
use Rattle.std.specs.Prelude.{◌&&◌, Option, None, Some, slice_get}
use Rattle.std.specs.List.{flat_map}
use Rattle.vm_code.specs.declared.code.Code.{Code}
use Rattle.vm_code.specs.declared.instr.Instr.TheVariants as instr
use Rattle.vm_code.specs.Memory.{zeroed}
use Rattle.vm_code.specs.Machine.{operand_limit}
use Rattle.c_types.specs.declared.expression.FullExpr.{FullExpr}
use Rattle.c_types.specs.declared.statement.Stmt.{Stmt, map-Stmt}
use Rattle.c_types.specs.declared.statement.Stmt.TheOpen.{Stmt-F}
use Rattle.c_types.specs.declared.statement.Stmt.TheViews.{roll-Stmt}
use Rattle.c_types.specs.declared.statement.Stmt.TheFolds.{fold-roll-Stmt, ind-Stmt}
use Rattle.c_types.specs.declared.statement.Declared.{Declared}
use Rattle.c_types.specs.declared.statement.Span.{Span}
use Rattle.c_types.specs.declared.statement.Store.{Store}
use Rattle.c_types.specs.declared.statement.Stored.{Stored}
use Rattle.c_types.specs.declared.statement.Stored.TheVariants.{Number, Structure}
use Rattle.c_types.specs.Need.{Pending, pending, pending_if, in_store, in_declared, joined, pending_step, pending_of, need_of}
use Rattle.c_model.specs.Outcome.{Rest, tick, with_memory, writing}
use Rattle.c_model.specs.Run.{Calling}
use Rattle.c_model.specs.Statements as run
use Rattle.c_model.specs.Statements.{Exits, Frame, Meaning, Acts, here_at, evaluated, evaluated_if, tested, turns, loop, loop_from, do_turns, do_loop, do_from, made_zero, put, stored_in_order, declared, all_declared, whole_if, returned, acts_step, acts, statements}
use Rattle.codegen.specs.Layout.{Part, one, ◌then◌}
use Rattle.codegen.specs.Sizes.{expr_size, dropped_size, test_size, again_size, all_declared_size}
use Rattle.codegen.specs.Statements.{Within, Targets, Piece, ticked, full_part, dropped_part, test_part, zeros_part, put_part, stores_part, declared_part, all_declared_part, again_part, continue_place, in_order_part, while_piece, do_piece, for_piece, stmt_step, stmt_piece}
use Rattle.codegen.specs.Covered.{all_true, expr_covered, covered_if, stores_covered, all_declared_covered, begins_once, stmt_covered_step, stmt_covered}
use Rattle.codegen.proofs.Running.{Standing, Does, Told, fewer, from_place, does_push, does_pop, does_local, does_store, does_copy, does_zero, does_jump, does_if_zero, does_tick}
use Rattle.codegen.proofs.Spanning.{Spans, Stands, spans_none, spans_one, spans_then, spans_first, lies, told_behind, told_next, line_behind}
use Rattle.c_types.specs.declared.program.Function.{Function}
use Rattle.codegen.proofs.Valuing.{DoesCalls, here_in, around_with, has_value}
use Rattle.codegen.proofs.Measuring.{and_left, and_right, calm_code}
use Rattle.codegen.proofs.Shaping.{SizedPiece, spans_split, spans_end, sized_piece, sized_full, sized_dropped, sized_test, sized_all_declared, sized_again, piece_roll, has_size}

-- no more values are pending in any of them than may be
abbrev pub AllFit : List Pending → Type 0
AllFit [] = Unit {0}
AllFit (p ∷ ps) = (p.need ≤ operand_limit) × AllFit ps

pub fit_front : (a b : List Pending) → AllFit (a ++ b) → AllFit a
fit_front [] b h = tt
fit_front (p ∷ a) b h = (h.0, fit_front a b h.1)

pub fit_back : (a b : List Pending) → AllFit (a ++ b) → AllFit b
fit_back [] b h = h
fit_back (p ∷ a) b h = fit_back a b h.1

-- Where a statement goes on that doesn't end at its end, in the code as in the run.
pub record Leads (code : Code) (s : Standing) (most : ℕ) (t : Targets) (exits : Exits) : Type 0 where
  pub on_break : Does code s t.to_break [] most exits.on_break
  pub on_continue : Does code s t.to_continue [] most exits.on_continue
  pub on_return : (x place : ℕ) → slice_get code.instrs place ≡ Some instr.Return → Does code s place (x ∷ []) most (exits.on_return x)

pub leads_fewer : (code : Code) (s : Standing) (most less : ℕ) (t : Targets) (exits : Exits) → less ≤ most → Leads code s most t exits → Leads code s less t exits
leads_fewer code s most less t exits le leads = record {
  on_break = fewer code s _ _ most less _ le leads.on_break;
  on_continue = fewer code s _ _ most less _ le leads.on_continue;
  on_return = λ x place is. fewer code s _ _ most less _ le (leads.on_return x place is);
}

-- Wherever the piece stands, the machine goes over it as the statement does.
pub record ActsAs (code : Code) (s : Standing) (f : Frame) (p : Piece) (m : Meaning) : Type 0 where
  pub by : (place after most : ℕ) (t : Targets) (exits : Exits) (next : Rest) → Spans (Stands code) place (p.part t) after
      → Leads code s most t exits → Does code s after [] most next → Does code s place [] most (m f exits next)

-- The same from a label on, before which so many instructions of the piece stand.
pub record EntersAt (code : Code) (s : Standing) (f : Frame) (p : Piece) (count : ℕ) (m : Meaning) : Type 0 where
  pub by : (place after most : ℕ) (t : Targets) (exits : Exits) (next : Rest) → Spans (Stands code) place (p.part t) after
      → Leads code s most t exits → Does code s after [] most next → Does code s (place + count) [] most (m f exits next)

-- the equations of a statement at one layer
pub acts_roll : (x : Stmt-F Stmt) → acts (roll-Stmt x) ≡ acts_step (map-Stmt Stmt Acts acts x)
unfolding acts
acts_roll x = fold-roll-Stmt Acts acts_step x

pub covered_roll : (fs : List Function) (x : Stmt-F Stmt) → (stmt_covered fs) (roll-Stmt x) ≡ (stmt_covered_step fs) (map-Stmt Stmt Bool (stmt_covered fs) x)
unfolding stmt_covered
covered_roll fs x = fold-roll-Stmt Bool (stmt_covered_step fs) x

pub pending_roll : (x : Stmt-F Stmt) → pending_of (roll-Stmt x) ≡ pending_step (map-Stmt Stmt (List Pending) pending_of x)
unfolding pending_of
pending_roll x = fold-roll-Stmt (List Pending) pending_step x

-- the frame of a run, in a call
abbrev pub frame_in : Standing → Calling → (ℕ → ℕ) → ℕ → Frame
frame_in s calling object unit = record { around = around_with calling object; start = s.start; unit = unit }

module _ (fs : List Function) (code : Code) (s : Standing) (calling : Calling) (calls : DoesCalls fs code s calling) (object : ℕ → ℕ) (unit : ℕ) where
  abbrev within : Within
  within = record { unit = unit; object = object }

  abbrev frame : Frame
  frame = frame_in s calling object unit

  -- a full expression, behind a tick point of its line
  pub over_full : (e : FullExpr) (line place after : ℕ) (stack : List ℕ) (most : ℕ) (next : ℕ → Rest) → (expr_covered fs) e.expr ≡ true
      → length stack + need_of e.expr ≤ operand_limit → Told code place (here_in s unit line) → Spans (Stands code) place (full_part within e) after
      → ((x : ℕ) → Does code s after (x ∷ stack) most (next x)) → Does code s place stack most (evaluated e frame line next)
  over_full e line place after stack most next covered fits told sp d =
      (has_value fs code s calling calls object unit line e.expr).by place after stack most next fits
      (lies fs code (here_in s unit line) place (full_part within e) after (calm_code fs object e.expr covered place) told sp) d

  told_full : (e : FullExpr) (line place after : ℕ) → (expr_covered fs) e.expr ≡ true → Told code place (here_in s unit line)
      → Spans (Stands code) place (full_part within e) after → Told code after (here_in s unit line)
  told_full e line place after covered told sp =
      subst (λ p. Told code p (here_in s unit line)) (sym sp.after_is)
      (told_behind fs code (here_in s unit line) place (full_part within e place) sp.instrs (calm_code fs object e.expr covered place) told)

  -- the tick point before a part
  pub tick_first : (line place after : ℕ) (b : Part) → Spans (Stands code) place (ticked within line then b) after
      → (slice_get code.instrs place ≡ Some (instr.Tick unit line)) × Told code (place + 1) (here_in s unit line) × Spans (Stands code) (place + 1) b after
  tick_first line place after b sp =
      let first = spans_first (Stands code) place after (instr.Tick unit line) b sp in
      (first.0, line_behind code place (instr.Tick unit line) first.0, first.1)

  -- ---- declarators

  over_put : (stored : Stored) (a word line place after most : ℕ) (next : Rest) → Told code place (here_in s unit line)
      → Spans (Stands code) place (one (put_part stored) then one instr.Pop) after
      → Does code s after [] most next → Does code s place (word ∷ a ∷ []) most (put stored a word (here_in s unit line) next)
  over_put (Number k) a word line place after most next told sp d =
      let first = spans_first (Stands code) place after (instr.Store k) (one instr.Pop) sp in
      let last = spans_one (Stands code) (place + 1) after instr.Pop first.1 in
      does_store code s k a word place [] most (here_in s unit line) next first.0 told (omega arith)
      (does_pop code s word (place + 1) [] most next last.0 (omega arith) (from_place code s _ _ _ _ _ last.1 d))
  over_put (Structure size) a word line place after most next told sp d =
      let first = spans_first (Stands code) place after (instr.Copy size) (one instr.Pop) sp in
      let last = spans_one (Stands code) (place + 1) after instr.Pop first.1 in
      does_copy code s size a word place [] most (here_in s unit line) next first.0 told (omega arith)
      (does_pop code s a (place + 1) [] most next last.0 (omega arith) (from_place code s _ _ _ _ _ last.1 d))

  put_calm : (stored : Stored) (place line : ℕ) → slice_get code.instrs place ≡ Some (put_part stored) → Told code place (here_in s unit line)
      → Told code (place + 1) (here_in s unit line)
  put_calm (Number k) place line is told = told_next fs code place (instr.Store k) (here_in s unit line) is tt told
  put_calm (Structure size) place line is told = told_next fs code place (instr.Copy size) (here_in s unit line) is tt told

  put_and_pop : (stored : Stored) (p : ℕ) → slice_get code.instrs p ≡ Some (put_part stored) → slice_get code.instrs (p + 1) ≡ Some instr.Pop
      → Spans (Stands code) p (one (put_part stored) then one instr.Pop) (p + 1 + 1)
  unfolding ◌then◌
  put_and_pop stored p is pops = record { instrs = (is, (pops, tt)); after_is = omega arith }

  over_stores : (ss : List Store) (line place after most : ℕ) (next : Rest) → (stores_covered fs) ss ≡ true → AllFit (flat_map in_store ss)
      → Told code place (here_in s unit line) → Spans (Stands code) place (stores_part within ss) after
      → Does code s after [] most next → Does code s place [] most (stored_in_order ss frame line next)
  over_stores [] line place after most next covered fits told sp d =
      from_place code s _ _ _ _ _ (spans_none (Stands code) place after sp) d
  over_stores (a ∷ ss) line place after most next covered fits told sp d =
      let first = spans_first (Stands code) place after (instr.Local a.offset) _ sp in
      let told1 = told_next fs code place (instr.Local a.offset) (here_in s unit line) first.0 tt told in
      let here_covered = and_left ((expr_covered fs) a.value.expr) ((stores_covered fs) ss) covered in
      let value = spans_then (Stands code) (place + 1) after (full_part within a.value) _ first.1 in
      let told2 = told_full a.value line (place + 1) value.0 here_covered told1 value.1 in
      let putting = spans_first (Stands code) value.0 after (put_part a.stored) _ value.2 in
      let popping = spans_first (Stands code) (value.0 + 1) after instr.Pop (stores_part within ss) putting.1 in
      let told3 = put_calm a.stored value.0 line putting.0 told2 in
      let told4 = told_next fs code (value.0 + 1) instr.Pop (here_in s unit line) popping.0 tt told3 in
      let both : Spans (Stands code) value.0 (one (put_part a.stored) then one instr.Pop) (value.0 + 1 + 1) = put_and_pop a.stored value.0 putting.0 popping.0 in
      does_local code s a.offset place [] most _ first.0 (omega arith)
      (λ p. over_full a.value line (place + 1) value.0 (p ∷ []) most _ here_covered fits.0 told1 value.1
      (λ word. over_put a.stored p word line value.0 (value.0 + 1 + 1) most _ told2 both
      (over_stores ss line (value.0 + 1 + 1) after most next (and_right ((expr_covered fs) a.value.expr) ((stores_covered fs) ss) covered) fits.1 told4 popping.1 d)))

  over_zeros : (span : Option Span) (line place after most : ℕ) (next : Rest) → Told code place (here_in s unit line) → Spans (Stands code) place (zeros_part span) after
      → Does code s after [] most next → Does code s place [] most (made_zero span frame (here_in s unit line) next)
  over_zeros None line place after most next told sp d = from_place code s _ _ _ _ _ (spans_none (Stands code) place after sp) d
  over_zeros (Some span) line place after most next told sp d =
      let first = spans_first (Stands code) place after (instr.Local span.offset) _ sp in
      let last = spans_one (Stands code) (place + 1) after (instr.Zero span.size) first.1 in
      let told1 = told_next fs code place (instr.Local span.offset) (here_in s unit line) first.0 tt told in
      let all = does_local code s span.offset place [] most (λ a. with_memory (λ m. writing (zeroed m a span.size) (here_in s unit line) next)) first.0 (omega arith)
      (λ a. does_zero code s span.size a (place + 1) [] most (here_in s unit line) next last.0 told1 (omega arith) (from_place code s _ _ _ _ _ last.1 d)) in
      record { by = λ n answers done le top. all.by n answers done le top }

  told_zeros : (span : Option Span) (line place after : ℕ) → Told code place (here_in s unit line) → Spans (Stands code) place (zeros_part span) after
      → Told code after (here_in s unit line)
  told_zeros None line place after told sp = subst (λ p. Told code p (here_in s unit line)) (sym (spans_none (Stands code) place after sp)) told
  told_zeros (Some span) line place after told sp =
      let first = spans_first (Stands code) place after (instr.Local span.offset) _ sp in
      let last = spans_one (Stands code) (place + 1) after (instr.Zero span.size) first.1 in
      let told1 = told_next fs code place (instr.Local span.offset) (here_in s unit line) first.0 tt told in
      subst (λ p. Told code p (here_in s unit line)) (sym last.1) (told_next fs code (place + 1) (instr.Zero span.size) (here_in s unit line) last.0 tt told1)

  over_declared : (d : Declared) (place after most : ℕ) (next : Rest) → (stores_covered fs) d.stores ≡ true → AllFit (in_declared d)
      → Spans (Stands code) place (declared_part within d) after → Does code s after [] most next → Does code s place [] most (declared d frame next)
  over_declared d place after most next covered fits sp does =
      let first = tick_first d.line place after _ sp in
      let parts = spans_then (Stands code) (place + 1) after (zeros_part d.zeros) (stores_part within d.stores) first.2 in
      does_tick code s unit d.line place [] most _ first.0 (omega arith) (λ less lt.
      over_zeros d.zeros d.line (place + 1) parts.0 less _ first.1 parts.1
      (over_stores d.stores d.line parts.0 after less next covered fits (told_zeros d.zeros d.line (place + 1) parts.0 first.1 parts.1) parts.2
      (fewer code s after [] most less next (omega (arith, lt)) does)))

  over_all_declared : (ds : List Declared) (place after most : ℕ) (next : Rest) → (all_declared_covered fs) ds ≡ true → AllFit (flat_map in_declared ds)
      → Spans (Stands code) place (all_declared_part within ds) after → Does code s after [] most next → Does code s place [] most (all_declared ds frame next)
  over_all_declared [] place after most next covered fits sp does = from_place code s _ _ _ _ _ (spans_none (Stands code) place after sp) does
  over_all_declared (d ∷ ds) place after most next covered fits sp does =
      let parts = spans_then (Stands code) place after (declared_part within d) (all_declared_part within ds) sp in
      over_declared d place parts.0 most _ (and_left ((stores_covered fs) d.stores) ((all_declared_covered fs) ds) covered) (fit_front (in_declared d) (flat_map in_declared ds) fits) parts.1
      (over_all_declared ds parts.0 after most next (and_right ((stores_covered fs) d.stores) ((all_declared_covered fs) ds) covered) (fit_back (in_declared d) (flat_map in_declared ds) fits) parts.2 does)

  -- ---- expressions in statements

  -- an expression behind its own tick point
  pub ticked_full : (e : FullExpr) (line place after most : ℕ) (rest : Part) (next : ℕ → Rest) → (expr_covered fs) e.expr ≡ true → AllFit (pending 0 e)
      → Spans (Stands code) place (ticked within line then full_part within e then rest) after
      → ((less x : ℕ) → less < most → Does code s (place + 1 + expr_size e.expr) (x ∷ []) less (next x))
      → Does code s place [] most (tick (evaluated e frame line next))
  ticked_full e line place after most rest next covered fits sp d =
      let first = tick_first line place after _ sp in
      let parts = spans_split (Stands code) (place + 1) after (expr_size e.expr) (full_part within e) rest (sized_full within e) first.2 in
      does_tick code s unit line place [] most _ first.0 (omega arith) (λ less lt.
      over_full e line (place + 1) (place + 1 + expr_size e.expr) [] less next covered fits.0 first.1 parts.0 (λ x. d less x lt))

  -- what stands behind it
  pub behind_full : (e : FullExpr) (line place after : ℕ) (rest : Part) → Spans (Stands code) place (ticked within line then full_part within e then rest) after
      → Spans (Stands code) (place + 1 + expr_size e.expr) rest after
  behind_full e line place after rest sp =
      (spans_split (Stands code) (place + 1) after (expr_size e.expr) (full_part within e) rest (sized_full within e) (tick_first line place after _ sp).2).1

  over_dropped : (e : Option FullExpr) (line place after most : ℕ) (next : Rest) → (covered_if fs) e ≡ true → AllFit (pending_if e)
      → Told code place (here_in s unit line) → Spans (Stands code) place (dropped_part within e) after
      → Does code s after [] most next → Does code s place [] most (evaluated_if e frame line next)
  over_dropped None line place after most next covered fits told sp d = from_place code s _ _ _ _ _ (spans_none (Stands code) place after sp) d
  over_dropped (Some e) line place after most next covered fits told sp d =
      let parts = spans_then (Stands code) place after (full_part within e) (one instr.Pop) sp in
      let last = spans_one (Stands code) parts.0 after instr.Pop parts.2 in
      over_full e line place parts.0 [] most _ covered fits.0 told parts.1
      (λ x. does_pop code s x parts.0 [] most next last.0 (omega arith) (from_place code s _ _ _ _ _ last.1 d))

  over_test : (e : Option FullExpr) (end line place after most : ℕ) (holds fails : Rest) → (covered_if fs) e ≡ true → AllFit (pending_if e)
      → Told code place (here_in s unit line) → Spans (Stands code) place (test_part within e end) after
      → Does code s after [] most holds → Does code s end [] most fails → Does code s place [] most (tested e frame line holds fails)
  over_test None end line place after most holds fails covered fits told sp d f = from_place code s _ _ _ _ _ (spans_none (Stands code) place after sp) d
  over_test (Some e) end line place after most holds fails covered fits told sp d f =
      let parts = spans_then (Stands code) place after (full_part within e) (one (instr.JumpIfZero end)) sp in
      let last = spans_one (Stands code) parts.0 after (instr.JumpIfZero end) parts.2 in
      over_full e line place parts.0 [] most _ covered fits.0 told parts.1
      (λ x. does_if_zero code s end x parts.0 [] most holds fails last.0 (from_place code s _ _ _ _ _ last.1 d) f)

  -- ---- loops

  -- A loop in code: its test behind a tick point, its body, where `continue` leads, and the place behind it.
  pub record Loop (line : ℕ) (test : Rest → Rest → Rest) (step : Rest → Rest) (p : Piece) (m : Meaning) (start body behind into after : ℕ) : Type 0 where
    pub ticks : slice_get code.instrs start ≡ Some (instr.Tick unit line)
    pub tests : (most : ℕ) (holds fails : Rest) → Does code s body [] most holds → Does code s after [] most fails
        → Does code s (start + 1) [] most (test holds fails)
    pub piece : ActsAs code s frame p m
    pub stands : Spans (Stands code) body (p.part (record { to_break = after; to_continue = into })) behind
    pub steps : (most : ℕ) (r : Rest) → Does code s start [] most r → Does code s into [] most (step r)
    pub behinds : (most : ℕ) (r : Rest) → Does code s start [] most r → Does code s behind [] most (step r)

  -- so many turns, where no more ticks are left
  over_turns : (line : ℕ) (test : Rest → Rest → Rest) (step : Rest → Rest) (p : Piece) (m : Meaning) (start body behind into after : ℕ)
      → Loop line test step p m start body behind into after
      → (n most : ℕ) (t : Targets) (exits : Exits) (next : Rest) → most < n → Leads code s most t exits → Does code s after [] most next
      → Does code s start [] most (turns n test m step frame exits next)
  over_turns line test step p m start body behind into after l zero most t exits next lt leads d = absurd (omega (arith, lt))
  over_turns line test step p m start body behind into after l (suc n) most t exits next lt leads d =
      does_tick code s unit line start [] most _ l.ticks (omega arith) (λ less lt'.
      let le : less ≤ most = omega (arith, lt') in
      let d' = fewer code s after [] most less next le d in
      let again = over_turns line test step p m start body behind into after l n less t exits next (omega (arith, lt, lt')) (leads_fewer code s most less t exits le leads) d' in
      l.tests less _ next
      (l.piece.by body behind less _ _ _ l.stands
      (record { on_break = d'; on_continue = l.steps less _ again; on_return = (leads_fewer code s most less t exits le leads).on_return })
      (l.behinds less _ again))
      d')

  pub over_loop : (line : ℕ) (test : Rest → Rest → Rest) (step : Rest → Rest) (p : Piece) (m : Meaning) (start body behind into after : ℕ)
      → Loop line test step p m start body behind into after
      → (most : ℕ) (t : Targets) (exits : Exits) (next : Rest) → Leads code s most t exits → Does code s after [] most next
      → Does code s start [] most (loop test m step frame exits next)
  over_loop line test step p m start body behind into after l most t exits next leads d = record {
    by = λ n answers done le top.
        (over_turns line test step p m start body behind into after l (suc n) n t exits next (omega arith) (leads_fewer code s most n t exits le leads)
        (fewer code s after [] most n next le d)).by n answers done (omega arith) top;
  }

  -- the turns of a `do`, from its body on
  over_do_turns : (line : ℕ) (test : Rest → Rest → Rest) (p : Piece) (m : Meaning) (start body behind after : ℕ)
      → Loop line test (λ r. r) p m start body behind start after
      → (n most : ℕ) (t : Targets) (exits : Exits) (next : Rest) → most < n → Leads code s most t exits → Does code s after [] most next
      → Does code s body [] most (do_turns n test m frame exits next)
  over_do_turns line test p m start body behind after l zero most t exits next lt leads d = absurd (omega (arith, lt))
  over_do_turns line test p m start body behind after l (suc n) most t exits next lt leads d =
      let again = does_tick code s unit line start [] most _ l.ticks (omega arith) (λ less lt'.
      let le : less ≤ most = omega (arith, lt') in
      let d' = fewer code s after [] most less next le d in
      l.tests less _ next
      (over_do_turns line test p m start body behind after l n less t exits next (omega (arith, lt, lt')) (leads_fewer code s most less t exits le leads) d')
      d') in
      l.piece.by body behind most _ _ _ l.stands
      (record { on_break = d; on_continue = again; on_return = leads.on_return })
      (l.behinds most _ again)

  pub over_do : (line : ℕ) (test : Rest → Rest → Rest) (p : Piece) (m : Meaning) (start body behind after : ℕ)
      → Loop line test (λ r. r) p m start body behind start after
      → (most : ℕ) (t : Targets) (exits : Exits) (next : Rest) → Leads code s most t exits → Does code s after [] most next
      → Does code s body [] most (do_loop test m frame exits next)
  over_do line test p m start body behind after l most t exits next leads d = record {
    by = λ n answers done le top.
        (over_do_turns line test p m start body behind after l (suc n) n t exits next (omega arith) (leads_fewer code s most n t exits le leads)
        (fewer code s after [] most n next le d)).by n answers done (omega arith) top;
  }

  -- the loop from within its body on
  pub over_loop_from : (line : ℕ) (test : Rest → Rest → Rest) (step : Rest → Rest) (p : Piece) (m : Meaning) (start body behind into after count : ℕ) (entered : Meaning)
      → Loop line test step p m start body behind into after → EntersAt code s frame p count entered
      → (most : ℕ) (t : Targets) (exits : Exits) (next : Rest) → Leads code s most t exits → Does code s after [] most next
      → Does code s (body + count) [] most (loop_from test m step entered frame exits next)
  over_loop_from line test step p m start body behind into after count entered l enters most t exits next leads d =
      let again = over_loop line test step p m start body behind into after l most t exits next leads d in
      enters.by body behind most _ _ _ l.stands
      (record { on_break = d; on_continue = l.steps most _ again; on_return = leads.on_return })
      (l.behinds most _ again)

  pub over_do_from : (line : ℕ) (test : Rest → Rest → Rest) (p : Piece) (m : Meaning) (start body behind after count : ℕ) (entered : Meaning)
      → Loop line test (λ r. r) p m start body behind start after → EntersAt code s frame p count entered
      → (most : ℕ) (t : Targets) (exits : Exits) (next : Rest) → Leads code s most t exits → Does code s after [] most next
      → Does code s (body + count) [] most (do_from test m entered frame exits next)
  over_do_from line test p m start body behind after count entered l enters most t exits next leads d =
      let again = does_tick code s unit line start [] most _ l.ticks (omega arith) (λ less lt.
      let le : less ≤ most = omega (arith, lt) in
      let d' = fewer code s after [] most less next le d in
      l.tests less _ next (over_do line test p m start body behind after l less t exits next (leads_fewer code s most less t exits le leads) d') d') in
      enters.by body behind most _ _ _ l.stands
      (record { on_break = d; on_continue = again; on_return = leads.on_return })
      (l.behinds most _ again)

  -- ---- statements

  pub acts_empty : (line : ℕ) → ActsAs code s frame (stmt_step within (Stmt-F.Empty line)) ((acts_step (Stmt-F.Empty line)).whole)
  acts_empty line = record {
    by = λ place after most t exits next sp leads d.
        let first = spans_one (Stands code) place after (instr.Tick unit line) sp in
        does_tick code s unit line place [] most next first.0 (omega arith)
        (λ less lt. from_place code s _ _ _ _ _ first.1 (fewer code s after [] most less next (omega (arith, lt)) d));
  }

  pub acts_express : (line : ℕ) (e : FullExpr) → (expr_covered fs) e.expr ≡ true → AllFit (pending 0 e)
      → ActsAs code s frame (stmt_step within (Stmt-F.Express line e)) ((acts_step (Stmt-F.Express line e)).whole)
  acts_express line e covered fits = record {
    by = λ place after most t exits next sp leads d.
        let last = spans_one (Stands code) (place + 1 + expr_size e.expr) after instr.Pop (behind_full e line place after (one instr.Pop) sp) in
        ticked_full e line place after most (one instr.Pop) _ covered fits sp
        (λ less x lt. does_pop code s x (place + 1 + expr_size e.expr) [] less next last.0 (omega arith)
        (from_place code s _ _ _ _ _ last.1 (fewer code s after [] most less next (omega (arith, lt)) d)));
  }

  pub acts_declare : (d : Declared) → (stores_covered fs) d.stores ≡ true → AllFit (in_declared d)
      → ActsAs code s frame (stmt_step within (Stmt-F.Declare d)) ((acts_step (Stmt-F.Declare d)).whole)
  acts_declare d covered fits = record {
    by = λ place after most t exits next sp leads does. over_declared d place after most next covered fits sp does;
  }

  pub acts_if : (line : ℕ) (e : FullExpr) (p : Piece) (a : Acts) → SizedPiece p → (expr_covered fs) e.expr ≡ true → AllFit (pending 0 e) → ActsAs code s frame p a.whole
      → ActsAs code s frame (stmt_step within (Stmt-F.If line e p None)) ((acts_step (Stmt-F.If line e a None)).whole)
  acts_if line e p a sized covered fits has = record {
    by = λ place after most t exits next sp leads d.
        let n = expr_size e.expr in
        let end = place + 1 + n + 1 + p.size in
        let sp' : Spans (Stands code) place (ticked within line then full_part within e then one (instr.JumpIfZero end) then p.part t) after = record { instrs = sp.instrs; after_is = sp.after_is } in
        let rest = behind_full e line place after _ sp' in
        let test = spans_first (Stands code) (place + 1 + n) after (instr.JumpIfZero end) (p.part t) rest in
        let e1 : after ≡ end = spans_end (Stands code) (place + 1 + n + 1) after p.size (p.part t) (sized_piece p t sized) test.1 in
        ticked_full e line place after most _ _ covered fits sp'
        (λ less x lt. let le : less ≤ most = omega (arith, lt) in
        let d' = fewer code s after [] most less next le d in
        does_if_zero code s end x (place + 1 + n) [] less _ next test.0
        (has.by (place + 1 + n + 1) after less t exits next test.1 (leads_fewer code s most less t exits le leads) d')
        (from_place code s _ _ _ _ _ e1 d'));
  }

  pub acts_if_else : (line : ℕ) (e : FullExpr) (p q : Piece) (a b : Acts) → SizedPiece p → SizedPiece q → (expr_covered fs) e.expr ≡ true → AllFit (pending 0 e)
      → ActsAs code s frame p a.whole → ActsAs code s frame q b.whole
      → ActsAs code s frame (stmt_step within (Stmt-F.If line e p (Some q))) ((acts_step (Stmt-F.If line e a (Some b))).whole)
  acts_if_else line e p q a b sized_p sized_q covered fits has others = record {
    by = λ place after most t exits next sp leads d.
        let n = expr_size e.expr in
        let otherwise = place + 1 + n + 1 + p.size + 1 in
        let end = place + 1 + n + 1 + p.size + 1 + q.size in
        let sp' : Spans (Stands code) place (ticked within line then full_part within e then one (instr.JumpIfZero otherwise) then p.part t
        then one (instr.Jump end) then q.part t) after = record { instrs = sp.instrs; after_is = sp.after_is } in
        let rest = behind_full e line place after _ sp' in
        let test = spans_first (Stands code) (place + 1 + n) after (instr.JumpIfZero otherwise) _ rest in
        let parts = spans_split (Stands code) (place + 1 + n + 1) after p.size (p.part t) _ (sized_piece p t sized_p) test.1 in
        let jump = spans_first (Stands code) (place + 1 + n + 1 + p.size) after (instr.Jump end) (q.part t) parts.1 in
        let e1 : after ≡ end = spans_end (Stands code) otherwise after q.size (q.part t) (sized_piece q t sized_q) jump.1 in
        ticked_full e line place after most _ _ covered fits sp'
        (λ less x lt. let le : less ≤ most = omega (arith, lt) in
        let d' = fewer code s after [] most less next le d in
        let leads' = leads_fewer code s most less t exits le leads in
        does_if_zero code s otherwise x (place + 1 + n) [] less _ _ test.0
        (has.by (place + 1 + n + 1) (place + 1 + n + 1 + p.size) less t exits next parts.0 leads'
        (does_jump code s end (place + 1 + n + 1 + p.size) [] less next jump.0 (from_place code s _ _ _ _ _ e1 d')))
        (others.by otherwise after less t exits next jump.1 leads' d'));
  }

  -- the loop of a `while`, and the tick point before it
  pub while_loop : (line : ℕ) (e : FullExpr) (p : Piece) (m : Meaning) → SizedPiece p → (expr_covered fs) e.expr ≡ true → AllFit (pending 0 e) → ActsAs code s frame p m
      → (place after : ℕ) (t : Targets) → Spans (Stands code) place ((while_piece within line e p).part t) after
      → Loop line (tested (Some e) frame line) (λ r. r) p m (place + 1) (place + 1 + 1 + expr_size e.expr + 1) (place + 1 + 1 + expr_size e.expr + 1 + p.size) (place + 1)
      (place + (2 + expr_size e.expr + 1 + p.size + 1))
      × (place + (2 + expr_size e.expr + 1 + p.size + 1) ≡ after) × (slice_get code.instrs place ≡ Some (instr.Tick unit line))
  while_loop line e p m sized covered fits has place after t sp =
      let n = expr_size e.expr in
      let size = 2 + n + 1 + p.size + 1 in
      let t' : Targets = record { to_break = place + size; to_continue = place + 1 } in
      let sp' : Spans (Stands code) place (ticked within line then ticked within line then full_part within e then one (instr.JumpIfZero (place + size))
      then p.part t' then one (instr.Jump (place + 1))) after = record { instrs = sp.instrs; after_is = sp.after_is } in
      let first = tick_first line place after _ sp' in
      let second = tick_first line (place + 1) after _ first.2 in
      let parts = spans_split (Stands code) (place + 1 + 1) after n (full_part within e) _ (sized_full within e) second.2 in
      let test = spans_first (Stands code) (place + 1 + 1 + n) after (instr.JumpIfZero (place + size)) _ parts.1 in
      let body = spans_split (Stands code) (place + 1 + 1 + n + 1) after p.size (p.part t') _ (sized_piece p t' sized) test.1 in
      let jump = spans_one (Stands code) (place + 1 + 1 + n + 1 + p.size) after (instr.Jump (place + 1)) body.1 in
      let back = λ (less : ℕ) (r : Rest). does_jump code s (place + 1) (place + 1 + 1 + n + 1 + p.size) [] less r jump.0 in
      let l : Loop line (tested (Some e) frame line) (λ r. r) p m (place + 1) (place + 1 + 1 + n + 1) (place + 1 + 1 + n + 1 + p.size) (place + 1) (place + size) = record {
        ticks = second.0;
        tests = λ less holds fails h f. over_full e line (place + 1 + 1) (place + 1 + 1 + n) [] less _ covered fits.0 second.1 parts.0
            (λ x. does_if_zero code s (place + size) x (place + 1 + 1 + n) [] less holds fails test.0 h f);
        piece = has;
        stands = body.0;
        steps = λ less r h. h;
        behinds = λ less r h. back less r h;
      } in
      (l, omega (arith, jump.1), first.0)

  pub acts_while : (line : ℕ) (e : FullExpr) (p : Piece) (a : Acts) → SizedPiece p → (expr_covered fs) e.expr ≡ true → AllFit (pending 0 e) → ActsAs code s frame p a.whole
      → ActsAs code s frame (stmt_step within (Stmt-F.While line e p)) ((acts_step (Stmt-F.While line e a)).whole)
  acts_while line e p a sized covered fits has = record {
    by = λ place after most t exits next sp leads d.
        let l = while_loop line e p a.whole sized covered fits has place after t sp in
        let end = place + (2 + expr_size e.expr + 1 + p.size + 1) in
        does_tick code s unit line place [] most _ l.2 (omega arith) (λ less lt. let le : less ≤ most = omega (arith, lt) in
        over_loop line _ _ p a.whole _ _ _ _ end l.0 less t exits next (leads_fewer code s most less t exits le leads)
        (from_place code s _ _ _ _ _ (sym l.1) (fewer code s after [] most less next le d)));
  }

  -- the loop of a `do`, and what stands before it
  pub do_loop_at : (line : ℕ) (p : Piece) (e : FullExpr) (m : Meaning) → SizedPiece p → (expr_covered fs) e.expr ≡ true → AllFit (pending 0 e) → ActsAs code s frame p m
      → (place after : ℕ) (t : Targets) → Spans (Stands code) place ((do_piece within line p e).part t) after
      → Loop line (tested (Some e) frame line) (λ r. r) p m (place + 2) (place + 1 + 1 + 1 + expr_size e.expr + 1) (place + 1 + 1 + 1 + expr_size e.expr + 1 + p.size) (place + 2)
      (place + (3 + expr_size e.expr + 1 + p.size + 1))
      × (place + (3 + expr_size e.expr + 1 + p.size + 1) ≡ after) × (slice_get code.instrs place ≡ Some (instr.Tick unit line))
      × (slice_get code.instrs (place + 1) ≡ Some (instr.Jump (place + 3 + expr_size e.expr + 1)))
  do_loop_at line p e m sized covered fits has place after t sp =
      let n = expr_size e.expr in
      let size = 3 + n + 1 + p.size + 1 in
      let t' : Targets = record { to_break = place + size; to_continue = place + 2 } in
      let sp' : Spans (Stands code) place (ticked within line then one (instr.Jump (place + 3 + n + 1)) then ticked within line then full_part within e
      then one (instr.JumpIfZero (place + size)) then p.part t' then one (instr.Jump (place + 2))) after = record { instrs = sp.instrs; after_is = sp.after_is } in
      let first = tick_first line place after _ sp' in
      let jump = spans_first (Stands code) (place + 1) after (instr.Jump (place + 3 + n + 1)) _ first.2 in
      let second = tick_first line (place + 1 + 1) after _ jump.1 in
      let parts = spans_split (Stands code) (place + 1 + 1 + 1) after n (full_part within e) _ (sized_full within e) second.2 in
      let test = spans_first (Stands code) (place + 1 + 1 + 1 + n) after (instr.JumpIfZero (place + size)) _ parts.1 in
      let body = spans_split (Stands code) (place + 1 + 1 + 1 + n + 1) after p.size (p.part t') _ (sized_piece p t' sized) test.1 in
      let back = spans_one (Stands code) (place + 1 + 1 + 1 + n + 1 + p.size) after (instr.Jump (place + 2)) body.1 in
      let e2 : place + 1 + 1 ≡ place + 2 = omega arith in
      let e4 : place + 1 + 1 + 1 ≡ place + 2 + 1 = omega arith in
      let l : Loop line (tested (Some e) frame line) (λ r. r) p m (place + 2) (place + 1 + 1 + 1 + n + 1) (place + 1 + 1 + 1 + n + 1 + p.size) (place + 2) (place + size) = record {
        ticks = subst (λ q. slice_get code.instrs q ≡ Some (instr.Tick unit line)) e2 second.0;
        tests = λ less holds fails h f. from_place code s _ _ _ _ _ e4 (over_full e line (place + 1 + 1 + 1) (place + 1 + 1 + 1 + n) [] less _ covered fits.0 second.1 parts.0
            (λ x. does_if_zero code s (place + size) x (place + 1 + 1 + 1 + n) [] less holds fails test.0 h f));
        piece = has;
        stands = body.0;
        steps = λ less r h. h;
        behinds = λ less r h. does_jump code s (place + 2) (place + 1 + 1 + 1 + n + 1 + p.size) [] less r back.0 h;
      } in
      (l, omega (arith, back.1), first.0, jump.0)

  pub acts_do : (line : ℕ) (p : Piece) (e : FullExpr) (a : Acts) → SizedPiece p → (expr_covered fs) e.expr ≡ true → AllFit (pending 0 e) → ActsAs code s frame p a.whole
      → ActsAs code s frame (stmt_step within (Stmt-F.Do line p e)) ((acts_step (Stmt-F.Do line a e)).whole)
  acts_do line p e a sized covered fits has = record {
    by = λ place after most t exits next sp leads d.
        let n = expr_size e.expr in
        let l = do_loop_at line p e a.whole sized covered fits has place after t sp in
        let end = place + (3 + n + 1 + p.size + 1) in
        let e3 : place + 1 + 1 + 1 + n + 1 ≡ place + 3 + n + 1 = omega arith in
        does_tick code s unit line place [] most _ l.2 (omega arith) (λ less lt. let le : less ≤ most = omega (arith, lt) in
        does_jump code s (place + 3 + n + 1) (place + 1) [] less _ l.3 (from_place code s _ _ _ _ _ e3
        (over_do line _ p a.whole _ _ _ end l.0 less t exits next (leads_fewer code s most less t exits le leads)
        (from_place code s _ _ _ _ _ (sym l.1) (fewer code s after [] most less next le d)))));
  }

  pub acts_break : (line : ℕ) → ActsAs code s frame (stmt_step within (Stmt-F.Break line)) ((acts_step (Stmt-F.Break line)).whole)
  acts_break line = record {
    by = λ place after most t exits next sp leads d.
        let first = tick_first line place after _ sp in
        let last = spans_one (Stands code) (place + 1) after (instr.Jump t.to_break) first.2 in
        does_tick code s unit line place [] most _ first.0 (omega arith) (λ less lt.
        does_jump code s t.to_break (place + 1) [] less _ last.0 (fewer code s _ _ most less _ (omega (arith, lt)) leads.on_break));
  }

  pub acts_continue : (line : ℕ) → ActsAs code s frame (stmt_step within (Stmt-F.Continue line)) ((acts_step (Stmt-F.Continue line)).whole)
  acts_continue line = record {
    by = λ place after most t exits next sp leads d.
        let first = tick_first line place after _ sp in
        let last = spans_one (Stands code) (place + 1) after (instr.Jump t.to_continue) first.2 in
        does_tick code s unit line place [] most _ first.0 (omega arith) (λ less lt.
        does_jump code s t.to_continue (place + 1) [] less _ last.0 (fewer code s _ _ most less _ (omega (arith, lt)) leads.on_continue));
  }

  pub acts_return : (line : ℕ) (e : Option FullExpr) → (covered_if fs) e ≡ true → AllFit (pending_if e)
      → ActsAs code s frame (stmt_step within (Stmt-F.Return line e)) ((acts_step (Stmt-F.Return line e)).whole)
  acts_return line None covered fits = record {
    by = λ place after most t exits next sp leads d.
        let first = tick_first line place after _ sp in
        let push = spans_first (Stands code) (place + 1) after (instr.Push 0) (one instr.Return) first.2 in
        let last = spans_one (Stands code) (place + 1 + 1) after instr.Return push.1 in
        does_tick code s unit line place [] most _ first.0 (omega arith) (λ less lt.
        does_push code s 0 (place + 1) [] less _ push.0 (omega arith)
        (fewer code s _ _ most less _ (omega (arith, lt)) (leads.on_return 0 (place + 1 + 1) last.0)));
  }
  acts_return line (Some e) covered fits = record {
    by = λ place after most t exits next sp leads d.
        let last = spans_one (Stands code) (place + 1 + expr_size e.expr) after instr.Return (behind_full e line place after (one instr.Return) sp) in
        ticked_full e line place after most (one instr.Return) _ covered fits sp
        (λ less x lt. fewer code s _ _ most less _ (omega (arith, lt)) (leads.on_return x (place + 1 + expr_size e.expr) last.0));
  }

  pub over_begin : (ds : List Declared) (start : Option FullExpr) (line place middle after most : ℕ) (next : Rest) → begins_once ds start ≡ true
      → (all_declared_covered fs) ds ≡ true → (covered_if fs) start ≡ true → AllFit (flat_map in_declared ds) → AllFit (pending_if start)
      → Told code place (here_in s unit line) → Spans (Stands code) place (all_declared_part within ds) middle → Spans (Stands code) middle (dropped_part within start) after
      → Does code s after [] most next → Does code s place [] most (all_declared ds frame (evaluated_if start frame line next))
  over_begin [] start line place middle after most next once covered_ds covered_start fits_ds fits_start told sp sp' d =
      let e = spans_none (Stands code) place middle sp in
      from_place code s _ _ _ _ _ e (over_dropped start line middle after most next covered_start fits_start (subst (λ q. Told code q (here_in s unit line)) (sym e) told) sp' d)
  over_begin (a ∷ ds) None line place middle after most next once covered_ds covered_start fits_ds fits_start told sp sp' d =
      over_all_declared (a ∷ ds) place middle most next covered_ds fits_ds sp (from_place code s _ _ _ _ _ (spans_none (Stands code) middle after sp') d)
  over_begin (a ∷ ds) (Some e) line place middle after most next once covered_ds covered_start fits_ds fits_start told sp sp' d =
      absurd (true≢false (sym once))

  -- the step of a `for`, and the place behind its body
  pub over_again : (step : Option FullExpr) (line low end start into : ℕ) → (covered_if fs) step ≡ true → AllFit (pending_if step)
      → Spans (Stands code) low (again_part within line step) end → low + 2 ≡ into
      → (most : ℕ) (r : Rest) → Does code s end [] most r → Does code s start [] most r
      → Does code s (continue_place step start into) [] most (evaluated_if step frame line r) × Does code s low [] most (evaluated_if step frame line r)
  over_again None line low end start into covered fits sp e most r jump h =
      (h, from_place code s _ _ _ _ _ (spans_none (Stands code) low end sp) jump)
  over_again (Some e) line low end start into covered fits sp is most r jump h =
      let sp' : Spans (Stands code) low (one (instr.Jump (low + 2)) then ticked within line then full_part within e then one instr.Pop) end
      = record { instrs = sp.instrs; after_is = sp.after_is } in
      let first = spans_first (Stands code) low end (instr.Jump (low + 2)) _ sp' in
      let second = tick_first line (low + 1) end _ first.1 in
      let parts = spans_then (Stands code) (low + 1 + 1) end (full_part within e) (one instr.Pop) second.2 in
      let last = spans_one (Stands code) parts.0 end instr.Pop parts.2 in
      let two : low + 1 + 1 ≡ low + 2 = omega arith in
      let does : Does code s (low + 1 + 1) [] most (evaluated e frame line (λ x. r)) =
      over_full e line (low + 1 + 1) parts.0 [] most _ covered fits.0 second.1 parts.1
      (λ x. does_pop code s x parts.0 [] most r last.0 (omega arith) (from_place code s _ _ _ _ _ last.1 jump)) in
      let does' = from_place code s _ _ _ _ _ two does in
      (from_place code s _ _ _ _ _ is does', does_jump code s (low + 2) low [] most _ first.0 does')

  -- the loop of a `for`, and what stands before it
  pub for_loop : (line : ℕ) (ds : List Declared) (start test step : Option FullExpr) (p : Piece) (m : Meaning) → SizedPiece p
      → (covered_if fs) test ≡ true → (covered_if fs) step ≡ true → AllFit (pending_if test) → AllFit (pending_if step) → ActsAs code s frame p m
      → (place after : ℕ) (t : Targets) → Spans (Stands code) place ((for_piece within line ds start test step p).part t) after
      → Loop line (tested test frame line) (evaluated_if step frame line) p m (place + (1 + all_declared_size ds + dropped_size start))
      (place + 1 + all_declared_size ds + dropped_size start + 1 + test_size test)
      (place + 1 + all_declared_size ds + dropped_size start + 1 + test_size test + p.size)
      (continue_place step (place + (1 + all_declared_size ds + dropped_size start)) (place + (1 + all_declared_size ds + dropped_size start + 1 + test_size test + p.size) + 2))
      (place + (1 + all_declared_size ds + dropped_size start + 1 + test_size test + p.size + again_size step + 1))
      × (place + (1 + all_declared_size ds + dropped_size start + 1 + test_size test + p.size + again_size step + 1) ≡ after)
      × (slice_get code.instrs place ≡ Some (instr.Tick unit line)) × Told code (place + 1) (here_in s unit line)
      × Spans (Stands code) (place + 1) (all_declared_part within ds) (place + 1 + all_declared_size ds)
      × Spans (Stands code) (place + 1 + all_declared_size ds) (dropped_part within start) (place + 1 + all_declared_size ds + dropped_size start)
  for_loop line ds start test step p m sized covered_test covered_step fits_test fits_step has place after t sp =
      let n0 = all_declared_size ds in
      let n1 = dropped_size start in
      let n2 = test_size test in
      let n3 = again_size step in
      let before = 1 + n0 + n1 in
      let behind = before + 1 + n2 + p.size in
      let end = place + (behind + n3 + 1) in
      let into = continue_place step (place + before) (place + behind + 2) in
      let t' : Targets = record { to_break = end; to_continue = into } in
      let sp' : Spans (Stands code) place (ticked within line then all_declared_part within ds then dropped_part within start then ticked within line
      then test_part within test end then p.part t' then again_part within line step then one (instr.Jump (place + before))) after
      = record { instrs = sp.instrs; after_is = sp.after_is } in
      let first = tick_first line place after _ sp' in
      let p1 = spans_split (Stands code) (place + 1) after n0 (all_declared_part within ds) _ (sized_all_declared within ds) first.2 in
      let p2 = spans_split (Stands code) (place + 1 + n0) after n1 (dropped_part within start) _ (sized_dropped within start) p1.1 in
      let second = tick_first line (place + 1 + n0 + n1) after _ p2.1 in
      let p3 = spans_split (Stands code) (place + 1 + n0 + n1 + 1) after n2 (test_part within test end) _ (sized_test within test end) second.2 in
      let p4 = spans_split (Stands code) (place + 1 + n0 + n1 + 1 + n2) after p.size (p.part t') _ (sized_piece p t' sized) p3.1 in
      let low = place + 1 + n0 + n1 + 1 + n2 + p.size in
      let p5 = spans_split (Stands code) low after n3 (again_part within line step) _ (sized_again within line step) p4.1 in
      let back = spans_one (Stands code) (low + n3) after (instr.Jump (place + before)) p5.1 in
      let e2 : place + 1 + n0 + n1 ≡ place + before = omega arith in
      let e3 : place + 1 + n0 + n1 + 1 ≡ place + before + 1 = omega arith in
      let e4 : low ≡ place + behind = omega arith in
      let jumps = λ (less : ℕ) (r : Rest) (h : Does code s (place + before) [] less r). does_jump code s (place + before) (low + n3) [] less r back.0 h in
      let again = over_again step line low (low + n3) (place + before) (place + behind + 2) covered_step fits_step p5.0 (ap (λ q. q + 2) e4) in
      let l : Loop line (tested test frame line) (evaluated_if step frame line) p m (place + before) (place + 1 + n0 + n1 + 1 + n2) low into end = record {
        ticks = subst (λ q. slice_get code.instrs q ≡ Some (instr.Tick unit line)) e2 second.0;
        tests = λ less holds fails h f. from_place code s _ _ _ _ _ e3
            (over_test test end line (place + 1 + n0 + n1 + 1) (place + 1 + n0 + n1 + 1 + n2) less holds fails covered_test fits_test second.1 p3.0 h f);
        piece = has;
        stands = p4.0;
        steps = λ less r h. (again less r (jumps less r h) h).0;
        behinds = λ less r h. (again less r (jumps less r h) h).1;
      } in
      (l, omega (arith, back.1), first.0, first.1, p1.0, p2.0)

  pub acts_for : (line : ℕ) (ds : List Declared) (start test step : Option FullExpr) (p : Piece) (a : Acts) → SizedPiece p
      → begins_once ds start ≡ true → (all_declared_covered fs) ds ≡ true → (covered_if fs) start ≡ true → (covered_if fs) test ≡ true → (covered_if fs) step ≡ true
      → AllFit (flat_map in_declared ds) → AllFit (pending_if start) → AllFit (pending_if test) → AllFit (pending_if step) → ActsAs code s frame p a.whole
      → ActsAs code s frame (stmt_step within (Stmt-F.For line ds start test step p)) ((acts_step (Stmt-F.For line ds start test step a)).whole)
  acts_for line ds start test step p a sized once covered_ds covered_start covered_test covered_step fits_ds fits_start fits_test fits_step has = record {
    by = λ place after most t exits next sp leads d.
        let n0 = all_declared_size ds in
        let n1 = dropped_size start in
        let before = 1 + n0 + n1 in
        let end = place + (before + 1 + test_size test + p.size + again_size step + 1) in
        let l = for_loop line ds start test step p a.whole sized covered_test covered_step fits_test fits_step has place after t sp in
        let e2 : place + 1 + n0 + n1 ≡ place + before = omega arith in
        does_tick code s unit line place [] most _ l.2 (omega arith) (λ less lt. let le : less ≤ most = omega (arith, lt) in
        over_begin ds start line (place + 1) (place + 1 + n0) (place + 1 + n0 + n1) less _ once covered_ds covered_start fits_ds fits_start l.3 l.4 l.5
        (from_place code s _ _ _ _ _ (sym e2)
        (over_loop line _ _ p a.whole _ _ _ _ end l.0 less t exits next (leads_fewer code s most less t exits le leads)
        (from_place code s _ _ _ _ _ (sym l.1) (fewer code s after [] most less next le d)))));
  }
