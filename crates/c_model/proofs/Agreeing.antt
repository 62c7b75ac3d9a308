-- What goes on with a value, and what gives it: each way of putting them together agrees, and so does each expression.
use Rattle.std.proofs.Common.{◌≡◌, ℕ, zero, suc, ◌+◌, ◌*◌, Bool, true, false, List, [], ◌∷◌, map, refl, sym, ◌∙◌, subst}
use Rattle.std.specs.Prelude.{if◌then◌else◌, nat_eq, Option, None, Some, Result, Ok, Err}
use Rattle.am_base.specs.declared.traps.TrapCause.{TrapCause}
use Rattle.am_base.specs.declared.calls.LibCall.{LibCall}
use Rattle.am_base.specs.declared.calls.MpiCall.{MpiCall}
use Rattle.rank_range.specs.Areas.{Memory}
use Rattle.rank_range.specs.Kinds.{convert}
use Rattle.rank_range.specs.Operators.{operate, operate_one}
use Rattle.rank_range.specs.declared.kinds.Kind.{Kind}
use Rattle.rank_range.specs.declared.kinds.Kind.TheVariants as kind
use Rattle.rank_range.specs.declared.operators.Binary.TheVariants as op
use Rattle.mpi_types.specs.declared.call.Answer.{Answer}
use Rattle.mpi_types.specs.declared.call.Answer.TheVariants.{Half, Value as Valued, Trap, End}
use Rattle.vm_code.specs.Memory.{loaded, stored, copied, address_of}
use Rattle.vm_code.specs.Library.{LibraryDone, Does, Fails, Exits, library_does}
use Rattle.vm_code.specs.Machine.{call_of}
use Rattle.vm_code.specs.Stops.{Stop, Done, with_ticks, asked, fits_text, printed}
use Rattle.c_types.specs.declared.expression.Operand.{Operand, fold-Operand, map-Operand}
use Rattle.c_types.specs.declared.expression.Step.{Step, fold-Step, map-Step}
use Rattle.c_types.specs.declared.expression.Expr.{Expr, map-Expr}
use Rattle.c_types.specs.declared.expression.Operand.TheOpen.{Operand-F, Step-F, Expr-F}
use Rattle.c_types.specs.declared.expression.Operand.TheViews.{roll-Operand, roll-Step, roll-Expr}
use Rattle.c_types.specs.declared.expression.Operand.TheFolds.{fold-roll-Operand, fold-roll-Step, fold-roll-Expr, ind-Expr}
use Rattle.c_model.specs.Outcome.{Outcome, Rest, Here, stops, tick, with_memory, set_memory, reading, writing, with_result, printing}
use Rattle.c_model.specs.Calls.{library_done, library_call, mpi_tick, mpi_call}
use Rattle.c_model.specs.Run.{Calling, Surroundings, Value, in_order_of, operand_value, load, store, element, truth_of, negated, counted_kind, next_of, given_of, moved, word_plus, word_minus, step_value, steps_value, value_step, value}
use Rattle.c_model.specs.Plain as plain
use Rattle.c_model.specs.Plain.{Out, Gives, Halts, Plain, gives, halts, from_there, bind, kept}
use Rattle.c_model.proofs.Valuing.{operand_of, step_of, operand_roll, step_roll, value_roll}

-- an outcome, with what comes next
abbrev pub finish : {A : Type 0} → Out A → (A → Rest) → Outcome
finish (Gives x left answers done) next = next x left answers done
finish (Halts outcome) next = outcome

pub record Agrees (A : Type 0) (v : (A → Rest) → Rest) (p : Plain A) : Type 0 where
  pub by : (next : A → Rest) (left : ℕ) (answers : List Answer) (done : Done) → v next left answers done ≡ finish (p left answers done) next

pub agrees_gives : (A : Type 0) (x : A) → Agrees A (λ next. next x) (gives x)
agrees_gives A x = record { by = λ next left answers done. refl }

pub agrees_stop : (A : Type 0) (stop : Stop) → Agrees A (λ next. stops stop) (halts stop)
agrees_stop A stop = record { by = λ next left answers done. refl }

finish_there : (A B : Type 0) (o : Out A) (w : A → (B → Rest) → Rest) (q : A → Plain B) (next : B → Rest) → ((x : A) → Agrees B (w x) (q x))
    → finish o (λ x. w x next) ≡ finish (from_there o q) next
finish_there A B (Gives x left answers done) w q next agrees = (agrees x).by next left answers done
finish_there A B (Halts outcome) w q next agrees = refl

pub agrees_bind : (A B : Type 0) (v : (A → Rest) → Rest) (p : Plain A) (w : A → (B → Rest) → Rest) (q : A → Plain B) → Agrees A v p
    → ((x : A) → Agrees B (w x) (q x)) → Agrees B (λ next. v (λ x. w x next)) (bind p q)
agrees_bind A B v p w q first rest = record {
  by = λ next left answers done.
      first.by (λ x. w x next) left answers done ∙ finish_there A B (p left answers done) w q next rest;
}

ticked : (A : Type 0) (w : (A → Rest) → Rest) (q : Plain A) → Agrees A w q → (next : A → Rest) (left : ℕ) (answers : List Answer) (done : Done)
    → tick (w next) left answers done ≡ finish (bind plain.tick (λ x. q) left answers done) next
ticked A w q agrees next zero answers done = refl
ticked A w q agrees next (suc left) answers done = agrees.by next left answers (with_ticks done)

pub agrees_tick : (A : Type 0) (w : (A → Rest) → Rest) (q : Plain A) → Agrees A w q
    → Agrees A (λ next. tick (w next)) (bind plain.tick (λ x. q))
agrees_tick A w q agrees = record { by = ticked A w q agrees }

pub agrees_memory : (A : Type 0) (w : Memory → (A → Rest) → Rest) (q : Memory → Plain A) → ((m : Memory) → Agrees A (w m) (q m))
    → Agrees A (λ next. with_memory (λ m. w m next)) (bind plain.memory q)
agrees_memory A w q agrees = record { by = λ next left answers done. (agrees done.memory).by next left answers done }

pub agrees_set : (A : Type 0) (m : Memory) (w : (A → Rest) → Rest) (q : Plain A) → Agrees A w q
    → Agrees A (λ next. set_memory m (w next)) (bind (plain.becomes m) (λ x. q))
agrees_set A m w q agrees = record { by = λ next left answers done. agrees.by next left answers (record done { memory = m }) }

agrees_reading : (o : Option ℕ) (here : Here) → Agrees ℕ (reading o here) (plain.reading o here)
agrees_reading None here = agrees_stop ℕ _
agrees_reading (Some x) here = agrees_gives ℕ x

pub agrees_writing : (o : Option Memory) (here : Here) → Agrees (Unit {0}) (λ next. writing o here (next tt)) (plain.writing o here)
agrees_writing None here = agrees_stop (Unit {0}) _
agrees_writing (Some m) here = record { by = λ next left answers done. refl }

agrees_result : (o : Result ℕ TrapCause) (here : Here) → Agrees ℕ (with_result o here) (plain.with_result o here)
agrees_result (Ok x) here = agrees_gives ℕ x
agrees_result (Err cause) here = agrees_stop ℕ _

pub agrees_if : (A : Type 0) (b : Bool) (v w : (A → Rest) → Rest) (p q : Plain A) → Agrees A v p → Agrees A w q
    → Agrees A (λ next. if b then v next else w next) (if b then p else q)
agrees_if A true v w p q first second = record { by = first.by }
agrees_if A false v w p q first second = record { by = second.by }

printed_out : (b : Bool) (next : Unit {0} → Rest) (left : ℕ) (answers : List Answer) (done other : Done) (stop : Stop)
    → (if b then next tt left answers other else stops stop left answers done)
    ≡ finish (if b then Gives tt left answers other else Halts (record { stop = stop; done = done })) next
printed_out true next left answers done other stop = refl
printed_out false next left answers done other stop = refl

agrees_printing : (text : List ℕ) (here : Here) → Agrees (Unit {0}) (λ next. printing text here (next tt)) (plain.printing text here)
agrees_printing text here = record {
  by = λ next left answers done. printed_out (fits_text done text) next left answers done (printed done text) _;
}

-- ---- calls of the library and of MPI

agrees_library_done : (d : LibraryDone) (here : Here) → Agrees ℕ (library_done d here) (plain.library_done d here)
agrees_library_done (Does value text m) here =
    agrees_bind (Unit {0}) ℕ _ _ (λ x next. set_memory m (next value)) _ (agrees_printing text here)
    (λ x. agrees_set ℕ m (λ next. next value) _ (agrees_gives ℕ value))
agrees_library_done (Fails cause) here = agrees_stop ℕ _
agrees_library_done (Exits status) here = agrees_stop ℕ _

agrees_library : (call : LibCall) (words : List ℕ) (here : Here) → Agrees ℕ (library_call call words here) (plain.library_call call words here)
agrees_library call words here =
    agrees_tick ℕ _ _ (agrees_memory ℕ (λ m next. library_done (library_does call words m) here next) _
    (λ m. agrees_library_done (library_does call words m) here))

called_out : (second : Bool) (name : MpiCall) (words : List ℕ) (here : Here) (next : ℕ → Rest) (left : ℕ) (answers : List Answer) (done : Done)
    → mpi_tick second name words here next left answers done ≡ finish (plain.mpi_tick second name words here left answers done) next
called_out second name words here next zero answers done = refl
called_out second name words here next (suc left) [] done = refl
called_out second name words here next (suc left) (Half ∷ answers) done =
    called_out true name words here next left answers (asked done (call_of name words second))
called_out second name words here next (suc left) (Valued result writes ∷ answers) done = refl
called_out second name words here next (suc left) (Trap cause ∷ answers) done = refl
called_out second name words here next (suc left) (End status ∷ answers) done = refl

agrees_mpi : (call : MpiCall) (words : List ℕ) (here : Here) → Agrees ℕ (mpi_call call words here) (plain.mpi_tick false call words here)
agrees_mpi call words here = record { by = called_out false call words here }

-- ---- expressions

pub plain_operand : Operand → plain.Value
plain_operand = fold-Operand plain.Value (ℕ → plain.Value) plain.Value plain.operand_value plain.step_value plain.value_step

pub plain_step : Step → ℕ → plain.Value
plain_step = fold-Step plain.Value (ℕ → plain.Value) plain.Value plain.operand_value plain.step_value plain.value_step

plain_operand_roll : (x : Operand-F Operand Step Expr)
    → plain_operand (roll-Operand x) ≡ plain.operand_value (map-Operand Operand Step Expr plain.Value (ℕ → plain.Value) plain.Value plain_operand plain_step plain.value x)
unfolding plain.value plain_operand plain_step
plain_operand_roll x = fold-roll-Operand plain.Value (ℕ → plain.Value) plain.Value plain.operand_value plain.step_value plain.value_step x

plain_step_roll : (x : Step-F Operand Step Expr)
    → plain_step (roll-Step x) ≡ plain.step_value (map-Step Operand Step Expr plain.Value (ℕ → plain.Value) plain.Value plain_operand plain_step plain.value x)
unfolding plain.value plain_operand plain_step
plain_step_roll x = fold-roll-Step plain.Value (ℕ → plain.Value) plain.Value plain.operand_value plain.step_value plain.value_step x

plain_value_roll : (x : Expr-F Operand Step Expr)
    → plain.value (roll-Expr x) ≡ plain.value_step (map-Expr Operand Step Expr plain.Value (ℕ → plain.Value) plain.Value plain_operand plain_step plain.value x)
unfolding plain.value plain_operand plain_step
plain_value_roll x = fold-roll-Expr plain.Value (ℕ → plain.Value) plain.Value plain.operand_value plain.step_value plain.value_step x

pub record AgreesCalls (calling : Calling) (other : plain.Calling) : Type 0 where
  pub by : (number : ℕ) (words : List ℕ) (here : Here) → Agrees ℕ (calling number words here) (other number words here)

module _ (calling : Calling) (other : plain.Calling) (object : ℕ → ℕ) (calls : AgreesCalls calling other) where
  abbrev around : Surroundings
  around = record { calling = calling; object = object }

  abbrev plain_around : plain.Surroundings
  plain_around = record { calling = other; object = object }

  pub record Same (v : Value) (p : plain.Value) : Type 0 where
    pub by : (here : Here) → Agrees ℕ (v around here) (p plain_around here)

  agrees_load : (k : Kind) (a : ℕ) (here : Here) → Agrees ℕ (load k a here) (plain.load k a here)
  agrees_load k a here = agrees_memory ℕ (λ m next. reading (loaded m k a) here next) _ (λ m. agrees_reading (loaded m k a) here)

  pub agrees_store : (k : Kind) (a word : ℕ) (here : Here) → Agrees (Unit {0}) (λ next. store k a word here (next tt)) (plain.store k a word here)
  agrees_store k a word here =
      agrees_memory (Unit {0}) (λ m next. writing (stored m k a word) here (next tt)) _ (λ m. agrees_writing (stored m k a word) here)

  -- a word is stored, and another one or the same goes on
  agrees_stored : (k : Kind) (a word given : ℕ) (here : Here)
      → Agrees ℕ (λ next. store k a word here (next given)) (bind (plain.store k a word here) (λ x. gives given))
  agrees_stored k a word given here =
      agrees_bind (Unit {0}) ℕ _ _ (λ x next. next given) _ (agrees_store k a word here) (λ x. agrees_gives ℕ given)

  abbrev KeptOperand : Operand → Type 0
  KeptOperand o = Same (operand_of o) (plain_operand o)

  abbrev KeptStep : Step → Type 0
  KeptStep s = (x : ℕ) → Same (step_of s x) (plain_step s x)

  abbrev KeptExpr : Expr → Type 0
  KeptExpr e = Same (value e) (plain.value e)

  abbrev Known : Type 0
  Known = (e : Expr) × KeptExpr e

  agrees_args : (args : List Known) (here : Here)
      → Agrees (List ℕ) (in_order_of (map value (map (λ p. p.0) args)) around here) (plain.in_order_of (map plain.value (map (λ p. p.0) args)) plain_around here)
  agrees_args [] here = agrees_gives (List ℕ) []
  agrees_args (a ∷ args) here =
      agrees_bind ℕ (List ℕ) _ _ (λ x next. in_order_of (map value (map (λ p. p.0) args)) around here (λ xs. next (x ∷ xs))) _ (a.1.by here)
      (λ x. agrees_bind (List ℕ) (List ℕ) _ _ (λ xs next. next (x ∷ xs)) _ (agrees_args args here) (λ xs. agrees_gives (List ℕ) (x ∷ xs)))

  abbrev OpenOperand : Type 0
  OpenOperand = Operand-F ((o : Operand) × KeptOperand o) ((s : Step) × KeptStep s) Known

  abbrev closed_operand : OpenOperand → Operand-F Operand Step Expr
  closed_operand y = map-Operand ((o : Operand) × KeptOperand o) ((s : Step) × KeptStep s) Known Operand Step Expr (λ p. p.0) (λ p. p.0) (λ p. p.0) y

  operand_same : (y : OpenOperand)
      → Same (operand_value (map-Operand Operand Step Expr Value (ℕ → Value) Value operand_of step_of value (closed_operand y)))
      (plain.operand_value (map-Operand Operand Step Expr plain.Value (ℕ → plain.Value) plain.Value plain_operand plain_step plain.value (closed_operand y)))
  operand_same (Operand-F.Number word) = record { by = λ here. agrees_gives ℕ word }
  operand_same (Operand-F.Local offset) = record {
    by = λ here. agrees_memory ℕ (λ m next. next (address_of m (here.frame + offset))) _ (λ m. agrees_gives ℕ _);
  }
  operand_same (Operand-F.Object number) = record {
    by = λ here. agrees_memory ℕ (λ m next. next (address_of m (object number))) _ (λ m. agrees_gives ℕ _);
  }
  operand_same (Operand-F.Call function args) = record {
    by = λ here. agrees_bind (List ℕ) ℕ _ _ (λ words next. calling function words here next) _ (agrees_args args here) (λ words. calls.by function words here);
  }
  operand_same (Operand-F.Library call args) = record {
    by = λ here. agrees_bind (List ℕ) ℕ _ _ (λ words next. library_call call words here next) _ (agrees_args args here) (λ words. agrees_library call words here);
  }
  operand_same (Operand-F.Mpi call args) = record {
    by = λ here. agrees_bind (List ℕ) ℕ _ _ (λ words next. mpi_call call words here next) _ (agrees_args args here) (λ words. agrees_mpi call words here);
  }

  operand_keeps : (y : OpenOperand) → KeptOperand (roll-Operand (closed_operand y))
  operand_keeps y =
      subst (λ v. Same v (plain_operand (roll-Operand (closed_operand y)))) (sym (operand_roll (closed_operand y)))
      (subst (Same _) (sym (plain_operand_roll (closed_operand y))) (operand_same y))

  abbrev OpenStep : Type 0
  OpenStep = Step-F ((o : Operand) × KeptOperand o) ((s : Step) × KeptStep s) Known

  abbrev closed_step : OpenStep → Step-F Operand Step Expr
  closed_step y = map-Step ((o : Operand) × KeptOperand o) ((s : Step) × KeptStep s) Known Operand Step Expr (λ p. p.0) (λ p. p.0) (λ p. p.0) y

  with_right : (b : Known) (here : Here) (w : ℕ → (ℕ → Rest) → Rest) (q : ℕ → Plain ℕ) → ((y : ℕ) → Agrees ℕ (w y) (q y))
      → Agrees ℕ (λ next. value b.0 around here (λ y. w y next)) (bind (plain.value b.0 plain_around here) q)
  with_right b here w q agrees = agrees_bind ℕ ℕ _ _ w q (b.1.by here) agrees

  abbrev step_valued : OpenStep → ℕ → Value
  step_valued y = step_value (map-Step Operand Step Expr Value (ℕ → Value) Value operand_of step_of value (closed_step y))

  abbrev plain_step_valued : OpenStep → ℕ → plain.Value
  plain_step_valued y =
      plain.step_value (map-Step Operand Step Expr plain.Value (ℕ → plain.Value) plain.Value plain_operand plain_step plain.value (closed_step y))

  step_same : (y : OpenStep) (x : ℕ) → Same (step_valued y x) (plain_step_valued y x)
  step_same (Step-F.Load k) x = record { by = λ here. agrees_load k x here }
  step_same (Step-F.Convert from to) x = record { by = λ here. agrees_gives ℕ (convert x from to) }
  step_same (Step-F.Unary o k) x = record { by = λ here. agrees_gives ℕ (operate_one o k x) }
  step_same Step-F.Not x = record { by = λ here. agrees_gives ℕ (negated x) }
  step_same (Step-F.Member offset) x = record { by = λ here. agrees_gives ℕ (word_plus x offset) }
  step_same (Step-F.Binary o k b) x = record {
    by = λ here. with_right b here (λ y next. with_result (operate o k x y) here next) _ (λ y. agrees_result (operate o k x y) here);
  }
  step_same (Step-F.Greater k b) x = record {
    by = λ here. with_right b here (λ y next. with_result (operate op.Less k y x) here next) _ (λ y. agrees_result (operate op.Less k y x) here);
  }
  step_same (Step-F.AtLeast k b) x = record {
    by = λ here. with_right b here (λ y next. with_result (operate op.AtMost k y x) here next) _ (λ y. agrees_result (operate op.AtMost k y x) here);
  }
  step_same (Step-F.Offset by scale b) x = record {
    by = λ here. with_right b here (λ y next. next (element by scale x y)) _ (λ y. agrees_gives ℕ (element by scale x y));
  }
  step_same (Step-F.Difference size b) x = record {
    by = λ here.
        with_right b here (λ y next. with_result (operate op.Divide kind.Long (word_minus x y) size) here next) _
        (λ y. agrees_result (operate op.Divide kind.Long (word_minus x y) size) here);
  }
  step_same (Step-F.And b) x = record {
    by = λ here.
        agrees_if ℕ (nat_eq x 0) (λ next. next 0) _ _ _ (agrees_gives ℕ 0)
        (with_right b here (λ y next. next (truth_of y)) _ (λ y. agrees_gives ℕ (truth_of y)));
  }
  step_same (Step-F.Or b) x = record {
    by = λ here.
        agrees_if ℕ (nat_eq x 0) _ (λ next. next 1) _ _ (with_right b here (λ y next. next (truth_of y)) _ (λ y. agrees_gives ℕ (truth_of y)))
        (agrees_gives ℕ 1);
  }
  step_same (Step-F.Conditional b c) x = record { by = λ here. agrees_if ℕ (nat_eq x 0) _ _ _ _ (c.1.by here) (b.1.by here) }
  step_same (Step-F.Comma b) x = record { by = λ here. b.1.by here }
  step_same (Step-F.Assign k b) x = record {
    by = λ here. with_right b here (λ y next. store k x y here (next y)) _ (λ y. agrees_stored k x y y here);
  }
  step_same (Step-F.Copy size b) x = record {
    by = λ here.
        with_right b here (λ y next. with_memory (λ m. writing (copied m x y size) here (next x))) _
        (λ y. agrees_memory ℕ (λ m next. writing (copied m x y size) here (next x)) _
        (λ m. agrees_bind (Unit {0}) ℕ _ _ (λ z next. next x) _ (agrees_writing (copied m x y size) here) (λ z. agrees_gives ℕ x)));
  }
  step_same (Step-F.Update o k at b) x = record {
    by = λ here.
        agrees_bind ℕ ℕ _ _
        (λ old next. value b.0 around here (λ y. with_result (operate o at (convert old k at) y) here (λ new.
        store k x (convert new at k) here (next (convert new at k))))) _ (agrees_load k x here)
        (λ old. with_right b here (λ y next. with_result (operate o at (convert old k at) y) here (λ new.
        store k x (convert new at k) here (next (convert new at k)))) _
        (λ y. agrees_bind ℕ ℕ _ _ (λ new next. store k x (convert new at k) here (next (convert new at k))) _
        (agrees_result (operate o at (convert old k at) y) here) (λ new. agrees_stored k x (convert new at k) (convert new at k) here)));
  }
  step_same (Step-F.Advance direction scale b) x = record {
    by = λ here.
        agrees_bind ℕ ℕ _ _
        (λ old next. value b.0 around here (λ y.
        store kind.UnsignedLong x (moved direction old (y * scale)) here (next (moved direction old (y * scale))))) _ (agrees_load kind.UnsignedLong x here)
        (λ old. with_right b here (λ y next.
        store kind.UnsignedLong x (moved direction old (y * scale)) here (next (moved direction old (y * scale)))) _
        (λ y. agrees_stored kind.UnsignedLong x (moved direction old (y * scale)) (moved direction old (y * scale)) here));
  }
  step_same (Step-F.Count c direction given) x = record {
    by = λ here.
        agrees_bind ℕ ℕ _ _
        (λ old next. store (counted_kind c) x (next_of c direction old) here (next (given_of given old (next_of c direction old)))) _
        (agrees_load (counted_kind c) x here)
        (λ old. agrees_stored (counted_kind c) x (next_of c direction old) (given_of given old (next_of c direction old)) here);
  }

  step_keeps : (y : OpenStep) → KeptStep (roll-Step (closed_step y))
  step_keeps y x =
      subst (λ v. Same (v x) (plain_step (roll-Step (closed_step y)) x)) (sym (step_roll (closed_step y)))
      (subst (λ v. Same (step_valued y x) (v x)) (sym (plain_step_roll (closed_step y))) (step_same y x))

  agrees_steps : (steps : List ((s : Step) × KeptStep s)) (x : ℕ) (here : Here)
      → Agrees ℕ (steps_value (map step_of (map (λ p. p.0) steps)) x around here) (plain.steps_value (map plain_step (map (λ p. p.0) steps)) x plain_around here)
  agrees_steps [] x here = agrees_gives ℕ x
  agrees_steps (a ∷ steps) x here =
      agrees_bind ℕ ℕ _ _ (λ y next. steps_value (map step_of (map (λ p. p.0) steps)) y around here next) _ ((a.1 x).by here)
      (λ y. agrees_steps steps y here)

  abbrev OpenExpr : Type 0
  OpenExpr = Expr-F ((o : Operand) × KeptOperand o) ((s : Step) × KeptStep s) Known

  abbrev closed_expr : OpenExpr → Expr-F Operand Step Expr
  closed_expr y = map-Expr ((o : Operand) × KeptOperand o) ((s : Step) × KeptStep s) Known Operand Step Expr (λ p. p.0) (λ p. p.0) (λ p. p.0) y

  expr_same : (y : OpenExpr)
      → Same (value_step (map-Expr Operand Step Expr Value (ℕ → Value) Value operand_of step_of value (closed_expr y)))
      (plain.value_step (map-Expr Operand Step Expr plain.Value (ℕ → plain.Value) plain.Value plain_operand plain_step plain.value (closed_expr y)))
  expr_same y = record {
    by = λ here.
        agrees_bind ℕ ℕ _ _ (λ x next. steps_value (map step_of (map (λ p. p.0) y.steps)) x around here next) _ (y.first.1.by here)
        (λ x. agrees_steps y.steps x here);
  }

  expr_keeps : (y : OpenExpr) → KeptExpr (roll-Expr (closed_expr y))
  expr_keeps y =
      subst (λ v. Same v (plain.value (roll-Expr (closed_expr y)))) (sym (value_roll (closed_expr y)))
      (subst (Same _) (sym (plain_value_roll (closed_expr y))) (expr_same y))

  same_value : (e : Expr) → KeptExpr e
  same_value =
      ind-Expr KeptOperand KeptStep KeptExpr (λ x y is. subst (λ z. KeptOperand (roll-Operand z)) is (operand_keeps y))
      (λ x y is. subst (λ z. KeptStep (roll-Step z)) is (step_keeps y)) (λ x y is. subst (λ z. KeptExpr (roll-Expr z)) is (expr_keeps y))

  -- an expression gives the value with which its rest goes on
  pub agrees_value : (e : Expr) (here : Here) → Agrees ℕ (value e around here) (plain.value e plain_around here)
  agrees_value e here = (same_value e).by here
