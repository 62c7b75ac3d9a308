-- Each expression keeps how two rests stand to each other that come next with its value.
use Rattle.std.proofs.Common.{◌≡◌, ℕ, ◌+◌, ◌*◌, List, [], ◌∷◌, map, sym, subst}
use Rattle.rank_range.specs.declared.kinds.Kind.{Kind}
use Rattle.rank_range.specs.declared.kinds.Kind.TheVariants as kind
use Rattle.rank_range.specs.declared.operators.Binary.TheVariants as op
use Rattle.rank_range.specs.Kinds.{convert}
use Rattle.rank_range.specs.Operators.{operate, operate_one}
use Rattle.mpi_types.specs.declared.call.Answer.{Answer}
use Rattle.vm_code.specs.Memory.{loaded, stored, copied, address_of}
use Rattle.c_types.specs.declared.expression.Operand.{Operand, fold-Operand, map-Operand}
use Rattle.c_types.specs.declared.expression.Step.{Step, fold-Step, map-Step}
use Rattle.c_types.specs.declared.expression.Expr.{Expr, map-Expr}
use Rattle.c_types.specs.declared.expression.Operand.TheOpen.{Operand-F, Step-F, Expr-F}
use Rattle.c_types.specs.declared.expression.Operand.TheViews.{roll-Operand, roll-Step, roll-Expr}
use Rattle.c_types.specs.declared.expression.Operand.TheFolds.{fold-roll-Operand, fold-roll-Step, fold-roll-Expr, ind-Expr}
use Rattle.c_model.specs.Outcome.{Rest, Here}
use Rattle.c_model.specs.Run.{Calling, Surroundings, Value, in_order_of, operand_value, load, store, element, truth_of, negated, counted_kind, next_of, given_of, moved, word_plus, word_minus, step_value, steps_value, value_step, value}
use Rattle.c_model.proofs.Extending.{Joins, joins_memory, joins_reading, joins_writing, joins_result, joins_choice, joins_library, joins_mpi}

-- what operands and steps do
pub operand_of : Operand → Value
operand_of = fold-Operand Value (ℕ → Value) Value operand_value step_value value_step

pub step_of : Step → ℕ → Value
step_of = fold-Step Value (ℕ → Value) Value operand_value step_value value_step

-- the equations at one layer
pub operand_roll : (x : Operand-F Operand Step Expr)
    → operand_of (roll-Operand x) ≡ operand_value (map-Operand Operand Step Expr Value (ℕ → Value) Value operand_of step_of value x)
unfolding value operand_of step_of
operand_roll x = fold-roll-Operand Value (ℕ → Value) Value operand_value step_value value_step x

pub step_roll : (x : Step-F Operand Step Expr)
    → step_of (roll-Step x) ≡ step_value (map-Step Operand Step Expr Value (ℕ → Value) Value operand_of step_of value x)
unfolding value operand_of step_of
step_roll x = fold-roll-Step Value (ℕ → Value) Value operand_value step_value value_step x

pub value_roll : (x : Expr-F Operand Step Expr)
    → value (roll-Expr x) ≡ value_step (map-Expr Operand Step Expr Value (ℕ → Value) Value operand_of step_of value x)
unfolding value operand_of step_of
value_roll x = fold-roll-Expr Value (ℕ → Value) Value operand_value step_value value_step x

-- Calling keeps how rests stand to each other, and so does an expression wherever it does.
pub record KeepsCalls (more : ℕ) (later : List Answer) (calling : Calling) : Type 0 where
  pub by : (bound number : ℕ) (words : List ℕ) (here : Here) (r s : ℕ → Rest) → ((x : ℕ) → Joins more later bound (r x) (s x))
      → Joins more later bound (calling number words here r) (calling number words here s)

pub record Keeps (more : ℕ) (later : List Answer) (v : Value) : Type 0 where
  pub by : (bound : ℕ) (around : Surroundings) (here : Here) (r s : ℕ → Rest) → KeepsCalls more later around.calling
      → ((x : ℕ) → Joins more later bound (r x) (s x)) → Joins more later bound (v around here r) (v around here s)

module _ (more : ℕ) (later : List Answer) where
  abbrev Pairs : ℕ → (ℕ → Rest) → (ℕ → Rest) → Type 0
  Pairs bound r s = (x : ℕ) → Joins more later bound (r x) (s x)

  joins_load : (bound : ℕ) (k : Kind) (a : ℕ) (here : Here) (r s : ℕ → Rest) → Pairs bound r s
      → Joins more later bound (load k a here r) (load k a here s)
  joins_load bound k a here r s j =
      joins_memory more later bound _ _ (λ m. joins_reading more later bound (loaded m k a) here r s j)

  pub joins_store : (bound : ℕ) (k : Kind) (a word : ℕ) (here : Here) (r s : Rest) → Joins more later bound r s
      → Joins more later bound (store k a word here r) (store k a word here s)
  joins_store bound k a word here r s j =
      joins_memory more later bound _ _ (λ m. joins_writing more later bound (stored m k a word) here r s j)

  -- ---- operands

  abbrev KeptOperand : Operand → Type 0
  KeptOperand o = Keeps more later (operand_of o)

  abbrev KeptStep : Step → Type 0
  KeptStep s = (x : ℕ) → Keeps more later (step_of s x)

  abbrev KeptExpr : Expr → Type 0
  KeptExpr e = Keeps more later (value e)

  abbrev Known : Type 0
  Known = (e : Expr) × KeptExpr e

  joins_args : (args : List Known) (bound : ℕ) (around : Surroundings) (here : Here) (r s : List ℕ → Rest) → KeepsCalls more later around.calling
      → ((words : List ℕ) → Joins more later bound (r words) (s words))
      → Joins more later bound (in_order_of (map value (map (λ p. p.0) args)) around here r) (in_order_of (map value (map (λ p. p.0) args)) around here s)
  joins_args [] bound around here r s calls j = j []
  joins_args (a ∷ args) bound around here r s calls j =
      a.1.by bound around here _ _ calls (λ x. joins_args args bound around here _ _ calls (λ words. j (x ∷ words)))

  abbrev OpenOperand : Type 0
  OpenOperand = Operand-F ((o : Operand) × KeptOperand o) ((s : Step) × KeptStep s) Known

  abbrev closed_operand : OpenOperand → Operand-F Operand Step Expr
  closed_operand y = map-Operand ((o : Operand) × KeptOperand o) ((s : Step) × KeptStep s) Known Operand Step Expr (λ p. p.0) (λ p. p.0) (λ p. p.0) y

  abbrev operand_valued : Operand-F Operand Step Expr → Value
  operand_valued x = operand_value (map-Operand Operand Step Expr Value (ℕ → Value) Value operand_of step_of value x)

  operand_kept : (y : OpenOperand) → Keeps more later (operand_valued (closed_operand y))
  operand_kept (Operand-F.Number word) = record { by = λ bound around here r s calls j. j word }
  operand_kept (Operand-F.Local offset) = record {
    by = λ bound around here r s calls j. joins_memory more later bound _ _ (λ m. j (address_of m (here.frame + offset)));
  }
  operand_kept (Operand-F.Object number) = record {
    by = λ bound around here r s calls j. joins_memory more later bound _ _ (λ m. j (address_of m (around.object number)));
  }
  operand_kept (Operand-F.Call function args) = record {
    by = λ bound around here r s calls j.
        joins_args args bound around here _ _ calls (λ words. calls.by bound function words here r s j);
  }
  operand_kept (Operand-F.Library call args) = record {
    by = λ bound around here r s calls j.
        joins_args args bound around here _ _ calls (λ words. joins_library more later bound call words here r s j);
  }
  operand_kept (Operand-F.Mpi call args) = record {
    by = λ bound around here r s calls j.
        joins_args args bound around here _ _ calls (λ words. joins_mpi more later bound call words here r s j);
  }

  operand_keeps : (y : OpenOperand) → KeptOperand (roll-Operand (closed_operand y))
  operand_keeps y = subst (Keeps more later) (sym (operand_roll (closed_operand y))) (operand_kept y)

  -- ---- steps

  abbrev OpenStep : Type 0
  OpenStep = Step-F ((o : Operand) × KeptOperand o) ((s : Step) × KeptStep s) Known

  abbrev closed_step : OpenStep → Step-F Operand Step Expr
  closed_step y = map-Step ((o : Operand) × KeptOperand o) ((s : Step) × KeptStep s) Known Operand Step Expr (λ p. p.0) (λ p. p.0) (λ p. p.0) y

  abbrev step_valued : Step-F Operand Step Expr → ℕ → Value
  step_valued x = step_value (map-Step Operand Step Expr Value (ℕ → Value) Value operand_of step_of value x)

  step_kept : (y : OpenStep) (x : ℕ) → Keeps more later (step_valued (closed_step y) x)
  step_kept (Step-F.Load k) x = record { by = λ bound around here r s calls j. joins_load bound k x here r s j }
  step_kept (Step-F.Convert from to) x = record { by = λ bound around here r s calls j. j (convert x from to) }
  step_kept (Step-F.Unary o k) x = record { by = λ bound around here r s calls j. j (operate_one o k x) }
  step_kept Step-F.Not x = record { by = λ bound around here r s calls j. j (negated x) }
  step_kept (Step-F.Member offset) x = record { by = λ bound around here r s calls j. j (word_plus x offset) }
  step_kept (Step-F.Binary o k b) x = record {
    by = λ bound around here r s calls j.
        b.1.by bound around here _ _ calls (λ y. joins_result more later bound (operate o k x y) here r s j);
  }
  step_kept (Step-F.Greater k b) x = record {
    by = λ bound around here r s calls j.
        b.1.by bound around here _ _ calls (λ y. joins_result more later bound (operate op.Less k y x) here r s j);
  }
  step_kept (Step-F.AtLeast k b) x = record {
    by = λ bound around here r s calls j.
        b.1.by bound around here _ _ calls (λ y. joins_result more later bound (operate op.AtMost k y x) here r s j);
  }
  step_kept (Step-F.Offset by scale b) x = record {
    by = λ bound around here r s calls j. b.1.by bound around here _ _ calls (λ y. j (element by scale x y));
  }
  step_kept (Step-F.Difference size b) x = record {
    by = λ bound around here r s calls j.
        b.1.by bound around here _ _ calls (λ y. joins_result more later bound (operate op.Divide kind.Long (word_minus x y) size) here r s j);
  }
  step_kept (Step-F.And b) x = record {
    by = λ bound around here r s calls j.
        joins_choice more later bound x _ _ _ _ (b.1.by bound around here _ _ calls (λ y. j (truth_of y))) (j 0);
  }
  step_kept (Step-F.Or b) x = record {
    by = λ bound around here r s calls j.
        joins_choice more later bound x _ _ _ _ (j 1) (b.1.by bound around here _ _ calls (λ y. j (truth_of y)));
  }
  step_kept (Step-F.Conditional b c) x = record {
    by = λ bound around here r s calls j.
        joins_choice more later bound x _ _ _ _ (b.1.by bound around here r s calls j) (c.1.by bound around here r s calls j);
  }
  step_kept (Step-F.Comma b) x = record { by = λ bound around here r s calls j. b.1.by bound around here r s calls j }
  step_kept (Step-F.Assign k b) x = record {
    by = λ bound around here r s calls j.
        b.1.by bound around here _ _ calls (λ y. joins_store bound k x y here _ _ (j y));
  }
  step_kept (Step-F.Copy size b) x = record {
    by = λ bound around here r s calls j.
        b.1.by bound around here _ _ calls (λ y. joins_memory more later bound _ _ (λ m.
        joins_writing more later bound (copied m x y size) here _ _ (j x)));
  }
  step_kept (Step-F.Update o k at b) x = record {
    by = λ bound around here r s calls j.
        joins_load bound k x here _ _ (λ old. b.1.by bound around here _ _ calls (λ y.
        joins_result more later bound (operate o at (convert old k at) y) here _ _ (λ new.
        joins_store bound k x (convert new at k) here _ _ (j (convert new at k)))));
  }
  step_kept (Step-F.Advance direction scale b) x = record {
    by = λ bound around here r s calls j.
        joins_load bound kind.UnsignedLong x here _ _ (λ old. b.1.by bound around here _ _ calls (λ y.
        joins_store bound kind.UnsignedLong x (moved direction old (y * scale)) here _ _ (j (moved direction old (y * scale)))));
  }
  step_kept (Step-F.Count c direction given) x = record {
    by = λ bound around here r s calls j.
        joins_load bound (counted_kind c) x here _ _ (λ old.
        joins_store bound (counted_kind c) x (next_of c direction old) here _ _ (j (given_of given old (next_of c direction old))));
  }

  step_keeps : (y : OpenStep) → KeptStep (roll-Step (closed_step y))
  step_keeps y x = subst (λ v. Keeps more later (v x)) (sym (step_roll (closed_step y))) (step_kept y x)

  -- ---- expressions

  joins_steps : (steps : List ((s : Step) × KeptStep s)) (bound x : ℕ) (around : Surroundings) (here : Here) (r s : ℕ → Rest)
      → KeepsCalls more later around.calling → Pairs bound r s
      → Joins more later bound (steps_value (map step_of (map (λ p. p.0) steps)) x around here r) (steps_value (map step_of (map (λ p. p.0) steps)) x around here s)
  joins_steps [] bound x around here r s calls j = j x
  joins_steps (a ∷ steps) bound x around here r s calls j =
      (a.1 x).by bound around here _ _ calls (λ y. joins_steps steps bound y around here r s calls j)

  abbrev OpenExpr : Type 0
  OpenExpr = Expr-F ((o : Operand) × KeptOperand o) ((s : Step) × KeptStep s) Known

  abbrev closed_expr : OpenExpr → Expr-F Operand Step Expr
  closed_expr y = map-Expr ((o : Operand) × KeptOperand o) ((s : Step) × KeptStep s) Known Operand Step Expr (λ p. p.0) (λ p. p.0) (λ p. p.0) y

  abbrev expr_valued : Expr-F Operand Step Expr → Value
  expr_valued x = value_step (map-Expr Operand Step Expr Value (ℕ → Value) Value operand_of step_of value x)

  expr_kept : (y : OpenExpr) → Keeps more later (expr_valued (closed_expr y))
  expr_kept y = record {
    by = λ bound around here r s calls j.
        y.first.1.by bound around here _ _ calls (λ x. joins_steps y.steps bound x around here r s calls j);
  }

  expr_keeps : (y : OpenExpr) → KeptExpr (roll-Expr (closed_expr y))
  expr_keeps y = subst (Keeps more later) (sym (value_roll (closed_expr y))) (expr_kept y)

  -- every expression keeps it
  pub keeps_value : (e : Expr) → Keeps more later (value e)
  keeps_value =
      ind-Expr KeptOperand KeptStep KeptExpr (λ x y is. subst (λ z. KeptOperand (roll-Operand z)) is (operand_keeps y))
      (λ x y is. subst (λ z. KeptStep (roll-Step z)) is (step_keeps y)) (λ x y is. subst (λ z. KeptExpr (roll-Expr z)) is (expr_keeps y))
