-- The code of an expression puts its value on the operands.
use Rattle.std.proofs.Common.{◌≡◌, ℕ, ◌+◌, ◌<◌, ◌≤◌, max, true, false, List, [], ◌∷◌, map, length, refl, sym, ◌∙◌, subst, arith}
use Rattle.am_base.specs.declared.calls.LibCall.{LibCall}
use Rattle.am_base.specs.declared.calls.MpiCall.{MpiCall}
use Rattle.rank_range.specs.Layout.{globals_start}
use Rattle.vm_code.specs.declared.code.Code.{Code}
use Rattle.vm_code.specs.declared.instr.Instr.TheVariants as instr
use Rattle.vm_code.specs.Machine.{operand_limit}
use Rattle.c_types.specs.declared.expression.Operand.{Operand, fold-Operand, map-Operand}
use Rattle.c_types.specs.declared.expression.Step.{Step, fold-Step, map-Step}
use Rattle.c_types.specs.declared.expression.Expr.{Expr, map-Expr}
use Rattle.c_types.specs.declared.expression.Operand.TheOpen.{Operand-F, Step-F, Expr-F}
use Rattle.c_types.specs.declared.expression.Operand.TheViews.{roll-Operand, roll-Step, roll-Expr}
use Rattle.c_types.specs.declared.expression.Operand.TheFolds.{fold-roll-Operand, fold-roll-Step, fold-roll-Expr, ind-Expr}
use Rattle.c_types.specs.Need.{in_arguments, in_call, operand_step, step_step, behind_all, expr_step as need_step, need_first, need_behind, need_of}
use Rattle.c_model.specs.Outcome.{Rest, Here}
use Rattle.c_model.specs.Run.{Calling, Surroundings, Value, in_order_of, operand_value, step_value, steps_value, value_step, value}
use Rattle.codegen.specs.Layout.{Part, in_order, operand_part, step_part, expr_step, expr_part, operand_code, step_code}
use Rattle.c_types.specs.declared.program.Function.{Function}
use Rattle.codegen.specs.Covered.{has_body}
use Rattle.std.specs.Prelude.{slice_get, Some}
use Rattle.codegen.proofs.Running.{Standing, Does, Told, onto, from_place}
use Rattle.codegen.proofs.Calling.{does_library, does_mpi}
use Rattle.codegen.proofs.Spanning.{Spans, Lies, spans_none, spans_one, spans_then, spans_first}
use Rattle.codegen.proofs.Stepping.{Values, Steps, values_number, values_local, values_object, steps_load, steps_convert, steps_unary, steps_not, steps_member, steps_binary, steps_greater, steps_at_least, steps_offset, steps_difference, steps_and, steps_or, steps_conditional, steps_comma, steps_assign, steps_copy, steps_update, steps_advance, steps_count}

-- what operands and steps do
pub operand_of : Operand → Value
operand_of = fold-Operand Value (ℕ → Value) Value operand_value step_value value_step

pub step_of : Step → ℕ → Value
step_of = fold-Step Value (ℕ → Value) Value operand_value step_value value_step

-- the equations at one layer
operand_roll : (x : Operand-F Operand Step Expr)
    → operand_of (roll-Operand x) ≡ operand_value (map-Operand Operand Step Expr Value (ℕ → Value) Value operand_of step_of value x)
unfolding value operand_of step_of
operand_roll x = fold-roll-Operand Value (ℕ → Value) Value operand_value step_value value_step x

step_roll : (x : Step-F Operand Step Expr)
    → step_of (roll-Step x) ≡ step_value (map-Step Operand Step Expr Value (ℕ → Value) Value operand_of step_of value x)
unfolding value operand_of step_of
step_roll x = fold-roll-Step Value (ℕ → Value) Value operand_value step_value value_step x

value_roll : (x : Expr-F Operand Step Expr)
    → value (roll-Expr x) ≡ value_step (map-Expr Operand Step Expr Value (ℕ → Value) Value operand_of step_of value x)
unfolding value operand_of step_of
value_roll x = fold-roll-Expr Value (ℕ → Value) Value operand_value step_value value_step x

pub operand_code_roll : (object : ℕ → ℕ) (x : Operand-F Operand Step Expr)
    → operand_code object (roll-Operand x) ≡ operand_part object (map-Operand Operand Step Expr Part Part Part (operand_code object) (step_code object) (expr_part object) x)
unfolding expr_part operand_code step_code
operand_code_roll object x = fold-roll-Operand Part Part Part (operand_part object) step_part expr_step x

pub step_code_roll : (object : ℕ → ℕ) (x : Step-F Operand Step Expr)
    → step_code object (roll-Step x) ≡ step_part (map-Step Operand Step Expr Part Part Part (operand_code object) (step_code object) (expr_part object) x)
unfolding expr_part operand_code step_code
step_code_roll object x = fold-roll-Step Part Part Part (operand_part object) step_part expr_step x

pub expr_code_roll : (object : ℕ → ℕ) (x : Expr-F Operand Step Expr)
    → expr_part object (roll-Expr x) ≡ expr_step (map-Expr Operand Step Expr Part Part Part (operand_code object) (step_code object) (expr_part object) x)
unfolding expr_part operand_code step_code
expr_code_roll object x = fold-roll-Expr Part Part Part (operand_part object) step_part expr_step x

operand_need_roll : (x : Operand-F Operand Step Expr)
    → need_first (roll-Operand x) ≡ operand_step (map-Operand Operand Step Expr ℕ (ℕ → ℕ) ℕ need_first need_behind need_of x)
unfolding need_first need_behind need_of
operand_need_roll x = fold-roll-Operand ℕ (ℕ → ℕ) ℕ operand_step step_step need_step x

step_need_roll : (x : Step-F Operand Step Expr)
    → need_behind (roll-Step x) ≡ step_step (map-Step Operand Step Expr ℕ (ℕ → ℕ) ℕ need_first need_behind need_of x)
unfolding need_first need_behind need_of
step_need_roll x = fold-roll-Step ℕ (ℕ → ℕ) ℕ operand_step step_step need_step x

need_roll : (x : Expr-F Operand Step Expr)
    → need_of (roll-Expr x) ≡ need_step (map-Expr Operand Step Expr ℕ (ℕ → ℕ) ℕ need_first need_behind need_of x)
unfolding need_first need_behind need_of
need_roll x = fold-roll-Expr ℕ (ℕ → ℕ) ℕ operand_step step_step need_step x

-- where an action stands in a call, at a line of a unit
abbrev pub here_in : Standing → ℕ → ℕ → Here
here_in s unit line = record { frame = s.start; unit = unit; line = line }

-- what is around it, where static objects stand at these offsets of the globals
abbrev pub around_with : Calling → (ℕ → ℕ) → Surroundings
around_with calling object = record { calling = calling; object = λ number. globals_start + object number }

first_fits : (base before n m : ℕ) → base + max (before + n) m ≤ operand_limit → base + (before + n) ≤ operand_limit
first_fits base before n m le = grind arith

rest_fits : (base before n m : ℕ) → base + max (before + n) m ≤ operand_limit → base + m ≤ operand_limit
rest_fits base before n m le = grind arith

call_fits : (base n : ℕ) → base + max 1 n ≤ operand_limit → base < operand_limit
call_fits base n le = grind arith

args_fit : (base n : ℕ) → base + max 1 n ≤ operand_limit → base + n ≤ operand_limit
args_fit base n le = grind arith

some_call : (n : ℕ) → 1 ≤ max 1 n
some_call n = grind arith

-- Calls of functions with bodies do what calling does.
abbrev pub DoesCalls : List Function → Code → Standing → Calling → Type 0
DoesCalls fs code s calling =
    (number : ℕ) (words : List ℕ) (place : ℕ) (stack : List ℕ) (most : ℕ) (here : Here) (next : ℕ → Rest) → has_body fs number ≡ true
    → slice_get code.instrs place ≡ Some (instr.Call number (length words)) → Told code place here → length stack < operand_limit
    → ((x : ℕ) → Does code s (place + 1) (x ∷ stack) most (next x)) → Does code s place (onto words stack) most (calling number words here next)

module _ (fs : List Function) (code : Code) (s : Standing) (calling : Calling) (calls : DoesCalls fs code s calling) (object : ℕ → ℕ) (unit line : ℕ) where
  abbrev here_of : Here
  here_of = here_in s unit line

  abbrev around_of : Surroundings
  around_of = around_with calling object

  abbrev HasOperand : Operand → Type 0
  HasOperand o = Values fs code s here_of (operand_code object o) (need_first o) (operand_of o around_of here_of)

  abbrev HasStep : Step → Type 0
  HasStep t = Steps fs code s here_of (step_code object t) (need_behind t) (λ x. step_of t x around_of here_of)

  abbrev HasValue : Expr → Type 0
  HasValue e = Values fs code s here_of (expr_part object e) (need_of e) (value e around_of here_of)

  abbrev Known : Type 0
  Known = (e : Expr) × HasValue e

  -- arguments, where so many operands of the call are pending already
  over_args : (args : List Known) (base before place after : ℕ) (stack : List ℕ) (most : ℕ) (next : List ℕ → Rest) → length stack ≡ base + before
      → base + in_arguments before (map need_of (map (λ p. p.0) args)) ≤ operand_limit
      → Spans (Lies fs code here_of) place (in_order (map (expr_part object) (map (λ p. p.0) args))) after
      → ((words : List ℕ) → length words ≡ length args → Does code s after (onto words stack) most (next words))
      → Does code s place stack most (in_order_of (map value (map (λ p. p.0) args)) around_of here_of next)
  over_args [] base before place after stack most next pending fits sp d =
      from_place code s _ _ _ _ _ (spans_none (Lies fs code here_of) place after sp) (d [] refl)
  over_args (a ∷ args) base before place after stack most next pending fits sp d =
      let parts = spans_then (Lies fs code here_of) place after (expr_part object a.0) _ sp in
      let m = in_arguments (before + 1) (map need_of (map (λ p. p.0) args)) in
      let first = first_fits base before (need_of a.0) m fits in
      a.1.by place parts.0 stack most _ (omega (arith, first, pending)) parts.1
      (λ x. over_args args base (before + 1) parts.0 after (x ∷ stack) most (λ xs. next (x ∷ xs)) (omega (arith, pending))
      (rest_fits base before (need_of a.0) m fits) parts.2
      (λ words l. d (x ∷ words) (omega (arith, l))))

  -- the same with no operand pending
  over_all : (args : List Known) (place after : ℕ) (stack : List ℕ) (most : ℕ) (next : List ℕ → Rest)
      → length stack + in_call (map need_of (map (λ p. p.0) args)) ≤ operand_limit
      → Spans (Lies fs code here_of) place (in_order (map (expr_part object) (map (λ p. p.0) args))) after
      → ((words : List ℕ) → length words ≡ length args → Does code s after (onto words stack) most (next words))
      → Does code s place stack most (in_order_of (map value (map (λ p. p.0) args)) around_of here_of next)
  over_all args place after stack most next fits sp d =
      over_args args (length stack) 0 place after stack most next (omega arith) (args_fit (length stack) (in_arguments 0 (map need_of (map (λ p. p.0) args))) fits) sp d

  length_parts : (args : List Known) → length (map (expr_part object) (map (λ p. p.0) args)) ≡ length args
  length_parts [] = refl
  length_parts (a ∷ args) = omega (arith, length_parts args)

  -- ---- operands

  abbrev OpenOperand : Type 0
  OpenOperand = Operand-F ((o : Operand) × HasOperand o) ((t : Step) × HasStep t) Known

  abbrev closed_operand : OpenOperand → Operand-F Operand Step Expr
  closed_operand y = map-Operand ((o : Operand) × HasOperand o) ((t : Step) × HasStep t) Known Operand Step Expr (λ p. p.0) (λ p. p.0) (λ p. p.0) y

  abbrev operand_laid : Operand-F Operand Step Expr → Part
  operand_laid x = operand_part object (map-Operand Operand Step Expr Part Part Part (operand_code object) (step_code object) (expr_part object) x)

  abbrev operand_needed : Operand-F Operand Step Expr → ℕ
  operand_needed x = operand_step (map-Operand Operand Step Expr ℕ (ℕ → ℕ) ℕ need_first need_behind need_of x)

  abbrev operand_valued : Operand-F Operand Step Expr → Value
  operand_valued x = operand_value (map-Operand Operand Step Expr Value (ℕ → Value) Value operand_of step_of value x)

  abbrev ValuesOperand : Operand-F Operand Step Expr → Type 0
  ValuesOperand x = Values fs code s here_of (operand_laid x) (operand_needed x) (operand_valued x around_of here_of)

  has_library : (call : LibCall) (args : List Known) → ValuesOperand (Operand-F.Library call (map (λ p. p.0) args))
  has_library call args = record {
    some = some_call (in_arguments 0 (map need_of (map (λ p. p.0) args)));
    by = λ place after stack most next fits sp d.
        let n = length (map (expr_part object) (map (λ p. p.0) args)) in
        let parts = spans_then (Lies fs code here_of) place after (in_order (map (expr_part object) (map (λ p. p.0) args))) _ sp in
        let last = spans_one (Lies fs code here_of) parts.0 after (instr.Library call n) parts.2 in
        over_all args place parts.0 stack most _ fits parts.1 (λ words l.
        let lies = subst (λ m. Lies fs code here_of parts.0 (instr.Library call m)) (length_parts args ∙ sym l) last.0 in
        does_library code s call words parts.0 stack most here_of next lies.0 lies.1
        (call_fits (length stack) (in_arguments 0 (map need_of (map (λ p. p.0) args))) fits)
        (λ x. from_place code s _ _ _ _ _ last.1 (d x)));
  }

  has_mpi : (call : MpiCall) (args : List Known) → ValuesOperand (Operand-F.Mpi call (map (λ p. p.0) args))
  has_mpi call args = record {
    some = some_call (in_arguments 0 (map need_of (map (λ p. p.0) args)));
    by = λ place after stack most next fits sp d.
        let n = length (map (expr_part object) (map (λ p. p.0) args)) in
        let parts = spans_then (Lies fs code here_of) place after (in_order (map (expr_part object) (map (λ p. p.0) args))) _ sp in
        let first = spans_first (Lies fs code here_of) parts.0 after (instr.Mpi call n false) _ parts.2 in
        let last = spans_one (Lies fs code here_of) (parts.0 + 1) after (instr.Mpi call n true) first.1 in
        let e : after ≡ parts.0 + 2 = omega (arith, last.1) in
        over_all args place parts.0 stack most _ fits parts.1 (λ words l.
        let one_lies = subst (λ m. Lies fs code here_of parts.0 (instr.Mpi call m false)) (length_parts args ∙ sym l) first.0 in
        let two_lies = subst (λ m. Lies fs code here_of (parts.0 + 1) (instr.Mpi call m true)) (length_parts args ∙ sym l) last.0 in
        does_mpi code s call words parts.0 stack most here_of next one_lies.0 one_lies.1 two_lies.0 two_lies.1
        (call_fits (length stack) (in_arguments 0 (map need_of (map (λ p. p.0) args))) fits)
        (λ x. from_place code s _ _ _ _ _ e (d x)));
  }

  has_call : (function : ℕ) (args : List Known) → ValuesOperand (Operand-F.Call function (map (λ p. p.0) args))
  has_call function args = record {
    some = some_call (in_arguments 0 (map need_of (map (λ p. p.0) args)));
    by = λ place after stack most next fits sp d.
        let n = length (map (expr_part object) (map (λ p. p.0) args)) in
        let parts = spans_then (Lies fs code here_of) place after (in_order (map (expr_part object) (map (λ p. p.0) args))) _ sp in
        let last = spans_one (Lies fs code here_of) parts.0 after (instr.Call function n) parts.2 in
        over_all args place parts.0 stack most _ fits parts.1 (λ words l.
        let lies = subst (λ m. Lies fs code here_of parts.0 (instr.Call function m)) (length_parts args ∙ sym l) last.0 in
        calls function words parts.0 stack most here_of next lies.2 lies.0 lies.1
        (call_fits (length stack) (in_arguments 0 (map need_of (map (λ p. p.0) args))) fits)
        (λ x. from_place code s _ _ _ _ _ last.1 (d x)));
  }

  operand_has : (y : OpenOperand) → ValuesOperand (closed_operand y)
  operand_has (Operand-F.Number word) = values_number fs code s here_of word
  operand_has (Operand-F.Local offset) = values_local fs code s here_of offset
  operand_has (Operand-F.Object number) = values_object fs code s here_of (object number)
  operand_has (Operand-F.Call function args) = has_call function args
  operand_has (Operand-F.Library call args) = has_library call args
  operand_has (Operand-F.Mpi call args) = has_mpi call args

  -- what is said of a part, a need and a value is said of what equals them
  same_values : (part part' : Part) (need need' : ℕ) (v v' : Value) → part ≡ part' → need ≡ need' → v ≡ v'
      → Values fs code s here_of part' need' (v' around_of here_of) → Values fs code s here_of part need (v around_of here_of)
  same_values part part' need need' v v' e f g has =
      subst (λ p. Values fs code s here_of p need (v around_of here_of)) (sym e)
      (subst (λ n. Values fs code s here_of part' n (v around_of here_of)) (sym f)
      (subst (λ w. Values fs code s here_of part' need' (w around_of here_of)) (sym g) has))

  operand_holds : (y : OpenOperand) → HasOperand (roll-Operand (closed_operand y))
  operand_holds y =
      let x = closed_operand y in
      same_values _ _ _ _ _ _ (operand_code_roll object x) (operand_need_roll x) (operand_roll x) (operand_has y)

  -- ---- steps

  abbrev OpenStep : Type 0
  OpenStep = Step-F ((o : Operand) × HasOperand o) ((t : Step) × HasStep t) Known

  abbrev closed_step : OpenStep → Step-F Operand Step Expr
  closed_step y = map-Step ((o : Operand) × HasOperand o) ((t : Step) × HasStep t) Known Operand Step Expr (λ p. p.0) (λ p. p.0) (λ p. p.0) y

  abbrev step_laid : Step-F Operand Step Expr → Part
  step_laid x = step_part (map-Step Operand Step Expr Part Part Part (operand_code object) (step_code object) (expr_part object) x)

  abbrev step_needed : Step-F Operand Step Expr → ℕ → ℕ
  step_needed x = step_step (map-Step Operand Step Expr ℕ (ℕ → ℕ) ℕ need_first need_behind need_of x)

  abbrev step_valued : Step-F Operand Step Expr → ℕ → Value
  step_valued x = step_value (map-Step Operand Step Expr Value (ℕ → Value) Value operand_of step_of value x)

  step_has : (y : OpenStep) → Steps fs code s here_of (step_laid (closed_step y)) (step_needed (closed_step y)) (λ x. step_valued (closed_step y) x around_of here_of)
  step_has (Step-F.Load k) = steps_load fs code s here_of k
  step_has (Step-F.Convert from to) = steps_convert fs code s here_of from to
  step_has (Step-F.Unary o k) = steps_unary fs code s here_of o k
  step_has Step-F.Not = steps_not fs code s here_of
  step_has (Step-F.Member offset) = steps_member fs code s here_of offset
  step_has (Step-F.Binary o k b) = steps_binary fs code s here_of o k _ _ _ b.1
  step_has (Step-F.Greater k b) = steps_greater fs code s here_of k _ _ _ b.1
  step_has (Step-F.AtLeast k b) = steps_at_least fs code s here_of k _ _ _ b.1
  step_has (Step-F.Offset by scale b) = steps_offset fs code s here_of by scale _ _ _ b.1
  step_has (Step-F.Difference size b) = steps_difference fs code s here_of size _ _ _ b.1
  step_has (Step-F.And b) = steps_and fs code s here_of _ _ _ b.1
  step_has (Step-F.Or b) = steps_or fs code s here_of _ _ _ b.1
  step_has (Step-F.Conditional b c) = steps_conditional fs code s here_of _ _ _ _ _ _ b.1 c.1
  step_has (Step-F.Comma b) = steps_comma fs code s here_of _ _ _ b.1
  step_has (Step-F.Assign k b) = steps_assign fs code s here_of k _ _ _ b.1
  step_has (Step-F.Copy size b) = steps_copy fs code s here_of size _ _ _ b.1
  step_has (Step-F.Update o k at b) = steps_update fs code s here_of o k at _ _ _ b.1
  step_has (Step-F.Advance direction scale b) = steps_advance fs code s here_of direction scale _ _ _ b.1
  step_has (Step-F.Count c direction given) = steps_count fs code s here_of c direction given

  same_steps : (part part' : Part) (need need' : ℕ → ℕ) (v v' : ℕ → Value) → part ≡ part' → need ≡ need' → v ≡ v'
      → Steps fs code s here_of part' need' (λ x. v' x around_of here_of) → Steps fs code s here_of part need (λ x. v x around_of here_of)
  same_steps part part' need need' v v' e f g has =
      subst (λ p. Steps fs code s here_of p need (λ x. v x around_of here_of)) (sym e)
      (subst (λ n. Steps fs code s here_of part' n (λ x. v x around_of here_of)) (sym f)
      (subst (λ w. Steps fs code s here_of part' need' (λ x. w x around_of here_of)) (sym g) has))

  step_holds : (y : OpenStep) → HasStep (roll-Step (closed_step y))
  step_holds y =
      let x = closed_step y in
      same_steps _ _ _ _ _ _ (step_code_roll object x) (step_need_roll x) (step_roll x) (step_has y)

  -- ---- expressions

  abbrev Stepped : Type 0
  Stepped = (t : Step) × HasStep t

  all_grow : (steps : List Stepped) (a : ℕ) → a ≤ behind_all a (map need_behind (map (λ p. p.0) steps))
  all_grow [] a = omega arith
  all_grow (t ∷ steps) a =
      let first = t.1.grows a in
      let rest = all_grow steps (need_behind t.0 a) in
      omega (arith, first, rest)

  over_steps : (steps : List Stepped) (a place after x : ℕ) (stack : List ℕ) (most : ℕ) (next : ℕ → Rest) → 1 ≤ a
      → length stack + behind_all a (map need_behind (map (λ p. p.0) steps)) ≤ operand_limit
      → Spans (Lies fs code here_of) place (in_order (map (step_code object) (map (λ p. p.0) steps))) after
      → ((y : ℕ) → Does code s after (y ∷ stack) most (next y))
      → Does code s place (x ∷ stack) most (steps_value (map step_of (map (λ p. p.0) steps)) x around_of here_of next)
  over_steps [] a place after x stack most next some fits sp d =
      from_place code s _ _ _ _ _ (spans_none (Lies fs code here_of) place after sp) (d x)
  over_steps (t ∷ steps) a place after x stack most next some fits sp d =
      let parts = spans_then (Lies fs code here_of) place after (step_code object t.0) _ sp in
      let more = t.1.grows a in
      let rest = all_grow steps (need_behind t.0 a) in
      t.1.by place parts.0 x a stack most _ some (omega (arith, fits, rest)) parts.1
      (λ y. over_steps steps (need_behind t.0 a) parts.0 after y stack most next (omega (arith, some, more)) fits parts.2 d)

  abbrev OpenExpr : Type 0
  OpenExpr = Expr-F ((o : Operand) × HasOperand o) ((t : Step) × HasStep t) Known

  abbrev closed_expr : OpenExpr → Expr-F Operand Step Expr
  closed_expr y = map-Expr ((o : Operand) × HasOperand o) ((t : Step) × HasStep t) Known Operand Step Expr (λ p. p.0) (λ p. p.0) (λ p. p.0) y

  abbrev ValuesExpr : Expr-F Operand Step Expr → Type 0
  ValuesExpr x =
      Values fs code s here_of (expr_step (map-Expr Operand Step Expr Part Part Part (operand_code object) (step_code object) (expr_part object) x))
      (need_step (map-Expr Operand Step Expr ℕ (ℕ → ℕ) ℕ need_first need_behind need_of x))
      (value_step (map-Expr Operand Step Expr Value (ℕ → Value) Value operand_of step_of value x) around_of here_of)

  expr_has : (y : OpenExpr) → ValuesExpr (closed_expr y)
  expr_has y =
      let grown = all_grow y.steps (need_first y.first.0) in
      let has = y.first.1.some in
      record {
        some = omega (arith, grown, has);
        by = λ place after stack most next fits sp d.
            let parts = spans_then (Lies fs code here_of) place after (operand_code object y.first.0) _ sp in
            y.first.1.by place parts.0 stack most _ (omega (arith, fits, grown)) parts.1
            (λ x. over_steps y.steps (need_first y.first.0) parts.0 after x stack most next has fits parts.2 d);
      }

  expr_holds : (y : OpenExpr) → HasValue (roll-Expr (closed_expr y))
  expr_holds y =
      let x = closed_expr y in
      same_values _ _ _ _ _ _ (expr_code_roll object x) (need_roll x) (value_roll x) (expr_has y)

  -- every expression has its value
  pub has_value : (e : Expr) → HasValue e
  has_value =
      ind-Expr HasOperand HasStep HasValue (λ x y is. subst (λ z. HasOperand (roll-Operand z)) is (operand_holds y))
      (λ x y is. subst (λ z. HasStep (roll-Step z)) is (step_holds y)) (λ x y is. subst (λ z. HasValue (roll-Expr z)) is (expr_holds y))
