-- How many instructions the code of an expression has, that its jumps lead forward, and that it is calm where it is covered.
use Rattle.std.proofs.Common.{◌≡◌, ℕ, ◌+◌, ◌<◌, Bool, true, false, List, [], ◌∷◌, ◌++◌, map, length, refl, sym, ap, ◌∙◌, subst, arith, length-append, true≢false}
use Rattle.std.specs.Prelude.{◌&&◌}
use Rattle.vm_code.specs.declared.instr.Instr.{Instr}
use Rattle.vm_code.specs.declared.instr.Instr.TheVariants as instr
use Rattle.rank_range.specs.declared.kinds.Kind.{Kind}
use Rattle.rank_range.specs.declared.kinds.Kind.TheVariants as kind
use Rattle.rank_range.specs.declared.operators.Binary.{Binary as Operator}
use Rattle.rank_range.specs.declared.operators.Binary.TheVariants as op
use Rattle.c_types.specs.declared.expression.Operand.{Operand, map-Operand}
use Rattle.c_types.specs.declared.expression.Step.{Step, map-Step}
use Rattle.c_types.specs.declared.expression.Expr.{Expr, map-Expr}
use Rattle.c_types.specs.declared.expression.Operand.TheOpen.{Operand-F, Step-F, Expr-F}
use Rattle.c_types.specs.declared.expression.Operand.TheViews.{roll-Operand, roll-Step, roll-Expr}
use Rattle.c_types.specs.declared.expression.Operand.TheFolds.{fold-roll-Operand, fold-roll-Step, fold-roll-Expr, ind-Expr}
use Rattle.c_types.specs.declared.expression.OffsetBy.{OffsetBy}
use Rattle.c_types.specs.declared.expression.OffsetBy.TheVariants.{PointerPlusNumber, NumberPlusPointer, PointerMinusNumber}
use Rattle.c_types.specs.declared.expression.Direction.{Direction}
use Rattle.c_types.specs.declared.expression.Counted.{Counted}
use Rattle.c_types.specs.declared.expression.Given.{Given}
use Rattle.c_types.specs.declared.expression.Given.TheVariants.{New, Old}
use Rattle.c_model.specs.Run.{counted_kind}
use Rattle.codegen.specs.Layout.{Part, nothing, one, ◌then◌, over, negation, truths, in_order, operand_part, converted, on_words, scaled, offset_part, moving, against, amount, step_part, expr_part, operand_code, step_code}
use Rattle.codegen.specs.Sizes.{total, operand_size, step_size, expr_size_step, expr_size, operand_sized, step_sized}
use Rattle.codegen.specs.Covered.{all_true, operand_covered, step_covered, expr_covered_step, expr_covered, operand_is_covered, step_is_covered, has_body}
use Rattle.c_types.specs.declared.program.Function.{Function}
use Rattle.codegen.proofs.Spanning.{HasAt, IsCalm, AreCalm, Saying}
use Rattle.codegen.proofs.Valuing.{operand_code_roll, step_code_roll, expr_code_roll}

-- a jump leads forward
abbrev pub IsForward : Saying
IsForward place (instr.Jump to) = place < to
IsForward place (instr.JumpIfZero to) = place < to
IsForward place (instr.JumpIfNot to) = place < to
IsForward place _ = Unit {0}

pub and_left : (a b : Bool) → (a && b) ≡ true → a ≡ true
and_left true b e = refl
and_left false b e = absurd (true≢false (sym e))

pub and_right : (a b : Bool) → (a && b) ≡ true → b ≡ true
and_right true b e = e
and_right false b e = absurd (true≢false (sym e))

and_both : (a b : Bool) → a ≡ true → b ≡ true → (a && b) ≡ true
and_both a b x y = rw (x, y) refl

pub has_both : (says : Saying) (place : ℕ) (a b : List Instr) → HasAt says place a → HasAt says (place + length a) b → HasAt says place (a ++ b)
has_both says place [] b x y = let e : place + 0 ≡ place = omega arith in subst (λ p. HasAt says p b) e y
has_both says place (i ∷ a) b x y =
    let e : place + length (i ∷ a) ≡ place + 1 + length a = omega arith in
    (x.0, has_both says (place + 1) a b x.1 (subst (λ p. HasAt says p b) e y))

module _ (fs : List Function) where
  -- an instruction of an expression that is covered or not
  abbrev pub Fair : Bool → Saying
  Fair covered place i = IsForward place i × (covered ≡ true → IsCalm fs i)

  pub record Measured (part : Part) (size : ℕ) (covered : Bool) : Type 0 where
    pub sized : (place : ℕ) → length (part place) ≡ size
    pub fair : (place : ℕ) → HasAt (Fair covered) place (part place)

  has_less : (a b : Bool) → (b ≡ true → a ≡ true) → (place : ℕ) (is : List Instr) → HasAt (Fair a) place is → HasAt (Fair b) place is
  has_less a b less place [] h = tt
  has_less a b less place (i ∷ is) h = ((h.0.0, λ e. h.0.1 (less e)), has_less a b less (place + 1) is h.1)

  -- the same part, by another size
  resized : (part : Part) (n m : ℕ) (covered : Bool) → n ≡ m → Measured part n covered → Measured part m covered
  resized part n m covered e s = record { sized = λ place. s.sized place ∙ e; fair = s.fair }

  measured_none : Measured nothing 0 true
  measured_none = record { sized = λ place. refl; fair = λ place. tt }

  measured_one : (i : Instr) → IsCalm fs i → ((place : ℕ) → IsForward place i) → Measured (one i) 1 true
  measured_one i calm forward = record { sized = λ place. refl; fair = λ place. ((forward place, λ e. calm), tt) }

  measured_call : (function count : ℕ) → Measured (one (instr.Call function count)) 1 (has_body fs function)
  measured_call function count = record { sized = λ place. refl; fair = λ place. ((tt, λ e. e), tt) }

  measured_then : (a b : Part) (n m : ℕ) (c d : Bool) → Measured a n c → Measured b m d → Measured (a then b) (n + m) (c && d)
  unfolding ◌then◌
  measured_then a b n m c d x y = record {
    sized = λ place.
        let first = x.sized place in
        let second = y.sized (place + length (a place)) in
        omega (arith, first, second, length-append (a place) (b (place + length (a place))));
    fair = λ place. has_both (Fair (c && d)) place (a place) (b (place + length (a place)))
        (has_less c (c && d) (and_left c d) place (a place) (x.fair place))
        (has_less d (c && d) (and_right c d) (place + length (a place)) (b (place + length (a place))) (y.fair (place + length (a place))));
  }

  -- one instruction before or behind a part
  measured_before : (i : Instr) (b : Part) (m : ℕ) (d : Bool) → IsCalm fs i → ((place : ℕ) → IsForward place i) → Measured b m d → Measured (one i then b) (1 + m) d
  measured_before i b m d calm forward y = measured_then (one i) b 1 m true d (measured_one i calm forward) y

  same_covered : (part : Part) (n : ℕ) (c d : Bool) → (d ≡ true → c ≡ true) → Measured part n c → Measured part n d
  same_covered part n c d less x = record { sized = x.sized; fair = λ place. has_less c d less place (part place) (x.fair place) }

  measured_with : (a b : Part) (n m : ℕ) (c : Bool) → Measured a n c → Measured b m true → Measured (a then b) (n + m) c
  measured_with a b n m c x y = same_covered (a then b) (n + m) (c && true) c (λ e. ap (λ d. d && true) e) (measured_then a b n m c true x y)

  measured_over : (jump : ℕ → Instr) (more : ℕ) (a : Part) (n : ℕ) (c : Bool) → ((to : ℕ) → IsCalm fs (jump to)) → ((place to : ℕ) → place < to → IsForward place (jump to))
      → Measured a n c → Measured (over jump more a) (1 + n) c
  unfolding over
  measured_over jump more a n c calm forward x = record {
    sized = λ place. let first = x.sized (place + 1) in omega (arith, first);
    fair = λ place. ((forward place (place + 1 + length (a (place + 1)) + more) (omega arith), λ e. calm (place + 1 + length (a (place + 1)) + more)), x.fair (place + 1));
  }

  measured_negation : Measured negation 4 true
  unfolding negation
  measured_negation = record {
    sized = λ place. refl;
    fair = λ place. ((omega arith, λ e. tt), ((tt, λ e. tt), ((omega arith, λ e. tt), ((tt, λ e. tt), tt))));
  }

  measured_truths : (decisive : Bool) → Measured (truths decisive) 4 true
  unfolding truths
  measured_truths true = record {
    sized = λ place. refl;
    fair = λ place. ((omega arith, λ e. tt), ((tt, λ e. tt), ((omega arith, λ e. tt), ((tt, λ e. tt), tt))));
  }
  measured_truths false = record {
    sized = λ place. refl;
    fair = λ place. ((omega arith, λ e. tt), ((tt, λ e. tt), ((omega arith, λ e. tt), ((tt, λ e. tt), tt))));
  }

  measured_plain : (i : Instr) → IsCalm fs i → ((place : ℕ) → IsForward place i) → Measured (one i) 1 true
  measured_plain i calm forward = measured_one i calm forward

  measured_words : (o : Operator) → Measured (on_words o) 1 true
  measured_words o = measured_one (instr.Binary o kind.UnsignedLong) tt (λ place. tt)

  measured_scaled : (scale : ℕ) → Measured (scaled scale) 2 true
  measured_scaled scale = measured_before (instr.Push scale) (on_words op.Multiply) 1 true tt (λ place. tt) (measured_words op.Multiply)

  measured_converted : (from to : Kind) → Measured (converted from to) 2 true
  measured_converted from to = measured_before (instr.Extend from) (one (instr.Extend to)) 1 true tt (λ place. tt) (measured_one (instr.Extend to) tt (λ place. tt))

  measured_offset : (by : OffsetBy) (scale : ℕ) (b : Part) (n : ℕ) (c : Bool) → Measured b n c → Measured (offset_part by scale b) (n + 3) c
  measured_offset PointerPlusNumber scale b n c x =
      measured_with b _ n 3 c x (measured_with (scaled scale) (on_words op.Add) 2 1 true (measured_scaled scale) (measured_words op.Add))
  measured_offset NumberPlusPointer scale b n c x =
      resized _ (2 + (n + 1)) (n + 3) c (omega arith)
      (measured_then (scaled scale) _ 2 (n + 1) true c (measured_scaled scale) (measured_with b (on_words op.Add) n 1 c x (measured_words op.Add)))
  measured_offset PointerMinusNumber scale b n c x =
      measured_with b _ n 3 c x (measured_with (scaled scale) (on_words op.Subtract) 2 1 true (measured_scaled scale) (measured_words op.Subtract))

  measured_count : (c : Counted) (direction : Direction) (given : Given) → Measured (step_part (Step-F.Count c direction given)) (step_size (Step-F.Count c direction given)) true
  measured_count c direction New =
      measured_before instr.Dup _ 5 true tt (λ place. tt) (measured_before (instr.Load (counted_kind c)) _ 4 true tt (λ place. tt)
      (measured_before (instr.Push (amount c)) _ 3 true tt (λ place. tt) (measured_then (on_words (moving direction)) _ 1 2 true true (measured_words (moving direction))
      (measured_before (instr.Extend (counted_kind c)) _ 1 true tt (λ place. tt) (measured_before (instr.Store (counted_kind c)) nothing 0 true tt (λ place. tt) measured_none)))))
  measured_count c direction Old =
      measured_before instr.Dup _ 8 true tt (λ place. tt) (measured_before (instr.Load (counted_kind c)) _ 7 true tt (λ place. tt)
      (measured_before (instr.Push (amount c)) _ 6 true tt (λ place. tt) (measured_then (on_words (moving direction)) _ 1 5 true true (measured_words (moving direction))
      (measured_before (instr.Extend (counted_kind c)) _ 4 true tt (λ place. tt) (measured_before (instr.Store (counted_kind c)) _ 3 true tt (λ place. tt)
      (measured_before (instr.Push (amount c)) _ 2 true tt (λ place. tt) (measured_then (on_words (against direction)) _ 1 1 true true (measured_words (against direction))
      (measured_one (instr.Extend (counted_kind c)) tt (λ place. tt)))))))))

  -- sizes and coverings of operands and steps

  pub operand_size_roll : (x : Operand-F Operand Step Expr)
      → operand_sized (roll-Operand x) ≡ operand_size (map-Operand Operand Step Expr ℕ ℕ ℕ operand_sized step_sized expr_size x)
  unfolding expr_size operand_sized step_sized
  operand_size_roll x = fold-roll-Operand ℕ ℕ ℕ operand_size step_size expr_size_step x

  pub step_size_roll : (x : Step-F Operand Step Expr)
      → step_sized (roll-Step x) ≡ step_size (map-Step Operand Step Expr ℕ ℕ ℕ operand_sized step_sized expr_size x)
  unfolding expr_size operand_sized step_sized
  step_size_roll x = fold-roll-Step ℕ ℕ ℕ operand_size step_size expr_size_step x

  pub expr_size_roll : (x : Expr-F Operand Step Expr)
      → expr_size (roll-Expr x) ≡ expr_size_step (map-Expr Operand Step Expr ℕ ℕ ℕ operand_sized step_sized expr_size x)
  unfolding expr_size operand_sized step_sized
  expr_size_roll x = fold-roll-Expr ℕ ℕ ℕ operand_size step_size expr_size_step x

  pub operand_covered_roll : (x : Operand-F Operand Step Expr)
      → (operand_is_covered fs) (roll-Operand x) ≡ (operand_covered fs) (map-Operand Operand Step Expr Bool Bool Bool (operand_is_covered fs) (step_is_covered fs) (expr_covered fs) x)
  unfolding expr_covered operand_is_covered step_is_covered
  operand_covered_roll x = fold-roll-Operand Bool Bool Bool (operand_covered fs) step_covered expr_covered_step x

  pub step_covered_roll : (x : Step-F Operand Step Expr)
      → (step_is_covered fs) (roll-Step x) ≡ step_covered (map-Step Operand Step Expr Bool Bool Bool (operand_is_covered fs) (step_is_covered fs) (expr_covered fs) x)
  unfolding expr_covered operand_is_covered step_is_covered
  step_covered_roll x = fold-roll-Step Bool Bool Bool (operand_covered fs) step_covered expr_covered_step x

  pub expr_covered_roll : (x : Expr-F Operand Step Expr)
      → (expr_covered fs) (roll-Expr x) ≡ expr_covered_step (map-Expr Operand Step Expr Bool Bool Bool (operand_is_covered fs) (step_is_covered fs) (expr_covered fs) x)
  unfolding expr_covered operand_is_covered step_is_covered
  expr_covered_roll x = fold-roll-Expr Bool Bool Bool (operand_covered fs) step_covered expr_covered_step x

  module _ (object : ℕ → ℕ) where
    abbrev IsOperand : Operand → Type 0
    IsOperand o = Measured (operand_code object o) (operand_sized o) ((operand_is_covered fs) o)

    abbrev IsStep : Step → Type 0
    IsStep t = Measured (step_code object t) (step_sized t) ((step_is_covered fs) t)

    abbrev IsExpr : Expr → Type 0
    IsExpr e = Measured (expr_part object e) (expr_size e) ((expr_covered fs) e)

    abbrev Known : Type 0
    Known = (e : Expr) × IsExpr e

    abbrev KnownStep : Type 0
    KnownStep = (t : Step) × IsStep t

    measured_all : (args : List Known) → Measured (in_order (map (expr_part object) (map (λ p. p.0) args))) (total (map expr_size (map (λ p. p.0) args))) (all_true (map (expr_covered fs) (map (λ p. p.0) args)))
    measured_all [] = measured_none
    measured_all (a ∷ args) = measured_then _ _ _ _ _ _ a.1 (measured_all args)

    measured_steps : (args : List KnownStep) → Measured (in_order (map (step_code object) (map (λ p. p.0) args))) (total (map step_sized (map (λ p. p.0) args))) (all_true (map (step_is_covered fs) (map (λ p. p.0) args)))
    measured_steps [] = measured_none
    measured_steps (a ∷ args) = measured_then _ _ _ _ _ _ a.1 (measured_steps args)

    abbrev OpenOperand : Type 0
    OpenOperand = Operand-F ((o : Operand) × IsOperand o) KnownStep Known

    abbrev closed_operand : OpenOperand → Operand-F Operand Step Expr
    closed_operand y = map-Operand ((o : Operand) × IsOperand o) KnownStep Known Operand Step Expr (λ p. p.0) (λ p. p.0) (λ p. p.0) y

    abbrev MeasuredOperand : Operand-F Operand Step Expr → Type 0
    MeasuredOperand x =
        Measured (operand_part object (map-Operand Operand Step Expr Part Part Part (operand_code object) (step_code object) (expr_part object) x))
        (operand_size (map-Operand Operand Step Expr ℕ ℕ ℕ operand_sized step_sized expr_size x))
        ((operand_covered fs) (map-Operand Operand Step Expr Bool Bool Bool (operand_is_covered fs) (step_is_covered fs) (expr_covered fs) x))

    operand_measured : (y : OpenOperand) → MeasuredOperand (closed_operand y)
    operand_measured (Operand-F.Number word) = measured_one (instr.Push word) tt (λ place. tt)
    operand_measured (Operand-F.Local offset) = measured_one (instr.Local offset) tt (λ place. tt)
    operand_measured (Operand-F.Object number) = measured_one (instr.Global (object number)) tt (λ place. tt)
    operand_measured (Operand-F.Call function args) =
        let all = all_true (map (expr_covered fs) (map (λ p. p.0) args)) in
        same_covered _ _ _ _ (λ e. and_both all (has_body fs function) (and_right (has_body fs function) all e) (and_left (has_body fs function) all e))
        (measured_then _ _ _ 1 _ (has_body fs function) (measured_all args) (measured_call function _))
    operand_measured (Operand-F.Library call args) = measured_with _ _ _ 1 _ (measured_all args) (measured_one (instr.Library call _) tt (λ place. tt))
    operand_measured (Operand-F.Mpi call args) =
        measured_with _ _ _ 2 _ (measured_all args)
        (measured_before (instr.Mpi call _ false) _ 1 true tt (λ place. tt) (measured_one (instr.Mpi call _ true) tt (λ place. tt)))

    same_measured : (part part' : Part) (n n' : ℕ) (c c' : Bool) → part ≡ part' → n ≡ n' → c ≡ c' → Measured part' n' c' → Measured part n c
    same_measured part part' n n' c c' e f g has =
        subst (λ p. Measured p n c) (sym e) (subst (λ m. Measured part' m c) (sym f) (subst (Measured part' n') (sym g) has))

    operand_is : (y : OpenOperand) → IsOperand (roll-Operand (closed_operand y))
    operand_is y =
        let x = closed_operand y in
        same_measured _ _ _ _ _ _ (operand_code_roll object x) (operand_size_roll x) (operand_covered_roll x) (operand_measured y)

    abbrev OpenStep : Type 0
    OpenStep = Step-F ((o : Operand) × IsOperand o) KnownStep Known

    abbrev closed_step : OpenStep → Step-F Operand Step Expr
    closed_step y = map-Step ((o : Operand) × IsOperand o) KnownStep Known Operand Step Expr (λ p. p.0) (λ p. p.0) (λ p. p.0) y

    abbrev MeasuredStep : Step-F Operand Step Expr → Type 0
    MeasuredStep x =
        Measured (step_part (map-Step Operand Step Expr Part Part Part (operand_code object) (step_code object) (expr_part object) x))
        (step_size (map-Step Operand Step Expr ℕ ℕ ℕ operand_sized step_sized expr_size x))
        (step_covered (map-Step Operand Step Expr Bool Bool Bool (operand_is_covered fs) (step_is_covered fs) (expr_covered fs) x))

    step_measured : (y : OpenStep) → MeasuredStep (closed_step y)
    step_measured (Step-F.Load k) = measured_one (instr.Load k) tt (λ place. tt)
    step_measured (Step-F.Convert from to) = measured_converted from to
    step_measured (Step-F.Unary o k) = measured_one (instr.Unary o k) tt (λ place. tt)
    step_measured Step-F.Not = measured_negation
    step_measured (Step-F.Member offset) = measured_before (instr.Push offset) (on_words op.Add) 1 true tt (λ place. tt) (measured_words op.Add)
    step_measured (Step-F.Binary o k b) = measured_with _ _ _ 1 _ b.1 (measured_one (instr.Binary o k) tt (λ place. tt))
    step_measured (Step-F.Greater k b) =
        resized _ _ _ _ (omega arith) (measured_with _ _ _ 5 _ b.1 (measured_before (instr.Binary op.AtMost k) negation 4 true tt (λ place. tt) measured_negation))
    step_measured (Step-F.AtLeast k b) =
        resized _ _ _ _ (omega arith) (measured_with _ _ _ 5 _ b.1 (measured_before (instr.Binary op.Less k) negation 4 true tt (λ place. tt) measured_negation))
    step_measured (Step-F.Offset by scale b) = measured_offset by scale _ _ _ b.1
    step_measured (Step-F.Difference size b) =
        measured_with _ _ _ 3 _ b.1 (measured_then (on_words op.Subtract) _ 1 2 true true (measured_words op.Subtract)
        (measured_before (instr.Push size) _ 1 true tt (λ place. tt) (measured_one (instr.Binary op.Divide kind.Long) tt (λ place. tt))))
    step_measured (Step-F.And b) =
        measured_with _ _ _ 4 _ (measured_over instr.JumpIfZero 3 _ _ _ (λ to. tt) (λ place to lt. lt) b.1) (measured_truths false)
    step_measured (Step-F.Or b) =
        measured_with _ _ _ 4 _ (measured_over instr.JumpIfNot 3 _ _ _ (λ to. tt) (λ place to lt. lt) b.1) (measured_truths true)
    step_measured (Step-F.Conditional b c) =
        resized _ _ _ _ (omega arith) (measured_then _ _ _ _ _ _ (measured_over instr.JumpIfZero 1 _ _ _ (λ to. tt) (λ place to lt. lt) b.1)
        (measured_over instr.Jump 0 _ _ _ (λ to. tt) (λ place to lt. lt) c.1))
    step_measured (Step-F.Comma b) = measured_before instr.Pop _ _ _ tt (λ place. tt) b.1
    step_measured (Step-F.Assign k b) = measured_with _ _ _ 1 _ b.1 (measured_one (instr.Store k) tt (λ place. tt))
    step_measured (Step-F.Copy size b) = measured_with _ _ _ 1 _ b.1 (measured_one (instr.Copy size) tt (λ place. tt))
    step_measured (Step-F.Update o k at b) =
        resized _ _ _ _ (omega arith) (measured_before instr.Dup _ _ _ tt (λ place. tt) (measured_before (instr.Load k) _ _ _ tt (λ place. tt)
        (measured_then (converted k at) _ 2 _ true _ (measured_converted k at) (measured_with _ _ _ 4 _ b.1
        (measured_before (instr.Binary o at) _ 3 true tt (λ place. tt) (measured_with (converted at k) _ 2 1 true (measured_converted at k) (measured_one (instr.Store k) tt (λ place. tt))))))))
    step_measured (Step-F.Advance direction scale b) =
        resized _ _ _ _ (omega arith) (measured_before instr.Dup _ _ _ tt (λ place. tt) (measured_before (instr.Load kind.UnsignedLong) _ _ _ tt (λ place. tt)
        (measured_with _ _ _ 4 _ b.1 (measured_with (scaled scale) _ 2 2 true (measured_scaled scale)
        (measured_with (on_words (moving direction)) _ 1 1 true (measured_words (moving direction)) (measured_one (instr.Store kind.UnsignedLong) tt (λ place. tt)))))))
    step_measured (Step-F.Count c direction given) = measured_count c direction given

    step_is : (y : OpenStep) → IsStep (roll-Step (closed_step y))
    step_is y =
        let x = closed_step y in
        same_measured _ _ _ _ _ _ (step_code_roll object x) (step_size_roll x) (step_covered_roll x) (step_measured y)

    abbrev OpenExpr : Type 0
    OpenExpr = Expr-F ((o : Operand) × IsOperand o) KnownStep Known

    abbrev closed_expr : OpenExpr → Expr-F Operand Step Expr
    closed_expr y = map-Expr ((o : Operand) × IsOperand o) KnownStep Known Operand Step Expr (λ p. p.0) (λ p. p.0) (λ p. p.0) y

    expr_is : (y : OpenExpr) → IsExpr (roll-Expr (closed_expr y))
    expr_is y =
        let x = closed_expr y in
        same_measured _ _ _ _ _ _ (expr_code_roll object x) (expr_size_roll x) (expr_covered_roll x)
        (measured_then _ _ _ _ _ _ y.first.1 (measured_steps y.steps))

    pub measured : (e : Expr) → Measured (expr_part object e) (expr_size e) ((expr_covered fs) e)
    measured =
        ind-Expr IsOperand IsStep IsExpr (λ x y is. subst (λ z. IsOperand (roll-Operand z)) is (operand_is y))
        (λ x y is. subst (λ z. IsStep (roll-Step z)) is (step_is y)) (λ x y is. subst (λ z. IsExpr (roll-Expr z)) is (expr_is y))

    are_calm : (place : ℕ) (is : List Instr) → HasAt (Fair true) place is → AreCalm fs is
    are_calm place [] h = tt
    are_calm place (i ∷ is) h = (h.0.1 refl, are_calm (place + 1) is h.1)

    -- the code of a covered expression is calm
    pub calm_code : (e : Expr) → (expr_covered fs) e ≡ true → (place : ℕ) → AreCalm fs (expr_part object e place)
    calm_code e covered place =
        are_calm place (expr_part object e place) (subst (λ c. HasAt (Fair c) place (expr_part object e place)) covered ((measured e).fair place))
