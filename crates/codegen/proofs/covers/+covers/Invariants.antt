use Rattle.std.proofs.Common.{◌≡◌, take, map}
use Rattle.codegen.specs.Covered.{all_true, expr_covered, step_is_covered}
use Rattle.codegen.proofs.covers.+covers.Given as goal

abbrev pub invariant-covers_all-loop-expr : goal.invariant-covers_all-loop-expr
invariant-covers_all-loop-expr l = l.all ≡ all_true (map (expr_covered l.functions) (take l.expr-index l.exprs))

abbrev pub invariant-covers_steps-loop-step : goal.invariant-covers_steps-loop-step
invariant-covers_steps-loop-step l = l.all ≡ all_true (map (step_is_covered l.functions) (take l.step-index l.steps))
