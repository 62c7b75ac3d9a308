use Rattle.std.proofs.Common.{take, map}
use Rattle.codegen.specs.Layout.{in_order, step_code, expr_part}
use Rattle.codegen.specs.Statements.{offset_in}
use Rattle.codegen.specs.Making.{Adds}
use Rattle.codegen.proofs.expressions.+emit.Given as goal

abbrev pub invariant-emit_steps-loop-step : goal.invariant-emit_steps-loop-step
invariant-emit_steps-loop-step l = Adds l.initial.draft l.draft (in_order (map (step_code (offset_in l.segment)) (take l.step-index l.steps)))

abbrev pub invariant-emit_all-loop-expr : goal.invariant-emit_all-loop-expr
invariant-emit_all-loop-expr l = Adds l.initial.draft l.draft (in_order (map (expr_part (offset_in l.segment)) (take l.expr-index l.exprs)))
