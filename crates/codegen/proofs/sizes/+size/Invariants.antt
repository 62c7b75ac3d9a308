use Rattle.std.proofs.Common.{◌≡◌, take, map}
use Rattle.codegen.specs.Sizes.{total, step_sized, expr_size}
use Rattle.codegen.specs.Making.{at_most_word}
use Rattle.codegen.proofs.sizes.+size.Given as goal

abbrev pub invariant-all_size-loop-expr : goal.invariant-all_size-loop-expr
invariant-all_size-loop-expr l = l.size ≡ at_most_word (total (map expr_size (take l.expr-index l.exprs)))

abbrev pub invariant-steps_size-loop-step : goal.invariant-steps_size-loop-step
invariant-steps_size-loop-step l = l.size ≡ at_most_word (total (map step_sized (take l.step-index l.steps)))
