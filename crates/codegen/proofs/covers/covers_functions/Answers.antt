use Rattle.codegen.specs.Covered.{function_covered}
use Rattle.codegen.proofs.Covering.{all_next, all_whole}
use Rattle.codegen.proofs.covers.covers_functions.Goals as goal

pub loop-function-preserved : goal.loop-function-preserved
loop-function-preserved c =
    all_next (function_covered c.args.functions.now) _ _ _ _ _ _ c.loop-function-test.true c.function-item.is c.loop-function.invariant
    c.covers_function.ensures c.both-all.ensures

pub returns : goal.returns
returns c = all_whole (function_covered c.args.functions.now) _ _ _ c.loop-function-test.false c.loop-function.invariant
