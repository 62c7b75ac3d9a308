use Rattle.codegen.proofs.Refusing.{all_next, all_whole}
use Rattle.codegen.proofs.check.first_past.Goals as goal

pub loop-function-preserved : goal.loop-function-preserved
loop-function-preserved c = all_next _ _ _ _ _ _ c.loop-function-test.true c.function-item.is c.loop-function.invariant c.check_body-first.ensures

pub returns : goal.returns
returns c = all_whole _ _ _ _ c.loop-function-test.false c.loop-function.invariant
