use Rattle.codegen.proofs.Founding.{parameters_next, parameters_all}
use Rattle.codegen.proofs.functions.parameters_of.Goals as goal

pub loop-parameter-preserved : goal.loop-parameter-preserved
loop-parameter-preserved c = parameters_next _ _ _ _ _ c.loop-parameter-test.true c.loop-parameter.invariant c.in_ok-push.ensures.ok

pub returns : goal.returns
returns c = parameters_all _ _ _ c.loop-parameter-test.false c.loop-parameter.invariant
