use Rattle.codegen.proofs.Adding.{adds_none}
use Rattle.codegen.proofs.Switching.{case_next, cases_add}
use Rattle.codegen.proofs.statements.emit_cases.Goals as goal

pub loop-case-init : goal.loop-case-init
loop-case-init c w = adds_none _

pub loop-case-preserved : goal.loop-case-preserved
loop-case-preserved c w = case_next w _ _ _ c.args.body.now _ _ _ _ _ c.loop-case-test.true (c.loop-case.invariant w) (c.in_ok-emit_choice.ensures w)

pub returns : goal.returns
returns c w = cases_add _ _ _ _ _ c.loop-case-test.false (c.loop-case.invariant w)
