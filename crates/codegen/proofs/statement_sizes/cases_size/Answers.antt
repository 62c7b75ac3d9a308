use Rattle.codegen.proofs.StatementSizing.{cases_next, cases_all}
use Rattle.codegen.proofs.statement_sizes.cases_size.Goals as goal

pub loop-case-preserved : goal.loop-case-preserved
loop-case-preserved c = cases_next _ _ _ _ c.loop-case-test.true c.loop-case.invariant c.saturating_add-size.ensures

pub returns : goal.returns
returns c = cases_all _ _ _ c.loop-case-test.false c.loop-case.invariant
