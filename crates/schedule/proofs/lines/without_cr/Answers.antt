use Rattle.schedule.proofs.LineLaws.{without_cr-cr, without_cr-other}
use Rattle.schedule.proofs.lines.without_cr.Goals as goal

pub returns-then-last-eq13 : goal.returns-then-last-eq13
returns-then-last-eq13 c = without_cr-cr _ _ _ c.in-Some.ensures.cases.0 c.if-last-eq13.true

pub returns-else-last-eq13 : goal.returns-else-last-eq13
returns-else-last-eq13 c = without_cr-other _ _ _ c.in-Some.ensures.cases.0 c.if-last-eq13.false
