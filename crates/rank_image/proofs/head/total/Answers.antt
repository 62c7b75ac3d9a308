use Rattle.std.proofs.Common.{arith}
use Rattle.rank_image.proofs.head.total.Goals as goal

pub returns-clause-few : goal.returns-clause-few
returns-clause-few c = omega (arith, c.requires, c.loop-ticks.invariant.1, c.loop-ticks.auto.ticks-index-end, c.loop-ticks-test.false)
