use Rattle.std.proofs.Common.{arith, sym}
use Rattle.rank_machine.proofs.ListLemmas.{below_is}
use Rattle.rank_machine.proofs.operands.Operands.below.Goals as goal

pub returns-clause-words : goal.returns-clause-words
returns-clause-words c = below_is c.self.inside.words c.args.self.now c.self.inside.count c.args.n (sym c.self.view_is) (omega (arith, c.self.invariant)) c.requires
