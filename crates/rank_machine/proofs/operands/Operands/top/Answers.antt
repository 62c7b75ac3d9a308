use Rattle.std.proofs.Common.{arith, sym}
use Rattle.rank_machine.proofs.ListLemmas.{top_is}
use Rattle.rank_machine.proofs.operands.Operands.top.Goals as goal

pub returns : goal.returns
returns c = top_is c.self.inside.words c.args.self.now c.self.inside.count c.args.n (sym c.self.view_is) (omega (arith, c.self.invariant)) c.requires
