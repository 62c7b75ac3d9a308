use Rattle.std.proofs.Common.{arith}
use Rattle.collectives.proofs.TreeLemmas.{lowest_is}
use Rattle.collectives.proofs.tree.lowest_bit.Goals as goal

pub returns : goal.returns
returns c = lowest_is c.args.number c.requires (omega arith)
