use Rattle.std.proofs.Common.{arith}
use Rattle.collectives.proofs.TreeLemmas.{lowest_at_most, lowest_pos}
use Rattle.collectives.proofs.tree.parent_of.Goals as goal

pub overflow_sub-result : goal.overflow_sub-result
overflow_sub-result c = omega (arith, c.lowest_bit.ensures, lowest_at_most c.args.member c.requires (omega arith))

pub returns-clause-before : goal.returns-clause-before
returns-clause-before c = omega (arith, c.lowest_bit.ensures, lowest_pos c.args.member, lowest_at_most c.args.member c.requires (omega arith))
