use Rattle.std.proofs.Common.{◌<◌, arith}
use Rattle.collectives.proofs.TreeLemmas.{lowest_at_most, lowest_pos}
use Rattle.collectives.proofs.tree.end_of.Goals as goal

pub overflow_add-member : goal.overflow_add-member
overflow_add-member c =
    let some : 0 < c.args.member = omega arith in
    omega (arith, c.lowest_bit.ensures, lowest_at_most c.args.member some (omega arith))

pub returns-clause-behind : goal.returns-clause-behind
returns-clause-behind c = omega (arith, c.lowest_bit.ensures, lowest_pos c.args.member, c.min.ensures)
