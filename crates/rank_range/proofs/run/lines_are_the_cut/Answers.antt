use Rattle.rank_range.proofs.LineLemmas.{the_cut, printed_together}
use Rattle.rank_range.proofs.run.lines_are_the_cut.Goals as goal

pub returns-clause-cut : goal.returns-clause-cut
returns-clause-cut c = the_cut

pub returns-clause-together : goal.returns-clause-together
returns-clause-together c = printed_together
