use Rattle.rank_machine.proofs.BegunLemmas.{begin_at_start}
use Rattle.rank_machine.proofs.laws.ranks_begin_at_start.Goals as goal

pub returns : goal.returns
returns c = begin_at_start
