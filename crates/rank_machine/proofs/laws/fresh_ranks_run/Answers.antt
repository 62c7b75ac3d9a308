use Rattle.rank_machine.proofs.OnwardLemmas.{fresh_ranks_run}
use Rattle.rank_machine.proofs.laws.fresh_ranks_run.Goals as goal

pub returns : goal.returns
returns c = fresh_ranks_run
