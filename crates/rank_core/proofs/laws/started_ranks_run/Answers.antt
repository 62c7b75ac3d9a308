use Rattle.rank_core.proofs.StartLemmas.{started_run}
use Rattle.rank_core.proofs.laws.started_ranks_run.Goals as goal

pub returns : goal.returns
returns c = started_run c.fresh_ranks_run.ensures
