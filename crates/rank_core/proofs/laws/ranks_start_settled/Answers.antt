use Rattle.rank_core.proofs.SettledLemmas.{starts_settled}
use Rattle.rank_core.proofs.laws.ranks_start_settled.Goals as goal

pub returns : goal.returns
returns c = starts_settled c.started_ranks_run.ensures c.ranks_begin_at_start.ensures
