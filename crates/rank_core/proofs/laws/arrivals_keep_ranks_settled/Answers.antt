use Rattle.rank_core.proofs.SettledLemmas.{arrives_settled}
use Rattle.rank_core.proofs.laws.arrivals_keep_ranks_settled.Goals as goal

pub returns : goal.returns
returns c = arrives_settled c.arrivals_keep_ranks_steady.ensures
