use Rattle.rank_core.proofs.SettledLemmas.{settled_calls}
use Rattle.rank_core.proofs.laws.settled_ranks_may_call.Goals as goal

pub returns : goal.returns
returns c = settled_calls c.steady_ranks_may_begin.ensures
