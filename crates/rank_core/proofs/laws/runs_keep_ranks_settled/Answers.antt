use Rattle.rank_core.proofs.SettledLemmas.{runs_settled}
use Rattle.rank_core.proofs.laws.runs_keep_ranks_settled.Goals as goal

pub returns : goal.returns
returns c = runs_settled c.runs_lead_on.ensures
