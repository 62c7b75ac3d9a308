use Rattle.rank_machine.proofs.OnwardLemmas.{runs_lead_on}
use Rattle.rank_machine.proofs.laws.runs_lead_on.Goals as goal

pub returns : goal.returns
returns c = runs_lead_on c.a_stopped_machine_stays.ensures
