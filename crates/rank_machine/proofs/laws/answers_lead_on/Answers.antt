use Rattle.rank_machine.proofs.OnwardLemmas.{answers_lead_on}
use Rattle.rank_machine.proofs.laws.answers_lead_on.Goals as goal

pub returns : goal.returns
returns c = answers_lead_on
