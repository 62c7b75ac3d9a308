use Rattle.rank_steps.proofs.JoinLemmas.{steps_join}
use Rattle.rank_steps.proofs.laws.steps_are_joined.Goals as goal

pub returns : goal.returns
returns c = steps_join
