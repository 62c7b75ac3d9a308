use Rattle.rank_machine.proofs.OnwardLemmas.{answers_are_taken}
use Rattle.rank_machine.proofs.laws.answers_are_taken.Goals as goal

pub returns : goal.returns
returns c = answers_are_taken
