use Rattle.rank_machine.proofs.JoinLemmas.{are_joined, go_on_as_one}
use Rattle.rank_machine.proofs.laws.runs_are_joined.Goals as goal

pub returns-clause-joined : goal.returns-clause-joined
returns-clause-joined c = are_joined c.lines_are_the_cut.ensures.together

pub returns-clause-on : goal.returns-clause-on
returns-clause-on c = go_on_as_one c.lines_are_the_cut.ensures.together
