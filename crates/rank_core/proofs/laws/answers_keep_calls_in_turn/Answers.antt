use Rattle.rank_core.proofs.TurnLemmas.{answers_are_steps, answers_ask_on}
use Rattle.rank_core.proofs.laws.answers_keep_calls_in_turn.Goals as goal

pub returns-clause-steps : goal.returns-clause-steps
returns-clause-steps c = answers_are_steps

pub returns-clause-turns : goal.returns-clause-turns
returns-clause-turns c = answers_ask_on
