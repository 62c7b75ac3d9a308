use Rattle.privatise.proofs.AnswerLemmas.{has_answer}
use Rattle.privatise.proofs.some_answer.Goals as goal

pub returns : goal.returns
returns c = has_answer
