use Rattle.c_grammar_laws.proofs.AnswerLaws.{some_answer, one_answer}
use Rattle.c_grammar_laws.proofs.one_answer.Goals as goal

pub returns-clause-some : goal.returns-clause-some
returns-clause-some c = some_answer

pub returns-clause-only : goal.returns-clause-only
returns-clause-only c = one_answer
