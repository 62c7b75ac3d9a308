use Rattle.schedule.specs.Reading.{answer_of}
use Rattle.schedule.proofs.AnswerLaws.{answer-right, same_answer}
use Rattle.schedule.proofs.reader.one_answer.Goals as goal

pub returns-clause-some : goal.returns-clause-some
returns-clause-some c = λ text. (answer_of text, answer-right text)

pub returns-clause-only : goal.returns-clause-only
returns-clause-only c = same_answer
