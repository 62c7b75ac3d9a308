use Rattle.c_lex.proofs.OneFront.{front-some, front-only, front-takes}
use Rattle.c_lex.proofs.MacroLaws.{becomes_some, becomes_one}
use Rattle.c_lex.proofs.AnswerLaws.{one-answer}
use Rattle.c_lex.proofs.SomeAnswer.{some-answer}
use Rattle.c_lex.proofs.one_answer.Goals as goal

pub returns-clause-some : goal.returns-clause-some
returns-clause-some c = some-answer front-some front-only front-takes becomes_some

pub returns-clause-only : goal.returns-clause-only
returns-clause-only c = one-answer front-only becomes_one
