use Rattle.c_lex.proofs.OneFront.{front-some, front-only, front-takes}
use Rattle.c_lex.proofs.fronts.one_front.Goals as goal

pub returns-clause-some : goal.returns-clause-some
returns-clause-some c = front-some

pub returns-clause-only : goal.returns-clause-only
returns-clause-only c = front-only

pub returns-clause-takes : goal.returns-clause-takes
returns-clause-takes c = front-takes
