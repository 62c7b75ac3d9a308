use Rattle.c_lex.proofs.MacroLaws.{becomes_some, becomes_one}
use Rattle.c_lex.proofs.macros.one_becomes.Goals as goal

pub returns-clause-some : goal.returns-clause-some
returns-clause-some c = becomes_some

pub returns-clause-only : goal.returns-clause-only
returns-clause-only c = becomes_one
