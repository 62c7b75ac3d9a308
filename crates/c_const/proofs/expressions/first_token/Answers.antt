use Rattle.std.proofs.Common.{sym}
use Rattle.c_const.proofs.EvaluatedLemmas.{name_begins, token_is}
use Rattle.c_const.proofs.expressions.first_token.Goals as goal

pub returns-in-Name : goal.returns-in-Name
returns-in-Name c = sym (name_begins _ _ c.in-Name.is)

pub returns-in-Number : goal.returns-in-Number
returns-in-Number c = token_is _ _ c.in-Number.is
