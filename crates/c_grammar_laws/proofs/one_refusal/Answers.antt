use Rattle.c_grammar_laws.proofs.RefusalLaws.{goes_on, one_refused}
use Rattle.c_grammar_laws.proofs.UnitRefused.{all_viable}
use Rattle.c_grammar_laws.proofs.one_refusal.Goals as goal

pub returns-clause-goes_on : goal.returns-clause-goes_on
returns-clause-goes_on c = goes_on

pub returns-clause-one : goal.returns-clause-one
returns-clause-one c = λ limit most. one_refused limit most (all_viable limit)
