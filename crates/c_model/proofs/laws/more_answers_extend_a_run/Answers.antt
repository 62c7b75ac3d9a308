use Rattle.c_model.proofs.Running.{more_answers_extend}
use Rattle.c_model.proofs.laws.more_answers_extend_a_run.Goals as goal

pub returns : goal.returns
returns c = more_answers_extend
