use Rattle.c_model.proofs.Running.{more_extends}
use Rattle.c_model.proofs.laws.more_extends_a_run.Goals as goal

pub returns : goal.returns
returns c = more_extends
