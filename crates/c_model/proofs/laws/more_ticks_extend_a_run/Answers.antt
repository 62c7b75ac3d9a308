use Rattle.c_model.proofs.Running.{more_ticks_extend}
use Rattle.c_model.proofs.laws.more_ticks_extend_a_run.Goals as goal

pub returns : goal.returns
returns c = more_ticks_extend
