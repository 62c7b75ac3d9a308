use Rattle.c_model.proofs.Running.{runs_take_ticks}
use Rattle.c_model.proofs.laws.a_run_takes_its_ticks.Goals as goal

pub returns : goal.returns
returns c = runs_take_ticks
