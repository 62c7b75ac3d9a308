use Rattle.c_model.proofs.PlainRuns.{runs_plain}
use Rattle.c_model.proofs.laws.runs_are_plain.Goals as goal

pub returns : goal.returns
returns c = runs_plain
