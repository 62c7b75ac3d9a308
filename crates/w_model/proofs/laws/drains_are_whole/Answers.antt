use Rattle.w_model.proofs.DrainLemmas.{drain-whole}
use Rattle.w_model.proofs.laws.drains_are_whole.Goals as goal

pub returns : goal.returns
returns c = drain-whole
