use Rattle.w_model.proofs.DrainLemmas.{marked-whole}
use Rattle.w_model.proofs.laws.marked_drains_are_whole.Goals as goal

pub returns : goal.returns
returns c = marked-whole
