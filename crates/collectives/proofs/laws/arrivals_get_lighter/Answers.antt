use Rattle.collectives.proofs.WeightLemmas.{arrivals_get_lighter}
use Rattle.collectives.proofs.laws.arrivals_get_lighter.Goals as goal

pub returns : goal.returns
returns c = arrivals_get_lighter
