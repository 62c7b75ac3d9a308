use Rattle.collectives.proofs.RestLemmas.{all_gather_at_rest}
use Rattle.collectives.proofs.laws.all_gather_at_rest.Goals as goal

pub returns : goal.returns
returns c = all_gather_at_rest
