use Rattle.collectives.proofs.KeepLemmas.{gathers_all}
use Rattle.collectives.proofs.laws.all_are_gathered.Goals as goal

pub returns : goal.returns
returns c = gathers_all
