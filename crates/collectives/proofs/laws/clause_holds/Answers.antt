use Rattle.collectives.proofs.ClauseLemmas.{clause_holds}
use Rattle.collectives.proofs.laws.clause_holds.Goals as goal

pub returns : goal.returns
returns c = clause_holds
