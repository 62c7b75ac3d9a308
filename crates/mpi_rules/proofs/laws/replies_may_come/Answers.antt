use Rattle.mpi_rules.proofs.CallLemmas.{replies_may_come}
use Rattle.mpi_rules.proofs.laws.replies_may_come.Goals as goal

pub returns : goal.returns
returns c = replies_may_come
