use Rattle.mpi_call.proofs.TakenLemmas.{receives_may_finish}
use Rattle.mpi_call.proofs.laws.begun_receives_may_finish.Goals as goal

pub returns : goal.returns
returns c = receives_may_finish
