use Rattle.mpi_call.proofs.SteadyLemmas.{arrives_steady}
use Rattle.mpi_call.proofs.laws.arrivals_keep_ranks_steady.Goals as goal

pub returns : goal.returns
returns c = arrives_steady
