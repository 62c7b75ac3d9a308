use Rattle.mpi_call.proofs.SteadyStart.{starts_steady}
use Rattle.mpi_call.proofs.laws.ranks_start_steady.Goals as goal

pub returns : goal.returns
returns c = starts_steady
