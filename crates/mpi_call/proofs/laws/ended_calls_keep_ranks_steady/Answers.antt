use Rattle.mpi_call.proofs.SteadyEnds.{ends_steady}
use Rattle.mpi_call.proofs.laws.ended_calls_keep_ranks_steady.Goals as goal

pub returns : goal.returns
returns c = ends_steady
