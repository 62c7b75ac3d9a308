use Rattle.mpi_call.proofs.SteadyCalls.{begins_steady}
use Rattle.mpi_call.proofs.laws.begun_calls_keep_ranks_steady.Goals as goal

pub returns : goal.returns
returns c = begins_steady
