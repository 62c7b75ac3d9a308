use Rattle.mpi_call.proofs.SteadyLemmas.{steady_begin}
use Rattle.mpi_call.proofs.laws.steady_ranks_may_begin.Goals as goal

pub returns : goal.returns
returns c = steady_begin
