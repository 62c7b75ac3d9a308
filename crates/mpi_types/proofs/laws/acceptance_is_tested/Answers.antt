use Rattle.mpi_types.proofs.AcceptLemmas.{acceptance_tells}
use Rattle.mpi_types.proofs.laws.acceptance_is_tested.Goals as goal

pub returns : goal.returns
returns c ctx source tag message = acceptance_tells ctx source tag message
