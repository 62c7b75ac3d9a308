use Rattle.mpi_types.proofs.AcceptLemmas.{inserted_is}
use Rattle.mpi_types.proofs.laws.insertion_is_one_place.Goals as goal

pub returns : goal.returns
returns c = inserted_is
