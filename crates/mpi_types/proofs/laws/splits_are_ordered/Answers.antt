use Rattle.mpi_types.proofs.GroupLemmas.{splits_are_ordered}
use Rattle.mpi_types.proofs.laws.splits_are_ordered.Goals as goal

pub returns : goal.returns
returns c = splits_are_ordered
