-- How many words a collective's arguments take.
use Rattle.std.specs.Prelude.{ℕ}
use Rattle.mpi_types.specs.declared.collective.Collective.{Collective}
use Rattle.mpi_types.specs.declared.collective.Collective.TheVariants.{Barrier, Bcast, Reduce, Allreduce, Scan, Gather, Scatter, Allgather, Alltoall, CommDup, CommSplit, Migrate}

abbrev pub words_of : Collective → ℕ
words_of Barrier = 1
words_of Bcast = 5
words_of Reduce = 7
words_of Allreduce = 6
words_of Scan = 6
words_of Gather = 8
words_of Scatter = 8
words_of Allgather = 7
words_of Alltoall = 7
words_of CommDup = 2
words_of CommSplit = 4
words_of Migrate = 1
