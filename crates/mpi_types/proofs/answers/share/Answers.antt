use Rattle.mpi_types.proofs.SoundLemmas.{scatters}
use Rattle.mpi_types.proofs.answers.share.Goals as goal

pub scattered-requires-clause-whole : goal.scattered-requires-clause-whole
scattered-requires-clause-whole c =
    scatters c.args.first.now c.args.list.now c.args.member c.requires.brings c.in-Scatter.is c.requires.within
