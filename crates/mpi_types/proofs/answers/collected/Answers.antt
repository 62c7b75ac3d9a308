use Rattle.std.proofs.Common.{◌∙◌, arith, sym}
use Rattle.mpi_types.proofs.SoundLemmas.{brings_of}
use Rattle.mpi_types.proofs.answers.collected.Goals as goal

pub share-requires-clause-brings : goal.share-requires-clause-brings
share-requires-clause-brings c =
    brings_of c.args.list.now c.in-Some.first.now (omega arith) c.in-Some.ensures.item.1 (sym c.are_sound.ensures ∙ c.if-not-are_sound.false)
