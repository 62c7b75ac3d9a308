use Rattle.mpi_types.proofs.SoundLemmas.{sound_parts}
use Rattle.mpi_types.proofs.answers.are_sound.Goals as goal

pub returns : goal.returns
returns c =
    rw (
      sound_parts c.in-Some.first.now c.in-Some.rest.now c.args.list.now c.in-Some.ensures.cases.0,
      ← c.are_all_alike.ensures,
      c.if-not-are_all_alike.false,
      ← c.is_allowed.ensures,
      c.if-not-is_allowed.false,
    ) c.are_bodies_whole.ensures
