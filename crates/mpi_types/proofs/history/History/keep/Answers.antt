use Rattle.mpi_types.proofs.KeepLemmas.{kept_front}
use Rattle.mpi_types.proofs.history.History.keep.Goals as goal

pub invariant_of-self : goal.invariant_of-self
invariant_of-self c =
    rw c.truncate.ensures.items (kept_front c.args.count c.self.inside.runs.items c.self.invariant)
