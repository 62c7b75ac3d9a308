use Rattle.mpi_types.proofs.RunLemmas.{kept_after, viewed_after}
use Rattle.mpi_types.proofs.history.History.push.Goals as goal

pub invariant_of-self : goal.invariant_of-self
invariant_of-self c =
    kept_after c.add_run.result _ _ c.args.run c.add_run.ensures.ok c.add_run.ensures.err c.self.invariant
    c.requires.once_but_ticks c.if-run-eq0.false

pub returns-clause-ok : goal.returns-clause-ok
returns-clause-ok c = viewed_after c.add_run.result _ _ c.args.run _ c.add_run.ensures.ok c.self.view_is
