use Rattle.std.proofs.Common.{length, ◌-◌, ◌*◌}
use Rattle.cluster.specs.Job.{setting}
use Rattle.cluster.proofs.GroupLemmas.{DrainSoFar}
use Rattle.cluster.proofs.group.drain.Given as goal

abbrev pub invariant-rounds : goal.invariant-rounds
invariant-rounds l = DrainSoFar l.job.code.now (setting l.job) l.initial.history l.ranks l.history

abbrev pub decreases-rounds : goal.decreases-rounds
decreases-rounds l = l.job.ranks * l.job.bound - length l.history
