use Rattle.cluster.specs.Job.{setting}
use Rattle.cluster.proofs.GroupLemmas.{RoundSoFar}
use Rattle.cluster.proofs.group.run_round.Given as goal

abbrev pub invariant-loop-at : goal.invariant-loop-at
invariant-loop-at l = RoundSoFar l.job.code.now (setting l.job) l.initial.history l.at l.ranks l.history l.some
