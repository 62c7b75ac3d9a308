use Rattle.std.proofs.Common.{◌≡◌, length}
use Rattle.cluster.specs.Job.{setting}
use Rattle.cluster.proofs.ToldLemmas.{AreNew}
use Rattle.cluster.proofs.told.start.Given as goal

abbrev pub invariant-loop-number : goal.invariant-loop-number
invariant-loop-number l = (length l.ranks.items ≡ l.number) × AreNew l.job.code.now (setting l.job) l.ranks.items
