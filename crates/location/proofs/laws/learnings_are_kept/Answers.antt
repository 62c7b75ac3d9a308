use Rattle.location.proofs.LearningLemmas.{knows_the_greatest, counts_never_fall, homes_stay}
use Rattle.location.proofs.laws.learnings_are_kept.Goals as goal

pub returns-clause-greatest : goal.returns-clause-greatest
returns-clause-greatest c = knows_the_greatest

pub returns-clause-never_fall : goal.returns-clause-never_fall
returns-clause-never_fall c = counts_never_fall

pub returns-clause-homes : goal.returns-clause-homes
returns-clause-homes c = homes_stay
