use Rattle.cluster.proofs.GroupLemmas.{adds-run}
use Rattle.cluster.proofs.group.run_rank.Goals as goal

pub returns : goal.returns
returns c =
    adds-run _ _ _ _ _ _ c.index-ranks-at.result c.run.new.self _ c.requires.within c.requires.stand
    c.in_ok-taken.ensures c.in_ok-push.ensures.ok
