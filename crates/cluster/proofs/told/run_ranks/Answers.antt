use Rattle.cluster.specs.Job.{setting}
use Rattle.cluster.proofs.WholeLemmas.{tells-of-run}
use Rattle.cluster.proofs.told.run_ranks.Goals as goal

pub returns : goal.returns
returns c =
    tells-of-run c.tell.result c.args.job.now.code.now c.args.job.now.files.now (setting c.args.job.now) c.drain.new.ranks _ c.drain.new.history c.push.new.self
    c.new-history.ensures c.in_ok-drain.ensures c.in_ok-push.ensures.ok c.tell.ensures
