use Rattle.standing.proofs.RunLemmas.{runs_go}
use Rattle.standing.proofs.laws.runs_keep.Goals as goal

pub returns : goal.returns
returns c = runs_go c.a_stopped_machine_stays.ensures c.more_ticks_extend_a_run.ensures c.a_run_takes_its_ticks.ensures
