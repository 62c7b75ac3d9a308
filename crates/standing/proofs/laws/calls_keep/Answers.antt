use Rattle.standing.proofs.CallKeeps.{calls_go}
use Rattle.standing.proofs.laws.calls_keep.Goals as goal

pub returns : goal.returns
returns c = calls_go c.a_stopped_machine_stays.ensures c.acceptance_is_tested.ensures c.insertion_is_one_place.ensures
