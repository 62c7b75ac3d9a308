use Rattle.standing.proofs.ArrivalLemmas.{arrivals_go}
use Rattle.standing.proofs.laws.arrivals_keep.Goals as goal

pub returns : goal.returns
returns c = arrivals_go c.acceptance_is_tested.ensures c.insertion_is_one_place.ensures
