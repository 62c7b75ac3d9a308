use Rattle.rank_range.proofs.FitLemmas.{are_spelled, blocks_stay}
use Rattle.rank_range.proofs.HeapLemmas.{one_heap}
use Rattle.rank_range.proofs.heap.spelled_heap_is_one.Goals as goal

pub returns-clause-one : goal.returns-clause-one
returns-clause-one c = one_heap

pub returns-clause-read : goal.returns-clause-read
returns-clause-read c = are_spelled

pub returns-clause-stay : goal.returns-clause-stay
returns-clause-stay c = blocks_stay
