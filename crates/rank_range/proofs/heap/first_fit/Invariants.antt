use Rattle.rank_range.proofs.HeapLemmas.{NoneBelow}
use Rattle.rank_range.proofs.heap.first_fit.Given as goal

abbrev pub invariant-loop-unit : goal.invariant-loop-unit
invariant-loop-unit l = NoneBelow l.fn.rank.0 l.fn.blocks l.fn.size l.unit
