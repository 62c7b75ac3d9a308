use Rattle.std.proofs.Common.{take}
use Rattle.std.specs.List.{All}
use Rattle.rank_range.specs.Heap.{IsApart}
use Rattle.rank_range.proofs.heap.is_free.Given as goal

abbrev pub invariant-loop-block : goal.invariant-loop-block
invariant-loop-block l = All (IsApart l.a l.length) (take l.block-index l.blocks)
