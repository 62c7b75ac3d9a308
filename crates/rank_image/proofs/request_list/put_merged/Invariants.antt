use Rattle.std.proofs.Common.{length, ◌+◌}
use Rattle.rank_image.specs.Requests.{merged}
use Rattle.rank_image.proofs.Merging.{IsOnWay}
use Rattle.rank_image.proofs.request_list.put_merged.Given as goal

abbrev pub invariant-loop-ended : goal.invariant-loop-ended
invariant-loop-ended l = IsOnWay l.fn.out l.out (merged l.fn.complete l.fn.posted l.fn.matched) (merged l.ended l.waiting l.paired)

abbrev pub decreases-loop-ended : goal.decreases-loop-ended
decreases-loop-ended l = length l.ended + length l.waiting + length l.paired
