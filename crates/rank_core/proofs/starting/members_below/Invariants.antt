use Rattle.std.proofs.Common.{◌-◌, ◌≡◌, ◌≤◌}
use Rattle.mpi_call.specs.Steady.{members_below}
use Rattle.rank_core.proofs.starting.members_below.Given as goal

abbrev pub invariant-loop-next : goal.invariant-loop-next
invariant-loop-next l = (l.members.items ≡ members_below l.next) × (l.next ≤ l.ranks)

abbrev pub decreases-loop-next : goal.decreases-loop-next
decreases-loop-next l = l.ranks - l.next
