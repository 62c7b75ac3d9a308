use Rattle.std.proofs.Common.{◌≡◌, ◌≤◌}
use Rattle.c_stores.specs.Spots.{spot_from, level_limit}
use Rattle.c_stores.proofs.spots.spot_from.Given as goal

abbrev pub invariant-loop-levels : goal.invariant-loop-levels
invariant-loop-levels l =
    (l.part.offset ≤ l.position)
    × (spot_from l.levels l.structs l.position l.want l.part ≡ spot_from level_limit l.structs l.position l.want l.fn.part)

abbrev pub decreases-loop-levels : goal.decreases-loop-levels
decreases-loop-levels l = l.levels
