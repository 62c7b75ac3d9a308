use Rattle.std.proofs.Common.{◌≡◌, length, drop}
use Rattle.mpi_types.specs.Collected.{are_bodies_whole}
use Rattle.mpi_types.proofs.answers.are_bodies_whole.Given as goal

-- the bodies so far are whole
abbrev pub invariant-loop-i : goal.invariant-loop-i
invariant-loop-i l =
    are_bodies_whole l.first (length l.list) 0 l.list ≡ are_bodies_whole l.first (length l.list) l.i (drop l.i l.list)
