use Rattle.std.proofs.Common.{◌≡◌, map, take}
use Rattle.mpi_types.specs.Groups.{rank_of}
use Rattle.comms.proofs.making.ranks_of.Given as goal

abbrev pub invariant-loop-arg : goal.invariant-loop-arg
invariant-loop-arg l = l.ranks.items ≡ map (λ a. rank_of l.fn.g a.member) (take l.arg-index l.chosen)
