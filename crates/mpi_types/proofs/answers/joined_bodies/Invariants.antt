use Rattle.std.proofs.Common.{◌≡◌, take}
use Rattle.std.specs.List.{flat_map}
use Rattle.mpi_types.proofs.answers.joined_bodies.Given as goal

-- the bodies so far
abbrev pub invariant-loop-arg : goal.invariant-loop-arg
invariant-loop-arg l = l.out ≡ flat_map (λ a. a.body) (take l.arg-index l.list)
